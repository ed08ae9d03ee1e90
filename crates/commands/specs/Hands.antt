-- The sides and the pair in hand, by the terms that each of them states.
use Rattle.std.specs.Prelude.{cond, Some, None, Option}
use Rattle.std.specs.Option.{option_map}
use Rattle.sides.specs.declared.refusal.Refusal.TheVariants.{OutOfRange, SidesDiffer}
use Rattle.sides.specs.declared.terms.Terms.{Terms}
use Rattle.sides.specs.Ranges.{terms_fit}
use Rattle.sides.specs.Sameness.{same_terms}
use Rattle.commands.specs.Answers.{Answer, accepted, refused, misplaced}
use Rattle.commands.specs.declared.hand.Hand.{Hand}

pub record Held : Type 0 where
  pub giver : Option Terms
  pub taker : Option Terms
  pub pair : Option Terms

abbrev pub held : Hand → Held
held h = record { giver = option_map (λ s. s.terms) h.giver; taker = option_map (λ s. s.terms) h.taker; pair = option_map (λ p. p.terms) h.pair }

abbrev pub nothing : Held
nothing = record { giver = None; taker = None; pair = None }

-- ── a side is stated ──

abbrev pub side_answer : Terms → Answer
side_answer t = cond (terms_fit t) accepted (refused OutOfRange)

abbrev pub given_after : Terms → Held → Held
given_after t h = record { giver = cond (terms_fit t) (Some t) h.giver; taker = h.taker; pair = h.pair }

abbrev pub taken_after : Terms → Held → Held
taken_after t h = record { giver = h.giver; taker = cond (terms_fit t) (Some t) h.taker; pair = h.pair }

-- ── two sides are matched, where there is no pair yet ──

abbrev pub answer_by : Option Terms → Option Terms → Option Terms → Answer
answer_by (Some g) (Some t) None = cond (same_terms g t) accepted (refused SidesDiffer)
answer_by (Some g) (Some t) (Some p) = misplaced
answer_by (Some g) None p = misplaced
answer_by None t p = misplaced

abbrev pub held_by : Option Terms → Option Terms → Option Terms → Held
held_by (Some g) (Some t) None = cond (same_terms g t) (record { giver = None; taker = None; pair = Some g }) (record { giver = Some g; taker = Some t; pair = None })
held_by (Some g) (Some t) (Some p) = record { giver = Some g; taker = Some t; pair = Some p }
held_by (Some g) None p = record { giver = Some g; taker = None; pair = p }
held_by None t p = record { giver = None; taker = t; pair = p }

abbrev pub match_answer : Held → Answer
match_answer h = answer_by h.giver h.taker h.pair

abbrev pub matched_after : Held → Held
matched_after h = held_by h.giver h.taker h.pair
