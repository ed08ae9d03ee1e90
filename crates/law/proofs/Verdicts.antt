-- What it takes to plan and to pass.
use Rattle.std.proofs.Common.{◌≡◌, ℕ, ◌+◌, ◌≤◌, Bool, true, false, cond, not, List, [], ◌∷◌, length, is_ok, Ok, Err, Result, sym, refl, ap, ◌∙◌, inl, inr}
use Rattle.std.specs.Result.{result_unwrap_or}
use Rattle.std.proofs.lemmas.Bool.{both_ways, cases_Bool, or_parts, ltb-false}
use Rattle.std.specs.List.{AllByRecursion as Each}
use Rattle.book.specs.declared.movement.RefusedAt.{RefusedAt}
use Rattle.book.specs.Lists.{rehearsed}
use Rattle.book.specs.Refusals.{Condition, first_refusal}
use Rattle.memory.specs.Sound.{most_number}
use Rattle.sides.specs.declared.refusal.Refusal.{Refusal}
use Rattle.law.specs.World.{State}
use Rattle.law.specs.Slips.{movements_of, issues}
use Rattle.law.specs.Changes.{numbers_by}
use Rattle.law.specs.Plans.{Plan, deals_after, lines_after, shortages, unfit, or_book, checked}
use Rattle.law.specs.Calls.{or_plan}

pub not_ok : {A B : Type 0} {X : Type 0} (e : B) (a : A) → ◌≡◌ {A = Result A B} (Err e) (Ok a) → X
not_ok e a p = absurd (both_ways false refl (ap is_ok p))

-- where nothing is refused, no condition holds
pub none_holds : {E : Type 0} (cs : List (Condition E)) → Ok tt ≡ first_refusal cs → Each (λ c. c.0 ≡ false) cs
none_holds [] e = tt
none_holds (c ∷ cs) e =
    elim (cases_Bool c.0) [
      | inl t ↦ not_ok c.1 tt (sym (e ∙ ap (λ b. cond b (Err c.1) (first_refusal cs)) t))
      | inr t ↦ (t, none_holds cs (e ∙ ap (λ b. cond b (Err c.1) (first_refusal cs)) t))
    ]

pub plan_ok : (r : Result (Unit {0}) Refusal) (p q : Plan) → or_plan r p ≡ Ok q → (Ok tt ≡ r) × (p ≡ q)
plan_ok (Ok u) p q e = (refl, ap (λ r. result_unwrap_or r p) e)
plan_ok (Err x) p q e = not_ok x q e

pub not_true_false : (b : Bool) → not b ≡ false → b ≡ true
not_true_false true e = refl
not_true_false false e = absurd (both_ways true e refl)

-- a plan that passes its check
pub record Passes (s : State) (p : Plan) (places : ℕ) : Type 0 where
  pub deal_rows_fit : length (deals_after s p) ≤ s.deal_rows
  pub line_rows_fit : length (lines_after s p) ≤ s.line_rows
  pub deal_numbers_left : s.next_deal + numbers_by p.change ≤ most_number
  pub line_numbers_left : s.next_line + issues p.slips ≤ most_number
  pub slip_places : length p.slips ≤ places
  pub book : Ok tt ≡ rehearsed s.book (movements_of p.slips)

both_pass : (a : Result (Unit {0}) Refusal) (b : Result (Unit {0}) RefusedAt) → Ok tt ≡ or_book a b → (Ok tt ≡ a) × (Ok tt ≡ b)
both_pass (Err e) b p = not_ok e tt (sym p)
both_pass (Ok u) (Err e) p = not_ok _ tt (sym p)
both_pass (Ok u) (Ok v) p = (refl, refl)

pub passes : (s : State) (p : Plan) (places : ℕ) → Ok tt ≡ checked places s p → Passes s p places
unfolding unfit
passes s p places e =
    let b = both_pass (unfit s p places) _ e in
    let c = none_holds (shortages s p places) b.0 in
    let r = or_parts _ _ c.0 in
    let n = or_parts _ _ c.1.0 in
    record {
      deal_rows_fit = ltb-false _ _ r.0;
      line_rows_fit = ltb-false _ _ r.1;
      deal_numbers_left = ltb-false _ _ n.0;
      line_numbers_left = ltb-false _ _ n.1;
      slip_places = ltb-false _ _ c.1.1.0;
      book = b.1;
    }
