-- What stating a side and matching two of them come to, by the terms that are held: by these alone two of a kind differ.
use Rattle.std.specs.Prelude.{cond, Ok, Err, Result}
use Rattle.sides.specs.declared.pair.Matched.{Matched}
use Rattle.sides.specs.declared.pair.Unmatched.{Unmatched}
use Rattle.sides.specs.declared.refusal.Refusal.{Refusal}
use Rattle.sides.specs.declared.refusal.Refusal.TheVariants.{OutOfRange}
use Rattle.sides.specs.declared.side.Side.{Side}
use Rattle.sides.specs.declared.terms.Terms.{Terms}
use Rattle.sides.specs.Ranges.{terms_fit}
use Rattle.sides.specs.Sameness.{same_terms}

-- terms in their ranges are held as stated, others are refused
abbrev pub stated : Terms → Result Terms Refusal
stated t = cond (terms_fit t) (Ok t) (Err OutOfRange)

abbrev pub side_terms : {P : Type 0} → Result (Side P) Refusal → Result Terms Refusal
side_terms (Ok s) = Ok s.terms
side_terms (Err e) = Err e

-- a giver's and a taker's terms: one pair's where they are the same, else both again
abbrev pub matched : Terms → Terms → Result Terms (Terms × Terms)
matched g t = cond (same_terms g t) (Ok g) (Err (g, t))

abbrev pub pair_terms : Result Matched Unmatched → Result Terms (Terms × Terms)
pair_terms (Ok m) = Ok m.terms
pair_terms (Err u) = Err (u.giver.terms, u.taker.terms)
