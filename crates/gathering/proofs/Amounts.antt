-- The most that may be taken of a security, and what is taken. Assumes nothing.
use Rattle.std.proofs.Common.{◌≡◌, ℕ, ◌+◌, ◌-◌, ◌/◌, ◌<◌, ◌≤◌, min, true, false, List, get_or, Some, None, Option, unwrap_or, refl, inl, inr, arith}
use Rattle.std.proofs.lemmas.Bool.{cases_Bool, cond-true}
use Rattle.std.proofs.lemmas.Bool.Decides.{nat_tests}
use Rattle.book.specs.Meaning.{Meaning, free}
use Rattle.valuation.specs.declared.price.Price.{Price}
use Rattle.valuation.specs.Best.{largest_up_to, smallest_up_to, at_least}
use Rattle.valuation.specs.Most.{most_units}
use Rattle.valuation.proofs.Bests.{largest_is}
use Rattle.valuation.proofs.Quantities.{smallest_reaching, one_less, none_reaching}
use Rattle.gathering.specs.declared.order.Order.{Order}
use Rattle.gathering.specs.Taking.{within_limit, taken_for, eligible, value_of, security_at, most_of, passed_over}

-- t is taken of at most n for a need
pub record Takes (w : ℕ → ℕ) (need n t : ℕ) : Type 0 where
  pub some : 1 ≤ t
  pub bounded : t ≤ n
  pub last : need ≤ w t → w (t - 1) < need
  pub whole : w t < need → t ≡ n

pub takes : (w : ℕ → ℕ) (need n : ℕ) → w 0 ≡ 0 → 0 < need → 0 < n → Takes w need n (taken_for w need n)
takes w need n none pos some = by (smallest_up_to (at_least w need) n) refl
  where
    by : (a : Option ℕ) → a ≡ smallest_up_to (at_least w need) n → Takes w need n (unwrap_or a n)
    by (Some t) e =
        let found = smallest_reaching w need n t e in
        record { some = found.some; bounded = found.bounded; last = λ h. one_less w need n none t pos e; whole = λ h. absurd (omega (arith, found.worth)) }
    by None e = let less = none_reaching w need n e n some (omega arith) in record { some = some; bounded = omega arith; last = λ h. absurd (omega arith); whole = λ h. refl }

module _ (o : Order) (w : ℕ → ℕ) (beside n : ℕ) (more : (a b : ℕ) → a ≤ b → w a ≤ w b) where
  -- the most is within the limit, where anything may be taken
  most_within_lem : 0 < largest_up_to (within_limit o w beside) n → within_limit o w beside (largest_up_to (within_limit o w beside) n) ≡ true
  most_within_lem some =
      let found = largest_is (within_limit o w beside) n in
      elim (cases_Bool (within_limit o w beside 0)) [
        | inl t ↦ found.passes 0 (omega arith) t
        | inr f ↦ absurd (let z = found.none (λ k h. let le = more 0 k (omega arith) in grind (arith, nat_tests)) in omega arith)
      ]

-- what may be said of the most that may be taken of the security of record p at place k
pub record Takeable (m : Meaning) (w : ℕ → ℕ) (o : Order) (held : List ℕ) (p : Price) (k n : ℕ) : Type 0 where
  pub admitted : eligible o p ≡ true
  pub some : 1 ≤ n
  pub valued : 1 ≤ w n
  pub bounded : n ≤ most_units
  pub owned : n ≤ free m o.giver (security_at k)
  pub limited : o.limit ≡ true → w n + get_or held k 0 ≤ o.target / 10

module _ (m : Meaning) (worth : ℕ → ℕ → ℕ → ℕ) (o : Order) (held : List ℕ) (p : Price) (k : ℕ) where
  pub takeable_is : ((price haircut a b : ℕ) → a ≤ b → worth price haircut a ≤ worth price haircut b) → passed_over m worth o held p k ≡ false → Takeable m (value_of worth o p) o held p k (most_of m worth o held p k)
  takeable_is more taken =
      let w = value_of worth o p in
      let n = min most_units (free m o.giver (security_at k)) in
      let some : 0 < most_of m worth o held p k = grind (arith, nat_tests) in
      let fit : eligible o p ≡ true = grind (arith, nat_tests) in
      let is : most_of m worth o held p k ≡ largest_up_to (within_limit o w (get_or held k 0)) n = cond-true (eligible o p) _ 0 fit in
      let low = (largest_is (within_limit o w (get_or held k 0)) n).bounded in
      let passes = most_within_lem o w (get_or held k 0) n (more _ _) (omega arith) in
      record {
        admitted = fit;
        some = some;
        valued = grind (arith, nat_tests);
        bounded = omega arith;
        owned = omega arith;
        limited = λ on. rw is (grind (arith, nat_tests));
      }
