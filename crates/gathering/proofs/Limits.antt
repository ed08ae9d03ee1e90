-- The most that may be taken. Assumes nothing.
use Rattle.std.proofs.Common.{◌≡◌, ℕ, ◌/◌, ◌<◌, ◌≤◌, min, true, false, cond, ltb, List, get_or, Some, None, sym, ◌∙◌, arith}
use Rattle.book.specs.Meaning.{Meaning, Lawful, within, free}
use Rattle.valuation.specs.declared.price.Price.{Price}
use Rattle.std.proofs.lemmas.Bool.Decides.{nat_tests}
use Rattle.valuation.specs.Best.{largest_up_to}
use Rattle.valuation.specs.Most.{most_units}
use Rattle.valuation.proofs.Bests.{largest_here, largest_is, largest_le}
use Rattle.gathering.specs.declared.order.Order.{Order}
use Rattle.gathering.specs.Taking.{within_limit, most_within, value_of, security_at, taken_at}

module _ (o : Order) (w : ℕ → ℕ) (beside n : ℕ) where
  -- without the limit all may be taken
  pub most_free : o.limit ≡ false → n ≡ largest_up_to (within_limit o w beside) n
  most_free off = sym (largest_here (within_limit o w beside) n (rw off))

  -- where what the deal has passes the limit by itself, nothing may be
  pub most_none : (q : ℕ) → o.limit ≡ true → o.target / 10 < beside → q ≡ 0 → q ≡ largest_up_to (within_limit o w beside) n
  most_none q on over z = z ∙ sym ((largest_is (within_limit o w beside) n).none (λ k h. grind (arith, nat_tests)))

-- no book has a security at a place that has no number
pub beyond_book : (m : Meaning) (worth : ℕ → ℕ → ℕ → ℕ) (o : Order) (held : List ℕ) (p : Price) (k need : ℕ) → Lawful m → None ≡ cond (ltb k 125) (Some (security_at k)) None → None ≡ taken_at m worth o held p k need
beyond_book m worth o held p k need lawful e =
    let w = value_of worth o p in
    let far : 125 ≤ k = grind (arith, nat_tests) in
    let out : within m o.giver (security_at k) ≡ false = let high = lawful.resources_high in grind (arith, nat_tests) in
    let none : min most_units (free m o.giver (security_at k)) ≡ 0 = omega (arith, lawful.no_amounts o.giver (security_at k) out) in
    let low = largest_le (within_limit o w (get_or held k 0)) (min most_units (free m o.giver (security_at k))) in
    let zero : most_within o w (get_or held k 0) (free m o.giver (security_at k)) ≡ 0 = omega arith in
    grind (arith, nat_tests)
