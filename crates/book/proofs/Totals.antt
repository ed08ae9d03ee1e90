-- Sums over the numbers below a number. Assumes nothing.
use Rattle.std.proofs.Common.{◌≡◌, ℕ, zero, suc, ◌+◌, ◌-◌, ◌<◌, ◌≤◌, cond, eqb, sym, refl, inl, inr, add-one, arith}
use Rattle.std.proofs.lemmas.Bool.{cases_eq}
use Rattle.std.proofs.lemmas.Bool.Decides.{nat_tests}
use Rattle.book.specs.Totals.{sum_below}

pub sum_below_more : (f : ℕ → ℕ) (n : ℕ) → sum_below f (n + 1) ≡ sum_below f n + f n
sum_below_more f n = rw (add-one n)

pub sum_below_same : (f g : ℕ → ℕ) (n : ℕ) → ((k : ℕ) → k < n → f k ≡ g k) → sum_below f n ≡ sum_below g n
sum_below_same f g zero h = refl
sum_below_same f g (suc n) h = omega (arith, sum_below_same f g n (λ k l. h k (omega arith)), h n (omega arith))

-- one place differs
pub sum_below_one : (f g : ℕ → ℕ) (n i : ℕ) → i < n → ((k : ℕ) → (k ≡ i → ⊥) → f k ≡ g k) → sum_below f n + g i ≡ sum_below g n + f i
sum_below_one f g zero i l h = omega arith
sum_below_one f g (suc n) i l h =
    elim (cases_eq n i) [
      | inl e ↦ let s : sum_below f n ≡ sum_below g n = sum_below_same f g n (λ k b. h k (λ z. omega arith)) in rw (sym e) (omega arith)
      | inr d ↦ omega (arith, sum_below_one f g n i (omega arith) h, h n d)
    ]

-- what one place loses another gains
pub sum_below_moved : (f g : ℕ → ℕ) (n i j q : ℕ) → i < n → j < n → (i ≡ j → ⊥) → q ≤ g i → f i ≡ g i - q → f j ≡ g j + q → ((k : ℕ) → (k ≡ i → ⊥) → (k ≡ j → ⊥) → f k ≡ g k) → sum_below f n ≡ sum_below g n
sum_below_moved f g n i j q a b ne le p o h =
    let m : ℕ → ℕ = λ k. cond (eqb k i) (f k) (g k) in
    let at_i : m i ≡ f i = grind (arith, nat_tests) in
    let at_j : m j ≡ g j = grind (arith, nat_tests) in
    let one : sum_below f n + m j ≡ sum_below m n + f j =
    sum_below_one f m n j b (λ k d. elim (cases_eq k i) [ inl e ↦ grind (arith, nat_tests) | inr z ↦ let s = h k z d in grind (arith, nat_tests) ]) in
    let two : sum_below m n + g i ≡ sum_below g n + m i = sum_below_one m g n i a (λ k d. grind (arith, nat_tests)) in
    omega arith
