-- Numbers in decimal digits. Assumes nothing.
use Rattle.std.proofs.Common.{◌≡◌, ℕ, ◌+◌, ◌-◌, ◌*◌, ◌^◌, ◌<◌, ◌≤◌, List, [], ◌∷◌, length, get_or, drop, Some, None, Option, ap, ◌∙◌, sym, arith}
use Rattle.std.specs.Option.{option_and_then}
use Rattle.std.proofs.lemmas.List.{at_drop_more, at_drop_all}
use Rattle.std.proofs.lemmas.Bool.Decides.{nat_tests}
use Rattle.text.specs.Numbers.{all_digits, value_from, number_from, number_of, with_digit}

-- a number only grows with more digits
grows : (n : ℕ) (cs : List ℕ) → n ≤ value_from n cs
unfolding value_from
grows n [] = omega arith
grows n (c ∷ cs) = omega (arith, grows (10 * n + (c - 48)) cs)

-- a number with a digit is read on from there
number_from-cons : (n c : ℕ) (cs : List ℕ) → number_from n (c ∷ cs) ≡ option_and_then (λ m. number_from m cs) (with_digit n c)
unfolding all_digits value_from
number_from-cons n c cs = let h = grows (10 * n + (c - 48)) cs in grind (arith, nat_tests)

module _ (n : ℕ) (w : List ℕ) (i : ℕ) where
  pub digit_read : i < length w → (r : Option ℕ) → r ≡ with_digit n (get_or w i 0) → number_from n (drop i w) ≡ option_and_then (λ m. number_from m (drop (i + 1) w)) r
  digit_read h r e =
      at_drop_more (number_from n) w i 0 h
      ∙ (number_from-cons n (get_or w i 0) (drop (i + 1) w)
      ∙ ap (option_and_then (λ m. number_from m (drop (i + 1) w))) (sym e))

  pub all_read : length w ≤ i → n < 2 ^ 64 → number_from n (drop i w) ≡ Some n
  unfolding all_digits value_from
  all_read h low = at_drop_all (number_from n) w i h ∙ grind (arith, nat_tests)

pub number_of-some : (w : List ℕ) → 0 < length w → number_of w ≡ number_from 0 w
unfolding number_of
number_of-some [] h = absurd (omega arith)
number_of-some (c ∷ cs) h = grind arith

pub number_of-nil : (w : List ℕ) → length w ≡ 0 → number_of w ≡ None
unfolding number_of
number_of-nil [] h = grind arith
number_of-nil (c ∷ cs) h = absurd (omega arith)
