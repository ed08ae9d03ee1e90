-- The largest and the smallest number up to a bound that passes a test.
use Rattle.std.specs.Prelude.{ℕ, zero, suc, ◌-◌, Bool, cond, Some, None, Option, nat_le, nat_lt}
use Rattle.std.specs.Option.{option_or}

-- the largest number up to the bound that passes, and 0 where none does
unfoldable pub largest_up_to : (ℕ → Bool) → ℕ → ℕ
largest_up_to p zero = 0
largest_up_to p (suc n) = cond (p (suc n)) (suc n) (largest_up_to p n)

-- the smallest number from 1 up to the bound that passes
unfoldable pub smallest_up_to : (ℕ → Bool) → ℕ → Option ℕ
smallest_up_to p zero = None
smallest_up_to p (suc n) = option_or (smallest_up_to p n) (cond (p (suc n)) (Some (suc n)) None)

-- tests of a quantity q, where w says what each quantity is worth
abbrev pub at_most : (ℕ → ℕ) → ℕ → ℕ → Bool
at_most w bound q = nat_le (w q) bound

abbrev pub below : (ℕ → ℕ) → ℕ → ℕ → Bool
below w need q = nat_lt (w q) need

abbrev pub at_least : (ℕ → ℕ) → ℕ → ℕ → Bool
at_least w need q = nat_le need (w q)

-- once q is taken from what is held, the rest is worth the bound
abbrev pub leaves : (ℕ → ℕ) → ℕ → ℕ → ℕ → Bool
leaves w held bound q = nat_le bound (w (held - q))
