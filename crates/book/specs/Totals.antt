-- Sums over the accounts of a book.
use Rattle.std.specs.Prelude.{ℕ, zero, suc, ◌+◌}
use Rattle.book.specs.Meaning.{Meaning}

-- the sum of f over the numbers below n
abbrev pub sum_below : (ℕ → ℕ) → ℕ → ℕ
sum_below f zero = 0
sum_below f (suc n) = sum_below f n + f n

-- what all accounts have of a resource
abbrev pub in_all : Meaning → ℕ → ℕ
in_all m r = sum_below (λ a. m.amount a r) m.accounts
