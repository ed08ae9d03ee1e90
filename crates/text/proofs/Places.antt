-- The place of the first byte that passes a test. Assumes nothing.
use Rattle.std.proofs.Common.{ℕ, ◌≤◌, Bool, List, length, arith}
use Rattle.std.proofs.lemmas.Bool.Decides.{nat_tests}
use Rattle.text.specs.Words.{place_or_end}

pub place_within : (p : ℕ → Bool) (xs : List ℕ) → place_or_end p xs ≤ length xs
place_within p xs = grind (arith, nat_tests)
