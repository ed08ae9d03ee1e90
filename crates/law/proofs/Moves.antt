-- What slips do to the amounts of a book that takes them all.
use Rattle.std.proofs.Common.{◌≡◌, ℕ, ◌+◌, List, [], ◌∷◌, Ok, refl, arith}
use Rattle.std.proofs.lemmas.Bool.Decides.{nat_tests}
use Rattle.book.specs.Lists.{run, refusal_from}
use Rattle.book.specs.Meaning.{Meaning}
use Rattle.book.specs.Moving.{verdict, moved}
use Rattle.book.proofs.Moves.{allowed}
use Rattle.book.proofs.Runs.{both_ok}
use Rattle.memory.specs.declared.row.Slip.{Slip}
use Rattle.law.specs.Sums.{total}
use Rattle.law.specs.Slips.{movement_of, movements_of}
use Rattle.law.specs.Past.{comes_to, goes_from}

pub moved_amount : (m : Meaning) (x : Slip) (a r : ℕ) → Ok tt ≡ verdict m (movement_of x)
    → (moved m (movement_of x)).amount a r + goes_from a r x ≡ m.amount a r + comes_to a r x
moved_amount m x a r e =
    let k = allowed m (movement_of x) e in
    grind (arith, nat_tests, k.enough, k.apart)

-- each amount has what comes in, and not what goes out
pub run_amount : (i : ℕ) (m : Meaning) (xs : List Slip) (a r : ℕ) → Ok tt ≡ refusal_from i m (movements_of xs)
    → (run m (movements_of xs)).amount a r + total (goes_from a r) xs ≡ m.amount a r + total (comes_to a r) xs
unfolding run refusal_from
run_amount i m [] a r e = refl
run_amount i m (x ∷ xs) a r e =
    let k = both_ok i (verdict m (movement_of x)) _ e in
    omega (arith, moved_amount m x a r k.0, run_amount (i + 1) (moved m (movement_of x)) xs a r k.1)
