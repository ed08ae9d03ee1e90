use Rattle.std.proofs.Common.{◌≡◌, ◌*◌, ◌≤◌}
use Rattle.book.specs.Meaning.{limit}
use Rattle.book.specs.Totals.{sum_below}
use Rattle.book.proofs.asking.held_by_all.Given as goal

abbrev pub invariant-loop-account : goal.invariant-loop-account
invariant-loop-account g l =
    (l.sum ≡ sum_below (λ a. (g.B.Book.meaning l.book).amount a l.resource) l.account) × (l.sum ≤ l.account * limit)
