use Rattle.std.proofs.Common.{◌≡◌, ◌+◌, ◌≤◌, drop}
use Rattle.book.specs.Lists.{attempted, accepted}
use Rattle.book.proofs.lists.attempt.Given as goal

abbrev pub invariant-loop-movement : goal.invariant-loop-movement
invariant-loop-movement g l =
    (attempted (g.B.Book.meaning l.book) (drop l.movement-index l.moves) ≡ attempted (g.B.Book.meaning l.initial.book) l.moves)
    × (l.made + accepted (g.B.Book.meaning l.book) (drop l.movement-index l.moves) ≡ accepted (g.B.Book.meaning l.initial.book) l.moves)
    × (l.made ≤ l.movement-index)
    × (g.B.Book.home l.book ≡ g.B.Book.home l.initial.book)
