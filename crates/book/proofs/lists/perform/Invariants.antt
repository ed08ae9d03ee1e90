use Rattle.std.proofs.Common.{◌≡◌, drop, Ok}
use Rattle.book.specs.Lists.{run, refusal_from}
use Rattle.book.proofs.lists.perform.Given as goal

abbrev pub invariant-loop-movement : goal.invariant-loop-movement
invariant-loop-movement g l =
    (run (g.B.Book.meaning l.book) (drop l.movement-index l.moves) ≡ run (g.B.Book.meaning l.initial.book) l.moves)
    × (Ok tt ≡ refusal_from l.movement-index (g.B.Book.meaning l.book) (drop l.movement-index l.moves))
    × (g.B.Book.home l.book ≡ g.B.Book.home l.initial.book)
