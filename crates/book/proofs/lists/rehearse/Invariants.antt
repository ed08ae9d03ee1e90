use Rattle.std.proofs.Common.{◌≡◌, take, Ok}
use Rattle.book.specs.Lists.{rehearsed}
use Rattle.book.proofs.lists.rehearse.Given as goal

abbrev pub invariant-loop-place : goal.invariant-loop-place
invariant-loop-place g l = Ok tt ≡ rehearsed (g.B.Book.meaning l.book) (take l.place l.moves)
