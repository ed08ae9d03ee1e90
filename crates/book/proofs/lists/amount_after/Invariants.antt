use Rattle.std.proofs.Common.{◌≡◌, take}
use Rattle.book.specs.Lists.{run}
use Rattle.book.proofs.lists.amount_after.Given as goal

abbrev pub invariant-loop-movement : goal.invariant-loop-movement
invariant-loop-movement g l = l.amount ≡ (run (g.B.Book.meaning l.book) (take l.movement-index l.made)).amount l.account l.resource
