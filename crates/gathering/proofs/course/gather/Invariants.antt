use Rattle.std.proofs.Common.{◌≡◌, []}
use Rattle.gathering.specs.Baskets.{picks_of}
use Rattle.gathering.specs.Gathered.{completed}
use Rattle.gathering.proofs.course.gather.Given as goal

abbrev pub invariant-loop-place : goal.invariant-loop-place
invariant-loop-place g l =
    let done = completed (g.B.Book.meaning l.fn.book) (g.V.Valuation.worth l.fn.valuation) l.prices l.fn.order l.fn.held in
    done l.place l.need (picks_of l.basket) ≡ done 0 l.fn.order.need []
