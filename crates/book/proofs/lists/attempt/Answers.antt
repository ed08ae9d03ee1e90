use Rattle.std.proofs.Common.{◌≡◌, sym, ◌∙◌, arith}
use Rattle.book.specs.Lists.{attempted, accepted}
use Rattle.book.proofs.Attempts.{attempted_all, accepted_all}
use Rattle.book.proofs.Conservation.{conserved_attempt}
use Rattle.book.proofs.lists.attempt.Goals as goal

pub returns : goal.returns
returns g c =
    let m = g.B.Book.meaning c.args.book.now in
    let vs = c.args.moves.now in
    let i = c.loop-movement.movement-index in
    let n = g.B.Book.meaning c.loop-movement.book in
    let is : n ≡ attempted m vs = sym (attempted_all n vs i (omega arith)) ∙ c.loop-movement.invariant.0 in
    let made : c.loop-movement.made ≡ accepted m vs = let z = accepted_all n vs i (omega arith) in omega (arith, c.loop-movement.invariant.1) in
    record {
      answer = made;
      change = is;
      conserved = conserved_attempt m n vs c.loop-movement.made is made;
      stays = c.loop-movement.invariant.3;
    }
