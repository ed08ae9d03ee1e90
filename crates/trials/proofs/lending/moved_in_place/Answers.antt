use Rattle.std.proofs.Common.{rules, arith, ap, ◌≡◌, List, [], ◌∷◌}
use Rattle.std.specs.Borrow.{GName}
use Rattle.book.specs.Moving.{after}
use Rattle.books.specs.Laying.{opened}
use Rattle.trials.proofs.Resized.{resized}
use Rattle.trials.proofs.lending.moved_in_place.Goals as goal

abbrev first : GName → List GName → GName
first d [] = d
first d (x ∷ xs) = x

pub returns-clause-made : goal.returns-clause-made
returns-clause-made c =
    let a = c.args in
    let grid = c.transfer.new.self in
    let named = ap (first a.amounts.ghost_name) c.transfer.ensures.stays in
    resized a.accounts a.resources c.movements_left.result grid.accounts grid.resources grid.left _ grid.amounts.now (after (opened a.accounts a.resources a.left a.amounts.now) a.movement)
    c.transfer.ensures.change (grind arith) (grind arith) c.movements_left.ensures (search rules)
