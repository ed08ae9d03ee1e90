use Rattle.law.specs.World.{World}
use Rattle.calls.specs.Clauses.{lent}
use Rattle.calls.proofs.DayEnds.{lift_told}
use Rattle.calls.proofs.day_end.lift.Goals as goal

pub returns : goal.returns
returns g c =
    let w : World = lent c.args.head.now c.args.deals.now c.args.lines.now (g.B.Book.meaning c.args.book.now) in
    let k = lift_told w c.check-checked.result c.check-checked.ensures c.lift_unbroken.result c.lift_unbroken.ensures.answer c.lift_unbroken.new.head c.lift_unbroken.ensures.change in
    record { answer = k.answer; world = k.world; law = k.law }
