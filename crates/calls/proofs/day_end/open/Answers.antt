use Rattle.law.specs.World.{World}
use Rattle.calls.specs.Clauses.{lent}
use Rattle.calls.proofs.DayEnds.{open_told}
use Rattle.calls.proofs.day_end.open.Goals as goal

pub returns : goal.returns
returns g c =
    let w : World = lent c.args.head.now c.args.deals.now c.args.lines.now (g.B.Book.meaning c.args.book.now) in
    let k = open_told w c.check-checked.result c.check-checked.ensures c.open_unbroken.result c.open_unbroken.ensures.answer c.open_unbroken.new.head c.open_unbroken.ensures.change in
    record { answer = k.answer; world = k.world; law = k.law }
