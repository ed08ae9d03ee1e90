use Rattle.std.proofs.Common.{Err, sym, ap, ◌∙◌, rules}
use Rattle.std.specs.Result.{result_err}
use Rattle.law.specs.World.{World}
use Rattle.calls.specs.Clauses.{lent}
use Rattle.calls.proofs.DayEnds.{close_broken, close_told}
use Rattle.calls.proofs.day_end.close.Goals as goal

pub returns-in-Err : goal.returns-in-Err
returns-in-Err g c =
    let w : World = lent c.args.head.now c.args.deals.now c.args.lines.now (g.B.Book.meaning c.args.book.now) in
    let k = close_broken w c.args.date c.args.sheet c.accounts.result c.resources.result c.accounts.ensures c.resources.ensures c.in-Err.broken (ap result_err (sym c.in-Err.is) ∙ c.check.ensures.answer) in
    record { answer = ap (λ x. Err (record { refusal = x; sheet = c.args.sheet })) c.from.ensures ∙ k.answer; world = k.world; law = k.law }

pub returns : goal.returns
returns g c =
    let w : World = lent c.args.head.now c.args.deals.now c.args.lines.now (g.B.Book.meaning c.args.book.now) in
    let k = close_told w c.args.date c.args.sheet c.accounts.result c.resources.result (search rules) c.accounts.ensures c.resources.ensures (ap result_err (sym c.in_default.is) ∙ c.check.ensures.answer) c.close_sound.result c.close_sound.ensures.answer c.close_sound.new.head c.close_sound.ensures.change c.close_sound.new.deals c.close_sound.ensures.deals in
    record { answer = k.answer; world = k.world; law = k.law }
