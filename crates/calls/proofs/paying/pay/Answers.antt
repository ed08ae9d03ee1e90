use Rattle.std.proofs.Common.{sym, ap, refl, ◌∙◌}
use Rattle.std.specs.Result.{result_err}
use Rattle.memory.specs.Places.{place_of, deal_numbers}
use Rattle.law.specs.World.{World}
use Rattle.calls.specs.Clauses.{lent}
use Rattle.calls.proofs.Payments.{pay_broken, pay_told}
use Rattle.calls.proofs.paying.pay.Goals as goal

pub returns-in_err-checked : goal.returns-in_err-checked
returns-in_err-checked g c =
    let w : World = lent c.args.head.now c.args.deals.now c.args.lines.now (g.B.Book.meaning c.args.book.now) in
    let k = pay_broken w c.args.number c.args.list.now c.accounts.result c.resources.result c.accounts.ensures c.resources.ensures c.in_err-checked.field-0.0 (ap result_err (sym c.in_err-checked.was) ∙ c.check.ensures.answer) c.from_residual.result c.from_residual.ensures.1 in
    record { answer = k.answer; world = k.world; slips = k.slips; stays = refl; law = k.law }

pub returns : goal.returns
returns g c =
    let w : World = lent c.args.head.now c.args.deals.now c.args.lines.now (g.B.Book.meaning c.args.book.now) in
    let at = c.find_deal-row.ensures.place ∙ ap (λ r. place_of c.args.number (deal_numbers r.head.now r.deals.now)) c.in_ok-checked.ensures.parts.0 in
    let p = c.pay_found.ensures in
    let k = pay_told w c.args.number c.args.list.now c.pay_found.new.list c.accounts.result c.resources.result c.accounts.ensures c.resources.ensures (ap result_err (sym c.in_ok-checked.was) ∙ c.check.ensures.answer) c.find_deal-row.result at
    c.pay_found.result p.answer c.pay_found.new.head p.head c.pay_found.new.deals p.deals p.list (g.B.Book.meaning c.pay_found.new.book) p.book in
    record { answer = k.answer; world = k.world; slips = k.slips; stays = p.stays; law = k.law }
