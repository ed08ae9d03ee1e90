use Rattle.std.proofs.Common.{arith}
use Rattle.book.proofs.Totals.{sum_below_more}
use Rattle.book.proofs.asking.held_by_all.Goals as goal

pub overflow_add-sum : goal.overflow_add-sum
overflow_add-sum g c =
    let l = g.met.B.Book.lawful c.args.book.now in
    omega (arith, c.amount_at-sum.ensures, l.amounts c.loop-account.account c.args.resource, l.accounts_high)

pub loop-account-preserved : goal.loop-account-preserved
loop-account-preserved g c =
    let m = g.B.Book.meaning c.args.book.now in
    let e = sum_below_more (λ a. m.amount a c.args.resource) c.loop-account.account in (
      omega (arith, c.amount_at-sum.ensures, c.loop-account.invariant.0),
      omega (arith, c.amount_at-sum.ensures, (g.met.B.Book.lawful c.args.book.now).amounts c.loop-account.account c.args.resource),
    )
