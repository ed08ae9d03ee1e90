use Rattle.std.proofs.Common.{◌≡◌, ap, ◌∙◌, arith}
use Rattle.tables.proofs.Stays.{filled_itself, adds_filled}
use Rattle.tables.proofs.gap.add.Goals as goal

pub returns-then-used-rows-clause-filled : goal.returns-then-used-rows-clause-filled
returns-then-used-rows-clause-filled g c = λ above f. filled_itself (λ y. y ≡ c.args.row) f

pub overflow_add-used : goal.overflow_add-used
overflow_add-used g c = omega (arith, c.MOST.ensures, g.met.R.Row.few)

pub returns-clause-filled : goal.returns-clause-filled
returns-clause-filled g c = adds_filled c.args.row _ _ c.used-used.ensures (ap g.R.Row.used c.set_used.ensures ∙ g.met.R.Row.used_back _ _) c.if-used-rows.false
