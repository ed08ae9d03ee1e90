use Rattle.std.proofs.Common.{ap, ◌∙◌}
use Rattle.tables.proofs.Stays.{filled_itself, removes_filled}
use Rattle.tables.proofs.gap.remove.Goals as goal

pub returns-then-place-used-clause-filled : goal.returns-then-place-used-clause-filled
returns-then-place-used-clause-filled g c = filled_itself (λ _. ⊥)

pub returns-clause-filled : goal.returns-clause-filled
returns-clause-filled g c =
    removes_filled c.args.place _ _ _ c.used-used.ensures (ap g.R.Row.used c.set_used.ensures ∙ g.met.R.Row.used_back _ _) c.if-place-used.false c.take_out.ensures
