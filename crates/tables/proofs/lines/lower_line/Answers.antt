use Rattle.std.proofs.lemmas.Bool.{ne_eqb}
use Rattle.tables.proofs.Stays.{filled_itself, stays_other, lowers_filled}
use Rattle.tables.proofs.lines.lower_line.Goals as goal

pub returns-then-row-used-clause-filled : goal.returns-then-row-used-clause-filled
returns-then-row-used-clause-filled c = filled_itself _

pub returns-then-lines-row-clause-filled : goal.returns-then-lines-row-clause-filled
returns-then-lines-row-clause-filled c = stays_other _ _ _ c.remove.ensures.filled

pub returns-clause-filled : goal.returns-clause-filled
returns-clause-filled c =
    lowers_filled c.args.lines.now c.args.row c.args.quantity c.args.head.now.used.lines c.lower.new.line c.if-row-used.false (ne_eqb _ _ c.if-lines-row.false) c.lower.ensures
