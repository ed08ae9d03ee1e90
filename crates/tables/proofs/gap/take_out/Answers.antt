use Rattle.std.proofs.Common.{ap, ◌∙◌, ◌-◌, set}
use Rattle.tables.proofs.Gaps.{copied_slid, slid_all}
use Rattle.tables.proofs.gap.take_out.Goals as goal

pub returns : goal.returns
returns g c =
    let copied = c.copy_within.ensures.by_index in
    ap (set c.copy_within.new.self (c.args.used - 1)) c.NONE.ensures
    ∙ slid_all c.args.rows.now c.copy_within.new.self c.args.place c.args.used g.R.Row.NONE c.requires.0 c.requires.1 c.copy_within.ensures.len
    (copied_slid c.args.rows.now c.copy_within.new.self c.args.place c.args.used c.requires.0 copied.0 copied.1 copied.2)
