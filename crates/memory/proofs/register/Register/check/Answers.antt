use Rattle.std.proofs.Common.{sym, ◌∙◌}
use Rattle.memory.proofs.Sounds.{sound_from, fault_told, checked_none, checked_some}
use Rattle.memory.proofs.register.Register.check.Goals as goal

pub returns-in_err-check_rows-clause-sound : goal.returns-in_err-check_rows-clause-sound
returns-in_err-check_rows-clause-sound c =
    fault_told c.args.accounts c.args.resources c.args.self.head.now c.args.self.deals.now c.args.self.lines.now _
    (checked_some _ _ c.from_residual.result (sym c.in_err-check_rows.was ∙ c.check_rows.ensures) c.from_residual.ensures.1)

pub returns-clause-sound : goal.returns-clause-sound
returns-clause-sound c =
    sound_from c.args.accounts c.args.resources c.args.self.head.now c.args.self.deals.now c.args.self.lines.now (checked_none _ (sym c.in_ok-check_rows.was ∙ c.check_rows.ensures))
