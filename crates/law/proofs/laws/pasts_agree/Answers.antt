use Rattle.std.proofs.Common.{refl}
use Rattle.law.proofs.Theorems.{every_past_agrees, every_panel_tells}
use Rattle.law.proofs.laws.pasts_agree.Goals as goal

pub returns : goal.returns
returns c = record { answer = refl; agree = every_past_agrees; panel = every_panel_tells }
