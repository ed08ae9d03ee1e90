use Rattle.std.proofs.Common.{refl}
use Rattle.law.proofs.Theorems.{every_past_is_sound, every_past_conserves, every_past_is_bounded}
use Rattle.law.proofs.laws.pasts_are_sound.Goals as goal

pub returns : goal.returns
returns c = record { answer = refl; sound = every_past_is_sound; conserved = every_past_conserves; bounded = every_past_is_bounded }
