use Rattle.std.proofs.Common.{refl}
use Rattle.law.proofs.Achieving.{settle_covers, mark_covers, substitute_covers}
use Rattle.law.proofs.laws.deliveries_cover.Goals as goal

pub returns : goal.returns
returns c = record { answer = refl; settle = settle_covers; mark = mark_covers; substitute = substitute_covers }
