use Rattle.std.proofs.Common.{refl}
use Rattle.law.proofs.Figures.{worked_deal, life_slips, life_refusals}
use Rattle.law.proofs.laws.worked_deal_stands.Goals as goal

pub returns : goal.returns
returns c = record { answer = refl; figures = worked_deal; slips = life_slips; refusals = life_refusals }
