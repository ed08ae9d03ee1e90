use Rattle.memory.proofs.Valuers.{target_met}
use Rattle.memory.proofs.deal.target_by.Goals as goal

pub returns : goal.returns
returns c = target_met c.args.deal.now c.args.valuer c.requires.0 _ _ c.requires.1 c.target_for.ensures
