use Rattle.panel.proofs.Quantities.{sound_whole}
use Rattle.panel.proofs.asking.check.Goals as goal

pub returns-clause-whole : goal.returns-clause-whole
returns-clause-whole g c = sound_whole _ _ _ _ _ c.in_ok-checked.ensures.told
