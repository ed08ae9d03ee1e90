use Rattle.std.proofs.Common.{arith}
use Rattle.sharing.proofs.Scales.{tried_last}
use Rattle.sharing.proofs.share.scale_of.Goals as goal

pub returns-clause-is : goal.returns-clause-is
returns-clause-is c = tried_last _ _ (omega arith) c.loop-scale.invariant c.loop-scale-test.false
