use Rattle.std.proofs.Common.{◌-◌}
use Rattle.sharing.proofs.Scales.{Tried}
use Rattle.sharing.proofs.share.scale_of.Given as goal

abbrev pub invariant-loop-scale : goal.invariant-loop-scale
invariant-loop-scale l = Tried l.total l.scale

abbrev pub decreases-loop-scale : goal.decreases-loop-scale
decreases-loop-scale l = l.total - l.scale
