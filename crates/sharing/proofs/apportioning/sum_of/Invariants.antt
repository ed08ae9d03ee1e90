use Rattle.std.proofs.Common.{◌≡◌, ◌+◌, ◌^◌, ◌<◌, drop}
use Rattle.sharing.specs.Parts.{total_of}
use Rattle.sharing.proofs.apportioning.sum_of.Given as goal

abbrev pub invariant-loop-value : goal.invariant-loop-value
invariant-loop-value l = (l.sum + total_of (drop l.value-index l.values) ≡ total_of l.values) × (l.sum < 2 ^ 64)
