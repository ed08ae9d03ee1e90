use Rattle.std.proofs.Common.{◌≡◌, ◌++◌, map, take, drop}
use Rattle.memory.specs.Deals.{grown}
use Rattle.calls.proofs.growth.accrue_all.Given as goal

abbrev pub invariant-loop-deal : goal.invariant-loop-deal
invariant-loop-deal l = l.deals ≡ map (grown l.days) (take l.deal-index l.initial.deals) ++ drop l.deal-index l.initial.deals
