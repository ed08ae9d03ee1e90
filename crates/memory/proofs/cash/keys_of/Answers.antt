use Rattle.std.proofs.Common.{arith}
use Rattle.memory.proofs.Balance.{keys_from}
use Rattle.memory.proofs.cash.keys_of.Goals as goal

pub returns : goal.returns
returns c = keys_from c.args.next c.args.deals.now c.loop-place.key-items c.loop-place.invariant.long (λ k h. c.loop-place.invariant.made k (omega arith))
