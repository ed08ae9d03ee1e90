use Rattle.std.proofs.Common.{arith}
use Rattle.valuation.proofs.Bests.{between_start, between_ended}
use Rattle.valuation.proofs.Halvings.{gap_more, gap_all}
use Rattle.valuation.proofs.seeking.last_passing.Goals as goal

pub loop-turn-init : goal.loop-turn-init
loop-turn-init g c = record { ordered = omega arith; bounded = omega arith; gap = omega arith; held = λ p tests falls. between_start _ _ }

pub loop-turn-preserved : goal.loop-turn-preserved
loop-turn-preserved g c =
    record {
      ordered = omega arith;
      bounded = omega arith;
      gap = gap_more _ _ _ (omega arith) c.loop-turn.invariant.gap c.halved-span.ensures.half;
      held = λ p tests falls. c.halved-span.ensures.held p _ tests falls (c.loop-turn.invariant.held p tests falls);
    }

pub returns : goal.returns
returns g c p tests falls = between_ended _ _ _ _ (c.loop-turn.invariant.held p tests falls) (omega (arith, gap_all _ _ (omega arith) c.loop-turn.invariant.gap))
