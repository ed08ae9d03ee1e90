use Rattle.std.proofs.Common.{ℕ, ◌-◌, ◌^◌, ◌<◌, ◌≤◌, Bool}
use Rattle.valuation.specs.Most.{most_units}
use Rattle.valuation.specs.Seeking.{Tests, Falls, Between}
use Rattle.valuation.proofs.seeking.last_passing.Given as goal

abbrev pub invariant-loop-turn : goal.invariant-loop-turn
invariant-loop-turn g l =
    record {
      ordered : l.span.low ≤ l.span.high;
      bounded : l.span.high ≤ most_units;
      gap : l.span.high - l.span.low < 2 ^ (30 - l.turn);
      held : (p : ℕ → Bool) → Tests (goal.F-post g l.passes) p → Falls p → Between p l.fn.most.count l.span.low l.span.high;
    }
