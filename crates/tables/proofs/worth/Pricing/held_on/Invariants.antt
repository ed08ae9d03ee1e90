use Rattle.tables.proofs.Holdings.{Counted}
use Rattle.tables.proofs.worth.Pricing.held_on.Given as goal

abbrev pub invariant-loop-line : goal.invariant-loop-line
invariant-loop-line g l = Counted (g.V.Valuation.worth l.self.valuation.now) l.self.currency l.self.prices.now l.number l.lines l.line-index l.sums
