use Rattle.std.proofs.Common.{arith}
use Rattle.tables.proofs.Holdings.{counted_none, counted_more, counted_all}
use Rattle.tables.proofs.worth.Pricing.held_on.Goals as goal

pub loop-line-init : goal.loop-line-init
loop-line-init g c = counted_none (g.V.Valuation.worth c.args.self.now.valuation.now) c.args.self.now.currency c.args.self.now.prices.now c.args.number c.args.lines.now

pub loop-line-preserved : goal.loop-line-preserved
loop-line-preserved g c =
    let v = c.args.self.now.valuation.now in
    counted_more (g.V.Valuation.worth v) c.args.self.now.currency c.args.self.now.prices.now c.args.number (g.met.V.Valuation.more v) (g.met.V.Valuation.most v) c.args.lines.now c.loop-line.line-index c.loop-line.sums c.hold.new.sums (omega arith) c.hold.ensures c.loop-line.invariant

pub returns : goal.returns
returns g c = counted_all (g.V.Valuation.worth c.args.self.now.valuation.now) c.args.self.now.currency c.args.self.now.prices.now c.args.number c.args.lines.now c.loop-line.line-index c.loop-line.sums (omega arith) c.loop-line.invariant
