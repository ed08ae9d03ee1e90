use Rattle.std.proofs.Common.{◌-◌, arith}
use Rattle.tables.proofs.Worths.{worth_most}
use Rattle.tables.proofs.worth.Pricing.hold.Goals as goal

pub overflow_add-sums : goal.overflow_add-sums
overflow_add-sums g c =
    let v = c.args.self.now.valuation.now in
    let l = c.args.line.now in
    let few = worth_most (g.V.Valuation.worth v) c.args.self.now.currency c.args.self.now.prices.now (g.met.V.Valuation.more v) (g.met.V.Valuation.most v) l.security l.quantity in
    omega (arith, c.line_worth.ensures, c.requires (l.security - 3) (omega arith))
