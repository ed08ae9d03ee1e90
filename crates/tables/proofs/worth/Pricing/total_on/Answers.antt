use Rattle.std.proofs.Common.{◌∙◌, arith}
use Rattle.tables.proofs.Worths.{deal_sum, deal_most}
use Rattle.tables.proofs.worth.Pricing.total_on.Goals as goal

pub sum_on-requires : goal.sum_on-requires
sum_on-requires g c =
    let v = c.args.self.now.valuation.now in
    let few = deal_most (g.V.Valuation.worth v) c.args.self.now.currency c.args.self.now.prices.now (g.met.V.Valuation.more v) (g.met.V.Valuation.most v) c.args.number c.args.lines.now in
    omega (arith, deal_sum (g.V.Valuation.worth v) c.args.self.now.currency c.args.self.now.prices.now c.args.number c.args.lines.now)

pub returns : goal.returns
returns g c = c.sum_on.ensures ∙ deal_sum (g.V.Valuation.worth c.args.self.now.valuation.now) c.args.self.now.currency c.args.self.now.prices.now c.args.number c.args.lines.now
