use Rattle.tables.proofs.Parted.{walk_starts, walk_ends}
use Rattle.tables.proofs.worth.Pricing.share_over.Goals as goal

pub part_all-requires : goal.part_all-requires
part_all-requires g c =
    walk_starts (g.V.Valuation.worth c.args.self.now.valuation.now) c.args.self.now.currency c.args.self.now.prices.now c.args.number c.args.lines.now c.args.cash c.total_on-total.result c.count_on-left.result c.in-Some.share c.total_on-total.ensures c.in-Some.ensures c.count_on-left.ensures

pub returns : goal.returns
returns g c =
    let done =
    walk_ends (g.V.Valuation.worth c.args.self.now.valuation.now) c.args.self.now.currency c.args.self.now.prices.now c.args.number c.args.lines.now c.args.cash c.total_on-total.result c.count_on-left.result c.in-Some.share c.total_on-total.ensures c.in-Some.ensures c.part_all.new.lines c.part_all.ensures in
    record { answer = done.0; lines = done.1 }
