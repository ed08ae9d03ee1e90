use Rattle.std.proofs.Common.{sym, ◌∙◌, refl, arith}
use Rattle.sharing.proofs.Scattered.{shared_all}
use Rattle.tables.specs.Values.{line_worth, on_deal, with_part}
use Rattle.tables.proofs.Parted.{part_room, part_step}
use Rattle.tables.proofs.worth.Pricing.part_all.Goals as goal

pub loop-line-init : goal.loop-line-init
loop-line-init g c = record { reached = c.requires; parts = refl }

pub part_line-walk-requires : goal.part_line-walk-requires
part_line-walk-requires g c =
    part_room (g.V.Valuation.worth c.args.self.now.valuation.now) c.args.self.now.currency c.args.self.now.prices.now c.args.number c.args.share.now.total c.loop-line.lines c.loop-line.line-index c.loop-line.walk (omega arith) c.loop-line.invariant.reached

pub loop-line-preserved : goal.loop-line-preserved
loop-line-preserved g c =
    let on =
    part_step (g.V.Valuation.worth c.args.self.now.valuation.now) c.args.self.now.currency c.args.self.now.prices.now c.args.number c.args.share.now.total c.loop-line.lines c.loop-line.line-index c.loop-line.walk (omega arith) c.loop-line.invariant.reached
    c.args.share.now.cash c.part_line-walk.new.line c.part_line-walk.result c.part_line-walk.ensures.line c.part_line-walk.ensures.walk in
    record { reached = on.0; parts = on.1 ∙ c.loop-line.invariant.parts }

pub returns : goal.returns
returns g c =
    sym (shared_all (on_deal c.args.number) (line_worth (g.V.Valuation.worth c.args.self.now.valuation.now) c.args.self.now.currency c.args.self.now.prices.now) with_part c.args.share.now.cash c.args.share.now.total c.loop-line.lines c.loop-line.line-index c.loop-line.walk.before (omega arith))
    ∙ c.loop-line.invariant.parts
