use Rattle.std.proofs.Common.{◌≡◌}
use Rattle.tables.specs.Walks.{Reached, walked}
use Rattle.tables.proofs.worth.Pricing.part_all.Given as goal

abbrev pub invariant-loop-line : goal.invariant-loop-line
invariant-loop-line g l = record {
  reached : Reached (g.V.Valuation.worth l.self.valuation.now) l.self.currency l.self.prices.now l.number l.share.total l.lines l.line-index l.walk;
  parts : walked (g.V.Valuation.worth l.self.valuation.now) l.self.currency l.self.prices.now l.number l.share.cash l.share.total l.walk.before l.line-index l.lines
      ≡ walked (g.V.Valuation.worth l.self.valuation.now) l.self.currency l.self.prices.now l.number l.share.cash l.share.total l.initial.walk.before 0 l.initial.lines;
}
