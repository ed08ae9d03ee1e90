use Rattle.std.proofs.Common.{sym, ◌∙◌, rules}
use Rattle.tables.proofs.Parted.{shared_front}
use Rattle.tables.proofs.worth.Pricing.share_out.Goals as goal

pub returns : goal.returns
returns g c =
    record {
      answer = search rules;
      lines = shared_front (g.V.Valuation.worth c.args.self.now.valuation.now) c.args.self.now.currency c.args.self.now.prices.now c.args.number c.args.cash c.args.used c.args.lines.now c.share_over.new.lines (sym c.fit.ensures ∙ c.if-not-fit.false) c.share_over.ensures.lines;
    }
