use Rattle.std.proofs.Common.{List, length, replicate, sym, subst}
use Rattle.memory.specs.declared.row.Deal.{Deal}
use Rattle.memory.specs.declared.row.Head.{Head}
use Rattle.memory.specs.declared.row.Line.{Line}
use Rattle.memory.specs.Begin.{fresh_head, Faultless}
use Rattle.memory.specs.Rows.{no_deal}
use Rattle.memory.proofs.Begun.{fresh_faultless}
use Rattle.memory.proofs.beginning.write_fresh.Goals as goal

pub returns : goal.returns
returns c =
    let d = length c.args.deals.now in
    let l = length c.args.lines.now in
    let deals = c.clear.ensures.deals in
    let lines = c.clear.ensures.lines in
    record {
      head = c.requires.0;
      deals = deals;
      lines = lines;
      sound =
          subst (λ (h : Head). Faultless h c.clear.new.deals c.clear.new.lines) (sym c.requires.0)
          (subst (λ (ds : List Deal). Faultless (fresh_head c.args.date) ds c.clear.new.lines) (sym deals)
          (subst (λ (ls : List Line). Faultless (fresh_head c.args.date) (replicate d no_deal) ls) (sym lines)
          (fresh_faultless c.args.date d l c.requires.1.0 c.requires.1.1)));
    }
