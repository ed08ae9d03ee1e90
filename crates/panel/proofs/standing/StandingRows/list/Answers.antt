use Rattle.std.proofs.Common.{◌<◌, length, get_or, sym, ap, ◌∙◌, arith}
use Rattle.std.proofs.lemmas.List.{length-append}
use Rattle.memory.specs.Rows.{no_line}
use Rattle.memory.specs.Sound.{used_deals, used_lines}
use Rattle.panel.proofs.Listed.{listed_push, one_more, no_more}
use Rattle.panel.proofs.standing.StandingRows.list.Goals as goal
use Rattle.panel.proofs.standing.StandingRows.list.Goals.{then-has, else-has}

pub loop-line-preserved : goal.loop-line-preserved
loop-line-preserved c =
    let s = c.args.self.now in
    let ds = used_deals s.checked.register.head.now s.checked.register.deals.now in
    let ls = used_lines s.checked.register.head.now s.checked.register.lines.now in
    let i = c.loop-line.line-index in
    let in' : i < length ls = omega (arith, c.loop-line-test.true, ap length c.used_lines-line-items.ensures) in
    let inv = c.loop-line.invariant in
    let here = ap (λ xs. get_or xs i no_line) c.used_lines-line-items.ensures in
    elim c.if-has.branch [
      | then-has w ↦
          let more = one_more c.args.holder.party c.args.holder.account ds ls i in' _ here (sym c.has.ensures ∙ w.if-has.true) in
          grind (arith, more, inv.0, inv.1, inv.2, listed_push, length-append)
      | else-has w ↦
          let more = no_more c.args.holder.party c.args.holder.account ds ls i in' _ here (sym c.has.ensures ∙ w.if-has.false) in
          grind (arith, more, inv.0, inv.1, inv.2)
    ]
