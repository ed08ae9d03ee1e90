use Rattle.std.proofs.Common.{get_or, sym, ap, ◌∙◌, arith}
use Rattle.book.specs.Meaning.{Meaning}
use Rattle.book.specs.Moving.{shifted}
use Rattle.book.specs.Lists.{run, none}
use Rattle.book.proofs.Runs.{run_more, amount_low, quantity_low}
use Rattle.book.proofs.lists.amount_after.Goals as goal

pub loop-movement-init : goal.loop-movement-init
unfolding run
loop-movement-init g c = c.amount_at-amount.ensures

pub shift-amount-requires : goal.shift-amount-requires
shift-amount-requires g c =
    let m = g.B.Book.meaning c.args.book.now in
    let vs = c.args.made.now in
    let i = c.loop-movement.movement-index in (
      omega (arith, c.loop-movement.invariant, amount_low m vs c.requires i (g.met.B.Book.lawful c.args.book.now) c.args.account c.args.resource),
      quantity_low m vs c.requires i (omega arith),
    )

pub loop-movement-preserved : goal.loop-movement-preserved
loop-movement-preserved g c =
    let m = g.B.Book.meaning c.args.book.now in
    let vs = c.args.made.now in
    let i = c.loop-movement.movement-index in
    c.shift-amount.ensures
    ∙ ap (shifted (get_or vs i none) c.args.account c.args.resource) c.loop-movement.invariant
    ∙ sym (ap (λ (n : Meaning). n.amount c.args.account c.args.resource) (run_more m vs i (omega arith)))
