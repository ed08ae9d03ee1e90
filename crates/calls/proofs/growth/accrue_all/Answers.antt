use Rattle.std.proofs.Common.{set, ap, ◌∙◌, arith}
use Rattle.std.proofs.lemmas.List.{get_or_default}
use Rattle.std.proofs.lemmas.List.Edits.{map_over_more}
use Rattle.memory.specs.Deals.{grown}
use Rattle.calls.proofs.growth.accrue_all.Goals as goal

pub loop-deal-preserved : goal.loop-deal-preserved
loop-deal-preserved c =
    ap (set c.loop-deal.deals c.loop-deal.deal-index) c.accrue.ensures.change
    ∙ map_over_more (grown c.args.days) c.args.deals.now c.loop-deal.deals c.loop-deal.deal-index _ (omega arith) c.loop-deal.invariant (get_or_default c.loop-deal.deals c.loop-deal.deal-index _ _ (omega (arith, c.loop-deal.auto.deals)))
