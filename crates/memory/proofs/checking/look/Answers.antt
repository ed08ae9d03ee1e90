use Rattle.std.proofs.Common.{refl, sym, ◌∙◌}
use Rattle.std.proofs.lemmas.List.{length-take-le}
use Rattle.memory.specs.declared.place.Table.TheVariants.{Deals}
use Rattle.memory.proofs.Deals.{count_within, keys_rising, looked_broken, looked_loose}
use Rattle.memory.proofs.Lines.{passed, refused}
use Rattle.memory.proofs.checking.look.Goals as goal

pub slice_bounds-fit-end : goal.slice_bounds-fit-end
slice_bounds-fit-end c =
    sym (length-take-le _ c.args.deals.now (count_within c.args.accounts c.args.head.now c.args.deals.now _ _ c.first_broken-unfit.ensures c.unwrap_or-count.ensures))

pub tally-loose-requires : goal.tally-loose-requires
tally-loose-requires c =
    keys_rising c.args.accounts c.args.head.now c.args.deals.now _ _ c.first_broken-unfit.ensures c.unwrap_or-count.ensures c.requires _ _ refl c.keys_of-keys.ensures

pub returns-in_err-sound_unless : goal.returns-in_err-sound_unless
returns-in_err-sound_unless c =
    let broken = c.or.ensures ∙ looked_broken c.args.accounts c.args.head.now c.args.deals.now _ _ c.first_broken-unfit.ensures c.unwrap_or-count.ensures c.requires _ _ refl c.keys_of-keys.ensures c.args.lines.now _ _ _ c.tally-loose.ensures.sums c.first_uneven.ensures c.tally-loose.ensures.loose in
    refused _ Deals c.or.result _ _ c.from_residual.result (sym c.in_err-sound_unless.was ∙ c.sound_unless.ensures) broken c.from_residual.ensures.1

pub returns : goal.returns
returns c =
    let none = passed Deals c.or.result (sym c.in_ok-sound_unless.was ∙ c.sound_unless.ensures) ∙ c.or.ensures in (
      none ∙ looked_broken c.args.accounts c.args.head.now c.args.deals.now _ _ c.first_broken-unfit.ensures c.unwrap_or-count.ensures c.requires _ _ refl c.keys_of-keys.ensures c.args.lines.now _ _ _ c.tally-loose.ensures.sums c.first_uneven.ensures c.tally-loose.ensures.loose,
      looked_loose c.args.accounts c.args.head.now c.args.deals.now _ _ c.first_broken-unfit.ensures c.unwrap_or-count.ensures c.requires _ _ refl c.keys_of-keys.ensures c.args.lines.now _ _ _ c.tally-loose.ensures.sums c.first_uneven.ensures c.tally-loose.ensures.loose none,
    )
