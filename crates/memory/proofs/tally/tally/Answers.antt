use Rattle.std.proofs.Common.{ℕ, ◌+◌, drop, Option, sym, ap, ◌∙◌}
use Rattle.std.specs.Option.{option_or}
use Rattle.memory.specs.Sound.{first_set}
use Rattle.memory.specs.Tally.{names}
use Rattle.memory.proofs.Tallies.{parts_more, parts_all, loose_more, loose_here, loose_all}
use Rattle.memory.proofs.tally.tally.Goals.{then-not-add_part, else-not-add_part}
use Rattle.memory.proofs.tally.tally.Goals as goal

pub returns : goal.returns
returns c =
    record {
      sums = sym (parts_all c.args.keys.now c.loop-place.sums c.args.lines.now c.loop-place.place c.loop-place-test.false) ∙ c.loop-place.invariant.sums;
      loose = sym (loose_all _ c.args.lines.now c.loop-place.place c.loop-place.loose c.loop-place-test.false) ∙ c.loop-place.invariant.loose;
    }

pub loop-place-preserved : goal.loop-place-preserved
loop-place-preserved c =
    let lines = c.args.lines.now in
    let place = c.loop-place.place in
    let sums = parts_more c.args.keys.now _ _ lines place c.loop-place-test.true c.add_part.ensures.sums ∙ c.loop-place.invariant.sums in
    elim c.if-not-add_part.branch [
      | then-not-add_part w ↦ record {
        sums = sums;
        loose = loose_here _ lines place c.loop-place.loose c.loop-place-test.true _ (sym c.add_part.ensures.stands ∙ w.if-not-add_part.true) (w.loose-is ∙ w.or-loose.ensures) ∙ c.loop-place.invariant.loose;
      }
      | else-not-add_part w ↦ record {
        sums = sums;
        loose = ap (λ (o : Option ℕ). option_or o (first_set (names c.args.keys.now c.args.count) (place + 1) (drop (place + 1) lines))) w.loose-is ∙ loose_more _ lines place c.loop-place.loose c.loop-place-test.true (sym c.add_part.ensures.stands ∙ w.if-not-add_part.false) ∙ c.loop-place.invariant.loose;
      }
    ]
