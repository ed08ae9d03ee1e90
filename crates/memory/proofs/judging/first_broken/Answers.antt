use Rattle.std.proofs.Common.{◌+◌, drop, sym, ap, ◌∙◌}
use Rattle.memory.specs.Sound.{first_broken}
use Rattle.memory.proofs.Firsts.{broken_more, broken_here, broken_all}
use Rattle.memory.proofs.judging.first_broken.Goals as goal

pub loop-place-preserved : goal.loop-place-preserved
loop-place-preserved g c =
    ap (λ n. first_broken g.R.Row.key (g.R.Judged.fits c.args.bound c.args.head.now) (c.loop-place.place + 1) n (drop (c.loop-place.place + 1) c.args.rows.now)) c.number-before.ensures
    ∙ broken_more g.R.Row.key _ _ _ _ c.index-rows-place.result c.loop-place-test.true c.index-rows-place.is (sym c.fits.ensures ∙ c.if-not-fits.false)
    ∙ c.loop-place.invariant

pub returns-then-not-fits : goal.returns-then-not-fits
returns-then-not-fits g c =
    broken_here g.R.Row.key _ _ _ _ c.index-rows-place.result c.loop-place-test.true c.index-rows-place.is (sym c.fits.ensures ∙ c.if-not-fits.true) ∙ c.loop-place.invariant

pub returns : goal.returns
returns g c = broken_all g.R.Row.key _ _ _ _ c.loop-place-test.false ∙ c.loop-place.invariant
