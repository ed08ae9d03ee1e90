use Rattle.std.proofs.Common.{◌≡◌, drop}
use Rattle.memory.specs.Sound.{first_broken}
use Rattle.memory.proofs.judging.first_broken.Given as goal

abbrev pub invariant-loop-place : goal.invariant-loop-place
invariant-loop-place g l =
    first_broken g.R.Row.key (g.R.Judged.fits l.bound l.head) l.place l.before (drop l.place l.rows) ≡ first_broken g.R.Row.key (g.R.Judged.fits l.bound l.head) 0 0 l.rows
