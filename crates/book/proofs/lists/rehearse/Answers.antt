use Rattle.std.proofs.Common.{refl}
use Rattle.book.specs.Lists.{refusal_from}
use Rattle.book.proofs.lists.rehearse.Goals as goal

pub loop-place-init : goal.loop-place-init
unfolding refusal_from
loop-place-init g c = refl
