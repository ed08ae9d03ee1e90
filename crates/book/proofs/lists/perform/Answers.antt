use Rattle.std.proofs.Common.{◌≡◌, cond, length, is_ok, Ok, sym, ap, ◌∙◌, subst, arith}
use Rattle.book.specs.Meaning.{Meaning}
use Rattle.book.specs.Law.{Conserved}
use Rattle.book.specs.Lists.{run, rehearsed}
use Rattle.book.proofs.Runs.{run_all}
use Rattle.book.proofs.Conservation.{conserved_run}
use Rattle.book.proofs.lists.perform.Goals as goal

pub returns : goal.returns
returns g c =
    let m = g.B.Book.meaning c.args.book.now in
    let vs = c.args.moves.now in
    let n = g.B.Book.meaning c.loop-movement.book in
    let ok : Ok tt ≡ rehearsed m vs = c.in_ok-rehearse.ensures in
    let is : n ≡ run m vs = sym (run_all n vs c.loop-movement.movement-index (omega arith)) ∙ c.loop-movement.invariant.0 in
    record {
      answer = ok;
      change = is ∙ ap (λ a. cond (is_ok a) (run m vs) m) ok;
      conserved = subst (λ (k : Meaning). Conserved m k (length vs)) (sym is) (conserved_run 0 m vs ok);
      stays = c.loop-movement.invariant.2;
    }
