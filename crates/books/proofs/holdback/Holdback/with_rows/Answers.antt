use Rattle.std.proofs.Common.{replicate, refl, ap, ◌∙◌}
use Rattle.books.specs.Holding.{layered}
use Rattle.books.specs.Rows.{free_row, held, distinct}
use Rattle.books.proofs.Held.{layered_none}
use Rattle.books.proofs.holdback.Holdback.with_rows.Goals as goal

pub invariant_of-result : goal.invariant_of-result
unfolding distinct
invariant_of-result g c = record { apart = ap distinct c.requires }

pub returns : goal.returns
unfolding held
returns g c =
    let m = g.B.Book.meaning c.args.below in
    record {
      meaning = ap (layered m) c.requires ∙ layered_none m (replicate 32 free_row) (g.met.B.Book.lawful c.args.below) (λ a r. refl);
      below = refl;
      rows = refl;
    }
