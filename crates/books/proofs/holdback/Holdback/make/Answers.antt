use Rattle.std.proofs.Common.{ap, ◌∙◌}
use Rattle.book.specs.Meaning.{Meaning}
use Rattle.book.proofs.Moves.{after_made}
use Rattle.books.specs.Holding.{layered}
use Rattle.books.proofs.Held.{layered_accepts}
use Rattle.books.proofs.holdback.Holdback.make.Goals as goal

pub returns : goal.returns
returns g c =
    let s = c.args.self.now in
    let m = g.B.Book.meaning s.below in
    let ok = layered_accepts m s.rows c.args.movement (g.met.B.Book.lawful s.below) c.requires in
    record {
      change = ap (λ (n : Meaning). layered n s.rows) (c.transfer.ensures.change ∙ after_made m c.args.movement ok);
      stays = c.transfer.ensures.stays;
    }
