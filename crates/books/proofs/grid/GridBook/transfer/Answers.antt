use Rattle.std.proofs.Common.{rules, ◌≡◌, Ok, sym, ◌∙◌}
use Rattle.book.specs.Moving.{verdict}
use Rattle.book.proofs.Moves.{after_made}
use Rattle.books.specs.Grids.{grid_meaning}
use Rattle.books.proofs.Cells.{opened_after}
use Rattle.books.proofs.grid.GridBook.transfer.Goals as goal

pub returns-clause-change : goal.returns-clause-change
returns-clause-change c =
    let g = c.args.self.now in
    let v = c.args.movement in
    let accepted : Ok tt ≡ verdict (grid_meaning g) v = search rules in
    c.write.ensures.meaning ∙ opened_after g.accounts g.resources g.left g.amounts.now v g.fit.whole accepted ∙ sym (after_made (grid_meaning g) v accepted)
