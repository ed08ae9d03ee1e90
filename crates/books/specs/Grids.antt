-- What a grid means.
use Rattle.std.specs.Prelude.{ℕ, List}
use Rattle.book.specs.declared.movement.Movement.{Movement}
use Rattle.book.specs.Meaning.{Meaning}
use Rattle.books.specs.declared.grid.Grid.{Grid}
use Rattle.books.specs.Laying.{opened, amounts_after}

-- the book over what lies in the lent memory now
abbrev pub grid_meaning : Grid → Meaning
grid_meaning g = opened g.accounts g.resources g.left g.amounts.now

-- the lent memory after a movement
abbrev pub grid_memory : Grid → Movement → List ℕ
grid_memory g v = amounts_after g.accounts g.resources g.left v g.amounts.now
