-- What a basket holds.
use Rattle.std.specs.Prelude.{ℕ, List}
use Rattle.gathering.specs.declared.basket.Basket.{Basket}
use Rattle.gathering.specs.declared.order.Pick.{Pick}

abbrev pub most_picks : ℕ
most_picks = 99

abbrev pub picks_of : Basket → List Pick
picks_of b = b.picks.items
