-- Tables that stay filled.
use Rattle.std.specs.Prelude.{◌≡◌, ℕ, ◌<◌, false, ◌⊎◌, List, take, slice_index_or}
use Rattle.std.specs.List.{ContainsAt as Has, AllByRecursion as Each}
use Rattle.memory.specs.declared.row.Line.{Line}
use Rattle.memory.specs.Register.{Filled}
use Rattle.memory.specs.Rows.{no_line}
use Rattle.memory.specs.Sound.{return_number}
use Rattle.tables.specs.Rows.{less_quantity, empties}

module _ {X : Type 0} (key : X → ℕ) (z : X) (most : ℕ) where
  -- a table that is filled is filled afterwards, and each used row is then one that was used, or a new one
  abbrev pub StaysFilled : (X → Type 0) → ℕ → List X → ℕ → List X → Type 0
  StaysFilled New used rows used' rows' = Filled key (λ _. Unit {0}) z most used rows → Filled key (λ x. Has (take used rows) x ⊎ New x) z most used' rows'

  -- with a row of a number above all
  abbrev pub AddsFilled : X → ℕ → List X → ℕ → List X → Type 0
  AddsFilled x used rows used' rows' = Each (λ y. key y < key x) (take used rows) → StaysFilled (λ y. y ≡ x) used rows used' rows'

  -- with no new row
  abbrev pub RemovesFilled : ℕ → List X → ℕ → List X → Type 0
  RemovesFilled used rows used' rows' = StaysFilled (λ _. ⊥) used rows used' rows'

-- with the line at i, if it stays, less a quantity
abbrev pub LowersFilled : ℕ → ℕ → ℕ → List Line → ℕ → List Line → Type 0
LowersFilled i q used rows used' rows' =
    StaysFilled return_number no_line 1024 (λ l. (empties i q rows ≡ false) × (l ≡ less_quantity q (slice_index_or rows i no_line))) used rows used' rows'
