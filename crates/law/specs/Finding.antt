-- The first row of a number.
use Rattle.std.specs.Prelude.{ℕ, Bool, true, false, cond, List, [], ◌∷◌, ◌++◌, ◌==◌}
use Rattle.memory.specs.declared.row.Deal.{Deal}
use Rattle.memory.specs.declared.row.Line.{Line}
use Rattle.memory.specs.Rows.{no_deal, no_line}
use Rattle.memory.specs.Sound.{number, return_number}

module _ {X : Type 0} (key : X → ℕ) where
  abbrev pub has : ℕ → List X → Bool
  has n [] = false
  has n (x ∷ xs) = cond (key x == n) true (has n xs)

  -- z where there is none
  abbrev pub found : X → ℕ → List X → X
  found z n [] = z
  found z n (x ∷ xs) = cond (key x == n) x (found z n xs)

  -- the rows f in its place
  abbrev pub replaced : ℕ → (X → List X) → List X → List X
  replaced n f [] = []
  replaced n f (x ∷ xs) = cond (key x == n) (f x ++ xs) (x ∷ replaced n f xs)

abbrev pub has_deal : ℕ → List Deal → Bool
has_deal = has number

abbrev pub deal_of : ℕ → List Deal → Deal
deal_of n ds = found number no_deal n ds

abbrev pub has_line : ℕ → List Line → Bool
has_line = has return_number

abbrev pub line_of : ℕ → List Line → Line
line_of n ls = found return_number no_line n ls
