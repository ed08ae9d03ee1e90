-- Sums over lists, with a condition in the summand.
use Rattle.std.specs.Prelude.{ℕ, ◌+◌, Bool, true, false, List, [], ◌∷◌}

-- n where the test holds, else 0
abbrev pub only : Bool → ℕ → ℕ
only true n = n
only false n = 0

abbrev pub total : {X : Type 0} → (X → ℕ) → List X → ℕ
total f [] = 0
total f (x ∷ xs) = f x + total f xs
