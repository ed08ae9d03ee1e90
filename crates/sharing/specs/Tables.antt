-- Cash shared over the lines of a table that are meant, where they lie among others.
use Rattle.std.specs.Prelude.{ℕ, ◌+◌, Bool, cond, List, [], ◌∷◌, length, ◌==◌}
use Rattle.sharing.specs.Parts.{total_of, line_part}

-- f of each line that is meant, in order
abbrev pub picked : {X : Type 0} → (X → Bool) → (X → ℕ) → List X → List ℕ
picked mine f [] = []
picked mine f (x ∷ xs) = cond (mine x) (f x ∷ picked mine f xs) (picked mine f xs)

-- each line that is meant with its part put, after others whose values come to `before`; the other lines stay
unfoldable pub shared_from : {X : Type 0} → (X → Bool) → (X → ℕ) → (X → ℕ → X) → ℕ → ℕ → ℕ → List X → List X
shared_from mine value put cash total before [] = []
shared_from mine value put cash total before (x ∷ xs) =
    cond (mine x)
    (put x (line_part cash total before (value x) (length (picked mine value xs) == 0)) ∷ shared_from mine value put cash total (before + value x) xs)
    (x ∷ shared_from mine value put cash total before xs)

abbrev pub shared : {X : Type 0} → (X → Bool) → (X → ℕ) → (X → ℕ → X) → ℕ → List X → List X
shared mine value put cash xs = shared_from mine value put cash (total_of (picked mine value xs)) 0 xs
