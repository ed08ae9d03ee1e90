-- Words that name a case.
use Rattle.std.specs.Prelude.{ℕ, cond, List, [], ◌∷◌, Some, None, Option}
use Rattle.std.specs.Str.{bytes_eq}

-- the entry of a table under a word
abbrev pub lookup : {X : Type 0} → List ℕ → List (List ℕ × X) → Option X
lookup w [] = None
lookup w (e ∷ es) = cond (bytes_eq w e.0) (Some e.1) (lookup w es)
