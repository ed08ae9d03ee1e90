-- Flags.
use Rattle.std.specs.Prelude.{ℕ, Bool, true, false, List, [], ◌∷◌, codes, Option}
use Rattle.text.specs.Naming.{lookup}

abbrev pub flag_of : List ℕ → Option Bool
flag_of w = lookup w ((codes "yes", true) ∷ ((codes "no", false) ∷ []))
