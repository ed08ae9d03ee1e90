-- The first words of commands.
use Rattle.std.specs.Prelude.{ℕ, List, [], ◌∷◌, codes, Option}
use Rattle.text.specs.Naming.{lookup}
use Rattle.script.specs.declared.verb.Verb.{Verb}
use Rattle.script.specs.declared.verb.Verb.TheVariants.{Grid, Journal, Amount, Hold, Move, Show}

abbrev pub verb_of : List ℕ → Option Verb
verb_of w =
    lookup w (
    (codes "grid", Grid)
    ∷ ((codes "journal", Journal)
    ∷ ((codes "amount", Amount)
    ∷ ((codes "hold", Hold)
    ∷ ((codes "move", Move)
    ∷ ((codes "show", Show)
    ∷ []))))))
