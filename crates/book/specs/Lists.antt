-- Movements one after another.
use Rattle.std.specs.Prelude.{ℕ, ◌+◌, cond, List, [], ◌∷◌, is_ok, Ok, Err, Result}
use Rattle.book.specs.declared.movement.Movement.{Movement}
use Rattle.book.specs.declared.movement.RefusedAt.{RefusedAt}
use Rattle.book.specs.declared.refusal.BookRefusal.{BookRefusal}
use Rattle.book.specs.Meaning.{Meaning}
use Rattle.book.specs.Moving.{verdict, moved, after}

-- a book after movements that are all made
unfoldable pub run : Meaning → List Movement → Meaning
run m [] = m
run m (v ∷ vs) = run (moved m v) vs

abbrev pub none : Movement
none = record { from = 0; to = 0; resource = 0; quantity = 0 }

-- a refusal with its place, or else what comes after it
abbrev pub or_next : ℕ → Result (Unit {0}) BookRefusal → Result (Unit {0}) RefusedAt → Result (Unit {0}) RefusedAt
or_next i (Ok _) next = next
or_next i (Err e) next = Err (record { place = i; refusal = e })

-- the first refusal in a list, where each movement meets what those before it left; places count from i
unfoldable pub refusal_from : ℕ → Meaning → List Movement → Result (Unit {0}) RefusedAt
refusal_from i m [] = Ok tt
refusal_from i m (v ∷ vs) = or_next i (verdict m v) (refusal_from (i + 1) (moved m v) vs)

-- the answer to a list that is made as a whole
abbrev pub rehearsed : Meaning → List Movement → Result (Unit {0}) RefusedAt
rehearsed m vs = refusal_from 0 m vs

-- a book after a list that is made as a whole: all of it, or nothing
abbrev pub performed : Meaning → List Movement → Meaning
performed m vs = cond (is_ok (rehearsed m vs)) (run m vs) m

-- a book after movements that are tried one by one, and those of them that were accepted
unfoldable pub attempted : Meaning → List Movement → Meaning
attempted m [] = m
attempted m (v ∷ vs) = attempted (after m v) vs

unfoldable pub accepted : Meaning → List Movement → ℕ
accepted m [] = 0
accepted m (v ∷ vs) = cond (is_ok (verdict m v)) 1 0 + accepted (after m v) vs
