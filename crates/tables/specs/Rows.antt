-- Rows that come into a table, change in it and go from it, where the used rows come first.
use Rattle.std.specs.Prelude.{ℕ, ◌+◌, ◌-◌, Bool, cond, ◌&&◌, List, ◌∷◌, ◌++◌, length, get_or, take, drop, ◌==◌, nat_le, nat_lt, slice_index_or, slice_set}
use Rattle.memory.specs.declared.row.Line.{Line}
use Rattle.memory.specs.Rows.{no_line}
pub use Rattle.memory.specs.Rows.{using_deals, using_lines}

-- as many used rows as the table has, and no more rows than it may have
abbrev pub fits : {X : Type 0} → ℕ → ℕ → List X → Bool
fits most used rows = nat_le used (length rows) && nat_le (length rows) most

-- a row more has its place
abbrev pub has_room : {X : Type 0} → ℕ → ℕ → List X → Bool
has_room most used rows = nat_lt used (length rows) && nat_le (length rows) most

-- the row at i is one of the used ones
abbrev pub is_used : {X : Type 0} → ℕ → ℕ → ℕ → List X → Bool
is_used most used i rows = nat_lt i used && fits most used rows

-- a list without its element at i
abbrev pub removed : {X : Type 0} → ℕ → List X → List X
removed i xs = take i xs ++ drop (i + 1) xs

-- a table without its used row at i: the used rows after it move up, and the last of them is z
abbrev pub without : {X : Type 0} → X → ℕ → ℕ → List X → List X
without z used i rows = removed i (take used rows) ++ (z ∷ drop used rows)

-- ── a line that sends back ──

abbrev pub with_quantity : ℕ → Line → Line
with_quantity q l = record { number = l.number; deal = l.deal; security = l.security; quantity = q; part = l.part }

abbrev pub less_quantity : ℕ → Line → Line
less_quantity q l = with_quantity (l.quantity - q) l

-- a used row from which the quantity can go
abbrev pub lowers : ℕ → ℕ → ℕ → List Line → Bool
lowers used i q rows = is_used 1024 used i rows && nat_le q (get_or rows i no_line).quantity

-- all of it goes
abbrev pub empties : ℕ → ℕ → List Line → Bool
empties i q rows = (get_or rows i no_line).quantity == q

-- the used lines, and the table, with the quantity gone from the line at i; a line at 0 goes
abbrev pub lowered_at : ℕ → ℕ → List Line → List Line
lowered_at i q ls = cond (empties i q ls) (removed i ls) (slice_set ls i (less_quantity q (slice_index_or ls i no_line)))

abbrev pub lowered_in : ℕ → ℕ → ℕ → List Line → List Line
lowered_in used i q rows = cond (empties i q rows) (without no_line used i rows) (slice_set rows i (less_quantity q (slice_index_or rows i no_line)))
