-- The parts of the lines, summed for all deals in one pass.
use Rattle.std.specs.Prelude.{ℕ, ◌+◌, ◌-◌, ◌^◌, min, Bool, cond, List, [], ◌∷◌, take, is_some, ◌==◌}
use Rattle.memory.specs.declared.row.Line.{Line}
use Rattle.memory.specs.Places.{place_of}

-- no more than 64 bits hold
abbrev pub capped : ℕ → ℕ
capped n = min n (2 ^ 64 - 1)

-- the sums, one for each number, with the part of a line
unfoldable pub with_part : List ℕ → Line → List ℕ → List ℕ
with_part [] l sums = sums
with_part (n ∷ ns) l [] = []
with_part (n ∷ ns) l (s ∷ ss) = cond (l.deal == n) (capped (s + l.part)) s ∷ with_part ns l ss

unfoldable pub with_parts : List ℕ → List ℕ → List Line → List ℕ
with_parts ns sums [] = sums
with_parts ns sums (l ∷ ls) = with_parts ns (with_part ns l sums) ls

-- the line's deal is one of the first so many
abbrev pub names : List ℕ → ℕ → Line → Bool
names ns count l = is_some (place_of l.deal (take count ns))
