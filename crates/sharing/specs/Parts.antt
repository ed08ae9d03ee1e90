-- How cash is shared over lines, by their values.
use Rattle.std.specs.Prelude.{ℕ, zero, suc, ◌+◌, ◌-◌, ◌*◌, ◌/◌, Bool, cond, List, [], ◌∷◌, length, ◌==◌, nat_le, nat_lt}

abbrev pub total_of : List ℕ → ℕ
total_of [] = 0
total_of (v ∷ vs) = v + total_of vs

-- the first of s, 10 s, 100 s and so on at which the total comes to a million at most, n times on at most
unfoldable pub scale_from : ℕ → ℕ → ℕ → ℕ
scale_from zero total s = s
scale_from (suc n) total s = cond (nat_le (total / s) 1_000_000) s (scale_from n total (s * 10))

-- the smallest of 1, 10, 100 and so on at which the total comes to a million at most; 10 ^ 14 serves each total below 2 ^ 64
abbrev pub scale_of : ℕ → ℕ
scale_of total = scale_from 14 total 1

-- a sum of values by the scale of all of them, rounded down once
abbrev pub scaled : ℕ → ℕ → ℕ
scaled total sum = sum / scale_of total

-- what the lines up to a running total have together, where not all values are 0
unfoldable pub up_to : ℕ → ℕ → ℕ → ℕ
up_to cash total running = cash * scaled total running / scaled total total

-- the part of a line: what the lines up to and with it have, less what those before it have; where all values are 0, the last has all.
-- A line that passes the total has nothing.
abbrev pub line_part : ℕ → ℕ → ℕ → ℕ → Bool → ℕ
line_part cash total before value last =
    cond (nat_lt total (before + value)) 0
    (cond (total == 0) (cond last cash 0) (up_to cash total (before + value) - up_to cash total before))

-- the parts of lines after others whose values come to `before`
unfoldable pub parts_from : ℕ → ℕ → ℕ → List ℕ → List ℕ
parts_from cash total before [] = []
parts_from cash total before (v ∷ vs) = line_part cash total before v (length vs == 0) ∷ parts_from cash total (before + v) vs

abbrev pub parts_of : ℕ → List ℕ → List ℕ
parts_of cash vs = parts_from cash (total_of vs) 0 vs
