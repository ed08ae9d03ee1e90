-- The lines of a script.
use Rattle.std.specs.Prelude.{ℕ, Bool, ◌+◌, ◌-◌, ◌^◌, min, cond, List, length, Some, None, Option, ◌==◌, take, drop}
use Rattle.std.specs.Borrow.{Bor}
use Rattle.text.specs.Words.{place_or_end}

abbrev pub newline : ℕ → Bool
newline c = c == 10

-- the bytes before the first newline
abbrev pub line_in : List ℕ → List ℕ
line_in s = take (place_or_end newline s) s

-- the bytes behind it
abbrev pub behind_line : List ℕ → List ℕ
behind_line s = drop (place_or_end newline s + 1) s

-- a count of lines, which stops at the largest that its type has
abbrev pub one_more : ℕ → ℕ
one_more n = min (n + 1) (2 ^ 64 - 1)

-- a number and what the line beside it holds
abbrev pub numbered : ℕ × Bor (List ℕ) → ℕ × List ℕ
numbered p = (p.0, p.1.now)

-- the next line with its number, where bytes are left
abbrev pub line_left : ℕ → List ℕ → Option (ℕ × List ℕ)
line_left n xs = cond (length xs == 0) None (Some (one_more n, line_in xs))
