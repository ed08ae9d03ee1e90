-- How the rules of a register are looked at, table by table.
use Rattle.std.specs.Prelude.{ℕ, ◌+◌, min, Bool, cond, not, ◌&&◌, List, map, position, zip, length, drop, Some, None, Option, ◌==◌, nat_le, nat_lt, slice_index_or}
use Rattle.std.specs.List.{range_with_len}
use Rattle.std.specs.Option.{option_or}
use Rattle.memory.specs.declared.row.Deal.{Deal}
use Rattle.memory.specs.declared.row.Head.{Head}
use Rattle.memory.specs.declared.row.Line.{Line}
use Rattle.memory.specs.Rows.{no_deal}
use Rattle.memory.specs.Sound.{parts_on, stands, line_fits, first_broken, first_set, zero_line, used_lines, return_number}

-- the numbers of deals below the next one, and from there on numbers that rise further
abbrev pub key_at : ℕ → List Deal → ℕ → ℕ
key_at next ds k = cond (nat_lt k (length ds)) (slice_index_or ds k no_deal).number (next + k)

unfoldable pub keys_of : ℕ → List Deal → List ℕ
keys_of next ds = map (key_at next ds) (range_with_len 0 64)

-- the place of the first deal whose cash is not the sum beside it
abbrev pub uneven : List Deal → List ℕ → Option ℕ
uneven ds ss = position (λ p. not (p.0.cash == p.1)) (zip ds ss)

-- a deal's cash is the parts of its lines
abbrev pub balanced : List Line → Deal → Bool
balanced ls d = d.cash == parts_on d.number ls

-- the place of the first line whose deal does not stand
abbrev pub on_deal : List Deal → Line → Bool
on_deal ds l = stands l.deal ds

unfoldable pub first_loose : List Deal → List Line → Option ℕ
first_loose ds ls = first_set (on_deal ds) 0 ls

abbrev pub earlier : Option ℕ → Option ℕ → Option ℕ
earlier None o = o
earlier (Some i) None = Some i
earlier (Some i) (Some j) = Some (min i j)

-- the first broken row of the line table, where that of the first loose line is known
abbrev pub lines_judged : ℕ → Head → Option ℕ → List Line → Option ℕ
lines_judged resources h loose lines =
    cond (nat_le 1 (length lines) && nat_le (length lines) 1024)
    (option_or (earlier (first_broken return_number (line_fits resources h) 0 0 (used_lines h lines)) loose) (first_set zero_line h.used.lines (drop h.used.lines lines)))
    (Some 0)
