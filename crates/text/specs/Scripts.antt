-- Going through a script line by line.
use Rattle.std.specs.Prelude.{◌≡◌, ℕ, List, length, Option, is_some, if◌then◌else◌}
use Rattle.std.specs.Borrow.{Bor}
use Rattle.std.specs.Iterator.{Count, at_most}
use Rattle.std.specs.Option.{option_map}
use Rattle.text.specs.Lines.{behind_line, one_more, numbered, line_left}
use Rattle.text.specs.declared.script.Script.{Script}

-- the next line with its number, and the script behind it
pub record GivesLine (s : Script) (r : Option (ℕ × Bor (List ℕ))) (t : Script) : Type 0 where
  pub answer : option_map numbered r ≡ line_left s.lines s.rest.now
  pub rest : t.rest.now ≡ (if is_some r then behind_line s.rest.now else s.rest.now)
  pub lines : t.lines ≡ (if is_some r then one_more s.lines else s.lines)

-- each line has a byte, be it its newline
abbrev pub lines_at_most : Script → Count
lines_at_most s = at_most (length s.rest.now)
