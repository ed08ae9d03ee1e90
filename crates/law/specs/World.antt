-- What a register and its book hold, as the host's memory has it and by the rows that stand.
use Rattle.std.specs.Prelude.{ℕ, List, length}
use Rattle.book.specs.Meaning.{Meaning}
use Rattle.memory.specs.declared.row.Deal.{Deal}
use Rattle.memory.specs.declared.row.Head.{Head}
use Rattle.memory.specs.declared.row.Line.{Line}
use Rattle.memory.specs.declared.row.Phase.{Phase}
use Rattle.memory.specs.Rows.{no_deal, no_line, padded}
use Rattle.memory.specs.Sound.{used_deals, used_lines}

-- the head, both tables, and what the book means
pub record World : Type 0 where
  pub head : Head
  pub deals : List Deal
  pub lines : List Line
  pub book : Meaning

-- the same by the rows that stand, in tables of so many rows
pub record State : Type 0 where
  pub date : ℕ
  pub phase : Phase
  pub next_deal : ℕ
  pub next_line : ℕ
  pub deals : List Deal
  pub lines : List Line
  pub deal_rows : ℕ
  pub line_rows : ℕ
  pub book : Meaning

abbrev pub state_of : World → State
state_of w =
    record { date = w.head.date; phase = w.head.phase; next_deal = w.head.next.deal; next_line = w.head.next.line; deals = used_deals w.head w.deals; lines = used_lines w.head w.lines; deal_rows = length w.deals; line_rows = length w.lines; book = w.book }

-- the head counts the rows that stand, and the others are zeros
abbrev pub head_of : State → Head
head_of s =
    record { date = s.date; phase = s.phase; next = record { deal = s.next_deal; line = s.next_line }; used = record { deals = length s.deals; lines = length s.lines } }

abbrev pub world_of : State → World
world_of s =
    record { head = head_of s; deals = padded no_deal s.deal_rows s.deals; lines = padded no_line s.line_rows s.lines; book = s.book }
