-- A payment, by the place of the deal's row.
use Rattle.std.specs.Prelude.{ℕ, ◌-◌, cond, List, length, is_ok, Some, None, Err, Option, Result, slice_index_or}
use Rattle.std.specs.Result.{result_map_both}
use Rattle.book.specs.Lists.{run}
use Rattle.book.specs.Meaning.{Meaning}
use Rattle.drafts.specs.Drafts.{movable}
use Rattle.memory.specs.declared.row.Deal.{Deal}
use Rattle.memory.specs.declared.row.Head.{Head}
use Rattle.memory.specs.declared.row.Kind.TheVariants.{Pay}
use Rattle.memory.specs.declared.row.Line.{Line}
use Rattle.memory.specs.declared.row.Slip.{Slip}
use Rattle.memory.specs.Rows.{no_deal}
use Rattle.memory.specs.Sound.{used_lines}
use Rattle.sides.specs.declared.refusal.Refusal.{Refusal}
use Rattle.sides.specs.declared.refusal.Refusal.TheVariants.{WrongPhase, NotStanding, LinesStand}
use Rattle.sides.specs.DayEnd.{in_day}
use Rattle.tables.specs.Rows.{without, using_deals}
use Rattle.law.specs.Calls.{has_lines}
use Rattle.law.specs.Outcomes.{listed}
use Rattle.law.specs.Slips.{cash_slips, movements_of}

-- the interest of a deal, if there is any
abbrev pub interest_slips : Deal → List Slip
interest_slips d = cash_slips Pay d 0 d.giver d.taker d.whole

module _ (h : Head) (deals : List Deal) (lines : List Line) (m : Meaning) (list : List Slip) (n : ℕ) where
  abbrev pub pay_at : Option ℕ → Result (Unit {0}) Refusal
  pay_at None = Err NotStanding
  pay_at (Some i) = cond (has_lines n (used_lines h lines)) (Err LinesStand) (movable m (interest_slips (slice_index_or deals i no_deal)) (length list))

  abbrev pub pay_verdict : Option ℕ → Result (Unit {0}) Refusal
  pay_verdict place = cond (in_day h.phase) (pay_at place) (Err WrongPhase)

  abbrev pub paid_at : Option ℕ → Deal
  paid_at None = no_deal
  paid_at (Some i) = slice_index_or deals i no_deal

  abbrev pub row_of : Option ℕ → ℕ
  row_of None = 0
  row_of (Some i) = i

  -- what is answered, and what then stands
  abbrev pub pay_answer : Option ℕ → Result ℕ Refusal
  pay_answer o = result_map_both (λ _. length (interest_slips (paid_at o))) (λ e. e) (pay_verdict o)

  abbrev pub pay_head : Option ℕ → Head
  pay_head o = cond (is_ok (pay_verdict o)) (using_deals (h.used.deals - 1) h) h

  abbrev pub pay_deals : Option ℕ → List Deal
  pay_deals o = cond (is_ok (pay_verdict o)) (without no_deal h.used.deals (row_of o) deals) deals

  abbrev pub pay_list : Option ℕ → List Slip
  pay_list o = cond (is_ok (pay_verdict o)) (listed (interest_slips (paid_at o)) list) list

  abbrev pub pay_book : Option ℕ → Meaning
  pay_book o = cond (is_ok (pay_verdict o)) (run m (movements_of (interest_slips (paid_at o)))) m
