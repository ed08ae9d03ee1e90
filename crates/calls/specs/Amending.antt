-- An amend, by the place of the deal's row.
use Rattle.std.specs.Prelude.{ℕ, ◌+◌, Bool, cond, not, ◌&&◌, List, [], ◌∷◌, is_ok, Some, None, Err, Option, Result, nat_le, slice_index_or, slice_set}
use Rattle.book.specs.Refusals.{first_refusal}
use Rattle.memory.specs.declared.row.Deal.{Deal}
use Rattle.memory.specs.declared.row.Head.{Head}
use Rattle.memory.specs.Deals.{due_at, amended}
use Rattle.memory.specs.Rows.{no_deal}
use Rattle.sharing.specs.Limits.{most_rate}
use Rattle.sides.specs.declared.refusal.Refusal.{Refusal}
use Rattle.sides.specs.declared.refusal.Refusal.TheVariants.{WrongPhase, NotStanding, OutOfRange, ReturnDay}
use Rattle.sides.specs.DayEnd.{in_day}

-- a rate and a return day that may be stated at a date
abbrev pub amendable : ℕ → ℕ → ℕ → Bool
amendable date rate due = nat_le rate most_rate && (nat_le date due && nat_le due (date + 730))

module _ (h : Head) (deals : List Deal) (rate due : ℕ) where
  abbrev pub amend_at : Option ℕ → Result (Unit {0}) Refusal
  amend_at None = Err NotStanding
  amend_at (Some i) = first_refusal ((not (amendable h.date rate due), OutOfRange) ∷ ((due_at h.date (slice_index_or deals i no_deal), ReturnDay) ∷ []))

  abbrev pub amend_verdict : Option ℕ → Result (Unit {0}) Refusal
  amend_verdict place = cond (in_day h.phase) (amend_at place) (Err WrongPhase)

  abbrev pub amended_at : Option ℕ → List Deal
  amended_at None = deals
  amended_at (Some i) = slice_set deals i (amended rate due (slice_index_or deals i no_deal))

  abbrev pub amended_rows : Option ℕ → List Deal
  amended_rows place = cond (is_ok (amend_verdict place)) (amended_at place) deals
