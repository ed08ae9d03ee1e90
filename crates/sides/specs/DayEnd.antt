-- Opening, closing and lifting the day end.
use Rattle.std.specs.Prelude.{ℕ, ◌+◌, Bool, true, false, cond, not, ◌&&◌, [], ◌∷◌, is_ok, Result, nat_le}
use Rattle.std.specs.Result.{result_map_both}
use Rattle.book.specs.Refusals.{first_refusal}
use Rattle.memory.specs.declared.row.Head.{Head}
use Rattle.memory.specs.declared.row.Phase.{Phase}
use Rattle.memory.specs.declared.row.Phase.TheVariants.{Day, DayEnd}
use Rattle.sharing.specs.Limits.{most_days}
use Rattle.sides.specs.declared.day_end.DaySheet.{DaySheet}
use Rattle.sides.specs.declared.day_end.NotClosed.{NotClosed}
use Rattle.sides.specs.declared.refusal.Refusal.{Refusal}
use Rattle.sides.specs.declared.refusal.Refusal.TheVariants as refusal

abbrev pub in_day : Phase → Bool
in_day Day = true
in_day DayEnd = false

-- a head in a phase, and a head at a date
abbrev pub in_phase : Phase → Head → Head
in_phase p h = record { date = h.date; phase = p; next = h.next; used = h.used }

abbrev pub on_date : ℕ → Head → Head
on_date d h = record { date = d; phase = h.phase; next = h.next; used = h.used }

-- ── open ──

abbrev pub open_verdict : Head → Result (Unit {0}) Refusal
open_verdict h = first_refusal ((not (in_day h.phase), refusal.WrongPhase) ∷ [])

-- a sheet, which is owed until it is given in
abbrev pub owed : DaySheet
owed = record { 0 = tt }

abbrev pub opening : Head → Result DaySheet Refusal
opening h = result_map_both (λ _. owed) (λ e. e) (open_verdict h)

abbrev pub opened : Head → Head
opened h = cond (is_ok (open_verdict h)) (in_phase DayEnd h) h

-- ── close ──

-- 1 to 31 days later
abbrev pub date_fits : ℕ → ℕ → Bool
date_fits date new = nat_le (date + 1) new && nat_le new (date + most_days)

abbrev pub close_verdict : Head → ℕ → Result (Unit {0}) Refusal
close_verdict h date =
    first_refusal ((in_day h.phase, refusal.WrongPhase) ∷ ((not (date_fits h.date date), refusal.OutOfRange) ∷ []))

-- a refusal hands the sheet back
abbrev pub closing : Head → ℕ → DaySheet → Result (Unit {0}) NotClosed
closing h date sheet = result_map_both (λ _. tt) (λ e. record { refusal = e; sheet = sheet }) (close_verdict h date)

abbrev pub closed : Head → ℕ → Head
closed h date = cond (is_ok (close_verdict h date)) (in_phase Day (on_date date h)) h

-- ── lift ──

abbrev pub lifted : Head → Head
lifted h = in_phase Day h
