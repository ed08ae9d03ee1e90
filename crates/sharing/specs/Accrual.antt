-- Interest on standing cash, as whole minor units and a residue.
use Rattle.std.specs.Prelude.{ℕ, ◌+◌, ◌*◌, ◌/◌, ◌%◌, Bool, cond, ◌&&◌, Some, None, Option, nat_le, nat_lt}
use Rattle.sharing.specs.declared.accrual.DayBase.{DayBase}
use Rattle.sharing.specs.declared.accrual.DayBase.TheVariants.{Actual365, Actual360}
use Rattle.sharing.specs.declared.accrual.Interest.{Interest}
use Rattle.sharing.specs.Limits.{most_cash, most_rate, most_days, most_whole}

abbrev pub days_of : DayBase → ℕ
days_of Actual365 = 365
days_of Actual360 = 360

-- how much residue makes one unit
abbrev pub unit_of : DayBase → ℕ
unit_of base = days_of base * 1_000_000

-- what days add, in parts of a unit
abbrev pub growth_of : ℕ → ℕ → ℕ → ℕ
growth_of cash rate days = cash * rate * days

-- with what the residue has of whole units counted among them
abbrev pub carried : Interest → ℕ → Interest
carried i unit = record { whole = i.whole + i.residue / unit; residue = i.residue % unit }

-- with the growth of some days
abbrev pub accrued : Interest → ℕ → ℕ → ℕ → DayBase → Interest
accrued i cash rate days base = carried (record i { residue = i.residue + growth_of cash rate days }) (unit_of base)

-- each number in its range
abbrev pub in_range : Interest → ℕ → ℕ → ℕ → DayBase → Bool
in_range i cash rate days base =
    nat_le cash most_cash && (nat_le rate most_rate && (nat_le days most_days && (nat_lt i.residue (unit_of base) && nat_le i.whole most_whole)))

abbrev pub accrual : Interest → ℕ → ℕ → ℕ → DayBase → Option Interest
accrual i cash rate days base = cond (in_range i cash rate days base) (Some (accrued i cash rate days base)) None
