-- What accruing keeps.
use Rattle.std.specs.Prelude.{◌≡◌, ℕ, ◌+◌, ◌*◌, ◌/◌, ◌%◌, ◌<◌, ◌≤◌}
use Rattle.sharing.specs.declared.accrual.DayBase.{DayBase}
use Rattle.sharing.specs.declared.accrual.DayBase.TheVariants.{Actual365}
use Rattle.sharing.specs.declared.accrual.Interest.{Interest}
use Rattle.sharing.specs.Limits.{most_cash, most_rate, most_daily}
use Rattle.sharing.specs.Accrual.{unit_of, growth_of, accrued}

-- units and residue together, in parts of a unit
abbrev pub worth_of : Interest → DayBase → ℕ
worth_of i base = i.whole * unit_of base + i.residue

abbrev pub interest : ℕ → ℕ → Interest
interest whole residue = record { whole = whole; residue = residue }

pub record AccrualLaw : Type 0 where
  -- nothing is lost to rounding
  pub exact : (i : Interest) (cash rate days : ℕ) (base : DayBase) → worth_of (accrued i cash rate days base) base ≡ worth_of i base + growth_of cash rate days
  -- the quotient and the remainder of all that accrued
  pub divided : (i : Interest) (cash rate days : ℕ) (base : DayBase)
      → accrued i cash rate days base ≡ interest ((worth_of i base + growth_of cash rate days) / unit_of base) ((worth_of i base + growth_of cash rate days) % unit_of base)
  pub below : (i : Interest) (cash rate days : ℕ) (base : DayBase) → (accrued i cash rate days base).residue < unit_of base
  -- some days and then others are all of them at once
  pub joined : (i : Interest) (cash rate some others : ℕ) (base : DayBase)
      → accrued (accrued i cash rate some base) cash rate others base ≡ accrued i cash rate (some + others) base
  -- at most so much a day, so that the most by a date is never passed
  pub daily : (i : Interest) (cash rate days : ℕ) (base : DayBase) → cash ≤ most_cash → rate ≤ most_rate → i.residue < unit_of base
      → (accrued i cash rate days base).whole ≤ i.whole + most_daily * days
  pub dated : (i : Interest) (cash rate days date : ℕ) (base : DayBase) → cash ≤ most_cash → rate ≤ most_rate → i.residue < unit_of base
      → i.whole ≤ most_daily * date → (accrued i cash rate days base).whole ≤ most_daily * (date + days)

-- a false reading: each close rounds to whole units, and no residue is kept
abbrev pub rounded : ℕ → ℕ → ℕ → ℕ → DayBase → ℕ
rounded whole cash rate days base = whole + growth_of cash rate days / unit_of base

pub record AccrualFigures : Type 0 where
  pub one_day : accrued (interest 0 0) 1_000_000 50_000 1 Actual365 ≡ interest 136 360_000_000
  pub two_days : accrued (interest 0 0) 1_000_000 50_000 2 Actual365 ≡ interest 273 355_000_000
  pub one_and_one : accrued (interest 136 360_000_000) 1_000_000 50_000 1 Actual365 ≡ interest 273 355_000_000
  pub residue_dropped : rounded (rounded 0 1_000_000 50_000 1 Actual365) 1_000_000 50_000 1 Actual365 ≡ 272
  pub residue_counts : rounded (rounded 0 1_000_000 50_000 1 Actual365) 1_000_000 50_000 1 Actual365 ≡ (accrued (interest 0 0) 1_000_000 50_000 2 Actual365).whole → ⊥
