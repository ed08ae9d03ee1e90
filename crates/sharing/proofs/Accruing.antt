-- Accrued interest is exact, and stays in its range. Assumes nothing.
use Rattle.std.proofs.Common.{◌≡◌, ℕ, ◌+◌, ◌*◌, ◌/◌, ◌%◌, ◌<◌, ◌≤◌, refl, mul-add, arith}
use Rattle.std.proofs.lemmas.Nat.{mul-le}
use Rattle.sharing.specs.declared.accrual.DayBase.{DayBase}
use Rattle.sharing.specs.declared.accrual.DayBase.TheVariants.{Actual365, Actual360}
use Rattle.sharing.specs.declared.accrual.Interest.{Interest}
use Rattle.sharing.specs.Limits.{most_cash, most_rate, most_daily}
use Rattle.sharing.specs.Accrual.{unit_of, growth_of, accrued}
use Rattle.sharing.specs.AccrualLaw.{worth_of, interest, AccrualLaw, AccrualFigures}

pub growth_low : (cash rate days : ℕ) → cash ≤ most_cash → rate ≤ most_rate → growth_of cash rate days ≤ 200_000_000_000_000_000 * days
growth_low cash rate days a b = mul-le (cash * rate) days 200_000_000_000_000_000 days (mul-le cash rate most_cash most_rate a b) (omega arith)

module _ (i : Interest) (cash rate days : ℕ) where
  pub exact : (base : DayBase) → worth_of (accrued i cash rate days base) base ≡ worth_of i base + growth_of cash rate days
  exact Actual365 = omega arith
  exact Actual360 = omega arith

  pub below : (base : DayBase) → (accrued i cash rate days base).residue < unit_of base
  below Actual365 = omega arith
  below Actual360 = omega arith

  pub daily : (base : DayBase) → cash ≤ most_cash → rate ≤ most_rate → i.residue < unit_of base → (accrued i cash rate days base).whole ≤ i.whole + most_daily * days
  daily Actual365 a b h = omega (arith, growth_low cash rate days a b)
  daily Actual360 a b h = omega (arith, growth_low cash rate days a b)

-- two that come to one worth are one, where the residues are below a unit
pub same_interest : (p q : Interest) (base : DayBase) → p.residue < unit_of base → q.residue < unit_of base → worth_of p base ≡ worth_of q base → p ≡ q
same_interest p q Actual365 a b h = let l : p.whole ≡ q.whole = omega arith in let r : p.residue ≡ q.residue = omega arith in λ k. interest (l k) (r k)
same_interest p q Actual360 a b h = let l : p.whole ≡ q.whole = omega arith in let r : p.residue ≡ q.residue = omega arith in λ k. interest (l k) (r k)

pub divided : (i : Interest) (cash rate days : ℕ) (base : DayBase)
    → accrued i cash rate days base ≡ interest ((worth_of i base + growth_of cash rate days) / unit_of base) ((worth_of i base + growth_of cash rate days) % unit_of base)
divided i cash rate days Actual365 = same_interest _ _ Actual365 (omega arith) (omega arith) (omega arith)
divided i cash rate days Actual360 = same_interest _ _ Actual360 (omega arith) (omega arith) (omega arith)

-- some days and then others are all of them at once
pub joined : (i : Interest) (cash rate some others : ℕ) (base : DayBase)
    → accrued (accrued i cash rate some base) cash rate others base ≡ accrued i cash rate (some + others) base
joined i cash rate some others base =
    let first = accrued i cash rate some base in
    same_interest (accrued first cash rate others base) (accrued i cash rate (some + others) base) base
    (below first cash rate others base) (below i cash rate (some + others) base)
    (omega (arith, exact first cash rate others base, exact i cash rate some base, mul-add (cash * rate) some others, exact i cash rate (some + others) base))

-- the most by a date is not passed
pub dated : (i : Interest) (cash rate days date : ℕ) (base : DayBase) → cash ≤ most_cash → rate ≤ most_rate → i.residue < unit_of base
    → i.whole ≤ most_daily * date → (accrued i cash rate days base).whole ≤ most_daily * (date + days)
dated i cash rate days date base a b h le = omega (arith, daily i cash rate days base a b h)

pub accrual_law : AccrualLaw
accrual_law = record { exact = exact; divided = divided; below = below; joined = joined; daily = daily; dated = dated }

pub accrual_figures : AccrualFigures
accrual_figures =
    record { one_day = refl; two_days = refl; one_and_one = refl; residue_dropped = refl; residue_counts = λ h. omega arith }
