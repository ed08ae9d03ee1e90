-- What is asked of a deal's row, and how it changes.
use Rattle.std.specs.Prelude.{ℕ, ◌-◌, Bool, cond, ◌&&◌, Some, None, Option, nat_le}
use Rattle.sharing.specs.declared.accrual.Interest.{Interest}
use Rattle.sharing.specs.Accrual.{accrual}
use Rattle.valuation.specs.Most.{most_sought}
use Rattle.valuation.specs.Worth.{market_value, less_haircut, with_margin}
use Rattle.memory.specs.declared.row.Deal.{Deal}
use Rattle.memory.specs.declared.row.Weighing.{Weighing}
use Rattle.memory.specs.declared.row.Weighing.TheVariants.{Margin, Haircut}
use Rattle.memory.specs.Kinds.{base_of}
use Rattle.memory.specs.Sound.{margin_fits}

-- what a quantity is worth by its price and haircut
abbrev pub worth_by : Weighing → ℕ → ℕ → ℕ → ℕ
worth_by Margin price haircut quantity = market_value price quantity
worth_by Haircut price haircut quantity = less_haircut haircut (market_value price quantity)

-- what is to be gathered for a value sought, by the margin
abbrev pub target_by : Weighing → ℕ → ℕ → ℕ
target_by Margin margin sought = with_margin margin sought
target_by Haircut margin sought = sought

abbrev pub target_of : Deal → ℕ
target_of d = target_by d.weighing d.margin d.sought

-- the worth and the target of a deal whose margin is in its range
abbrev pub valuation_of : Deal → Option ((ℕ → ℕ → ℕ → ℕ) × (ℕ → ℕ))
valuation_of d = cond (margin_fits d.weighing d.margin) (Some (worth_by d.weighing, target_by d.weighing d.margin)) None

-- the target where the value sought is in its range too
abbrev pub target_in : Deal → Option ℕ
target_in d = cond (margin_fits d.weighing d.margin && (nat_le 1 d.sought && nat_le d.sought most_sought)) (Some (target_of d)) None

-- the date has reached its return day
abbrev pub due_at : ℕ → Deal → Bool
due_at date d = nat_le d.due date

-- ── a deal with other fields ──

abbrev pub with_cash : ℕ → Deal → Deal
with_cash cash d = record { number = d.number; giver = d.giver; taker = d.taker; currency = d.currency; class = d.class; weighing = d.weighing; margin = d.margin; sought = d.sought; rate = d.rate; due = d.due; limit = d.limit; cash = cash; whole = d.whole; residue = d.residue }

-- the interest that it has
abbrev pub interest_in : Deal → Interest
interest_in d = record { whole = d.whole; residue = d.residue }

abbrev pub with_interest : Interest → Deal → Deal
with_interest i d = record { number = d.number; giver = d.giver; taker = d.taker; currency = d.currency; class = d.class; weighing = d.weighing; margin = d.margin; sought = d.sought; rate = d.rate; due = d.due; limit = d.limit; cash = d.cash; whole = i.whole; residue = i.residue }

-- another rate and return day
abbrev pub amended : ℕ → ℕ → Deal → Deal
amended rate due d = record { number = d.number; giver = d.giver; taker = d.taker; currency = d.currency; class = d.class; weighing = d.weighing; margin = d.margin; sought = d.sought; rate = rate; due = due; limit = d.limit; cash = d.cash; whole = d.whole; residue = d.residue }

-- the standing cash without a part of it
abbrev pub less_cash : ℕ → Deal → Deal
less_cash part d = with_cash (d.cash - part) d

-- the interest of some days, where every number is in its range
abbrev pub accrual_of : ℕ → Deal → Option Interest
accrual_of days d = accrual (interest_in d) d.cash d.rate days (base_of d.currency)

abbrev pub with_growth : Option Interest → Deal → Deal
with_growth (Some i) d = with_interest i d
with_growth None d = d

-- a deal some days later; where a number is out of its range it stays
abbrev pub grown : ℕ → Deal → Deal
grown days d = with_growth (accrual_of days d) d
