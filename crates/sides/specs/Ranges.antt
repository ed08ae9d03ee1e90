-- The ranges of what a side states.
use Rattle.std.specs.Prelude.{◌≡◌, ℕ, ◌+◌, ◌≤◌, Bool, not, ◌&&◌, ◌≢◌, ◌==◌, nat_le}
use Rattle.memory.specs.declared.row.Weighing.{Weighing}
use Rattle.memory.specs.declared.row.Weighing.TheVariants.{Haircut}
use Rattle.memory.specs.Sound.{margin_fits as admits_margin}
use Rattle.sharing.specs.Limits.{most_cash, most_rate}
use Rattle.valuation.specs.Most.{most_margin, most_sought}
use Rattle.sides.specs.declared.terms.Terms.{Terms}

-- two different accounts, each 0 to 63
abbrev pub parties_fit : Terms → Bool
parties_fit t = nat_le t.giver 63 && (nat_le t.taker 63 && not (t.giver == t.taker))

abbrev pub margin_fits : Terms → Bool
margin_fits t = admits_margin t.weighing t.margin

abbrev pub amounts_fit : Terms → Bool
amounts_fit t = nat_le 1 t.sought && (nat_le t.sought most_sought && (nat_le t.cash most_cash && nat_le t.rate most_rate))

-- a return day 1 to 730 days after the day
abbrev pub due_fits : Terms → Bool
due_fits t = nat_le (t.day + 1) t.due && nat_le t.due (t.day + 730)

-- every field is in its range
unfoldable pub terms_fit : Terms → Bool
terms_fit t = parties_fit t && (margin_fits t && (amounts_fit t && due_fits t))

-- what that comes to, field by field; day, currency, class and limit may be any
pub record InRange (t : Terms) : Type 0 where
  pub giver_most : t.giver ≤ 63
  pub taker_most : t.taker ≤ 63
  pub different : t.giver ≢ t.taker
  pub margin_most : t.margin ≤ most_margin
  pub margin_none : t.weighing ≡ Haircut → t.margin ≡ 0
  pub sought_least : 1 ≤ t.sought
  pub sought_most : t.sought ≤ most_sought
  pub cash_most : t.cash ≤ most_cash
  pub rate_most : t.rate ≤ most_rate
  pub due_least : t.day + 1 ≤ t.due
  pub due_most : t.due ≤ t.day + 730
