-- What holds of a sound register.
use Rattle.std.specs.Prelude.{◌≡◌, ℕ, ◌*◌, ◌<◌, ◌≤◌, List, map, length, take, Option, Some, None, Result, Ok, Err, MatchOption, slice_index_or}
use Rattle.std.specs.List.{AllByRecursion as Each}
use Rattle.sharing.specs.Accrual.{unit_of}
use Rattle.sharing.specs.Limits.{most_cash, most_rate, most_daily}
use Rattle.valuation.specs.Most.{most_margin, most_sought, most_units}
use Rattle.memory.specs.declared.place.Fault.{Fault}
use Rattle.memory.specs.declared.row.Deal.{Deal}
use Rattle.memory.specs.declared.row.Head.{Head}
use Rattle.memory.specs.declared.row.Line.{Line}
use Rattle.memory.specs.declared.row.Weighing.{Weighing}
use Rattle.memory.specs.declared.row.Weighing.TheVariants.{Margin, Haircut}
use Rattle.memory.specs.Kinds.{base_of}
use Rattle.memory.specs.Places.{Rising}
use Rattle.memory.specs.Rows.{no_deal, no_line, padded}
use Rattle.memory.specs.Sound.{most_number, number, return_number, parts_on, used_deals, used_lines}

-- a margin from 0 to its most, and 0 with haircut
abbrev pub MarginHolds : Weighing → ℕ → Type 0
MarginHolds Margin m = m ≤ most_margin
MarginHolds Haircut m = m ≡ 0

-- a deal that stands, in a book of so many accounts, with the used lines
pub record SoundDeal (accounts : ℕ) (h : Head) (lines : List Line) (d : Deal) : Type 0 where
  pub number_some : 1 ≤ d.number
  pub number_below : d.number < h.next.deal
  pub giver : d.giver < accounts
  pub taker : d.taker < accounts
  pub differ : d.giver ≡ d.taker → ⊥
  pub margin : MarginHolds d.weighing d.margin
  pub sought_some : 1 ≤ d.sought
  pub sought_most : d.sought ≤ most_sought
  pub rate : d.rate ≤ most_rate
  pub cash_most : d.cash ≤ most_cash
  pub cash_parts : d.cash ≡ parts_on d.number lines
  pub whole : d.whole ≤ most_daily * h.date
  pub residue : d.residue < unit_of (base_of d.currency)

-- a deal of that number is on the list
abbrev pub Stands : ℕ → List Deal → Type 0
Stands n deals = (k : ℕ) × (k < length deals) × ((slice_index_or deals k no_deal).number ≡ n)

-- a line that stands, in a book of so many resources, with the used deals
pub record SoundLine (resources : ℕ) (h : Head) (deals : List Deal) (l : Line) : Type 0 where
  pub number_some : 1 ≤ l.number
  pub number_below : l.number < h.next.line
  pub deal : Stands l.deal deals
  pub security_some : 3 ≤ l.security
  pub security_below : l.security < resources
  pub quantity_some : 1 ≤ l.quantity
  pub quantity_most : l.quantity ≤ most_units
  pub part : l.part ≤ most_cash

-- a table of 1 to so many rows, whose used rows come first, by rising number, each as it should be, and whose others are z
pub record Filled {X : Type 0} (key : X → ℕ) (Holds : X → Type 0) (z : X) (most used : ℕ) (rows : List X) : Type 0 where
  pub some : 1 ≤ length rows
  pub few : length rows ≤ most
  pub within : used ≤ length rows
  pub rise : Rising (map key (take used rows))
  pub each : Each Holds (take used rows)
  pub spare : rows ≡ padded z (length rows) (take used rows)

pub record Sound (accounts resources : ℕ) (h : Head) (deals : List Deal) (lines : List Line) : Type 0 where
  pub next_deal_low : 1 ≤ h.next.deal
  pub next_deal_most : h.next.deal ≤ most_number
  pub next_line_low : 1 ≤ h.next.line
  pub next_line_most : h.next.line ≤ most_number
  pub deal_table : Filled number (SoundDeal accounts h (used_lines h lines)) no_deal 64 h.used.deals deals
  pub line_table : Filled return_number (SoundLine resources h (used_deals h deals)) no_line 1024 h.used.lines lines

-- no fault says that the register is sound, and any fault that it is not
abbrev pub Told : Option Fault → ℕ → ℕ → Head → List Deal → List Line → Type 0
Told o accounts resources h deals lines = MatchOption o (Sound accounts resources h deals lines) (λ _. Sound accounts resources h deals lines → ⊥)

-- what a check answers where that is the first fault
abbrev pub checked : Option Fault → Result (Unit {0}) Fault
checked None = Ok tt
checked (Some f) = Err f
