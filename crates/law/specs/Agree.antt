-- The law: what every past keeps, in sums over slips, over standing lines and over closes.
use Rattle.std.specs.Prelude.{◌≡◌, ℕ, ◌+◌, ◌/◌, ◌%◌, ◌<◌, ◌≤◌, Bool, false, ◌&&◌, List, [], ◌∷◌, ◌==◌, ◌≢◌}
use Rattle.std.specs.List.{AllByRecursion as Each}
use Rattle.memory.specs.declared.row.Deal.{Deal}
use Rattle.memory.specs.declared.row.Line.{Line}
use Rattle.memory.specs.Kinds.{base_of}
use Rattle.memory.specs.Sound.{parts_on}
use Rattle.sharing.specs.Accrual.{unit_of}
use Rattle.valuation.specs.declared.currency.Currency.{Currency}
use Rattle.valuation.specs.Currencies.{number_of}
use Rattle.law.specs.Sums.{only, total}
use Rattle.law.specs.World.{State, World, state_of}
use Rattle.law.specs.Finding.{has_deal, deal_of}
use Rattle.law.specs.Past.{Opening, Entry, delivered, sent_back, return_numbers, deal_numbers, interest_to, interest_from, cash_back, interest_on, pair_of, rate_of, stood, accrued_on}

-- no number stands twice in a list
abbrev pub Apart : List ℕ → Type 0
Apart [] = Unit {0}
Apart (x ∷ xs) = Each (λ y. x ≢ y) xs × Apart xs

-- the quantity that stands under a return number
abbrev pub standing : ℕ → List Line → ℕ
standing n ls = total (λ l. only (l.number == n) l.quantity) ls

-- the sum of f over the lines whose deal passes a test
abbrev pub over : List Deal → (Deal → Bool) → (Line → ℕ) → List Line → ℕ
over ds test f ls = total (λ l. only (test (deal_of l.deal ds)) (f l)) ls

abbrev pub gives : ℕ → Deal → Bool
gives a d = d.giver == a

abbrev pub takes : ℕ → Deal → Bool
takes a d = d.taker == a

-- in a currency
abbrev pub gives_in : ℕ → ℕ → Deal → Bool
gives_in a c d = gives a d && number_of d.currency == c

abbrev pub takes_in : ℕ → ℕ → Deal → Bool
takes_in a c d = takes a d && number_of d.currency == c

abbrev pub quantity_in : ℕ → Line → ℕ
quantity_in r l = only (l.security == r) l.quantity

-- of the securities that pass a test
abbrev pub quantity_of : (ℕ → Bool) → Line → ℕ
quantity_of test l = only (test l.security) l.quantity

abbrev pub part_of : Line → ℕ
part_of l = l.part

abbrev pub unit_in : Currency → ℕ
unit_in c = unit_of (base_of c)

-- what a deal's row says is what the history says
pub record Told (o : Opening) (h : List Entry) (ls : List Line) (d : Deal) : Type 0 where
  pub giver : d.giver ≡ (pair_of d.number h).giver
  pub taker : d.taker ≡ (pair_of d.number h).taker
  pub currency : d.currency ≡ (pair_of d.number h).currency
  pub rate : d.rate ≡ rate_of d.number h
  -- the standing cash is what was stated less what went back, and the lines have all of it
  pub cash : d.cash + cash_back d.number h ≡ (pair_of d.number h).cash
  pub parts : parts_on d.number ls ≡ d.cash
  -- the interest is the quotient and the remainder of what accrued
  pub whole : d.whole ≡ accrued_on o d.number h / unit_in d.currency
  pub residue : d.residue ≡ accrued_on o d.number h % unit_in d.currency

-- by the rows that stand
pub record AgreeBy (o : Opening) (s : State) (h : List Entry) : Type 0 where
  -- what was delivered under a return number came back or stands
  pub lines : (n : ℕ) → delivered n h ≡ sent_back n h + standing n s.lines
  -- no number is issued twice
  pub return_numbers_apart : Apart (return_numbers h)
  pub deal_numbers_apart : Apart (deal_numbers h)
  -- an account's stock and cash, from the opening, by the standing lines and the interest
  pub stock : (a r : ℕ) → 3 ≤ r
      → s.book.amount a r + over s.deals (gives a) (quantity_in r) s.lines ≡ o.book.amount a r + over s.deals (takes a) (quantity_in r) s.lines
  pub cash : (a c : ℕ) → c < 3
      → s.book.amount a c + over s.deals (takes_in a c) part_of s.lines + interest_from a c h
      ≡ o.book.amount a c + over s.deals (gives_in a c) part_of s.lines + interest_to a c h
  -- the deals that stand are those that were settled and not paid, and their rows say what the history says
  pub stand : (n : ℕ) → has_deal n s.deals ≡ stood n h
  pub told : Each (Told o h s.lines) s.deals
  -- on a deal that went the whole interest was paid
  pub went : (n : ℕ) → stood n h ≡ false → interest_on n h ≡ accrued_on o n h / unit_in (pair_of n h).currency

abbrev pub Agree : Opening → World → List Entry → Type 0
Agree o w h = AgreeBy o (state_of w) h
