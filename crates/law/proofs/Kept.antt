-- What the induction over a past carries: the lines' half and the deals' half of the law.
use Rattle.std.proofs.Common.{◌≡◌, ℕ, ◌+◌, ◌*◌, ◌/◌, ◌<◌, ◌≤◌, Bool, true, false, eqb, List, length}
use Rattle.std.specs.List.{AllByRecursion as Each}
use Rattle.book.specs.Meaning.{Meaning, Lawful}
use Rattle.memory.specs.declared.row.Deal.{Deal}
use Rattle.memory.specs.declared.row.Line.{Line}
use Rattle.memory.specs.Begin.{sized}
use Rattle.memory.specs.Register.{MarginHolds}
use Rattle.memory.specs.Sound.{most_number, number, return_number}
use Rattle.sharing.specs.Limits.{most_cash, most_rate, most_daily}
use Rattle.valuation.specs.Most.{most_sought}
use Rattle.law.specs.Sums.{only, total}
use Rattle.law.specs.World.{State}
use Rattle.law.specs.Finding.{has_deal}
use Rattle.memory.specs.declared.row.Slip.{Slip}
use Rattle.law.specs.Past.{Opening, Entry, slipped, is_out, is_back, is_cash, out_from, back_to, delivered, sent_back, return_numbers, deal_numbers, interest_to, interest_from, cash_back, interest_on, pair_of, rate_of, stood, accrued_on, date_of}
use Rattle.law.specs.Agree.{standing, over, gives, takes, gives_in, takes_in, quantity_in, quantity_of, unit_in}
use Rattle.law.proofs.Ordered.{Ordered}
use Rattle.law.proofs.Rows.{Placed}
use Rattle.law.proofs.Histories.{count, Unseen}

-- the parts of a deal's lines
abbrev pub parts_for : ℕ → List Line → ℕ
parts_for n ls = total (λ l. only (eqb l.deal n) l.part) ls

-- ── lines ──

pub record LinesKept (o : Opening) (m : Meaning) (ds : List Deal) (next : ℕ) (ls : List Line) (h : List Entry) : Type 0 where
  pub next_some : 1 ≤ next
  pub rise : Ordered return_number ls
  pub placed : Each (Placed m.resources ds next) ls
  pub balance : (n : ℕ) → delivered n h ≡ sent_back n h + standing n ls
  pub once : (n : ℕ) → count n (return_numbers h) ≤ 1
  pub fresh : (n : ℕ) → next ≤ n → count n (return_numbers h) ≡ 0
  pub stock : (a r : ℕ) → 3 ≤ r → m.amount a r + over ds (gives a) (quantity_in r) ls ≡ o.book.amount a r + over ds (takes a) (quantity_in r) ls
  pub nominal : (a : ℕ) (test : ℕ → Bool) → over ds (gives a) (quantity_of test) ls + slipped (back_to a test) h ≡ slipped (out_from a test) h

-- ── slips ──

-- stock goes between the parties of its deal's pair
pub record Between (next : ℕ) (h : List Entry) (x : Slip) : Type 0 where
  pub below : is_cash x ≡ false → x.deal < next
  pub out : is_out x ≡ true → x.from ≡ (pair_of x.deal h).giver
  pub back : is_back x ≡ true → x.to ≡ (pair_of x.deal h).giver

abbrev pub SlipsKept : ℕ → List Entry → List Entry → Type 0
SlipsKept next h es = Each (λ e. Each (Between next h) e.slips) es

-- ── deals ──

-- a deal's row in its ranges
pub record Ranged (accounts next date : ℕ) (d : Deal) : Type 0 where
  pub number_some : 1 ≤ d.number
  pub number_below : d.number < next
  pub giver : d.giver < accounts
  pub taker : d.taker < accounts
  pub differ : d.giver ≡ d.taker → ⊥
  pub margin : MarginHolds d.weighing d.margin
  pub sought_some : 1 ≤ d.sought
  pub sought_most : d.sought ≤ most_sought
  pub rate : d.rate ≤ most_rate
  pub cash : d.cash ≤ most_cash
  pub whole : d.whole ≤ most_daily * date
  pub residue : d.residue < unit_in d.currency

-- and what the history says of it
pub record Says (o : Opening) (h : List Entry) (ls : List Line) (d : Deal) : Type 0 where
  pub giver : d.giver ≡ (pair_of d.number h).giver
  pub taker : d.taker ≡ (pair_of d.number h).taker
  pub currency : d.currency ≡ (pair_of d.number h).currency
  pub rate : d.rate ≡ rate_of d.number h
  pub cash : d.cash + cash_back d.number h ≡ (pair_of d.number h).cash
  pub parts : parts_for d.number ls ≡ d.cash
  pub interest : d.whole * unit_in d.currency + d.residue ≡ accrued_on o d.number h
  pub up : stood d.number h ≡ true
  pub unpaid : interest_on d.number h ≡ 0

-- the standing cash of the deals that pass a test
abbrev pub cash_over : (Deal → Bool) → List Deal → ℕ
cash_over test ds = total (λ d. only (test d) d.cash) ds

pub record DealsKept (o : Opening) (m : Meaning) (date next : ℕ) (ds : List Deal) (ls : List Line) (h : List Entry) : Type 0 where
  pub dated : date ≡ date_of o h
  pub date_most : date ≤ 65_535
  pub next_some : 1 ≤ next
  pub rise : Ordered number ds
  pub ranged : Each (Ranged m.accounts next date) ds
  pub says : Each (Says o h ls) ds
  pub once : (n : ℕ) → count n (deal_numbers h) ≤ 1
  pub fresh : (n : ℕ) → next ≤ n → Unseen o n h
  pub stand : (n : ℕ) → has_deal n ds ≡ stood n h
  pub went : (n : ℕ) → stood n h ≡ false → interest_on n h ≡ accrued_on o n h / unit_in (pair_of n h).currency
  pub cash : (a c : ℕ) → c < 3
      → m.amount a c + cash_over (takes_in a c) ds + interest_from a c h ≡ o.book.amount a c + cash_over (gives_in a c) ds + interest_to a c h

-- ── the tables and the book ──

pub record Kept (o : Opening) (s : State) (h : List Entry) : Type 0 where
  pub lawful : Lawful s.book
  pub deal_rows_fit : sized s.deal_rows 64 ≡ true
  pub line_rows_fit : sized s.line_rows 1024 ≡ true
  pub deals_room : length s.deals ≤ s.deal_rows
  pub lines_room : length s.lines ≤ s.line_rows
  pub deal_most : s.next_deal ≤ most_number
  pub line_most : s.next_line ≤ most_number
  pub lines : LinesKept o s.book s.deals s.next_line s.lines h
  pub deals : DealsKept o s.book s.date s.next_deal s.deals s.lines h
  pub slips : SlipsKept s.next_deal h h
