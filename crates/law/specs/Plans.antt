-- A plan, which every call makes, and how it is carried out: the one change step.
use Rattle.std.specs.Prelude.{ℕ, ◌+◌, Bool, ◌||◌, List, [], ◌∷◌, length, Ok, Err, Result, nat_lt}
use Rattle.book.specs.declared.movement.RefusedAt.{RefusedAt}
use Rattle.book.specs.Lists.{run, rehearsed}
use Rattle.book.specs.Refusals.{Condition, first_refusal}
use Rattle.memory.specs.declared.row.Deal.{Deal}
use Rattle.memory.specs.declared.row.Line.{Line}
use Rattle.memory.specs.declared.row.Phase.{Phase}
use Rattle.memory.specs.declared.row.Slip.{Slip}
use Rattle.memory.specs.Deals.{worth_by}
use Rattle.memory.specs.Sound.{most_number}
use Rattle.sides.specs.declared.refusal.Refusal.{Refusal}
use Rattle.sides.specs.declared.refusal.Refusal.TheVariants.{NoRows, NoNumbers, NoSlips, Book}
use Rattle.tables.specs.Values.{shared_out}
use Rattle.valuation.specs.declared.price.Price.{Price}
use Rattle.law.specs.World.{State}
use Rattle.law.specs.Finding.{deal_of}
use Rattle.law.specs.Slips.{movements_of, lines_by, issues}
use Rattle.law.specs.Changes.{Change, deals_by, numbers_by}

-- whether the standing cash of a deal is shared out again over its lines, by a price list
pub data Sharing : Type 0 where
  asis : Sharing
  over : List Price → ℕ → Sharing

pub record Plan : Type 0 where
  pub date : ℕ
  pub phase : Phase
  pub change : Change
  pub slips : List Slip
  pub sharing : Sharing
  -- alert B: no basket covers
  pub alert : Bool

abbrev pub parted : Sharing → List Deal → List Line → List Line
parted asis ds ls = ls
parted (over ps n) ds ls = shared_out (worth_by (deal_of n ds).weighing) (deal_of n ds).currency ps n (deal_of n ds).cash ls

module _ (s : State) (p : Plan) where
  abbrev pub deals_after : List Deal
  deals_after = deals_by p.change s.deals

  abbrev pub lines_after : List Line
  lines_after = lines_by p.slips s.lines

  -- a table too short for the rows after the plan, a next number beyond its limit, a slip list of too few places
  abbrev pub shortages : ℕ → List (Condition Refusal)
  shortages places =
      (nat_lt s.deal_rows (length deals_after) || nat_lt s.line_rows (length lines_after), NoRows)
      ∷ ((nat_lt most_number (s.next_deal + numbers_by p.change) || nat_lt most_number (s.next_line + issues p.slips), NoNumbers)
      ∷ ((nat_lt places (length p.slips), NoSlips)
      ∷ []))

  unfoldable pub unfit : ℕ → Result (Unit {0}) Refusal
  unfit places = first_refusal (shortages places)

  -- all of the slips are moved, the lines follow them, and cash is shared out
  unfoldable pub carried : State
  carried =
      record { date = p.date; phase = p.phase; next_deal = s.next_deal + numbers_by p.change; next_line = s.next_line + issues p.slips; deals = deals_after; lines = parted p.sharing deals_after lines_after; deal_rows = s.deal_rows; line_rows = s.line_rows; book = run s.book (movements_of p.slips) }

-- else the first movement that the book would refuse
abbrev pub or_book : Result (Unit {0}) Refusal → Result (Unit {0}) RefusedAt → Result (Unit {0}) Refusal
or_book (Err e) r = Err e
or_book (Ok _) (Err at) = Err (Book at)
or_book (Ok _) (Ok _) = Ok tt

abbrev pub checked : ℕ → State → Plan → Result (Unit {0}) Refusal
checked places s p = or_book (unfit s p places) (rehearsed s.book (movements_of p.slips))
