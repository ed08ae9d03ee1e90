-- When a register is sound over a book, rule by rule, and the place of the first that it breaks.
use Rattle.std.specs.Prelude.{ℕ, ◌+◌, ◌*◌, Bool, true, false, cond, not, ◌&&◌, List, [], ◌∷◌, length, take, drop, Some, None, Option, ◌==◌, nat_le, nat_lt}
use Rattle.std.specs.Option.{option_or}
use Rattle.sharing.specs.Accrual.{unit_of}
use Rattle.sharing.specs.Limits.{most_cash, most_rate, most_daily}
use Rattle.valuation.specs.Currencies.{number_of}
use Rattle.valuation.specs.Most.{most_margin, most_sought, most_units}
use Rattle.memory.specs.declared.place.Fault.{Fault}
use Rattle.memory.specs.declared.place.Table.{Table}
use Rattle.memory.specs.declared.place.Table.TheVariants as table
use Rattle.memory.specs.declared.row.Deal.{Deal}
use Rattle.memory.specs.declared.row.Head.{Head}
use Rattle.memory.specs.declared.row.Line.{Line}
use Rattle.memory.specs.declared.row.Weighing.{Weighing}
use Rattle.memory.specs.declared.row.Weighing.TheVariants.{Margin, Haircut}
use Rattle.memory.specs.Kinds.{weighing_number, base_of}

-- ── a deal ──

-- a margin from 0 to its most, and 0 with haircut
abbrev pub margin_fits : Weighing → ℕ → Bool
margin_fits Margin m = nat_le m most_margin
margin_fits Haircut m = m == 0

-- giver and taker are different accounts of the book
abbrev pub parties_fit : ℕ → Deal → Bool
parties_fit accounts d = nat_lt d.giver accounts && (nat_lt d.taker accounts && not (d.giver == d.taker))

-- margin, value sought, rate and cash are in their ranges
abbrev pub terms_fit : Deal → Bool
terms_fit d =
    margin_fits d.weighing d.margin
    && (nat_le 1 d.sought && (nat_le d.sought most_sought && (nat_le d.rate most_rate && nat_le d.cash most_cash)))

-- whole interest has not grown faster than it may by the date, and the residue is below a unit
abbrev pub interest_fits : ℕ → Deal → Bool
interest_fits date d = nat_le d.whole (most_daily * date) && nat_lt d.residue (unit_of (base_of d.currency))

-- a number above that of the row before, and below the head's next
abbrev pub numbered : ℕ → ℕ → ℕ → Bool
numbered next before n = nat_lt before n && nat_lt n next

-- the parts of the lines that name a deal
unfoldable pub parts_on : ℕ → List Line → ℕ
parts_on n [] = 0
parts_on n (l ∷ ls) = cond (l.deal == n) l.part 0 + parts_on n ls

-- a deal's row by itself, after a row of the number `before`
abbrev pub deal_fits : ℕ → Head → ℕ → Deal → Bool
deal_fits accounts h before d =
    numbered h.next.deal before d.number && (parties_fit accounts d && (terms_fit d && interest_fits h.date d))

-- and with its standing cash
abbrev pub deal_sound : ℕ → Head → List Line → ℕ → Deal → Bool
deal_sound accounts h lines before d = deal_fits accounts h before d && d.cash == parts_on d.number lines

-- ── a line ──

-- a deal of that number is on the list
unfoldable pub stands : ℕ → List Deal → Bool
stands n [] = false
stands n (d ∷ ds) = cond (d.number == n) true (stands n ds)

-- security, quantity and part are in their ranges
abbrev pub ranges_fit : ℕ → Line → Bool
ranges_fit resources l =
    nat_le 3 l.security && (nat_lt l.security resources && (nat_le 1 l.quantity && (nat_le l.quantity most_units && nat_le l.part most_cash)))

-- a line's row by itself, after a row of the number `before`
abbrev pub line_fits : ℕ → Head → ℕ → Line → Bool
line_fits resources h before l = numbered h.next.line before l.number && ranges_fit resources l

-- and with its deal
abbrev pub line_sound : ℕ → Head → List Deal → ℕ → Line → Bool
line_sound resources h deals before l = line_fits resources h before l && stands l.deal deals

-- ── unused rows ──

abbrev pub zero_terms : Deal → Bool
zero_terms d =
    (number_of d.currency == 0) && (d.class == 0 && (weighing_number d.weighing == 0
    && (d.margin == 0 && (d.sought == 0 && (d.rate == 0 && (d.due == 0 && not d.limit))))))

abbrev pub zero_cash : Deal → Bool
zero_cash d = d.cash == 0 && (d.whole == 0 && d.residue == 0)

abbrev pub zero_deal : Deal → Bool
zero_deal d = d.number == 0 && (d.giver == 0 && (d.taker == 0 && (zero_terms d && zero_cash d)))

abbrev pub zero_line : Line → Bool
zero_line l = l.number == 0 && (l.deal == 0 && (l.security == 0 && (l.quantity == 0 && l.part == 0)))

-- ── tables ──

-- the place of the first row that breaks a rule, where a row is judged after the number of the row before it
unfoldable pub first_broken : {X : Type 0} → (X → ℕ) → (ℕ → X → Bool) → ℕ → ℕ → List X → Option ℕ
first_broken number sound i before [] = None
first_broken number sound i before (x ∷ xs) = cond (sound before x) (first_broken number sound (i + 1) (number x) xs) (Some i)

-- the place of the first row that is not zeros
unfoldable pub first_set : {X : Type 0} → (X → Bool) → ℕ → List X → Option ℕ
first_set zero i [] = None
first_set zero i (x ∷ xs) = cond (zero x) (first_set zero (i + 1) xs) (Some i)

-- the used rows of a table, and the others
abbrev pub used_deals : Head → List Deal → List Deal
used_deals h deals = take h.used.deals deals

abbrev pub used_lines : Head → List Line → List Line
used_lines h lines = take h.used.lines lines

abbrev pub number : Deal → ℕ
number d = d.number

abbrev pub return_number : Line → ℕ
return_number l = l.number

-- the first broken row of a table: 1 to so many rows, used ones sound, unused ones zeros
abbrev pub table_fault : {X : Type 0} → (X → ℕ) → (ℕ → X → Bool) → (X → Bool) → ℕ → ℕ → List X → Option ℕ
table_fault number sound zero most used rows =
    cond (nat_le 1 (length rows) && nat_le (length rows) most)
    (option_or (first_broken number sound 0 0 (take used rows)) (first_set zero used (drop used rows)))
    (Some 0)

abbrev pub deals_fault : ℕ → Head → List Deal → List Line → Option ℕ
deals_fault accounts h deals lines = table_fault number (deal_sound accounts h (used_lines h lines)) zero_deal 64 h.used.deals deals

abbrev pub lines_fault : ℕ → Head → List Deal → List Line → Option ℕ
lines_fault resources h deals lines = table_fault return_number (line_sound resources h (used_deals h deals)) zero_line 1024 h.used.lines lines

-- the largest that a next number may be
abbrev pub most_number : ℕ
most_number = 4_294_967_295

abbrev pub next_fits : ℕ → Bool
next_fits n = nat_le 1 n && nat_le n most_number

-- the head: next numbers in their range, and no more used rows than a table has
abbrev pub head_sound : Head → ℕ → ℕ → Bool
head_sound h deal_rows line_rows =
    next_fits h.next.deal && (next_fits h.next.line && (nat_le h.used.deals deal_rows && nat_le h.used.lines line_rows))

-- ── the register ──

abbrev pub at : Table → Option ℕ → Option Fault
at t (Some i) = Some (record { table = t; row = i })
at t None = None

abbrev pub first_found : Option Fault → Option Fault → Option Fault
first_found (Some f) o = Some f
first_found None o = o

-- the first rule that is broken, by its table and row
abbrev pub fault_of : ℕ → ℕ → Head → List Deal → List Line → Option Fault
fault_of accounts resources h deals lines =
    cond (head_sound h (length deals) (length lines))
    (first_found (at table.Deals (deals_fault accounts h deals lines)) (at table.Lines (lines_fault resources h deals lines)))
    (Some (record { table = table.Head; row = 0 }))
