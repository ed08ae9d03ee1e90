-- Slips, and what they do to the book and to the lines.
use Rattle.std.specs.Prelude.{ℕ, ◌+◌, cond, List, [], ◌∷◌, ◌++◌, map, ◌==◌, nat_lt}
use Rattle.book.specs.declared.movement.Movement.{Movement}
use Rattle.gathering.specs.declared.order.Pick.{Pick}
use Rattle.memory.specs.declared.row.Deal.{Deal}
use Rattle.memory.specs.declared.row.Kind.{Kind}
use Rattle.memory.specs.declared.row.Line.{Line}
use Rattle.memory.specs.declared.row.Sense.{Sense}
use Rattle.memory.specs.declared.row.Sense.TheVariants.{Out, Back, Cash}
use Rattle.memory.specs.declared.row.Slip.{Slip}
pub use Rattle.memory.specs.Slips.{movement_of}
use Rattle.memory.specs.Sound.{return_number}
use Rattle.tables.specs.Rows.{less_quantity}
use Rattle.valuation.specs.Currencies.{number_of}
use Rattle.law.specs.Finding.{replaced}

-- ── a deal's slips ──

-- stock that goes from giver to taker, and stock that comes back, under a return number
abbrev pub out_slip : Kind → Deal → ℕ → ℕ → ℕ → Slip
out_slip kind d n security quantity =
    record { kind = kind; sense = Out; deal = d.number; number = n; resource = security; from = d.giver; to = d.taker; amount = quantity }

abbrev pub back_slip : Kind → Deal → ℕ → ℕ → ℕ → Slip
back_slip kind d n security quantity =
    record { kind = kind; sense = Back; deal = d.number; number = n; resource = security; from = d.taker; to = d.giver; amount = quantity }

-- cash in the deal's currency, if there is any
abbrev pub cash_slips : Kind → Deal → ℕ → ℕ → ℕ → ℕ → List Slip
cash_slips kind d n from to amount =
    cond (nat_lt 0 amount)
    (record { kind = kind; sense = Cash; deal = d.number; number = n; resource = number_of d.currency; from = from; to = to; amount = amount } ∷ [])
    []

-- one slip for each pick, under return numbers from n on
unfoldable pub deliveries : Kind → Deal → ℕ → List Pick → List Slip
deliveries kind d n [] = []
deliveries kind d n (x ∷ xs) = out_slip kind d n x.security x.quantity ∷ deliveries kind d (n + 1) xs

-- ── what slips do ──

abbrev pub movements_of : List Slip → List Movement
movements_of xs = map movement_of xs

-- the line that stock out stands on; its part comes with the sharing out
abbrev pub new_line : Slip → Line
new_line x = record { number = x.number; deal = x.deal; security = x.resource; quantity = x.amount; part = 0 }

-- a line with a quantity gone; at 0 it goes
abbrev pub lessened : ℕ → Line → List Line
lessened q l = cond (l.quantity == q) [] (less_quantity q l ∷ [])

-- the lines after a slip: stock out comes onto a new line, stock back goes from its line
abbrev pub line_by_sense : Sense → Slip → List Line → List Line
line_by_sense Out x ls = ls ++ (new_line x ∷ [])
line_by_sense Back x ls = replaced return_number x.number (lessened x.amount) ls
line_by_sense Cash x ls = ls

unfoldable pub lines_by : List Slip → List Line → List Line
lines_by [] ls = ls
lines_by (x ∷ xs) ls = lines_by xs (line_by_sense x.sense x ls)

-- a return number is issued for stock out
abbrev pub issuing : Sense → ℕ
issuing Out = 1
issuing Back = 0
issuing Cash = 0

unfoldable pub issues : List Slip → ℕ
issues [] = 0
issues (x ∷ xs) = issuing x.sense + issues xs
