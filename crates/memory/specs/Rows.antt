-- Tables whose used rows come first.
use Rattle.std.specs.Prelude.{ℕ, ◌-◌, false, List, ◌++◌, length, replicate}
use Rattle.valuation.specs.declared.currency.Currency.TheVariants.{Gbp}
use Rattle.memory.specs.declared.row.Deal.{Deal}
use Rattle.memory.specs.declared.row.Head.{Head}
use Rattle.memory.specs.declared.row.Line.{Line}
use Rattle.memory.specs.declared.row.Slip.{Slip}
use Rattle.memory.specs.declared.row.Kind.TheVariants.{Settle}
use Rattle.memory.specs.declared.row.Sense.TheVariants.{Out}
use Rattle.memory.specs.declared.row.Weighing.TheVariants.{Margin}

-- the unused rows
abbrev pub no_deal : Deal
no_deal = record { number = 0; giver = 0; taker = 0; currency = Gbp; class = 0; weighing = Margin; margin = 0; sought = 0; rate = 0; due = 0; limit = false; cash = 0; whole = 0; residue = 0 }

abbrev pub no_line : Line
no_line = record { number = 0; deal = 0; security = 0; quantity = 0; part = 0 }

abbrev pub no_slip : Slip
no_slip = record { kind = Settle; sense = Out; deal = 0; number = 0; resource = 0; from = 0; to = 0; amount = 0 }

-- a table of n rows whose first rows are used, and whose others are z
abbrev pub padded : {X : Type 0} → X → ℕ → List X → List X
padded z n rows = rows ++ replicate (n - length rows) z

-- a head that counts so many used rows
abbrev pub using_deals : ℕ → Head → Head
using_deals n h = record { date = h.date; phase = h.phase; next = h.next; used = record { deals = n; lines = h.used.lines } }

abbrev pub using_lines : ℕ → Head → Head
using_lines n h = record { date = h.date; phase = h.phase; next = h.next; used = record { deals = h.used.deals; lines = n } }
