-- Writing into the lent memory.
use Rattle.std.specs.Prelude.{ℕ, ◌^◌, cond, List, Some, None, Option, ◌==◌, nat_lt, slice_get, slice_set}
use Rattle.std.specs.Option.{option_map, option_and_then, unwrap_or}
use Rattle.memory.specs.declared.row.Deal.{Deal}
use Rattle.memory.specs.declared.row.Head.{Head}
use Rattle.memory.specs.declared.row.Line.{Line}
use Rattle.register_script.specs.declared.poke.DealField.{DealField}
use Rattle.register_script.specs.declared.poke.DealField.TheVariants as deal
use Rattle.register_script.specs.declared.poke.HeadField.{HeadField}
use Rattle.register_script.specs.declared.poke.HeadField.TheVariants as head
use Rattle.register_script.specs.declared.poke.LineField.{LineField}
use Rattle.register_script.specs.declared.poke.LineField.TheVariants as line
use Rattle.register_script.specs.declared.poke.Target.{Target}
use Rattle.register_script.specs.declared.poke.Target.TheVariants.{Head as InHead, Deal as InDeal, Line as InLine}
use Rattle.commands.specs.Answers.{Answer, accepted, misplaced}

-- a value that fits 32 bits, and one that fits 16
abbrev pub small_of : ℕ → Option ℕ
small_of v = cond (nat_lt v (2 ^ 32)) (Some v) None

abbrev pub short_of : ℕ → Option ℕ
short_of v = cond (nat_lt v (2 ^ 16)) (Some v) None

-- ── a field of the head, of a deal and of a line with a value that fits it ──

abbrev pub head_with : HeadField → ℕ → Head → Option Head
head_with head.Date v h = option_map (λ n. record { date = n; phase = h.phase; next = h.next; used = h.used }) (short_of v)
head_with head.NextDeal v h = option_map (λ n. record { date = h.date; phase = h.phase; next = record { deal = n; line = h.next.line }; used = h.used }) (small_of v)
head_with head.NextReturn v h = option_map (λ n. record { date = h.date; phase = h.phase; next = record { deal = h.next.deal; line = n }; used = h.used }) (small_of v)
head_with head.Deals v h = option_map (λ n. record { date = h.date; phase = h.phase; next = h.next; used = record { deals = n; lines = h.used.lines } }) (small_of v)
head_with head.Lines v h = option_map (λ n. record { date = h.date; phase = h.phase; next = h.next; used = record { deals = h.used.deals; lines = n } }) (small_of v)

-- the places of a deal's fields
abbrev pub deal_place : DealField → ℕ
deal_place deal.Number = 0
deal_place deal.Giver = 1
deal_place deal.Taker = 2
deal_place deal.Class = 3
deal_place deal.Margin = 4
deal_place deal.Sought = 5
deal_place deal.Rate = 6
deal_place deal.Return = 7
deal_place deal.Cash = 8
deal_place deal.Whole = 9
deal_place deal.Residue = 10

abbrev pub line_place : LineField → ℕ
line_place line.Number = 0
line_place line.Deal = 1
line_place line.Security = 2
line_place line.Quantity = 3
line_place line.Part = 4

-- n in the field at a place, and what was there in the others
abbrev pub into : ℕ → ℕ → ℕ → ℕ → ℕ
into here place n old = cond (here == place) n old

abbrev pub deal_set : ℕ → ℕ → Deal → Deal
deal_set k n d = record { number = into 0 k n d.number; giver = into 1 k n d.giver; taker = into 2 k n d.taker; currency = d.currency; class = into 3 k n d.class; weighing = d.weighing; margin = into 4 k n d.margin; sought = into 5 k n d.sought; rate = into 6 k n d.rate; due = into 7 k n d.due; limit = d.limit; cash = into 8 k n d.cash; whole = into 9 k n d.whole; residue = into 10 k n d.residue }

abbrev pub line_set : ℕ → ℕ → Line → Line
line_set k n l = record { number = into 0 k n l.number; deal = into 1 k n l.deal; security = into 2 k n l.security; quantity = into 3 k n l.quantity; part = into 4 k n l.part }

-- what fits a field
abbrev pub deal_fit : DealField → ℕ → Option ℕ
deal_fit deal.Number v = small_of v
deal_fit deal.Giver v = small_of v
deal_fit deal.Taker v = small_of v
deal_fit deal.Class v = short_of v
deal_fit deal.Margin v = short_of v
deal_fit deal.Sought v = Some v
deal_fit deal.Rate v = small_of v
deal_fit deal.Return v = short_of v
deal_fit deal.Cash v = Some v
deal_fit deal.Whole v = Some v
deal_fit deal.Residue v = Some v

abbrev pub line_fit : LineField → ℕ → Option ℕ
line_fit line.Number v = small_of v
line_fit line.Deal v = small_of v
line_fit line.Security v = small_of v
line_fit line.Quantity v = Some v
line_fit line.Part v = Some v

abbrev pub deal_with : DealField → ℕ → Deal → Option Deal
deal_with f v d = option_map (λ n. deal_set (deal_place f) n d) (deal_fit f v)

abbrev pub line_with : LineField → ℕ → Line → Option Line
line_with f v l = option_map (λ n. line_set (line_place f) n l) (line_fit f v)

-- ── in the memory ──

-- the row at a place as it is to be; nothing past the table, or where the value does not fit
abbrev pub row_with : {X : Type 0} → (X → Option X) → ℕ → List X → Option X
row_with change i rows = option_and_then change (slice_get rows i)

abbrev pub written : {X : Type 0} → Option X → ℕ → List X → List X
written (Some x) i rows = slice_set rows i x
written None i rows = rows

abbrev pub done : {X : Type 0} → Option X → Answer
done (Some x) = accepted
done None = misplaced

abbrev pub poke_answer : Target → ℕ → Head → List Deal → List Line → Answer
poke_answer (InHead f) v h deals lines = done (head_with f v h)
poke_answer (InDeal i f) v h deals lines = done (row_with (deal_with f v) i deals)
poke_answer (InLine i f) v h deals lines = done (row_with (line_with f v) i lines)

abbrev pub poked_head : Target → ℕ → Head → Head
poked_head (InHead f) v h = unwrap_or (head_with f v h) h
poked_head (InDeal i f) v h = h
poked_head (InLine i f) v h = h

abbrev pub poked_deals : Target → ℕ → List Deal → List Deal
poked_deals (InHead f) v deals = deals
poked_deals (InDeal i f) v deals = written (row_with (deal_with f v) i deals) i deals
poked_deals (InLine i f) v deals = deals

abbrev pub poked_lines : Target → ℕ → List Line → List Line
poked_lines (InHead f) v lines = lines
poked_lines (InDeal i f) v lines = lines
poked_lines (InLine i f) v lines = written (row_with (line_with f v) i lines) i lines
