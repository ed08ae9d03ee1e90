-- What a command to a register comes to.
use Rattle.std.specs.Prelude.{ℕ, List, length, Ok, Err, Result}
use Rattle.book.specs.Meaning.{Meaning}
use Rattle.memory.specs.declared.row.Deal.{Deal}
use Rattle.memory.specs.declared.row.Head.{Head}
use Rattle.memory.specs.declared.row.Line.{Line}
use Rattle.panel.specs.declared.refusal.PanelRefusal.{PanelRefusal}
use Rattle.panel.specs.Asking.{owed_to}
use Rattle.register_script.specs.declared.command.RegisterCommand.{RegisterCommand}
use Rattle.register_script.specs.declared.command.RegisterCommand.TheVariants.{Price, Giver, Taker, Match, Withdraw, Panel, Poke, Call}
use Rattle.valuation.specs.declared.price.Price.{Price as PriceRecord}
use Rattle.commands.specs.Answers.{Answer, accepted, misplaced, by_panel}
use Rattle.commands.specs.Hands.{Held, nothing, side_answer, given_after, taken_after, match_answer, matched_after}
use Rattle.commands.specs.Poking.{poke_answer, poked_head, poked_deals, poked_lines}
use Rattle.commands.specs.Pricing.{priced_answer, priced_after}

-- the front panel answers, or refuses
abbrev pub panel_answer : Result ℕ PanelRefusal → Answer
panel_answer (Ok n) = accepted
panel_answer (Err e) = Err (by_panel e)

abbrev pub act_answer : Meaning → Head → List Deal → List Line → List PriceRecord → Held → RegisterCommand → Answer
act_answer m h ds ls ps held (Price q) = priced_answer (length ps) q
act_answer m h ds ls ps held (Giver t) = side_answer t
act_answer m h ds ls ps held (Taker t) = side_answer t
act_answer m h ds ls ps held Match = match_answer held
act_answer m h ds ls ps held Withdraw = accepted
act_answer m h ds ls ps held (Panel a) = panel_answer (owed_to m h ds ls a)
act_answer m h ds ls ps held (Poke p) = poke_answer p.target p.value h ds ls
act_answer m h ds ls ps held (Call c) = misplaced

abbrev pub head_after : Head → RegisterCommand → Head
head_after h (Price q) = h
head_after h (Giver t) = h
head_after h (Taker t) = h
head_after h Match = h
head_after h Withdraw = h
head_after h (Panel a) = h
head_after h (Poke p) = poked_head p.target p.value h
head_after h (Call c) = h

abbrev pub deals_after : List Deal → RegisterCommand → List Deal
deals_after ds (Price q) = ds
deals_after ds (Giver t) = ds
deals_after ds (Taker t) = ds
deals_after ds Match = ds
deals_after ds Withdraw = ds
deals_after ds (Panel a) = ds
deals_after ds (Poke p) = poked_deals p.target p.value ds
deals_after ds (Call c) = ds

abbrev pub lines_after : List Line → RegisterCommand → List Line
lines_after ls (Price q) = ls
lines_after ls (Giver t) = ls
lines_after ls (Taker t) = ls
lines_after ls Match = ls
lines_after ls Withdraw = ls
lines_after ls (Panel a) = ls
lines_after ls (Poke p) = poked_lines p.target p.value ls
lines_after ls (Call c) = ls

abbrev pub prices_after : List PriceRecord → RegisterCommand → List PriceRecord
prices_after ps (Price q) = priced_after q ps
prices_after ps (Giver t) = ps
prices_after ps (Taker t) = ps
prices_after ps Match = ps
prices_after ps Withdraw = ps
prices_after ps (Panel a) = ps
prices_after ps (Poke p) = ps
prices_after ps (Call c) = ps

abbrev pub held_after : Held → RegisterCommand → Held
held_after held (Price q) = held
held_after held (Giver t) = given_after t held
held_after held (Taker t) = taken_after t held
held_after held Match = matched_after held
held_after held Withdraw = nothing
held_after held (Panel a) = held
held_after held (Poke p) = held
held_after held (Call c) = held
