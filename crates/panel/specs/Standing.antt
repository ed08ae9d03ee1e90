-- What stands on the lines of deals that an account is a party to.
use Rattle.std.specs.Prelude.{◌≡◌, ℕ, ◌+◌, ◌-◌, ◌≤◌, Bool, false, cond, List, [], ◌∷◌, ◌++◌, length, take, drop, Some, None, sum_by, filter, Option, All, ◌==◌}
use Rattle.book.specs.Totals.{sum_below}
use Rattle.memory.specs.declared.row.Deal.{Deal}
use Rattle.memory.specs.declared.row.Head.{Head}
use Rattle.memory.specs.declared.row.Line.{Line}
use Rattle.memory.specs.Places.{Rising, deal_numbers}
use Rattle.memory.specs.Sound.{used_deals, used_lines}
use Rattle.valuation.specs.Most.{most_units}
use Rattle.panel.specs.declared.party.Party.{Party}
use Rattle.panel.specs.declared.party.Party.TheVariants.{Giver, Taker}

abbrev pub party_of : Party → Deal → ℕ
party_of Giver d = d.giver
party_of Taker d = d.taker

-- the deal of that number has the account for this party
unfoldable pub is_party : Party → ℕ → ℕ → List Deal → Bool
is_party p account n [] = false
is_party p account n (d ∷ ds) = cond (d.number == n) (party_of p d == account) (is_party p account n ds)

abbrev pub on_side : Party → ℕ → List Deal → Line → Bool
on_side p account ds l = is_party p account l.deal ds

-- the lines of deals that have the account for this party
abbrev pub lines_of : Party → ℕ → List Deal → List Line → List Line
lines_of p account ds ls = filter (on_side p account ds) ls

-- what a line has of a security; of any where none is named
abbrev pub quantity_of : Option ℕ → Line → ℕ
quantity_of (Some s) l = cond (l.security == s) l.quantity 0
quantity_of None l = l.quantity

abbrev pub quantity_on : Option ℕ → List Line → ℕ
quantity_on o ls = sum_by (quantity_of o) ls

-- ── over the register's memory ──

-- what stands of a security on the lines that the account gives, and on those that it takes
abbrev pub standing : Party → ℕ → ℕ → Head → List Deal → List Line → ℕ
standing p account s h deals lines = quantity_on (Some s) (lines_of p account (used_deals h deals) (used_lines h lines))

-- over all securities, which are the resources from 3 on
abbrev pub standing_in_all : Party → ℕ → ℕ → Head → List Deal → List Line → ℕ
standing_in_all p account resources h deals lines = sum_below (λ k. standing p account (3 + k) h deals lines) (resources - 3)

-- what is still to come back to the account, of a security and of all
abbrev pub given : ℕ → ℕ → Head → List Deal → List Line → ℕ
given account s h deals lines = standing Giver account s h deals lines

abbrev pub given_in_all : ℕ → ℕ → Head → List Deal → List Line → ℕ
given_in_all account resources h deals lines = standing_in_all Giver account resources h deals lines

-- the lines that are to come back to the account
abbrev pub open_returns : ℕ → Head → List Deal → List Line → List Line
open_returns account h deals lines = lines_of Giver account (used_deals h deals) (used_lines h lines)

-- rows from the first place on, as many as there is room for; the later places stay
abbrev pub listed : List Line → List Line → List Line
listed rows places = take (length places) rows ++ drop (length rows) places

-- ── what a sound register gives ──

-- the used rows are as many as there may be, deals are found by their numbers, and lines can be counted
pub record Orderly (h : Head) (deals : List Deal) (lines : List Line) : Type 0 where
  pub rise : Rising (deal_numbers h deals)
  pub few : h.used.lines ≤ 1024
  pub within : h.used.lines ≤ length lines
  pub each : All (λ l. l.quantity ≤ most_units) (used_lines h lines)

-- every line is in one of the securities
pub record Whole (resources : ℕ) (h : Head) (deals : List Deal) (lines : List Line) : Type 0 where
  pub total : (p : Party) (account : ℕ) → quantity_on None (lines_of p account (used_deals h deals) (used_lines h lines)) ≡ standing_in_all p account resources h deals lines
