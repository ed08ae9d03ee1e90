-- What the lines of a deal are worth, and how its standing cash is shared out over them.
use Rattle.std.specs.Prelude.{ℕ, ◌+◌, Bool, cond, ◌&&◌, List, [], ◌∷◌, ◌++◌, map, take, drop, ◌==◌, nat_le, nat_lt}
use Rattle.std.specs.List.{range_with_len}
use Rattle.sharing.specs.Tables.{shared}
use Rattle.valuation.specs.declared.currency.Currency.{Currency}
use Rattle.valuation.specs.declared.price.Price.{Price}
use Rattle.valuation.specs.Most.{most_units}
use Rattle.valuation.specs.Prices.{price_in, in_ranges}
use Rattle.gathering.specs.Law.{record_of}
use Rattle.memory.specs.declared.row.Line.{Line}

-- worth says what a price, a haircut and a quantity come to
module _ (worth : ℕ → ℕ → ℕ → ℕ) (currency : Currency) (ps : List Price) where
  -- a quantity of a security has a price, and is no more than a line can have
  abbrev pub priced : ℕ → ℕ → Bool
  priced s q = in_ranges (record_of ps s) && (nat_lt 0 (price_in currency (record_of ps s)) && nat_le q most_units)

  -- what a quantity of a security is worth; without a price it is 0
  abbrev pub worth_of : ℕ → ℕ → ℕ
  worth_of s q = cond (priced s q) (worth (price_in currency (record_of ps s)) (record_of ps s).haircut q) 0

  abbrev pub line_worth : Line → ℕ
  line_worth l = worth_of l.security l.quantity

  -- the lines of deal n together
  unfoldable pub deal_worth : ℕ → List Line → ℕ
  deal_worth n [] = 0
  deal_worth n (l ∷ ls) = cond (l.deal == n) (line_worth l) 0 + deal_worth n ls

  -- those of them that are in security s
  unfoldable pub held_worth : ℕ → ℕ → List Line → ℕ
  held_worth n s [] = 0
  held_worth n s (l ∷ ls) = cond (l.deal == n && l.security == s) (line_worth l) 0 + held_worth n s ls

  -- for each security from 3 on
  unfoldable pub held_worths : ℕ → List Line → List ℕ
  held_worths n ls = map (λ k. held_worth n (3 + k) ls) (range_with_len 0 125)

abbrev pub on_deal : ℕ → Line → Bool
on_deal n l = l.deal == n

abbrev pub with_part : Line → ℕ → Line
with_part l part = record { number = l.number; deal = l.deal; security = l.security; quantity = l.quantity; part = part }

-- cash shared out over the lines of deal n
abbrev pub shared_out : (ℕ → ℕ → ℕ → ℕ) → Currency → List Price → ℕ → ℕ → List Line → List Line
shared_out worth currency ps n cash ls = shared (on_deal n) (line_worth worth currency ps) with_part cash ls

-- the same in a table of which so many rows are used
abbrev pub shared_in : (ℕ → ℕ → ℕ → ℕ) → Currency → List Price → ℕ → ℕ → ℕ → List Line → List Line
shared_in worth currency ps n cash used rows = shared_out worth currency ps n cash (take used rows) ++ drop used rows
