-- A walk over the lines, in which each line of a deal gets its part.
use Rattle.std.specs.Prelude.{◌≡◌, ℕ, ◌+◌, List, ◌++◌, length, take, drop}
use Rattle.sharing.specs.Parts.{total_of}
use Rattle.sharing.specs.Tables.{picked, shared_from}
use Rattle.valuation.specs.declared.currency.Currency.{Currency}
use Rattle.valuation.specs.declared.price.Price.{Price}
use Rattle.memory.specs.declared.row.Line.{Line}
use Rattle.tables.specs.declared.sharing_out.Walk.{Walk}
use Rattle.tables.specs.Values.{line_worth, on_deal, with_part}

module _ (worth : ℕ → ℕ → ℕ → ℕ) (currency : Currency) (ps : List Price) (n : ℕ) where
  -- what the lines of deal n are worth, one by one
  abbrev pub worths_on : List Line → List ℕ
  worths_on ls = picked (on_deal n) (line_worth worth currency ps) ls

  -- a walk that has come to line i: the worth of the lines before it, and how many there are from it on
  pub record Reached (total : ℕ) (ls : List Line) (i : ℕ) (w : Walk) : Type 0 where
    pub rest : w.before + total_of (worths_on (drop i ls)) ≡ total
    pub count : w.left ≡ length (worths_on (drop i ls))

  -- the lines, of which those from i on are still to get their parts
  abbrev pub walked : ℕ → ℕ → ℕ → ℕ → List Line → List Line
  walked cash total before i ls = take i ls ++ shared_from (on_deal n) (line_worth worth currency ps) with_part cash total before (drop i ls)
