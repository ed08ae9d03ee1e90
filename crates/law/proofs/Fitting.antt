-- Slips that fit the deals and the lines that they meet.
use Rattle.std.proofs.Common.{◌≡◌, ℕ, ◌+◌, ◌<◌, ◌≤◌, true, List, [], ◌∷◌}
use Rattle.memory.specs.declared.row.Deal.{Deal}
use Rattle.memory.specs.declared.row.Line.{Line}
use Rattle.memory.specs.declared.row.Sense.{Sense}
use Rattle.memory.specs.declared.row.Sense.TheVariants.{Out, Back, Cash}
use Rattle.memory.specs.declared.row.Slip.{Slip}
use Rattle.valuation.specs.Most.{most_units}
use Rattle.law.specs.Finding.{has_deal, deal_of, has_line, line_of}
use Rattle.law.specs.Slips.{line_by_sense, issuing}

-- stock out, under the next number, from giver to taker of a deal that stands
pub record Delivers (resources : ℕ) (ds : List Deal) (next : ℕ) (x : Slip) : Type 0 where
  pub numbered : x.number ≡ next
  pub stands : has_deal x.deal ds ≡ true
  pub from : x.from ≡ (deal_of x.deal ds).giver
  pub to : x.to ≡ (deal_of x.deal ds).taker
  pub low : 3 ≤ x.resource
  pub high : x.resource < resources
  pub some : 1 ≤ x.amount
  pub most : x.amount ≤ most_units

-- stock back, from taker to giver, no more than stands on its line
pub record SendsBack (ds : List Deal) (ls : List Line) (x : Slip) : Type 0 where
  pub listed : has_line x.number ls ≡ true
  pub on : (line_of x.number ls).deal ≡ x.deal
  pub of : (line_of x.number ls).security ≡ x.resource
  pub stands : has_deal x.deal ds ≡ true
  pub from : x.from ≡ (deal_of x.deal ds).taker
  pub to : x.to ≡ (deal_of x.deal ds).giver
  pub low : 3 ≤ x.resource
  pub some : 1 ≤ x.amount
  pub enough : x.amount ≤ (line_of x.number ls).quantity

abbrev pub Fit : ℕ → List Deal → ℕ → List Line → Sense → Slip → Type 0
Fit resources ds next ls Out x = Delivers resources ds next x
Fit resources ds next ls Back x = SendsBack ds ls x
Fit resources ds next ls Cash x = x.resource < 3

-- each slip in turn
abbrev pub Fitting : ℕ → List Deal → ℕ → List Slip → List Line → Type 0
Fitting resources ds next [] ls = Unit {0}
Fitting resources ds next (x ∷ xs) ls =
    Fit resources ds next ls x.sense x × Fitting resources ds (next + issuing x.sense) xs (line_by_sense x.sense x ls)
