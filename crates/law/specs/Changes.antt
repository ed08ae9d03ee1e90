-- How a call changes the deals.
use Rattle.std.specs.Prelude.{ℕ, List, [], ◌∷◌, ◌++◌, map}
use Rattle.memory.specs.declared.row.Deal.{Deal}
use Rattle.memory.specs.Deals.{less_cash, amended as amended_to, grown as grown_by}
use Rattle.memory.specs.Sound.{number}
use Rattle.law.specs.Finding.{replaced}

pub data Change : Type 0 where
  -- every deal stays as it is
  none : Change
  -- a deal comes
  added : Deal → Change
  -- a deal's standing cash falls by a part
  lowered : ℕ → ℕ → Change
  -- a deal gets a rate and a return day
  amended : ℕ → ℕ → ℕ → Change
  -- every deal accrues for some days
  grown : ℕ → Change
  -- a deal goes
  gone : ℕ → Change

abbrev pub deals_by : Change → List Deal → List Deal
deals_by none ds = ds
deals_by (added d) ds = ds ++ (d ∷ [])
deals_by (lowered n part) ds = replaced number n (λ d. less_cash part d ∷ []) ds
deals_by (amended n rate due) ds = replaced number n (λ d. amended_to rate due d ∷ []) ds
deals_by (grown days) ds = map (grown_by days) ds
deals_by (gone n) ds = replaced number n (λ _. []) ds

-- a deal number is issued for a deal that comes
abbrev pub numbers_by : Change → ℕ
numbers_by none = 0
numbers_by (added d) = 1
numbers_by (lowered n part) = 0
numbers_by (amended n rate due) = 0
numbers_by (grown days) = 0
numbers_by (gone n) = 0
