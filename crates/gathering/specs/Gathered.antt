-- What is gathered for an order.
use Rattle.std.specs.Prelude.{ℕ, ◌+◌, ◌-◌, cond, List, [], ◌∷◌, ◌++◌, length, drop, Some, None, Option, ◌==◌, nat_le}
use Rattle.std.specs.Option.{option_map}
use Rattle.book.specs.Meaning.{Meaning}
use Rattle.valuation.specs.declared.price.Price.{Price}
use Rattle.gathering.specs.declared.order.Order.{Order}
use Rattle.gathering.specs.declared.order.Pick.{Pick}
use Rattle.gathering.specs.Baskets.{most_picks}
use Rattle.gathering.specs.Taking.{value_of, security_at, passed_over, quantity_for}

abbrev pub pick_of : ℕ → ℕ → Pick
pick_of s q = record { security = s; quantity = q }

-- from the record at place k on, where a need is open and so many securities were taken
unfoldable pub gathered_from : Meaning → (ℕ → ℕ → ℕ → ℕ) → Order → List ℕ → ℕ → ℕ → ℕ → List Price → Option (List Pick)
gathered_from m worth o held k need count [] = cond (need == 0) (Some []) None
gathered_from m worth o held k need count (p ∷ ps) =
    cond (need == 0) (Some [])
    (cond (nat_le most_picks count) None
    (cond (passed_over m worth o held p k) (gathered_from m worth o held (k + 1) need count ps)
    (option_map (λ picks. pick_of (security_at k) (quantity_for m worth o held p k need) ∷ picks)
    (gathered_from m worth o held (k + 1) (need - value_of worth o p (quantity_for m worth o held p k need)) (count + 1) ps))))

-- by a book's meaning, what a price, a haircut and a quantity are worth, the price list, the order, and what the deal's own lines in each security are worth
unfoldable pub gathered : Meaning → (ℕ → ℕ → ℕ → ℕ) → List Price → Order → List ℕ → Option (List Pick)
gathered m worth ps o held = gathered_from m worth o held 0 o.need 0 ps

-- picks that were taken, and then what is gathered from place k on for the need that is still open
unfoldable pub completed : Meaning → (ℕ → ℕ → ℕ → ℕ) → List Price → Order → List ℕ → ℕ → ℕ → List Pick → Option (List Pick)
completed m worth ps o held k need picks = option_map (λ more. picks ++ more) (gathered_from m worth o held k need (length picks) (drop k ps))
