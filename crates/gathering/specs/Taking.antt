-- What may be taken of a security, and what is taken.
use Rattle.std.specs.Prelude.{ℕ, ◌+◌, ◌/◌, min, Bool, cond, not, ◌&&◌, ◌||◌, List, Some, None, Option, ◌==◌, nat_le, slice_index}
use Rattle.std.specs.Option.{unwrap_or}
use Rattle.book.specs.Meaning.{Meaning, free}
use Rattle.valuation.specs.declared.price.Price.{Price}
use Rattle.valuation.specs.Best.{largest_up_to, smallest_up_to, at_least}
use Rattle.valuation.specs.Most.{most_units}
use Rattle.valuation.specs.Prices.{price_in, in_ranges, eligible_in}
use Rattle.gathering.specs.declared.order.Order.{Order}
use Rattle.gathering.specs.declared.taking.Taken.{Taken}

-- ── by w, which says what each quantity of the security is worth ──

-- where the order has the limit: with what the deal has beside it, a quantity is worth at most a tenth of the target, rounded down
abbrev pub within_limit : Order → (ℕ → ℕ) → ℕ → ℕ → Bool
within_limit o w beside q = not o.limit || nat_le (w q + beside) (o.target / 10)

-- the largest quantity within the limit, of so many free units
abbrev pub most_within : Order → (ℕ → ℕ) → ℕ → ℕ → ℕ
most_within o w beside units = largest_up_to (within_limit o w beside) (min most_units units)

-- nothing may be taken, or the most that may be is worth nothing
abbrev pub worthless : (ℕ → ℕ) → ℕ → Bool
worthless w most = most == 0 || w most == 0

-- the smallest quantity that covers the need, or the most where none up to it does
abbrev pub taken_for : (ℕ → ℕ) → ℕ → ℕ → ℕ
taken_for w need most = unwrap_or (smallest_up_to (at_least w need) most) most

-- ── by the security's price record p, at place k of the list ──

abbrev pub security_at : ℕ → ℕ
security_at k = 3 + k

-- a record out of its ranges has no price
abbrev pub eligible : Order → Price → Bool
eligible o p = in_ranges p && eligible_in o.class o.currency p

abbrev pub value_of : (ℕ → ℕ → ℕ → ℕ) → Order → Price → ℕ → ℕ
value_of worth o p = worth (price_in o.currency p) p.haircut

-- held says for each place what the deal's own lines in the security are worth
module _ (m : Meaning) (worth : ℕ → ℕ → ℕ → ℕ) (o : Order) (held : List ℕ) (p : Price) (k : ℕ) where
  -- the most that may be taken
  abbrev pub most_of : ℕ
  most_of = cond (eligible o p) (most_within o (value_of worth o p) (slice_index held k) (free m o.giver (security_at k))) 0

  abbrev pub passed_over : Bool
  passed_over = worthless (value_of worth o p) most_of

  -- the quantity that is taken where a need is open
  abbrev pub quantity_for : ℕ → ℕ
  quantity_for need = taken_for (value_of worth o p) need most_of

  -- the pick and what it is worth, or nothing
  abbrev pub taken_at : ℕ → Option Taken
  taken_at need =
      cond passed_over None
      (Some (record { pick = record { security = security_at k; quantity = quantity_for need }; worth = value_of worth o p (quantity_for need) }))
