-- The search for the last number that passes a test.
use Rattle.std.specs.Prelude.{◌≡◌, ℕ, ◌≤◌, Bool, false}
use Rattle.valuation.specs.declared.ranges.Units.{Units}
use Rattle.valuation.specs.Best.{largest_up_to}

-- each answer of a test of quantities is what p says of the quantity
abbrev pub Tests : (Units → Bool → Type 0) → (ℕ → Bool) → Type 0
Tests answers p = (quantity : Units) (answer : Bool) → answers quantity answer → answer ≡ p quantity.count

-- once failed, it fails for every larger number
abbrev pub Falls : (ℕ → Bool) → Type 0
Falls p = (a b : ℕ) → a ≤ b → p a ≡ false → p b ≡ false

-- the largest number up to n that passes is the largest up to high, and low if none above it passes
pub record Between (p : ℕ → Bool) (n low high : ℕ) : Type 0 where
  pub ordered : low ≤ high
  pub bounded : high ≤ n
  pub reached : largest_up_to p low ≡ low
  pub kept : largest_up_to p n ≡ largest_up_to p high
