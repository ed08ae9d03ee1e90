-- What the definitions come to, in the words of the subject.
use Rattle.std.specs.Prelude.{◌≡◌, ℕ, ◌+◌, ◌*◌, ◌/◌, ◌<◌, ◌≤◌, Bool, true, false, ◌≢◌, ◌⊎◌, List, length, MatchOption, slice_index_or}
use Rattle.valuation.specs.declared.price.Price.{Price}
use Rattle.valuation.specs.Prices.{in_ranges, fault_of, no_price}
use Rattle.valuation.specs.Worth.{market_value, rounded_up, with_margin}
use Rattle.valuation.specs.Best.{largest_up_to, smallest_up_to}

-- m is within the bound n, it passes where any number does, none that passes is larger, and it is 0 where none passes
pub record IsLargest (p : ℕ → Bool) (n m : ℕ) : Type 0 where
  pub bounded : m ≤ n
  pub passes : (k : ℕ) → k ≤ n → p k ≡ true → p m ≡ true
  pub largest : (k : ℕ) → k ≤ n → p k ≡ true → k ≤ m
  pub none : ((k : ℕ) → k ≤ n → p k ≡ false) → m ≡ 0

abbrev pub Largest : Type 0
Largest = (p : ℕ → Bool) (n : ℕ) → IsLargest p n (largest_up_to p n)

-- m is 1 or more and within the bound n, it passes, and none that passes is smaller
pub record IsSmallest (p : ℕ → Bool) (n m : ℕ) : Type 0 where
  pub some : 1 ≤ m
  pub bounded : m ≤ n
  pub passes : p m ≡ true
  pub smallest : (k : ℕ) → 1 ≤ k → k ≤ n → p k ≡ true → m ≤ k

abbrev pub NonePasses : (ℕ → Bool) → ℕ → Type 0
NonePasses p n = (k : ℕ) → 1 ≤ k → k ≤ n → p k ≡ false

abbrev pub Smallest : Type 0
Smallest = (p : ℕ → Bool) (n : ℕ) → MatchOption (smallest_up_to p n) (NonePasses p n) (IsSmallest p n)

-- a record for each security of a book with so many resources, each in its ranges
pub record Faultless (resources : ℕ) (ps : List Price) : Type 0 where
  pub count : 3 + length ps ≡ resources
  pub each : (k : ℕ) → k < length ps → in_ranges (slice_index_or ps k no_price) ≡ true

-- the record at k is out of its ranges, and none before it is
pub record FirstFault (ps : List Price) (k : ℕ) : Type 0 where
  pub listed : k < length ps
  pub faulty : in_ranges (slice_index_or ps k no_price) ≡ false
  pub before : (j : ℕ) → j < k → in_ranges (slice_index_or ps j no_price) ≡ true

abbrev pub Faults : Type 0
Faults = (resources : ℕ) (ps : List Price) → MatchOption (fault_of resources ps) (Faultless resources ps) (λ k. ((3 + length ps ≢ resources) × (k ≡ 0)) ⊎ FirstFault ps k)

-- the smallest number of whole units that is enough for so many ten-thousandths
abbrev pub Rounded : Type 0
Rounded = (n : ℕ) → (n ≤ 10_000 * rounded_up n) × ((k : ℕ) → n ≤ 10_000 * k → rounded_up n ≤ k)

-- the tenth of a target is not the tenth of the value sought; values are rounded down
pub record Figures : Type 0 where
  pub target : with_margin 800 50_000_000_000 ≡ 54_000_000_000
  pub tenth : with_margin 800 50_000_000_000 / 10 ≡ 5_400_000_000
  pub tenth_sought : 50_000_000_000 / 10 ≡ 5_000_000_000
  pub differ : with_margin 800 50_000_000_000 / 10 ≢ 50_000_000_000 / 10
  pub one : market_value 999 1 ≡ 0
  pub two : market_value 999 2 ≡ 1
