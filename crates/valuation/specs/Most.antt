-- The largest number of each kind.
use Rattle.std.specs.Prelude.{ℕ}

-- thousandths of a minor unit
abbrev pub most_price : ℕ
most_price = 100_000_000

-- hundredths of a percent
abbrev pub most_haircut : ℕ
most_haircut = 10_000

abbrev pub most_margin : ℕ
most_margin = 5_000

abbrev pub most_units : ℕ
most_units = 1_000_000_000

-- minor units
abbrev pub most_sought : ℕ
most_sought = 1_000_000_000_000

abbrev pub most_worth : ℕ
most_worth = 100_000_000_000_000
