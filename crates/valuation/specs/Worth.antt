-- What a quantity is worth, and what is to be gathered for a value sought, in minor units.
use Rattle.std.specs.Prelude.{ℕ, ◌+◌, ◌-◌, ◌*◌, ◌/◌}

-- at a price in thousandths, rounded down
abbrev pub market_value : ℕ → ℕ → ℕ
market_value price quantity = quantity * price / 1_000

-- less a haircut in hundredths of a percent, rounded down
abbrev pub less_haircut : ℕ → ℕ → ℕ
less_haircut haircut value = value * (10_000 - haircut) / 10_000

-- ten-thousandths in whole units, rounded up
abbrev pub rounded_up : ℕ → ℕ
rounded_up n = (n + 9_999) / 10_000

-- with a margin in hundredths of a percent on top, which is rounded up
abbrev pub with_margin : ℕ → ℕ → ℕ
with_margin margin sought = sought + rounded_up (sought * margin)
