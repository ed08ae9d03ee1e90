-- The most that each number comes to.
use Rattle.std.specs.Prelude.{ℕ, ◌*◌}

abbrev pub most_cash : ℕ
most_cash = 1_000_000_000_000

-- in millionths a year
abbrev pub most_rate : ℕ
most_rate = 200_000

-- from one close to the next
abbrev pub most_days : ℕ
most_days = 31

-- what interest grows by in a day, and what it comes to at the last date
abbrev pub most_daily : ℕ
most_daily = 600_000_000

abbrev pub most_whole : ℕ
most_whole = most_daily * 65_535
