-- Numbers in their ranges.
use Rattle.std.specs.Prelude.{ℕ, cond, ◌&&◌, Some, None, Option, nat_le}
use Rattle.valuation.specs.declared.ranges.Quote.{Quote}
use Rattle.valuation.specs.declared.ranges.Units.{Units}
use Rattle.valuation.specs.declared.ranges.Sought.{Sought}
use Rattle.valuation.specs.declared.ranges.Margin.{Margin}

-- a number from low to high, or nothing
abbrev pub ranged : ℕ → ℕ → ℕ → Option ℕ
ranged low high n = cond (nat_le low n && nat_le n high) (Some n) None

-- the numbers that are held: by these alone two of a kind differ
abbrev pub terms : Quote → ℕ × ℕ
terms q = (q.price, q.haircut)

abbrev pub counted : Units → ℕ
counted u = u.count

abbrev pub valued : Sought → ℕ
valued s = s.value

abbrev pub rated : Margin → ℕ
rated m = m.margin
