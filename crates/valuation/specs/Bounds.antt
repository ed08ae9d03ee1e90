-- Bounds of what quantities are worth. Assumes nothing.
use Rattle.std.specs.Prelude.{ℕ, ◌-◌, ◌*◌, ◌≤◌}
use Rattle.std.proofs.Common.{arith, Fits}
use Rattle.std.specs.Int.{w64}
use Rattle.std.proofs.lemmas.Nat.{mul-le}
use Rattle.valuation.specs.Most.{most_price, most_units, most_worth}
use Rattle.valuation.specs.Worth.{market_value, less_haircut}

pub market_more : (p a b : ℕ) → a ≤ b → market_value p a ≤ market_value p b
market_more p a b h = let same : p ≤ p = omega arith in omega (arith, mul-le a p b p h same)

pub market_most : (p q : ℕ) → p ≤ most_price → q ≤ most_units → market_value p q ≤ most_worth
market_most p q hp hq = omega (arith, mul-le q p most_units most_price hq hp)

pub haircut_more : (h a b : ℕ) → a ≤ b → less_haircut h a ≤ less_haircut h b
haircut_more h a b le = let same : 10000 - h ≤ 10000 - h = omega arith in omega (arith, mul-le a (10000 - h) b (10000 - h) le same)

pub haircut_less : (h a : ℕ) → less_haircut h a ≤ a
haircut_less h a = let low : 10000 - h ≤ 10000 = omega arith in let same : a ≤ a = omega arith in omega (arith, mul-le a (10000 - h) a 10000 same low)

-- a market value may be multiplied by any rate
pub rate_fits : (a b : ℕ) → a ≤ most_worth → b ≤ 100000 → Fits w64 (a * b)
rate_fits a b ha hb = omega (arith, mul-le a b most_worth 100000 ha hb)
