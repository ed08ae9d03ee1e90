-- The valuation of a deal, as one type.
use Rattle.std.specs.Prelude.{ℕ}
use Rattle.valuation.specs.Worth.{market_value, less_haircut, with_margin}
use Rattle.memory.specs.declared.valuer.Valuer.{Valuer}
use Rattle.memory.specs.declared.valuer.Valuer.TheVariants.{Margin, Haircut}

abbrev pub valuer_worth : Valuer → ℕ → ℕ → ℕ → ℕ
valuer_worth (Margin m) price haircut quantity = market_value price quantity
valuer_worth (Haircut h) price haircut quantity = less_haircut haircut (market_value price quantity)

abbrev pub valuer_target : Valuer → ℕ → ℕ
valuer_target (Margin m) sought = with_margin m.margin sought
valuer_target (Haircut h) sought = sought

-- what a valuation says: a worth by price, haircut and quantity, and a target for each value sought
abbrev pub meaning_of : Valuer → (ℕ → ℕ → ℕ → ℕ) × (ℕ → ℕ)
meaning_of v = (valuer_worth v, valuer_target v)
