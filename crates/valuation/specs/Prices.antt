-- What a price record and a price list state.
use Rattle.std.specs.Prelude.{ℕ, ◌+◌, ◌/◌, ◌%◌, ◌^◌, Bool, false, cond, not, ◌&&◌, List, length, position, Some, None, Option, ◌==◌, nat_le, nat_lt}
use Rattle.valuation.specs.declared.currency.Currency.{Currency}
use Rattle.valuation.specs.declared.currency.Currency.TheVariants.{Gbp, Eur, Usd}
use Rattle.valuation.specs.declared.price.Price.{Price}
use Rattle.valuation.specs.Most.{most_price, most_haircut}

-- thousandths of a minor unit; 0 is no price
abbrev pub price_in : Currency → Price → ℕ
price_in Gbp p = p.gbp
price_in Eur p = p.eur
price_in Usd p = p.usd

abbrev pub in_ranges : Price → Bool
in_ranges p = nat_le p.category 15 && (nat_le p.haircut most_haircut && (nat_le p.gbp most_price && (nat_le p.eur most_price && nat_le p.usd most_price)))

-- a class is sixteen bits, and the bit of the category is set
abbrev pub admits : ℕ → ℕ → Bool
admits class category = nat_lt category 16 && class / 2 ^ category % 2 == 1

-- the class admits its category, it is not excluded, and it has a price in the currency
abbrev pub eligible_in : ℕ → Currency → Price → Bool
eligible_in class currency p = admits class p.category && (not p.excluded && nat_lt 0 (price_in currency p))

-- the place of the first record out of its ranges
abbrev pub first_fault : List Price → Option ℕ
first_fault ps = position (λ p. not (in_ranges p)) ps

-- the fault of a list, which has a record for each resource but the three currencies
abbrev pub fault_of : ℕ → List Price → Option ℕ
fault_of resources ps = cond (3 + length ps == resources) (first_fault ps) (Some 0)

-- the price and the haircut of a record in its ranges that has a price in the currency
abbrev pub quoted : Currency → Price → Option (ℕ × ℕ)
quoted currency p = cond (in_ranges p && nat_lt 0 (price_in currency p)) (Some (price_in currency p, p.haircut)) None

abbrev pub no_price : Price
no_price = record { category = 0; excluded = false; haircut = 0; gbp = 0; eur = 0; usd = 0 }
