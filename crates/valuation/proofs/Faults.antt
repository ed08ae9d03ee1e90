-- The first fault of a price list. Assumes nothing.
use Rattle.std.proofs.Common.{◌≡◌, ℕ, ◌+◌, ◌-◌, ◌<◌, ◌≤◌, ◌≢◌, ◌⊎◌, true, false, not, List, length, get_or, Some, None, Option, sym, refl, inl, inr, arith, MatchOption}
use Rattle.std.proofs.lemmas.Grind.{common_steps}
use Rattle.std.proofs.lemmas.List.Quantifiers.{position-Some}
use Rattle.std.proofs.lemmas.List.Sums.{fails_before_first}
use Rattle.std.proofs.lemmas.Bool.{cases_eq, eq-eqb, ne_eqb}
use Rattle.std.proofs.lemmas.Bool.Decides.{nat_tests}
use Rattle.valuation.specs.declared.currency.Currency.{Currency}
use Rattle.valuation.specs.declared.currency.Currency.TheVariants.{Gbp, Eur, Usd}
use Rattle.valuation.specs.declared.price.Price.{Price}
use Rattle.valuation.specs.Prices.{price_in, in_ranges, admits, eligible_in, first_fault, fault_of, quoted, no_price}
use Rattle.valuation.specs.Most.{most_price, most_haircut}
use Rattle.valuation.specs.Stands.{Faultless, FirstFault, Faults}

-- the first record out of its ranges, as `position` finds it
module _ (resources : ℕ) (ps : List Price) where
  by_position : (o : Option ℕ) → o ≡ first_fault ps → (3 + length ps ≡ resources) → MatchOption o (Faultless resources ps) (λ k. ((3 + length ps ≢ resources) × (k ≡ 0)) ⊎ FirstFault ps k)
  by_position None e count = record { count = count; each = λ k h. let ok = fails_before_first (λ p. not (in_ranges p)) ps k no_price (grind (arith, common_steps)) in grind (arith, common_steps) }
  by_position (Some k) e count =
      let first = position-Some (λ p. not (in_ranges p)) ps k no_price (sym e) in
      inr (record { listed = first.0; faulty = grind (arith, common_steps, first.1); before = λ j h. let ok = first.2 j h in grind (arith, common_steps) })

pub faults : Faults
faults resources ps =
    elim (cases_eq (3 + length ps) resources) [
      | inl e ↦ rw (eq-eqb (3 + length ps) resources e) (by_position resources ps (first_fault ps) refl e)
      | inr ne ↦ rw (ne_eqb (3 + length ps) resources ne) (inl (ne, refl))
    ]

-- a record in its ranges
pub record InRanges (p : Price) : Type 0 where
  pub category : p.category < 16
  pub haircut : p.haircut ≤ most_haircut
  pub price : (c : Currency) → price_in c p ≤ most_price

pub in_ranges_lem : (p : Price) → in_ranges p ≡ true → InRanges p
in_ranges_lem p h = record { category = grind (arith, nat_tests); haircut = grind (arith, nat_tests); price = λ c. elim c as (λ x. price_in x p ≤ most_price) [ Gbp ↦ grind (arith, nat_tests) | Eur ↦ grind (arith, nat_tests) | Usd ↦ grind (arith, nat_tests) ] }

-- a list with no fault
pub faultless : (resources : ℕ) (ps : List Price) → None ≡ fault_of resources ps → Faultless resources ps
faultless resources ps e = let cases = faults resources ps in rw (sym e) at cases

-- the record of a security
pub security_in_ranges : (resources : ℕ) (ps : List Price) → None ≡ fault_of resources ps → (security : ℕ) → 3 ≤ security → security < resources → InRanges (get_or ps (security - 3) no_price)
security_in_ranges resources ps e s low high =
    let f = faultless resources ps e in
    in_ranges_lem (get_or ps (s - 3) no_price) (f.each (s - 3) (omega (arith, f.count)))

-- an eligible security
pub record Eligible (class : ℕ) (c : Currency) (p : Price) : Type 0 where
  pub admitted : admits class p.category ≡ true
  pub included : p.excluded ≡ false
  pub priced : 0 < price_in c p

pub eligible_is : (class : ℕ) (c : Currency) (p : Price) → true ≡ eligible_in class c p → Eligible class c p
eligible_is class c p h = record { admitted = grind (arith, nat_tests); included = grind (arith, nat_tests); priced = grind (arith, nat_tests) }

-- an eligible security in its ranges has a quote
pub quoted_eligible : (class : ℕ) (c : Currency) (p : Price) → in_ranges p ≡ true → true ≡ eligible_in class c p → quoted c p ≡ Some (price_in c p, p.haircut)
quoted_eligible class c p r h = grind (arith, nat_tests)
