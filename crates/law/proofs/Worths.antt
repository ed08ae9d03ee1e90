-- What lines are worth, when a line comes, falls or goes.
use Rattle.std.proofs.Common.{◌≡◌, ℕ, ◌+◌, ◌<◌, ◌≤◌, true, cond, eqb, ltb, List, [], ◌∷◌, refl, ap, arith}
use Rattle.std.proofs.lemmas.Bool.{and_parts, and_from, leb-true, le-leb}
use Rattle.memory.specs.declared.row.Deal.{Deal}
use Rattle.memory.specs.declared.row.Line.{Line}
use Rattle.memory.specs.declared.row.Weighing.{Weighing}
use Rattle.memory.specs.declared.row.Weighing.TheVariants.{Margin, Haircut}
use Rattle.memory.specs.Deals.{worth_by}
use Rattle.tables.specs.Values.{priced, deal_worth}
use Rattle.valuation.specs.declared.price.Price.{Price}
use Rattle.valuation.specs.Most.{most_units}
use Rattle.valuation.specs.Prices.{price_in, in_ranges}
use Rattle.gathering.specs.Law.{record_of}
use Rattle.valuation.specs.Bounds.{market_more, haircut_more, haircut_less}
use Rattle.valuation.specs.Worth.{market_value}
use Rattle.law.specs.Sums.{only, total}
use Rattle.law.specs.Calls.{units_worth, quantity_worth, worth_on_line, worth_on}
use Rattle.law.proofs.Totals.{by_test}

pub worth_none : (w : Weighing) (price haircut : ℕ) → worth_by w price haircut 0 ≡ 0
worth_none Margin price haircut = omega arith
worth_none Haircut price haircut = omega (arith, haircut_less haircut (market_value price 0))

pub worth_more : (w : Weighing) (price haircut a b : ℕ) → a ≤ b → worth_by w price haircut a ≤ worth_by w price haircut b
worth_more Margin price haircut a b l = market_more price a b l
worth_more Haircut price haircut a b l = haircut_more haircut _ _ (market_more price a b l)

pub units_more : (ps : List Price) (d : Deal) (s a b : ℕ) → a ≤ b → units_worth ps d s a ≤ units_worth ps d s b
units_more ps d s a b l = worth_more d.weighing _ _ a b l

-- the lines of a deal as a sum
pub worth_total : (ps : List Price) (d : Deal) (ls : List Line) → worth_on ps d ls ≡ total (λ l. only (eqb l.deal d.number) (worth_on_line ps d l)) ls
unfolding deal_worth
worth_total ps d [] = refl
worth_total ps d (l ∷ ls) =
    by_test (eqb l.deal d.number) (λ b. cond b (worth_on_line ps d l) 0 + worth_on ps d ls ≡ only b (worth_on_line ps d l) + total (λ l. only (eqb l.deal d.number) (worth_on_line ps d l)) ls)
    (λ e. omega (arith, worth_total ps d ls)) (λ e. omega (arith, worth_total ps d ls))

module _ (ps : List Price) (d : Deal) (s : ℕ) where
  -- with a price, a quantity that a line can have is worth what its units are
  pub quantity_priced : (q : ℕ) → priced (worth_by d.weighing) d.currency ps s q ≡ true → quantity_worth ps d s q ≡ units_worth ps d s q
  quantity_priced q t = ap (λ b. cond b (units_worth ps d s q) 0) t

  pub quantity_none : quantity_worth ps d s 0 ≡ 0
  quantity_none =
      by_test (priced (worth_by d.weighing) d.currency ps s 0) (λ b. cond b (units_worth ps d s 0) 0 ≡ 0)
      (λ e. worth_none d.weighing _ _) (λ e. refl)

  pub priced_some : (q : ℕ) → 0 < quantity_worth ps d s q → priced (worth_by d.weighing) d.currency ps s q ≡ true
  priced_some q l =
      by_test (priced (worth_by d.weighing) d.currency ps s q) (λ b. 0 < cond b (units_worth ps d s q) 0 → b ≡ true)
      (λ e k. refl) (λ e k. let z : ⊥ = omega (arith, k) in absurd z) l

  pub priced_less : (q r : ℕ) → r ≤ q → priced (worth_by d.weighing) d.currency ps s q ≡ true → priced (worth_by d.weighing) d.currency ps s r ≡ true
  priced_less q r l t =
      let a = and_parts (in_ranges (record_of ps s)) _ t in
      let b = and_parts (ltb 0 (price_in d.currency (record_of ps s))) _ a.1 in
      let few : q ≤ most_units = leb-true q most_units b.1 in
      let few' : r ≤ most_units = omega (arith, few, l) in
      and_from _ _ a.0 (and_from _ _ b.0 (le-leb r most_units few'))

  pub quantity_more : (a b : ℕ) → a ≤ b → b ≤ most_units → quantity_worth ps d s a ≤ quantity_worth ps d s b
  quantity_more a b l few =
      by_test (priced (worth_by d.weighing) d.currency ps s a) (λ t. priced (worth_by d.weighing) d.currency ps s a ≡ t → cond t (units_worth ps d s a) 0 ≤ quantity_worth ps d s b)
      (λ e t.
      let x = and_parts (in_ranges (record_of ps s)) _ t in
      let y = and_parts (ltb 0 (price_in d.currency (record_of ps s))) _ x.1 in
      let p : priced (worth_by d.weighing) d.currency ps s b ≡ true = and_from _ _ x.0 (and_from _ _ y.0 (le-leb b most_units few)) in
      rw (quantity_priced b p) (worth_more d.weighing _ _ a b l))
      (λ e t. omega arith) refl
