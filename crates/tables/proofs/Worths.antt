-- What lines are worth. Assumes nothing.
use Rattle.std.proofs.Common.{◌≡◌, ℕ, ◌+◌, ◌-◌, ◌*◌, ◌≤◌, Bool, true, false, cond, ltb, List, [], ◌∷◌, length, None, sym, refl, ap, ◌∙◌, inl, inr, arith}
use Rattle.std.proofs.lemmas.List.{get_or_past}
use Rattle.std.proofs.lemmas.List.Sums.{sum_by-cons}
use Rattle.std.specs.List.{sum_by, filter}
use Rattle.std.proofs.lemmas.Bool.{and_parts, cases_Bool, cond_both, leb-true}
use Rattle.std.proofs.lemmas.Bool.Decides.{nat_tests}
use Rattle.sharing.specs.Parts.{total_of}
use Rattle.sharing.specs.Tables.{picked}
use Rattle.valuation.specs.declared.currency.Currency.{Currency}
use Rattle.valuation.specs.declared.currency.Currency.TheVariants.{Gbp, Eur, Usd}
use Rattle.valuation.specs.declared.price.Price.{Price}
use Rattle.valuation.specs.Most.{most_price, most_units, most_worth}
use Rattle.valuation.specs.Prices.{price_in, in_ranges, quoted, no_price}
use Rattle.gathering.specs.Law.{record_of}
use Rattle.memory.specs.declared.row.Line.{Line}
use Rattle.tables.specs.Values.{priced, worth_of, line_worth, deal_worth, on_deal}

unpriced : (currency : Currency) → quoted currency no_price ≡ None
unpriced Gbp = refl
unpriced Eur = refl
unpriced Usd = refl

-- a security beyond the list
pub unlisted : (currency : Currency) (ps : List Price) (s : ℕ) → length ps ≤ s - 3 → None ≡ quoted currency (record_of ps s)
unlisted currency ps s h = sym (ap (quoted currency) (get_or_past ps (s - 3) no_price h) ∙ unpriced currency)

price_most : (currency : Currency) (p : Price) → in_ranges p ≡ true → price_in currency p ≤ most_price
price_most Gbp p h = grind (arith, nat_tests)
price_most Eur p h = grind (arith, nat_tests)
price_most Usd p h = grind (arith, nat_tests)

module _ (worth : ℕ → ℕ → ℕ → ℕ) (currency : Currency) (ps : List Price) where
  -- ── the most that lines are worth ──

  module _ (more : (price haircut a b : ℕ) → a ≤ b → worth price haircut a ≤ worth price haircut b) (most : (price haircut : ℕ) → price ≤ most_price → worth price haircut most_units ≤ most_worth) where
    pub worth_most : (s q : ℕ) → worth_of worth currency ps s q ≤ most_worth
    worth_most s q =
        let p = record_of ps s in
        cond_both (priced worth currency ps s q) (worth (price_in currency p) p.haircut q) 0 (λ w. w ≤ most_worth)
        (λ t.
        let ranged = and_parts (in_ranges p) _ t in
        let few = leb-true q most_units (and_parts (ltb 0 (price_in currency p)) _ ranged.1).1 in
        omega (arith, more (price_in currency p) p.haircut q most_units few, most (price_in currency p) p.haircut (price_most currency p ranged.0)))
        (λ _. omega arith)

    pub worth_on_most : (b : Bool) (l : Line) → cond b (line_worth worth currency ps l) 0 ≤ most_worth
    worth_on_most true l = worth_most l.security l.quantity
    worth_on_most false l = omega arith

    pub deal_most : (n : ℕ) (ls : List Line) → deal_worth worth currency ps n ls ≤ most_worth * length ls
    unfolding deal_worth
    deal_most n [] = omega arith
    deal_most n (l ∷ ls) = omega (arith, worth_on_most (on_deal n l) l, deal_most n ls)

  -- ── the lines of a deal together ──

  pub deal_sum : (n : ℕ) (ls : List Line) → sum_by (line_worth worth currency ps) (filter (on_deal n) ls) ≡ deal_worth worth currency ps n ls
  unfolding deal_worth
  deal_sum n [] = refl
  deal_sum n (l ∷ ls) =
      elim (cases_Bool (on_deal n l)) [
        | inl t ↦ rw t (omega (arith, sum_by-cons (line_worth worth currency ps) l (filter (on_deal n) ls), deal_sum n ls))
        | inr e ↦ rw e (omega (arith, deal_sum n ls))
      ]

  -- the sum of the worths, one by one
  pub deal_total : (n : ℕ) (ls : List Line) → deal_worth worth currency ps n ls ≡ total_of (picked (on_deal n) (line_worth worth currency ps) ls)
  unfolding deal_worth
  deal_total n [] = refl
  deal_total n (l ∷ ls) =
      elim (cases_Bool (on_deal n l)) [
        | inl t ↦ rw t (ap (λ m. line_worth worth currency ps l + m) (deal_total n ls))
        | inr e ↦ rw e (omega (arith, deal_total n ls))
      ]
