-- The lines of a deal, counted by security. Assumes nothing.
use Rattle.std.proofs.Common.{◌≡◌, ℕ, zero, suc, ◌+◌, ◌-◌, ◌*◌, ◌<◌, ◌≤◌, Bool, true, false, cond, ◌&&◌, eqb, List, length, get_or, drop, set, replicate, refl, ap, ◌∙◌, inl, inr, arith}
use Rattle.std.proofs.lemmas.List.FromFn.{fill_by_all, length-map-range_with_len, get_or-map-range_with_len}
use Rattle.std.proofs.lemmas.List.{at_drop_more, at_drop_all, get_or-set_same, get_or-set_other, length-set}
use Rattle.std.proofs.lemmas.Bool.{cases_Bool, cases_eq, cond-true, cond-false}
use Rattle.std.proofs.lemmas.Bool.Decides.{nat_tests}
use Rattle.gathering.specs.Law.{held_in}
use Rattle.valuation.specs.declared.currency.Currency.{Currency}
use Rattle.valuation.specs.declared.price.Price.{Price}
use Rattle.valuation.specs.Most.{most_price, most_units, most_worth}
use Rattle.memory.specs.declared.row.Line.{Line}
use Rattle.memory.specs.Rows.{no_line}
use Rattle.tables.specs.Held.{is_security, with_held}
use Rattle.tables.specs.Values.{line_worth, held_worth, held_worths, on_deal}
use Rattle.tables.proofs.Worths.{worth_on_most}

get_d_zeros : (n k : ℕ) → ◌≡◌ {A = ℕ} (get_or (replicate n 0) k 0) 0
get_d_zeros zero k = refl
get_d_zeros (suc n) zero = refl
get_d_zeros (suc n) (suc k) = get_d_zeros n k

-- a worth that is added at the place of its security
added_at : (own : Bool) (s w : ℕ) (sums : List ℕ) (k : ℕ) → k < length sums → length sums ≡ 125 → get_or (cond (own && is_security s) (set sums (s - 3) (get_or sums (s - 3) 0 + w)) sums) k 0 ≡ get_or sums k 0 + cond (own && eqb s (3 + k)) w 0
added_at own s w sums k h all =
    let v = get_or sums (s - 3) 0 + w in
    elim (cases_Bool (own && is_security s)) [
      | inl t ↦
          let is = ap (λ xs. get_or xs k 0) (cond-true (own && is_security s) (set sums (s - 3) v) sums t) in
          elim (cases_eq k (s - 3)) [
            | inl e ↦
                let of-s : (own && eqb s (3 + k)) ≡ true = grind (arith, nat_tests) in
                let here = ap (λ j. get_or (set sums (s - 3) v) j 0) e ∙ get_or-set_same sums (s - 3) v 0 (omega arith) in
                omega (arith, ap (λ j. get_or sums j 0) e, cond-true (own && eqb s (3 + k)) w 0 of-s)
            | inr ne ↦
                let of_other : (own && eqb s (3 + k)) ≡ false = grind (arith, nat_tests) in
                omega (arith, get_or-set_other sums (s - 3) k v 0 ne, cond-false (own && eqb s (3 + k)) w 0 of_other)
          ]
      | inr e ↦
          let is = ap (λ xs. get_or xs k 0) (cond-false (own && is_security s) (set sums (s - 3) v) sums e) in
          let of_none : (own && eqb s (3 + k)) ≡ false = grind (arith, nat_tests) in
          omega (arith, cond-false (own && eqb s (3 + k)) w 0 of_none)
    ]

module _ (worth : ℕ → ℕ → ℕ → ℕ) (currency : Currency) (ps : List Price) (n : ℕ) where
  -- ── one line more ──

  held_more : (s : ℕ) (ls : List Line) (i : ℕ) → i < length ls → held_worth worth currency ps n s (drop i ls) ≡ cond (on_deal n (get_or ls i no_line) && eqb (get_or ls i no_line).security s) (line_worth worth currency ps (get_or ls i no_line)) 0 + held_worth worth currency ps n s (drop (i + 1) ls)
  unfolding held_worth
  held_more s ls i h = at_drop_more (held_worth worth currency ps n s) ls i no_line h

  held_all : (s : ℕ) (ls : List Line) (i : ℕ) → length ls ≤ i → held_worth worth currency ps n s (drop i ls) ≡ 0
  unfolding held_worth
  held_all s ls i h = at_drop_all (held_worth worth currency ps n s) ls i h

  length_with_held : (l : Line) (sums : List ℕ) → length (with_held worth currency ps n l sums) ≡ length sums
  length_with_held l sums =
      elim (cases_Bool (on_deal n l && is_security l.security)) [
        | inl t ↦ ap length (cond-true _ _ _ t) ∙ length-set sums (l.security - 3) _
        | inr e ↦ ap length (cond-false _ _ _ e)
      ]

  -- sums of the first i lines, by what is left of each
  pub record Counted (ls : List Line) (i : ℕ) (sums : List ℕ) : Type 0 where
    pub long : length sums ≡ 125
    pub each : (k : ℕ) → k < 125 → get_or sums k 0 + held_worth worth currency ps n (3 + k) (drop i ls) ≡ held_worth worth currency ps n (3 + k) ls
    pub few : (k : ℕ) → k < 125 → get_or sums k 0 ≤ most_worth * i

  pub counted_none : (ls : List Line) → Counted ls 0 (replicate 125 0)
  counted_none ls = record { long = refl; each = λ k h. omega (arith, get_d_zeros 125 k); few = λ k h. omega (arith, get_d_zeros 125 k) }

  pub counted_more : (more : (price haircut a b : ℕ) → a ≤ b → worth price haircut a ≤ worth price haircut b) (most : (price haircut : ℕ) → price ≤ most_price → worth price haircut most_units ≤ most_worth)
      (ls : List Line) (i : ℕ) (sums after : List ℕ) → i < length ls → after ≡ with_held worth currency ps n (get_or ls i no_line) sums → Counted ls i sums → Counted ls (i + 1) after
  counted_more more most ls i sums after h is c =
      let l = get_or ls i no_line in
      let at : (k : ℕ) → k < 125 → get_or after k 0 ≡ get_or sums k 0 + cond (on_deal n l && eqb l.security (3 + k)) (line_worth worth currency ps l) 0 =
      λ k g. ap (λ xs. get_or xs k 0) is ∙ added_at (on_deal n l) l.security (line_worth worth currency ps l) sums k (omega (arith, c.long)) c.long in
      record {
        long = ap length is ∙ length_with_held l sums ∙ c.long;
        each = λ k g. omega (arith, at k g, c.each k g, held_more (3 + k) ls i h);
        few = λ k g. omega (arith, at k g, c.few k g, worth_on_most worth currency ps more most (on_deal n l && eqb l.security (3 + k)) l);
      }

  pub counted_all : (ls : List Line) (i : ℕ) (sums : List ℕ) → length ls ≤ i → Counted ls i sums → sums ≡ held_worths worth currency ps n ls
  unfolding held_worths
  counted_all ls i sums h c = fill_by_all (λ k. held_worth worth currency ps n (3 + k) ls) sums 125 0 c.long (λ k g. omega (arith, c.each k g, held_all (3 + k) ls i h))

  -- ── what the sums say of a security ──

  pub length_held : (ls : List Line) → length (held_worths worth currency ps n ls) ≡ 125
  unfolding held_worths
  length_held ls = length-map-range_with_len (λ k. held_worth worth currency ps n (3 + k) ls) 0 125

  pub held_in_lem : (ls : List Line) (s : ℕ) → 3 ≤ s → s < 128 → held_in (held_worths worth currency ps n ls) s ≡ held_worth worth currency ps n s ls
  unfolding held_worths
  held_in_lem ls s low high =
      let same : 3 + (s - 3) ≡ s = omega arith in
      get_or-map-range_with_len (λ k. held_worth worth currency ps n (3 + k) ls) 0 125 (s - 3) (s - 3) 0 (omega arith) (omega arith) ∙ ap (λ t. held_worth worth currency ps n t ls) same
