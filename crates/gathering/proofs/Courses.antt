-- What a gathering comes to. Assumes nothing.
use Rattle.std.proofs.Common.{◌≡◌, ℕ, zero, suc, ◌+◌, ◌-◌, ◌<◌, ◌≤◌, true, false, eqb, leb, List, [], ◌∷◌, ◌++◌, map, length, get_or, take, drop, Some, None, Option, sym, refl, ap, ◌∙◌, subst, inl, inr, arith, MatchOption}
use Rattle.std.proofs.ByRecursion.{All-weaker}
use Rattle.std.proofs.lemmas.List.{drop_more, drop_all}
use Rattle.std.proofs.lemmas.Bool.{cases_lt, cond_both, cond-true, cond-false, eqb-true, eqb-false, leb-true, leb-false}
use Rattle.std.specs.Option.{option_map}
use Rattle.std.specs.List.{AllByRecursion as Each}
use Rattle.book.specs.Meaning.{Meaning}
use Rattle.valuation.specs.declared.price.Price.{Price}
use Rattle.valuation.specs.Prices.{no_price}
use Rattle.gathering.specs.declared.order.Order.{Order}
use Rattle.gathering.specs.declared.order.Pick.{Pick}
use Rattle.gathering.specs.Baskets.{most_picks}
use Rattle.gathering.specs.Taking.{eligible, value_of, security_at, most_of, passed_over, quantity_for}
use Rattle.gathering.specs.Gathered.{pick_of, gathered_from, gathered}
use Rattle.gathering.specs.Law.{record_of, worth_in, most_in, Allowed, total, value_of_all, Rising, takeable_from, Ends, Covers, Fails}
use Rattle.gathering.proofs.Amounts.{Takes, takes, Takeable, takeable_is}

-- the first of what is left of a list
dropped_first : (qs : List Price) (k : ℕ) (p : Price) (ps : List Price) → (p ∷ ps) ≡ drop k qs → (k < length qs) × (get_or qs k no_price ≡ p) × (ps ≡ drop (k + 1) qs)
dropped_first qs k p ps e =
    elim (cases_lt k (length qs)) [
      | inl h ↦ let more = e ∙ drop_more qs k no_price h in (h, cc, cc)
      | inr h ↦ let none = e ∙ drop_all k qs h in absurd (let z : ◌≡◌ {A = ℕ} 0 1 = cc in omega arith)
    ]

take_nothing : (n : ℕ) → ◌≡◌ {A = List ℕ} (take n []) []
take_nothing zero = refl
take_nothing (suc n) = refl

cases_map : (a : Option (List Pick)) (P P' : Type 0) (Q Q' : List Pick → Type 0) → (P → P') → ((xs : List Pick) → Q xs → Q' xs) → MatchOption a P Q → MatchOption a P' Q'
cases_map None P P' Q Q' f g h = f h
cases_map (Some xs) P P' Q Q' f g h = g xs h

cases_cons : (x : Pick) (a : Option (List Pick)) (P P' : Type 0) (Q Q' : List Pick → Type 0) → (P → P') → ((xs : List Pick) → Q xs → Q' (x ∷ xs)) → MatchOption a P Q → MatchOption (option_map (λ xs. x ∷ xs) a) P' Q'
cases_cons x None P P' Q Q' f g h = f h
cases_cons x (Some xs) P P' Q Q' f g h = g xs h

module _ (m : Meaning) (worth : ℕ → ℕ → ℕ → ℕ) (qs : List Price) (o : Order) (held : List ℕ) where
  -- what is left to gather from place k on is covered by picks, where so many securities were taken, or it is not
  record CoversFrom (k need count : ℕ) (ps : List Price) (picks : List Pick) : Type 0 where
    above : Each (λ x. security_at k ≤ x.security) picks
    rising : Rising picks
    allowed : Each (λ x. Allowed m worth qs o held x.security x.quantity) picks
    few : length picks + count ≤ most_picks
    enough : need ≤ value_of_all worth qs o picks
    in_turn : map (λ x. x.security) picks ≡ take (length picks) (takeable_from m worth o held k ps)
    ends : (before : List Pick) (last : Pick) → picks ≡ before ++ (last ∷ []) → Ends m worth qs o held need before last

  abbrev FailsFrom : ℕ → ℕ → ℕ → List Price → Type 0
  FailsFrom k need count ps = total (map (λ s. worth_in worth qs o s (most_in m worth qs o held s)) (take (most_picks - count) (takeable_from m worth o held k ps))) < need

  covers_none : (k need count : ℕ) (ps : List Price) → need ≡ 0 → count ≤ most_picks → CoversFrom k need count ps []
  covers_none k need count ps h few =
      record {
        above = tt;
        rising = tt;
        allowed = tt;
        few = omega arith;
        enough = omega arith;
        in_turn = refl;
        ends = λ before last e. absurd (no_last before last e);
      }
    where
      no_last : (before : List Pick) (last : Pick) → [] ≡ before ++ (last ∷ []) → ⊥
      no_last [] last e = let z : ◌≡◌ {A = ℕ} 0 1 = cc in omega arith
      no_last (b ∷ bs) last e = let z : ◌≡◌ {A = ℕ} 0 1 = cc in omega arith

  fails_ended : (k need count : ℕ) → (need ≡ 0 → ⊥) → FailsFrom k need count []
  unfolding takeable_from
  fails_ended k need count h = rw (take_nothing (most_picks - count)) (omega arith)

  fails_full : (k need count : ℕ) (ps : List Price) → (need ≡ 0 → ⊥) → most_picks ≤ count → FailsFrom k need count ps
  fails_full k need count ps h full = let none : most_picks - count ≡ 0 = omega arith in rw none (omega arith)

  -- the security of record p stands at place k, and is passed over
  module _ (k : ℕ) (p : Price) (ps : List Price) (passed : passed_over m worth o held p k ≡ true) where
    takeable_passed : takeable_from m worth o held k (p ∷ ps) ≡ takeable_from m worth o held (k + 1) ps
    unfolding takeable_from
    takeable_passed = cond-true (passed_over m worth o held p k) _ _ passed

    covers_passed : (need count : ℕ) (picks : List Pick) → CoversFrom (k + 1) need count ps picks → CoversFrom k need count (p ∷ ps) picks
    covers_passed need count picks c =
        record {
          above = All-weaker _ _ (λ x h. omega arith) picks c.above;
          rising = c.rising;
          allowed = c.allowed;
          few = c.few;
          enough = c.enough;
          in_turn = c.in_turn ∙ ap (take (length picks)) (sym takeable_passed);
          ends = c.ends;
        }

    fails_passed : (need count : ℕ) → FailsFrom (k + 1) need count ps → FailsFrom k need count (p ∷ ps)
    fails_passed need count f = rw takeable_passed f

  -- or t of it is taken
  module _ (none : (price haircut : ℕ) → worth price haircut 0 ≡ 0) (more : (price haircut a b : ℕ) → a ≤ b → worth price haircut a ≤ worth price haircut b)
      (k need count : ℕ) (p : Price) (ps : List Price) (listed : k < length qs) (is : get_or qs k no_price ≡ p) (pos : 0 < need) (room : count < most_picks) (taken : passed_over m worth o held p k ≡ false) where
    abbrev w : ℕ → ℕ
    w = value_of worth o p

    abbrev n : ℕ
    n = most_of m worth o held p k

    abbrev t : ℕ
    t = quantity_for m worth o held p k need

    place : security_at k - 3 ≡ k
    place = omega arith

    record_at : record_of qs (security_at k) ≡ p
    record_at = ap (λ i. get_or qs i no_price) place ∙ is

    worth_at : (q : ℕ) → worth_in worth qs o (security_at k) q ≡ w q
    worth_at q = ap (λ r. value_of worth o r q) record_at

    most_at : most_in m worth qs o held (security_at k) ≡ n
    most_at = λ i. most_of m worth o held (record_at i) (place i)

    fit : Takeable m w o held p k n
    fit = takeable_is m worth o held p k more taken

    here : Takes w need n t
    here = takes w need n (none _ _) pos fit.some

    allowed_here : Allowed m worth qs o held (security_at k) t
    allowed_here =
        let bound = here.bounded in
        let value : w t ≤ w n = more _ _ t n bound in
        record {
          low = omega arith;
          listed = omega arith;
          admitted = ap (eligible o) record_at ∙ fit.admitted;
          some = here.some;
          bounded = omega (arith, fit.bounded);
          owned = omega (arith, fit.owned);
          limited = λ on. omega (arith, fit.limited on, worth_at t, ap (λ i. get_or held i 0) place);
        }

    takeable_taken : takeable_from m worth o held k (p ∷ ps) ≡ (security_at k ∷ takeable_from m worth o held (k + 1) ps)
    unfolding takeable_from
    takeable_taken = cond-false (passed_over m worth o held p k) _ _ taken

    -- the last pick covers what is open, and one before it is the most
    ends_taken : (xs : List Pick) → CoversFrom (k + 1) (need - w t) (count + 1) ps xs → (before : List Pick) (last : Pick) → (pick_of (security_at k) t ∷ xs) ≡ before ++ (last ∷ []) → Ends m worth qs o held need before last
    ends_taken xs c [] last e =
        let nothing : xs ≡ [] = cc in
        let this : pick_of (security_at k) t ≡ last = cc in
        let covered : need ≤ w t = omega (arith, c.enough, ap (value_of_all worth qs o) nothing) in
        let short : w (t - 1) < need = here.last covered in
        subst (Ends m worth qs o held need []) this (record { whole = tt; tight = omega (arith, worth_at (t - 1)) })
    ends_taken xs c (b ∷ bs) last e =
        let rest : xs ≡ bs ++ (last ∷ []) = cc in
        let this : pick_of (security_at k) t ≡ b = cc in
        let then = c.ends bs last rest in
        let tight = then.tight in
        let whole : t ≡ n = here.whole (omega arith) in
        subst (λ (x : Pick). Ends m worth qs o held need (x ∷ bs) last) this (record { whole = (whole ∙ sym most_at, then.whole); tight = omega (arith, worth_at t) })

    covers_taken : (xs : List Pick) → CoversFrom (k + 1) (need - w t) (count + 1) ps xs → CoversFrom k need count (p ∷ ps) (pick_of (security_at k) t ∷ xs)
    covers_taken xs c =
        record {
          above = (omega arith, All-weaker _ _ (λ x h. omega arith) xs c.above);
          rising = (All-weaker _ _ (λ x h. omega arith) xs c.above, c.rising);
          allowed = (allowed_here, c.allowed);
          few = omega (arith, c.few);
          enough = omega (arith, c.enough, worth_at t);
          in_turn = ap (λ ss. security_at k ∷ ss) c.in_turn ∙ ap (take (suc (length xs))) (sym takeable_taken);
          ends = ends_taken xs c;
        }

    fails_taken : FailsFrom (k + 1) (need - w t) (count + 1) ps → FailsFrom k need count (p ∷ ps)
    fails_taken f =
        let left : most_picks - count ≡ suc (most_picks - (count + 1)) = omega arith in
        let whole : t ≡ n = here.whole (omega arith) in
        rw (takeable_taken, left) (omega (arith, worth_at (most_in m worth qs o held (security_at k)), ap w (most_at ∙ sym whole)))

  module _ (none : (price haircut : ℕ) → worth price haircut 0 ≡ 0) (more : (price haircut a b : ℕ) → a ≤ b → worth price haircut a ≤ worth price haircut b) where
    from_stands : (k need count : ℕ) (ps : List Price) → ps ≡ drop k qs → count ≤ most_picks → MatchOption (gathered_from m worth o held k need count ps) (FailsFrom k need count ps) (CoversFrom k need count ps)
    unfolding gathered_from
    from_stands k need count [] e few =
        let P : Option (List Pick) → Type 0 = λ a. MatchOption a (FailsFrom k need count []) (CoversFrom k need count []) in
        cond_both (eqb need 0) (Some []) None P (λ h. covers_none k need count [] (eqb-true need 0 h) few) (λ h. fails_ended k need count (eqb-false need 0 h))
    from_stands k need count (p ∷ ps) e few =
        let P : Option (List Pick) → Type 0 = λ a. MatchOption a (FailsFrom k need count (p ∷ ps)) (CoversFrom k need count (p ∷ ps)) in
        let at-k = dropped_first qs k p ps e in
        let t = quantity_for m worth o held p k need in
        cond_both (eqb need 0) (Some []) _ P
        (λ h. covers_none k need count (p ∷ ps) (eqb-true need 0 h) few)
        (λ h. let pos : need ≡ 0 → ⊥ = eqb-false need 0 h in
        cond_both (leb most_picks count) None _ P
        (λ full. fails_full k need count (p ∷ ps) pos (leb-true most_picks count full))
        (λ room. let below : count < most_picks = leb-false most_picks count room in
        cond_both (passed_over m worth o held p k) _ _ P
        (λ passed. cases_map (gathered_from m worth o held (k + 1) need count ps) _ _ _ _ (fails_passed k p ps passed need count) (covers_passed k p ps passed need count)
        (from_stands (k + 1) need count ps at-k.2 few))
        (λ taken.
        cases_cons (pick_of (security_at k) t) (gathered_from m worth o held (k + 1) (need - value_of worth o p t) (count + 1) ps) _ _ _ _
        (fails_taken none more k need count p ps at-k.0 at-k.1 (omega arith) below taken)
        (covers_taken none more k need count p ps at-k.0 at-k.1 (omega arith) below taken)
        (from_stands (k + 1) (need - value_of worth o p t) (count + 1) ps at-k.2 (omega arith)))))

    gathered_stands : (a : Option (List Pick)) → a ≡ gathered m worth qs o held → MatchOption a (Fails m worth qs o held) (Covers m worth qs o held)
    unfolding gathered
    gathered_stands a e =
        subst (λ (x : Option (List Pick)). MatchOption x (Fails m worth qs o held) (Covers m worth qs o held)) (sym e)
        (cases_map (gathered_from m worth o held 0 o.need 0 qs) _ _ _ _
        (λ f. f)
        (λ xs c. record { rising = c.rising; allowed = c.allowed; few = omega (arith, c.few); enough = c.enough; in_turn = c.in_turn; ends = c.ends })
        (from_stands 0 o.need 0 qs refl (omega arith)))

    -- what is gathered, and what it is where nothing is
    pub gathered_covers : (picks : List Pick) → Some picks ≡ gathered m worth qs o held → Covers m worth qs o held picks
    gathered_covers picks e = gathered_stands (Some picks) e

    pub gathered_fails : None ≡ gathered m worth qs o held → Fails m worth qs o held
    gathered_fails e = gathered_stands None e
