-- The largest and the smallest number that passes. Assumes nothing.
use Rattle.std.proofs.Common.{◌≡◌, ℕ, zero, suc, ◌+◌, ◌-◌, ◌<◌, ◌≤◌, Bool, true, false, cond, not, ltb, Some, None, Option, sym, refl, ap, ◌∙◌, inl, inr, arith, MatchOption}
use Rattle.std.specs.Option.{option_or}
use Rattle.std.proofs.lemmas.Bool.{cases_eq, cases_Bool, cond-true, cond-false, cond_both, both_ways, lt-ltb, le-ltb, ltb-false}
use Rattle.valuation.specs.Best.{largest_up_to, smallest_up_to}
use Rattle.valuation.specs.Seeking.{Between}
use Rattle.valuation.specs.Stands.{IsLargest, IsSmallest, NonePasses}

one_after : (l n : ℕ) → l ≤ n → option_or (cond (ltb l n) (Some (l + 1)) None) (Some (suc n)) ≡ cond (ltb l (suc n)) (Some (l + 1)) None
one_after l n h =
    rw (cond-true (ltb l (suc n)) (Some (l + 1)) None (lt-ltb l (suc n) (omega arith)))
    (elim (cases_Bool (ltb l n)) [
      | inl t ↦ rw t refl
      | inr f ↦ let e : suc n ≡ l + 1 = omega (arith, ltb-false l n f) in rw f (ap Some e)
    ])

module _ (p : ℕ → Bool) where
  -- where nothing above a passes, the search may stop at a
  pub largest_down : (a n : ℕ) → a ≤ n → ((k : ℕ) → a < k → k ≤ n → p k ≡ false) → largest_up_to p n ≡ largest_up_to p a
  unfolding largest_up_to
  largest_down a zero h f = let e : 0 ≡ a = omega arith in ap (largest_up_to p) e
  largest_down a (suc n) h f =
      elim (cases_eq a (suc n)) [
        | inl e ↦ ap (largest_up_to p) (sym e)
        | inr ne ↦ cond-false (p (suc n)) (suc n) (largest_up_to p n) (f (suc n) (omega arith) (omega arith)) ∙ largest_down a n (omega arith) (λ k x y. f k x (omega arith))
      ]

  pub largest_here : (n : ℕ) → p n ≡ true → largest_up_to p n ≡ n
  unfolding largest_up_to
  largest_here zero h = refl
  largest_here (suc n) h = cond-true (p (suc n)) (suc n) (largest_up_to p n) h

  pub largest_none : largest_up_to p 0 ≡ 0
  unfolding largest_up_to
  largest_none = refl

  pub largest_le : (n : ℕ) → largest_up_to p n ≤ n
  unfolding largest_up_to
  largest_le zero = omega arith
  largest_le (suc n) = cond_both (p (suc n)) (suc n) (largest_up_to p n) (λ x. x ≤ suc n) (λ e. omega arith) (λ e. omega (arith, largest_le n))

  -- what a search by halves starts from, how it goes on, and what it ends with
  pub between_start : (n : ℕ) → Between p n 0 n
  between_start n = record { ordered = omega arith; bounded = omega arith; reached = largest_none; kept = refl }

  pub between_passed : (n low high m : ℕ) → Between p n low high → m ≤ high → p m ≡ true → Between p n m high
  between_passed n low high m b h t = record { ordered = h; bounded = b.bounded; reached = largest_here m t; kept = b.kept }

  pub between_ended : (n low high : ℕ) → Between p n low high → high ≤ low → low ≡ largest_up_to p n
  between_ended n low high b h = let e : low ≡ high = omega (arith, b.ordered) in sym b.reached ∙ ap (largest_up_to p) e ∙ sym b.kept

  module _ (falls : (a b : ℕ) → a ≤ b → p a ≡ false → p b ≡ false) where
    pub between_failed : (n low high m : ℕ) → Between p n low high → low < m → m ≤ high → p m ≡ false → Between p n low (m - 1)
    between_failed n low high m b l h f =
        record { ordered = omega arith; bounded = omega (arith, b.bounded); reached = b.reached; kept = b.kept ∙ largest_down (m - 1) high (omega arith) (λ k x y. falls m k (omega arith) f) }

    -- where a number passes, so does the one before it
    last_below : (n : ℕ) → p (suc n) ≡ true → largest_up_to p n ≡ n
    last_below n t = elim (cases_Bool (p n)) [ inl y ↦ largest_here n y | inr x ↦ absurd (both_ways (p (suc n)) (falls n (suc n) (omega arith) x) t) ]

    -- the first number that fails follows the last one that passes
    pub first_failed : (q : ℕ → Bool) → ((k : ℕ) → q k ≡ not (p k)) → (n : ℕ) → smallest_up_to q n ≡ cond (ltb (largest_up_to p n) n) (Some (largest_up_to p n + 1)) None
    unfolding largest_up_to smallest_up_to
    first_failed q other zero = refl
    first_failed q other (suc n) =
        let before = first_failed q other n in
        elim (cases_Bool (p (suc n))) [
          | inl t ↦
              let here : q (suc n) ≡ false = other (suc n) ∙ ap not t in
              let last : largest_up_to p n ≡ n = last_below n t in
              let nothing : smallest_up_to q n ≡ None = before ∙ cond-false _ _ _ (le-ltb (largest_up_to p n) n (omega arith)) in
              rw (nothing, here, t) (sym (cond-false _ _ _ (le-ltb (suc n) (suc n) (omega arith))))
          | inr f ↦
              let here : q (suc n) ≡ true = other (suc n) ∙ ap not f in
              rw (before, here, f) (one_after (largest_up_to p n) n (largest_le n))
        ]

module _ (p : ℕ → Bool) where
  largest_found : (n k : ℕ) → k ≤ n → p k ≡ true → (k ≤ largest_up_to p n) × (p (largest_up_to p n) ≡ true)
  unfolding largest_up_to
  largest_found zero k h t = let e : k ≡ 0 = omega arith in (omega arith, sym (ap p e) ∙ t)
  largest_found (suc n) k h t =
      elim (cases_Bool (p (suc n))) [
        | inl y ↦ rw y (omega arith, y)
        | inr x ↦
            elim (cases_eq k (suc n)) [
              | inl e ↦ absurd (both_ways (p (suc n)) x (ap p (sym e) ∙ t))
              | inr ne ↦ rw x (largest_found n k (omega arith) t)
            ]
      ]

  pub largest_is : (n : ℕ) → IsLargest p n (largest_up_to p n)
  largest_is n =
      record {
        bounded = largest_le p n;
        passes = λ k h t. (largest_found n k h t).1;
        largest = λ k h t. (largest_found n k h t).0;
        none = λ f. largest_down p 0 n (omega arith) (λ k _ h. f k h) ∙ largest_none p;
      }

  smallest_step : (n : ℕ) (o : Option ℕ) → MatchOption o (NonePasses p n) (IsSmallest p n) → MatchOption (option_or o (cond (p (suc n)) (Some (suc n)) None)) (NonePasses p (suc n)) (IsSmallest p (suc n))
  smallest_step n (Some m) s =
      record {
        some = s.some;
        bounded = omega (arith, s.bounded);
        passes = s.passes;
        smallest = λ k a b t. elim (cases_eq k (suc n)) [ inl e ↦ omega (arith, s.bounded) | inr ne ↦ s.smallest k a (omega arith) t ];
      }
  smallest_step n None f =
      elim (cases_Bool (p (suc n))) [
        | inl y ↦
            rw y
            record {
              some = omega arith;
              bounded = omega arith;
              passes = y;
              smallest = λ k a b t. elim (cases_eq k (suc n)) [ inl e ↦ omega arith | inr ne ↦ absurd (both_ways (p k) (f k a (omega arith)) t) ];
            }
        | inr x ↦ rw x (λ k a b. elim (cases_eq k (suc n)) [ inl e ↦ ap p e ∙ x | inr ne ↦ f k a (omega arith) ])
      ]

  pub smallest_is : (n : ℕ) → MatchOption (smallest_up_to p n) (NonePasses p n) (IsSmallest p n)
  unfolding smallest_up_to
  smallest_is zero = λ k a b. absurd (omega arith)
  smallest_is (suc n) = smallest_step n (smallest_up_to p n) (smallest_is n)
