-- Rows that move up by one. Assumes nothing.
use Rattle.std.proofs.Common.{◌≡◌, ℕ, ◌+◌, ◌-◌, ◌<◌, ◌≤◌, cond, ◌&&◌, ltb, leb, List, length, get_or, set, sym, ap, ◌∙◌, inl, inr, arith}
use Rattle.std.proofs.lemmas.List.{get_or-set_same, get_or-set_other, same_lists, places, length-set, length-append, length-take, length-drop}
use Rattle.std.proofs.lemmas.Bool.{cases_eq, cases_lt, cond-true, cond-false}
use Rattle.std.specs.List.{CopiedTo, SameBelow, SameFrom}
use Rattle.std.proofs.lemmas.Bool.Decides.{nat_tests}
use Rattle.tables.specs.Rows.{without}

module _ {X : Type 0} where
  -- what stands at j once the rows after i, up to the one before k, have moved up
  abbrev pub slid : List X → ℕ → ℕ → ℕ → X → X
  slid xs i k j d = cond (leb i j && ltb (j + 1) k) (get_or xs (j + 1) d) (get_or xs j d)

  -- rows that were copied to the place before
  pub copied_slid : (xs ys : List X) (i n : ℕ) → i < n → CopiedTo xs ys (i + 1) i (n - (i + 1)) → SameBelow xs ys i → SameFrom xs ys (i + (n - (i + 1))) → (j : ℕ) (d : X) → get_or ys j d ≡ slid xs i n j d
  copied_slid xs ys i n lo copied below from j d =
      elim (cases_lt j i) [
        | inl a ↦ below j d a ∙ sym (cond-false (leb i j && ltb (j + 1) n) _ _ (grind (arith, nat_tests)))
        | inr a ↦
            elim (cases_lt (j + 1) n) [
              | inl b ↦
                  let same : i + 1 + (j - i) ≡ j + 1 = omega arith in
                  copied j d a (omega arith) ∙ ap (λ k. get_or xs k d) same ∙ sym (cond-true (leb i j && ltb (j + 1) n) _ _ (grind (arith, nat_tests)))
              | inr b ↦ from j d (omega arith) ∙ sym (cond-false (leb i j && ltb (j + 1) n) _ _ (grind (arith, nat_tests)))
            ]
      ]

  pub slid_all : (xs ys : List X) (i n : ℕ) (z : X) → i < n → n ≤ length xs → length ys ≡ length xs → ((j : ℕ) (d : X) → get_or ys j d ≡ slid xs i n j d) → set ys (n - 1) z ≡ without z n i xs
  slid_all xs ys i n z lo hi len h =
      same_lists _ _ (simp (length-set, length-append, length-take, length-drop) (omega arith)) (λ k d l.
      let left = h k d in
      elim (cases_eq k (n - 1)) [
        | inl e ↦ let b : n - 1 < length ys = omega arith in let s = get_or-set_same ys (n - 1) z d b in rw e (grind (arith, places))
        | inr ne ↦
            rw (get_or-set_other ys (n - 1) k z d ne)
            (elim (cases_lt k i) [
              | inl a ↦ grind (arith, places, nat_tests)
              | inr a ↦ elim (cases_lt k n) [ inl b ↦ grind (arith, places, nat_tests) | inr b ↦ grind (arith, places, nat_tests) ]
            ])
      ])
