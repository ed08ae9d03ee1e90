-- Looking up a row in a list that changed.
use Rattle.std.proofs.Common.{◌≡◌, ℕ, true, false, cond, eqb, List, [], ◌∷◌, map, sym, refl, ◌∙◌}
use Rattle.std.proofs.lemmas.Bool.{eqb-true, ne_eqb, both_ways}
use Rattle.law.specs.Finding.{has, found, replaced}
use Rattle.law.proofs.Totals.{by_test}

module _ {X : Type 0} (key : X → ℕ) where
  -- ── each row changed by g, which keeps the number ──

  module _ (g : X → X) (same : (x : X) → key (g x) ≡ key x) where
    pub has_map : (n : ℕ) (xs : List X) → has key n (map g xs) ≡ has key n xs
    has_map n [] = refl
    has_map n (x ∷ xs) = rw (same x, has_map n xs)

    pub found_map : (z : X) (n : ℕ) (xs : List X) → has key n xs ≡ true → found key z n (map g xs) ≡ g (found key z n xs)
    found_map z n [] h = absurd (both_ways false refl h)
    found_map z n (x ∷ xs) h =
        rw (same x) (by_test (eqb (key x) n) (λ b. cond b true (has key n xs) ≡ true → cond b (g x) (found key z n (map g xs)) ≡ g (cond b x (found key z n xs)))
        (λ e k. refl)
        (λ e k. found_map z n xs k) h)

    -- ── the first row of a number changed ──

    pub has_changed : (m n : ℕ) (xs : List X) → has key n (replaced key m (λ x. g x ∷ []) xs) ≡ has key n xs
    has_changed m n [] = refl
    has_changed m n (x ∷ xs) =
        by_test (eqb (key x) m) (λ b. has key n (cond b (g x ∷ xs) (x ∷ replaced key m (λ x. g x ∷ []) xs)) ≡ cond (eqb (key x) n) true (has key n xs))
        (λ e. rw (same x))
        (λ e. rw (has_changed m n xs))

    -- the row that is asked for is that one, or another
    pub found_changed : (P : X → X → Type 0) → ((x : X) → P x x) → ((x : X) → P (g x) x) → (z : X) (m n : ℕ) (xs : List X)
        → P (found key z n (replaced key m (λ x. g x ∷ []) xs)) (found key z n xs)
    found_changed P stay go z m n [] = stay z
    found_changed P stay go z m n (x ∷ xs) =
        by_test (eqb (key x) m) (λ b. P (found key z n (cond b (g x ∷ xs) (x ∷ replaced key m (λ x. g x ∷ []) xs))) (cond (eqb (key x) n) x (found key z n xs)))
        (λ e. rw (same x) (by_test (eqb (key x) n) (λ b. P (cond b (g x) (found key z n xs)) (cond b x (found key z n xs))) (λ t. go x) (λ t. stay (found key z n xs))))
        (λ e. by_test (eqb (key x) n) (λ b. P (cond b x (found key z n (replaced key m (λ x. g x ∷ []) xs))) (cond b x (found key z n xs))) (λ t. stay x) (λ t. found_changed P stay go z m n xs))

  -- ── the first row of a number gone ──

  module _ (m n : ℕ) (ne : m ≡ n → ⊥) where
    pub has_gone : (xs : List X) → has key n (replaced key m (λ _. []) xs) ≡ has key n xs
    has_gone [] = refl
    has_gone (x ∷ xs) =
        by_test (eqb (key x) m) (λ b. has key n (cond b xs (x ∷ replaced key m (λ _. []) xs)) ≡ cond (eqb (key x) n) true (has key n xs))
        (λ e. let t : eqb (key x) n ≡ false = ne_eqb _ _ (λ k. ne (sym (eqb-true _ _ e) ∙ k)) in rw t)
        (λ e. rw (has_gone xs))

    pub found_gone : (z : X) (xs : List X) → found key z n (replaced key m (λ _. []) xs) ≡ found key z n xs
    found_gone z [] = refl
    found_gone z (x ∷ xs) =
        by_test (eqb (key x) m) (λ b. found key z n (cond b xs (x ∷ replaced key m (λ _. []) xs)) ≡ cond (eqb (key x) n) x (found key z n xs))
        (λ e. let t : eqb (key x) n ≡ false = ne_eqb _ _ (λ k. ne (sym (eqb-true _ _ e) ∙ k)) in rw t)
        (λ e. rw (found_gone z xs))
