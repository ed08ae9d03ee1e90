-- A table walked line by line, with each part put at its line. Assumes nothing.
use Rattle.std.proofs.Common.{◌≡◌, ℕ, suc, ◌+◌, ◌-◌, ◌<◌, ◌≤◌, Bool, true, false, cond, eqb, List, [], ◌∷◌, ◌++◌, map, length, get_or, take, drop, set, sym, refl, ap, ◌∙◌, inl, inr, arith}
use Rattle.std.proofs.lemmas.List.{drop_more, drop_all, drop-set-lt, take_more, take_more_set, take_all, append_assoc, append-nil}
use Rattle.std.proofs.lemmas.Bool.{cases_Bool}
use Rattle.std.proofs.lemmas.Bool.Decides.{nat_tests}
use Rattle.sharing.specs.Parts.{total_of, line_part, parts_from, parts_of}
use Rattle.sharing.specs.Tables.{picked, shared_from, shared}
use Rattle.sharing.proofs.Telescope.{whole}

module _ {X : Type 0} (mine : X → Bool) where
  -- ── the line at place i ──

  module _ (xs : List X) (i : ℕ) (d : X) (within : i < length xs) where
    pub picked_mine : (f : X → ℕ) → mine (get_or xs i d) ≡ true → picked mine f (drop i xs) ≡ f (get_or xs i d) ∷ picked mine f (drop (i + 1) xs)
    picked_mine f h = ap (picked mine f) (drop_more xs i d within) ∙ rw h refl

    pub picked_other : (f : X → ℕ) → mine (get_or xs i d) ≡ false → picked mine f (drop i xs) ≡ picked mine f (drop (i + 1) xs)
    picked_other f h = ap (picked mine f) (drop_more xs i d within) ∙ rw h refl

  pub picked_all : (f : X → ℕ) (xs : List X) (i : ℕ) → length xs ≤ i → picked mine f (drop i xs) ≡ []
  picked_all f xs i h = ap (picked mine f) (drop_all i xs h)

  -- how many are meant does not depend on what is read of them
  pub picked_count : (f g : X → ℕ) (xs : List X) → length (picked mine f xs) ≡ length (picked mine g xs)
  picked_count f g [] = refl
  picked_count f g (x ∷ xs) = elim (cases_Bool (mine x)) [ inl h ↦ rw h (ap suc (picked_count f g xs)) | inr h ↦ rw h (picked_count f g xs) ]

  module _ (value : X → ℕ) (put : X → ℕ → X) (cash total : ℕ) where
    module _ (xs : List X) (i : ℕ) (d : X) (within : i < length xs) (before : ℕ) where
      -- its part is put
      pub shared_mine : mine (get_or xs i d) ≡ true → (last : Bool) → last ≡ eqb (length (picked mine value (drop (i + 1) xs))) 0
          → (y : X) → y ≡ put (get_or xs i d) (line_part cash total before (value (get_or xs i d)) last)
          → take (i + 1) (set xs i y) ++ shared_from mine value put cash total (before + value (get_or xs i d)) (drop (i + 1) (set xs i y))
          ≡ take i xs ++ shared_from mine value put cash total before (drop i xs)
      unfolding shared_from
      shared_mine h last ends y is =
          let x = get_or xs i d in
          let rest = shared_from mine value put cash total (before + value x) (drop (i + 1) xs) in
          let part = put x (line_part cash total before (value x) (eqb (length (picked mine value (drop (i + 1) xs))) 0)) in
          let step : shared_from mine value put cash total before (x ∷ drop (i + 1) xs) ≡ part ∷ rest = rw h refl in
          ap (λ t. take (i + 1) (set xs i y) ++ shared_from mine value put cash total (before + value x) t) (drop-set-lt (i + 1) xs i y (omega arith))
          ∙ ap (λ t. t ++ rest) (take_more_set xs i y within)
          ∙ append_assoc (take i xs) (y ∷ []) rest
          ∙ ap (λ z. take i xs ++ (z ∷ rest)) (is ∙ ap (λ e. put x (line_part cash total before (value x) e)) ends)
          ∙ sym (ap (λ t. take i xs ++ t) (ap (shared_from mine value put cash total before) (drop_more xs i d within) ∙ step))

      -- it stays
      pub shared_other : mine (get_or xs i d) ≡ false
          → take (i + 1) xs ++ shared_from mine value put cash total before (drop (i + 1) xs) ≡ take i xs ++ shared_from mine value put cash total before (drop i xs)
      unfolding shared_from
      shared_other h =
          let x = get_or xs i d in
          let rest = shared_from mine value put cash total before (drop (i + 1) xs) in
          let step : shared_from mine value put cash total before (x ∷ drop (i + 1) xs) ≡ x ∷ rest = rw h refl in
          ap (λ t. t ++ rest) (take_more xs i d within)
          ∙ append_assoc (take i xs) (x ∷ []) rest
          ∙ sym (ap (λ t. take i xs ++ t) (ap (shared_from mine value put cash total before) (drop_more xs i d within) ∙ step))

    pub shared_all : (xs : List X) (i before : ℕ) → length xs ≤ i → take i xs ++ shared_from mine value put cash total before (drop i xs) ≡ xs
    unfolding shared_from
    shared_all xs i before h =
        ap (λ t. take i xs ++ shared_from mine value put cash total before t) (drop_all i xs h) ∙ append-nil (take i xs) ∙ take_all i xs h

    -- ── what a walk leaves ──

    kept_from : {Y : Type 0} (f : X → Y) → ((x : X) (p : ℕ) → f (put x p) ≡ f x) → (before : ℕ) (xs : List X)
        → map f (shared_from mine value put cash total before xs) ≡ map f xs
    unfolding shared_from
    kept_from f keeps before [] = refl
    kept_from f keeps before (x ∷ xs) =
        elim (cases_Bool (mine x)) [
          | inl h ↦ rw h (λ i. keeps x (line_part cash total before (value x) (eqb (length (picked mine value xs)) 0)) i ∷ kept_from f keeps (before + value x) xs i)
          | inr h ↦ rw h (ap (λ t. f x ∷ t) (kept_from f keeps before xs))
        ]

    parts_from_lem : (part : X → ℕ) → ((x : X) (p : ℕ) → part (put x p) ≡ p) → ((x : X) (p : ℕ) → mine (put x p) ≡ mine x) → (before : ℕ) (xs : List X)
        → picked mine part (shared_from mine value put cash total before xs) ≡ parts_from cash total before (picked mine value xs)
    unfolding shared_from parts_from
    parts_from_lem part reads stays before [] = refl
    parts_from_lem part reads stays before (x ∷ xs) =
        elim (cases_Bool (mine x)) [
          | inl h ↦
              let p = line_part cash total before (value x) (eqb (length (picked mine value xs)) 0) in
              rw (h, stays x p ∙ h) (λ i. reads x p i ∷ parts_from_lem part reads stays (before + value x) xs i)
          | inr h ↦ rw (h, h) (parts_from_lem part reads stays before xs)
        ]

    others_from : (theirs : X → Bool) (f : X → ℕ) → ((x : X) (p : ℕ) → theirs (put x p) ≡ theirs x) → ((x : X) → mine x ≡ true → theirs x ≡ false)
        → (before : ℕ) (xs : List X) → picked theirs f (shared_from mine value put cash total before xs) ≡ picked theirs f xs
    unfolding shared_from
    others_from theirs f stays apart before [] = refl
    others_from theirs f stays apart before (x ∷ xs) =
        elim (cases_Bool (mine x)) [
          | inl h ↦
              let p = line_part cash total before (value x) (eqb (length (picked mine value xs)) 0) in
              rw (h, stays x p ∙ apart x h, apart x h) (others_from theirs f stays apart (before + value x) xs)
          | inr h ↦ rw h (ap (λ t. cond (theirs x) (f x ∷ t) t) (others_from theirs f stays apart before xs))
        ]

  -- ── the running total, and how many lines are left ──

  module _ (value : X → ℕ) (total : ℕ) (xs : List X) (i : ℕ) (d : X) (within : i < length xs) (before left : ℕ)
      (rest : before + total_of (picked mine value (drop i xs)) ≡ total) (count : left ≡ length (picked mine value (drop i xs))) where
    module _ (h : mine (get_or xs i d) ≡ true) where
      pub walk_some : 1 ≤ left
      walk_some = omega (arith, ap length (picked_mine xs i d within value h))

      pub walk_room : before + value (get_or xs i d) ≤ total
      walk_room = omega (arith, ap total_of (picked_mine xs i d within value h))

      pub walk_last : eqb left 1 ≡ eqb (length (picked mine value (drop (i + 1) xs))) 0
      walk_last = let n = ap length (picked_mine xs i d within value h) in grind (arith, nat_tests)

      pub walk_mine : (y : X)
          → (before + value (get_or xs i d) + total_of (picked mine value (drop (i + 1) (set xs i y))) ≡ total) × (left - 1 ≡ length (picked mine value (drop (i + 1) (set xs i y))))
      walk_mine y =
          let p = picked_mine xs i d within value h in
          let same = ap (picked mine value) (drop-set-lt (i + 1) xs i y (omega arith)) in
          (omega (arith, ap total_of p, ap total_of same), omega (arith, ap length p, ap length same))

    pub walk_other : mine (get_or xs i d) ≡ false
        → (before + total_of (picked mine value (drop (i + 1) xs)) ≡ total) × (left ≡ length (picked mine value (drop (i + 1) xs)))
    walk_other h =
        let p = picked_other xs i d within value h in
        (omega (arith, ap total_of p), omega (arith, ap length p))

  module _ (value : X → ℕ) (put : X → ℕ → X) (cash : ℕ) (xs : List X) where
    -- what no part touches
    pub shared_keeps : {Y : Type 0} (f : X → Y) → ((x : X) (p : ℕ) → f (put x p) ≡ f x) → map f (shared mine value put cash xs) ≡ map f xs
    shared_keeps f keeps = kept_from value put cash (total_of (picked mine value xs)) f keeps 0 xs

    -- lines of which none is meant
    pub shared_others : (theirs : X → Bool) (f : X → ℕ) → ((x : X) (p : ℕ) → theirs (put x p) ≡ theirs x) → ((x : X) → mine x ≡ true → theirs x ≡ false)
        → picked theirs f (shared mine value put cash xs) ≡ picked theirs f xs
    shared_others theirs f stays apart = others_from value put cash (total_of (picked mine value xs)) theirs f stays apart 0 xs

    module _ (part : X → ℕ) (reads : (x : X) (p : ℕ) → part (put x p) ≡ p) (stays : (x : X) (p : ℕ) → mine (put x p) ≡ mine x) where
      -- the leaf, walked over a table, gives the parts of the values
      pub shared_parts : picked mine part (shared mine value put cash xs) ≡ parts_of cash (picked mine value xs)
      shared_parts = parts_from_lem value put cash (total_of (picked mine value xs)) part reads stays 0 xs

      -- and they come to the cash, where there is a line
      pub shared_whole : 0 < length (picked mine value xs) → total_of (picked mine part (shared mine value put cash xs)) ≡ cash
      shared_whole some = ap total_of shared_parts ∙ whole cash (picked mine value xs) some
