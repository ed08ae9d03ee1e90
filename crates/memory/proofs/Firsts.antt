-- The first row that breaks a rule. Assumes nothing.
use Rattle.std.proofs.Common.{◌≡◌, ℕ, zero, suc, ◌+◌, ◌<◌, ◌≤◌, min, Bool, true, false, cond, not, ◌&&◌, List, [], ◌∷◌, map, length, get_or, take, drop, IfSome, Some, None, Option, position, unwrap_or, sym, refl, ap, ◌∙◌, inl, inr, arith}
use Rattle.std.proofs.lemmas.List.{at_drop_more, at_drop_all, length-map, length-take, get_or-map, get_or-take}
use Rattle.std.proofs.lemmas.Bool.{cases_Bool, cond-true, cond-false}
use Rattle.std.proofs.lemmas.Iterator.Adapters.{position_from-zero}
use Rattle.std.specs.List.{position_from}
use Rattle.std.specs.Option.{option_map, option_or}
use Rattle.memory.specs.Checks.{earlier}
use Rattle.memory.specs.Places.{Rising}
use Rattle.memory.specs.Sound.{first_broken, first_set}

turned : {Y : Type 0} (b : Bool) (x y : Y) → cond b x y ≡ cond (not b) y x
turned true x y = refl
turned false x y = refl

module _ {X : Type 0} (key : X → ℕ) (rule : ℕ → X → Bool) (xs : List X) (i before : ℕ) where
  step : (x : X) → i < length xs → x ≡ get_or xs i x → first_broken key rule i before (drop i xs) ≡ cond (rule before x) (first_broken key rule (i + 1) (key x) (drop (i + 1) xs)) (Some i)
  unfolding first_broken
  step x h e =
      at_drop_more (first_broken key rule i before) xs i x h
      ∙ ap (λ (y : X). cond (rule before y) (first_broken key rule (i + 1) (key y) (drop (i + 1) xs)) (Some i)) (sym e)

  pub broken_more : (x : X) → i < length xs → x ≡ get_or xs i x → rule before x ≡ true → first_broken key rule (i + 1) (key x) (drop (i + 1) xs) ≡ first_broken key rule i before (drop i xs)
  broken_more x h e t = sym (step x h e ∙ cond-true _ _ _ t)

  pub broken_here : (x : X) → i < length xs → x ≡ get_or xs i x → rule before x ≡ false → Some i ≡ first_broken key rule i before (drop i xs)
  broken_here x h e f = sym (step x h e ∙ cond-false _ _ _ f)

  pub broken_all : length xs ≤ i → None ≡ first_broken key rule i before (drop i xs)
  unfolding first_broken
  broken_all h = sym (at_drop_all (first_broken key rule i before) xs i h)

-- ── the first row that is not blank, as a position ──

later : {X : Type 0} (p : X → Bool) (i k : ℕ) (xs : List X) → position_from p (i + k) xs ≡ option_map (λ n. i + n) (position_from p k xs)
later p i k [] = refl
later p i k (x ∷ xs) =
    elim (cases_Bool (p x)) [
      | inl t ↦ rw (t) refl
      | inr f ↦ let e : i + k + 1 ≡ i + (k + 1) = omega arith in rw (f) (ap (λ n. position_from p n xs) e ∙ later p i (k + 1) xs)
    ]

module _ {X : Type 0} (blank p : X → Bool) (opposed : (x : X) → p x ≡ not (blank x)) where
  pub set_from : (i : ℕ) (xs : List X) → first_set blank i xs ≡ position_from p i xs
  unfolding first_set
  set_from i [] = refl
  set_from i (x ∷ xs) =
      turned (blank x) (first_set blank (i + 1) xs) (Some i)
      ∙ ap (λ b. cond b (Some i) (first_set blank (i + 1) xs)) (sym (opposed x))
      ∙ ap (λ (o : Option ℕ). cond (p x) (Some i) o) (set_from (i + 1) xs)

  pub set_position : (xs : List X) → first_set blank 0 xs ≡ position p xs
  set_position xs = set_from 0 xs ∙ sym (position_from-zero p xs)

  pub set_place : (i : ℕ) (xs : List X) (o : Option ℕ) → o ≡ position p xs → option_map (λ n. i + n) o ≡ first_set blank i xs
  set_place i xs o e =
      let same : i ≡ i + 0 = omega arith in
      ap (option_map (λ n. i + n)) (e ∙ position_from-zero p xs)
      ∙ sym (later p i 0 xs)
      ∙ sym (set_from i xs ∙ ap (λ n. position_from p n xs) same)

-- ── two rules ──

weaker : (o : Option ℕ) (j i : ℕ) → i ≤ j → IfSome o (λ m. j ≤ m) → IfSome o (λ m. i ≤ m)
weaker None j i h c = tt
weaker (Some m) j i h c = omega arith

earlier_right : (i : ℕ) (o : Option ℕ) → IfSome o (λ m. i + 1 ≤ m) → Some i ≡ earlier o (Some i)
earlier_right i None c = refl
earlier_right i (Some m) c = let e : i ≡ min m i = omega arith in ap Some e

earlier_left : (i : ℕ) (o : Option ℕ) → IfSome o (λ m. i ≤ m) → Some i ≡ earlier (Some i) o
earlier_left i None c = refl
earlier_left i (Some m) c = let e : i ≡ min i m = omega arith in ap Some e

from_set : {X : Type 0} (q : X → Bool) (i : ℕ) (xs : List X) → IfSome (first_set q i xs) (λ m. i ≤ m)
unfolding first_set
from_set q i [] = tt
from_set q i (x ∷ xs) =
    elim (cases_Bool (q x)) [
      | inl t ↦ rw t (weaker (first_set q (i + 1) xs) (i + 1) i (omega arith) (from_set q (i + 1) xs))
      | inr f ↦ rw f (omega arith)
    ]

module _ {X : Type 0} (key : X → ℕ) (p : ℕ → X → Bool) where
  from_broken : (i b : ℕ) (xs : List X) → IfSome (first_broken key p i b xs) (λ m. i ≤ m)
  unfolding first_broken
  from_broken i b [] = tt
  from_broken i b (x ∷ xs) =
      elim (cases_Bool (p b x)) [
        | inl t ↦ rw t (weaker (first_broken key p (i + 1) (key x) xs) (i + 1) i (omega arith) (from_broken (i + 1) (key x) xs))
        | inr f ↦ rw f (omega arith)
      ]

  -- how many rows pass before the first that does not
  abbrev pub passing : ℕ → List X → ℕ
  passing b [] = 0
  passing b (x ∷ xs) = cond (p b x) (suc (passing (key x) xs)) 0

  pub passing_le : (b : ℕ) (xs : List X) → passing b xs ≤ length xs
  passing_le b [] = omega arith
  passing_le b (x ∷ xs) = elim (cases_Bool (p b x)) [ inl t ↦ rw t (omega (arith, passing_le (key x) xs)) | inr f ↦ rw f (omega arith) ]

  passing_from : (i b : ℕ) (xs : List X) → unwrap_or (first_broken key p i b xs) (i + length xs) ≡ i + passing b xs
  unfolding first_broken
  passing_from i b [] = refl
  passing_from i b (x ∷ xs) =
      elim (cases_Bool (p b x)) [
        | inl t ↦
            let e : i + suc (length xs) ≡ i + 1 + length xs = omega arith in
            let z : i + 1 + passing (key x) xs ≡ i + suc (passing (key x) xs) = omega arith in
            rw t (ap (unwrap_or (first_broken key p (i + 1) (key x) xs)) e ∙ passing_from (i + 1) (key x) xs ∙ z)
        | inr f ↦ rw f (omega arith)
      ]

  pub passing_is : (xs : List X) → unwrap_or (first_broken key p 0 0 xs) (length xs) ≡ passing 0 xs
  passing_is xs =
      let e : length xs ≡ 0 + length xs = omega arith in
      let z : 0 + passing 0 xs ≡ passing 0 xs = omega arith in
      ap (unwrap_or (first_broken key p 0 0 xs)) e ∙ passing_from 0 0 xs ∙ z

  pub passing_all : (xs : List X) → None ≡ first_broken key p 0 0 xs → passing 0 xs ≡ length xs
  passing_all xs e = sym (passing_is xs) ∙ ap (λ (o : Option ℕ). unwrap_or o (length xs)) (sym e)

  passing_head : (b : ℕ) (x : X) (xs : List X) (k : ℕ) → k < passing b (x ∷ xs) → p b x ≡ true
  passing_head b x xs k h = elim (cases_Bool (p b x)) [ inl t ↦ t | inr f ↦ let z : k < 0 = rw f at h in absurd (omega arith) ]

  passing_tail : (b : ℕ) (x : X) (xs : List X) (k : ℕ) → suc k < passing b (x ∷ xs) → k < passing (key x) xs
  passing_tail b x xs k h = let z : suc k < suc (passing (key x) xs) = rw (passing_head b x xs (suc k) h) at h in omega arith

  -- each of them passes after some number
  pub passing_each : (b : ℕ) (xs : List X) (k : ℕ) (d : X) → k < passing b xs → (c : ℕ) × (p c (get_or xs k d) ≡ true)
  passing_each b [] k d h = absurd (omega arith)
  passing_each b (x ∷ xs) zero d h = (b, passing_head b x xs 0 h)
  passing_each b (x ∷ xs) (suc k) d h = passing_each (key x) xs k d (passing_tail b x xs k h)

  -- where a row passes only after a smaller number
  module _ (above : (b : ℕ) (x : X) → p b x ≡ true → b < key x) where
    passing_above : (b : ℕ) (xs : List X) (k : ℕ) (d : X) → k < passing b xs → b < key (get_or xs k d)
    passing_above b [] k d h = absurd (omega arith)
    passing_above b (x ∷ xs) zero d h = above b x (passing_head b x xs 0 h)
    passing_above b (x ∷ xs) (suc k) d h = omega (arith, above b x (passing_head b x xs (suc k) h), passing_above (key x) xs k d (passing_tail b x xs k h))

    passing_rise : (b : ℕ) (xs : List X) (j k : ℕ) (d : X) → j < k → k < passing b xs → key (get_or xs j d) < key (get_or xs k d)
    passing_rise b [] j k d l h = absurd (omega arith)
    passing_rise b (x ∷ xs) j zero d l h = absurd (omega arith)
    passing_rise b (x ∷ xs) zero (suc k) d l h = passing_above (key x) xs k d (passing_tail b x xs k h)
    passing_rise b (x ∷ xs) (suc j) (suc k) d l h = passing_rise (key x) xs j k d (omega arith) (passing_tail b x xs k h)

    pub passing_rising : (xs : List X) (d : X) → Rising (map key (take (passing 0 xs) xs))
    passing_rising xs d j k l h =
        let n = passing 0 xs in
        let m = passing_le 0 xs in
        let len = length-map (take n xs) key ∙ length-take n xs in
        let at : (i : ℕ) → i < n → get_or (map key (take n xs)) i 0 ≡ key (get_or xs i d) =
        λ i less. get_or-map key (take n xs) i d 0 (rw (length-take n xs) (omega arith)) ∙ ap key (get_or-take n xs i d less) in
        omega (arith, at j (omega arith), at k (omega arith), passing_rise 0 xs j k d l (omega arith))

  module _ (q : X → Bool) where
    -- the first row that breaks one of two rules: among those that pass the first one, or the first that does not
    pub both_broken : (i b : ℕ) (xs : List X) → first_broken key (λ c x. p c x && q x) i b xs ≡ option_or (first_set q i (take (passing b xs) xs)) (first_broken key p i b xs)
    unfolding first_broken first_set
    both_broken i b [] = refl
    both_broken i b (x ∷ xs) =
        elim (cases_Bool (p b x)) [
          | inl t ↦ elim (cases_Bool (q x)) [ inl y ↦ rw (t, y) (both_broken (i + 1) (key x) xs) | inr n ↦ rw (t, n) refl ]
          | inr f ↦ rw f refl
        ]

    -- and the earlier of the two first ones
    pub earlier_broken : (i b : ℕ) (xs : List X) → first_broken key (λ c x. p c x && q x) i b xs ≡ earlier (first_broken key p i b xs) (first_set q i xs)
    unfolding first_broken first_set
    earlier_broken i b [] = refl
    earlier_broken i b (x ∷ xs) =
        elim (cases_Bool (p b x)) [
          | inl t ↦
              elim (cases_Bool (q x)) [
                | inl y ↦ rw (t, y) (earlier_broken (i + 1) (key x) xs)
                | inr n ↦ rw (t, n) (earlier_right i (first_broken key p (i + 1) (key x) xs) (from_broken (i + 1) (key x) xs))
              ]
          | inr f ↦
              elim (cases_Bool (q x)) [
                | inl y ↦ rw (f, y) (earlier_left i (first_set q (i + 1) xs) (weaker (first_set q (i + 1) xs) (i + 1) i (omega arith) (from_set q (i + 1) xs)))
                | inr n ↦ rw (f, n) (earlier_left i (Some i) (omega arith))
              ]
        ]
