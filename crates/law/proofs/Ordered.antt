-- Numbers that rise, row by row.
use Rattle.std.proofs.Common.{◌≡◌, ℕ, zero, suc, ◌<◌, true, false, cond, eqb, List, [], ◌∷◌, ◌++◌, map, length, get_or, refl, arith}
use Rattle.std.specs.List.{AllByRecursion as Each}
use Rattle.std.proofs.lemmas.Bool.{eqb-true, eq-eqb}
use Rattle.memory.specs.Places.{Rising}
use Rattle.law.specs.Finding.{has, replaced}
use Rattle.law.proofs.Totals.{by_test, all_to, all_append, has_none}

-- each row's number is below those of the rows after it
abbrev pub Ordered : {X : Type 0} → (X → ℕ) → List X → Type 0
Ordered key [] = Unit {0}
Ordered key (x ∷ xs) = Each (λ y. key x < key y) xs × Ordered key xs

all_at : {X : Type 0} (P : X → Type 0) (xs : List X) → Each P xs → (k : ℕ) (d : X) → k < length xs → P (get_or xs k d)
all_at P [] h k d l = absurd (let z : ⊥ = omega arith in z)
all_at P (x ∷ xs) h zero d l = h.0
all_at P (x ∷ xs) h (suc k) d l = all_at P xs h.1 k d (omega arith)

module _ {X : Type 0} (key : X → ℕ) where
  keys_above : (n : ℕ) (xs : List X) → Each (λ y. n < key y) xs → Each (λ m. n < m) (map key xs)
  keys_above n [] h = tt
  keys_above n (x ∷ xs) h = (h.0, keys_above n xs h.1)

  pub ordered_rising : (xs : List X) → Ordered key xs → Rising (map key xs)
  ordered_rising [] h j k l m = absurd (let z : ⊥ = omega arith in z)
  ordered_rising (x ∷ xs) h zero zero l m = absurd (let z : ⊥ = omega arith in z)
  ordered_rising (x ∷ xs) h zero (suc k) l m = all_at (λ n. key x < n) (map key xs) (keys_above (key x) xs h.0) k 0 (omega arith)
  ordered_rising (x ∷ xs) h (suc j) zero l m = absurd (let z : ⊥ = omega arith in z)
  ordered_rising (x ∷ xs) h (suc j) (suc k) l m = ordered_rising xs h.1 j k (omega arith) (omega arith)

  pub ordered_push : (xs : List X) (x : X) → Ordered key xs → Each (λ y. key y < key x) xs → Ordered key (xs ++ (x ∷ []))
  ordered_push [] x h b = (tt, tt)
  ordered_push (y ∷ xs) x h b = (all_append (λ z. key y < key z) xs (x ∷ []) h.0 (b.0, tt), ordered_push xs x h.1 b.1)

  -- the rows in the place of one: none, or rows that rise from its number on, below what comes after it
  pub record Inside (x : X) (ys : List X) : Type 0 where
    pub rise : Ordered key ys
    pub same : Each (λ y. key y ≡ key x) ys

  ordered_append : (xs ys : List X) → Ordered key xs → Ordered key ys → Each (λ x. Each (λ y. key x < key y) ys) xs → Ordered key (xs ++ ys)
  ordered_append [] ys h k b = k
  ordered_append (x ∷ xs) ys h k b = (all_append (λ z. key x < key z) xs ys h.0 b.0, ordered_append xs ys h.1 k b.1)

  pub ordered_replaced : (n : ℕ) (g : X → List X) → ((x : X) → Inside x (g x)) → (xs : List X) → Ordered key xs → Ordered key (replaced key n g xs)
  ordered_replaced n g i [] h = tt
  ordered_replaced n g i (x ∷ xs) h =
      by_test (eqb (key x) n) (λ b. Ordered key (cond b (g x ++ xs) (x ∷ replaced key n g xs)))
      (λ e. ordered_append (g x) xs (i x).rise h.1 (all_to _ _ (λ y s. all_to _ _ (λ z l. omega (arith, l, s)) xs h.0) (g x) (i x).same))
      (λ e. (below xs h.0, ordered_replaced n g i xs h.1))
    where
      below : (ys : List X) → Each (λ y. key x < key y) ys → Each (λ y. key x < key y) (replaced key n g ys)
      below [] a = tt
      below (y ∷ ys) a =
          by_test (eqb (key y) n) (λ b. Each (λ z. key x < key z) (cond b (g y ++ ys) (y ∷ replaced key n g ys)))
          (λ e. all_append _ (g y) ys (all_to _ _ (λ z s. omega (arith, a.0, s)) (g y) (i y).same) a.1)
          (λ e. (a.0, below ys a.1))

  pub ordered_map : (g : X → X) → ((x : X) → key (g x) ≡ key x) → (xs : List X) → Ordered key xs → Ordered key (map g xs)
  ordered_map g e [] h = tt
  ordered_map g e (x ∷ xs) h = (up xs h.0, ordered_map g e xs h.1)
    where
      up : (ys : List X) → Each (λ y. key x < key y) ys → Each (λ y. key (g x) < key y) (map g ys)
      up [] a = tt
      up (y ∷ ys) a = (omega (arith, e x, e y, a.0), up ys a.1)

  -- lists of the same numbers
  pub ordered_like : (xs ys : List X) → map key xs ≡ map key ys → Ordered key xs → Ordered key ys
  ordered_like xs ys e h = from ys (rw (← e) (to xs h))
    where
      to : (zs : List X) → Ordered key zs → Ordered (λ (n : ℕ). n) (map key zs)
      to [] k = tt
      to (z ∷ zs) k = (keys_above (key z) zs k.0, to zs k.1)

      back : (n : ℕ) (zs : List X) → Each (λ m. n < m) (map key zs) → Each (λ z. n < key z) zs
      back n [] k = tt
      back n (z ∷ zs) k = (k.0, back n zs k.1)

      from : (zs : List X) → Ordered (λ (n : ℕ). n) (map key zs) → Ordered key zs
      from [] k = tt
      from (z ∷ zs) k = (back (key z) zs k.0, from zs k.1)

  -- a row that goes is not found again
  pub gone_once : (n : ℕ) (xs : List X) → Ordered key xs → has key n (replaced key n (λ _. []) xs) ≡ false
  gone_once n [] h = refl
  gone_once n (x ∷ xs) h =
      by_test (eqb (key x) n) (λ b. has key n (cond b xs (x ∷ replaced key n (λ _. []) xs)) ≡ false)
      (λ e. has_none key n xs (all_to _ _ (λ y l s. let k : key x ≡ n = eqb-true _ _ e in let z : ⊥ = omega (arith, l, s, k) in z) xs h.0))
      (λ e. rw e (gone_once n xs h.1))

  -- what holds of each other row, and of the rows in the place of the first of a number
  pub all_changed : (Q P : X → Type 0) (z : X) (n : ℕ) (g : X → List X) (xs : List X) → has key n xs ≡ true → Ordered key xs → Each Q xs
      → ((x : X) → Q x → (key x ≡ n → ⊥) → P x) → ((x : X) → Q x → key x ≡ n → Each P (g x)) → Each P (replaced key n g xs)
  all_changed Q P z n g [] t h q others here = tt
  all_changed Q P z n g (x ∷ xs) t h q others here =
      by_test (eqb (key x) n) (λ b. cond b true (has key n xs) ≡ true → Each P (cond b (g x ++ xs) (x ∷ replaced key n g xs)))
      (λ e _.
      let is : key x ≡ n = eqb-true _ _ e in
      all_append P (g x) xs (here x q.0 is) (rest xs h.0 q.1 is))
      (λ e k. (others x q.0 (λ s. Rattle.std.proofs.lemmas.Bool.both_ways (eqb (key x) n) e (eq-eqb _ _ s)), all_changed Q P z n g xs k h.1 q.1 others here)) t
    where
      rest : (ys : List X) → Each (λ y. key x < key y) ys → Each Q ys → key x ≡ n → Each P ys
      rest [] a b is = tt
      rest (y ∷ ys) a b is = (others y b.0 (λ s. let w : ⊥ = omega (arith, a.0, s, is) in w), rest ys a.1 b.1 is)
