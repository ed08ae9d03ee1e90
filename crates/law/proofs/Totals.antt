-- Sums and properties over lists, and over a list in which the first row of a number is replaced.
use Rattle.std.proofs.Common.{◌≡◌, ℕ, ◌+◌, ◌≤◌, Bool, true, false, cond, eqb, List, [], ◌∷◌, ◌++◌, map, length, refl, ap, arith}
use Rattle.std.proofs.lemmas.Bool.{eqb-true, both_ways}
use Rattle.std.proofs.lemmas.Bool.Decides.{nat_tests}
use Rattle.std.specs.List.{AllByRecursion as Each}
use Rattle.law.specs.Sums.{only, total}
use Rattle.law.specs.Finding.{has, found, replaced}

-- a test that holds, or one that fails
pub by_test : (b : Bool) (P : Bool → Type 0) → (b ≡ true → P true) → (b ≡ false → P false) → P b
by_test true P y n = y refl
by_test false P y n = n refl

pub only_none : (b : Bool) → only b 0 ≡ 0
only_none true = refl
only_none false = refl

-- ── sums ──

pub total_append : {X : Type 0} (f : X → ℕ) (xs ys : List X) → total f (xs ++ ys) ≡ total f xs + total f ys
total_append f [] ys = omega arith
total_append f (x ∷ xs) ys = omega (arith, total_append f xs ys)

pub total_map : {X Y : Type 0} (f : Y → ℕ) (g : X → Y) (xs : List X) → total f (map g xs) ≡ total (λ x. f (g x)) xs
total_map f g [] = refl
total_map f g (x ∷ xs) = ap (λ n. f (g x) + n) (total_map f g xs)

-- two summands that agree on the elements
pub total_same : {X : Type 0} (P : X → Type 0) (f g : X → ℕ) → ((x : X) → P x → f x ≡ g x) → (xs : List X) → Each P xs → total f xs ≡ total g xs
total_same P f g e [] h = refl
total_same P f g e (x ∷ xs) h = omega (arith, e x h.0, total_same P f g e xs h.1)

pub total_zero : {X : Type 0} (P : X → Type 0) (f : X → ℕ) → ((x : X) → P x → f x ≡ 0) → (xs : List X) → Each P xs → total f xs ≡ 0
total_zero P f e [] h = refl
total_zero P f e (x ∷ xs) h = omega (arith, e x h.0, total_zero P f e xs h.1)

-- an element is no more than the sum
pub total_each : {X : Type 0} (f : X → ℕ) (xs : List X) → Each (λ x. f x ≤ total f xs) xs
total_each f [] = tt
total_each f (x ∷ xs) = (omega arith, up xs (total_each f xs))
  where
    up : (ys : List _) → Each (λ y. f y ≤ total f xs) ys → Each (λ y. f y ≤ f x + total f xs) ys
    up [] h = tt
    up (y ∷ ys) h = (omega (arith, h.0), up ys h.1)

-- ── properties ──

pub all_to : {X : Type 0} (P Q : X → Type 0) → ((x : X) → P x → Q x) → (xs : List X) → Each P xs → Each Q xs
all_to P Q f [] h = tt
all_to P Q f (x ∷ xs) h = (f x h.0, all_to P Q f xs h.1)

pub all_over : {X Y : Type 0} (P : X → Type 0) (Q : Y → Type 0) (g : X → Y) → ((x : X) → P x → Q (g x)) → (xs : List X) → Each P xs → Each Q (map g xs)
all_over P Q g f [] h = tt
all_over P Q g f (x ∷ xs) h = (f x h.0, all_over P Q g f xs h.1)

pub all_both : {X : Type 0} (P Q : X → Type 0) (xs : List X) → Each P xs → Each Q xs → Each (λ x. P x × Q x) xs
all_both P Q [] h k = tt
all_both P Q (x ∷ xs) h k = ((h.0, k.0), all_both P Q xs h.1 k.1)

pub all_append : {X : Type 0} (P : X → Type 0) (xs ys : List X) → Each P xs → Each P ys → Each P (xs ++ ys)
all_append P [] ys h k = k
all_append P (x ∷ xs) ys h k = (h.0, all_append P xs ys h.1 k)

-- ── the first row of a number ──

module _ {X : Type 0} (key : X → ℕ) where
  pub found_all : (P : X → Type 0) (z : X) (n : ℕ) (xs : List X) → has key n xs ≡ true → Each P xs → P (found key z n xs)
  found_all P z n [] h a = absurd (both_ways false refl h)
  found_all P z n (x ∷ xs) h a =
      by_test (eqb (key x) n) (λ b. cond b true (has key n xs) ≡ true → P (cond b x (found key z n xs)))
      (λ e k. a.0)
      (λ e k. found_all P z n xs k a.1) h

  pub found_key : (z : X) (n : ℕ) (xs : List X) → has key n xs ≡ true → key (found key z n xs) ≡ n
  found_key z n [] h = absurd (both_ways false refl h)
  found_key z n (x ∷ xs) h =
      by_test (eqb (key x) n) (λ b. cond b true (has key n xs) ≡ true → key (cond b x (found key z n xs)) ≡ n)
      (λ e k. eqb-true _ _ e)
      (λ e k. found_key z n xs k) h

  -- a row that no row is like in number is not found
  pub has_none : (n : ℕ) (xs : List X) → Each (λ x. key x ≡ n → ⊥) xs → has key n xs ≡ false
  has_none n [] h = refl
  has_none n (x ∷ xs) h =
      by_test (eqb (key x) n) (λ b. cond b true (has key n xs) ≡ false)
      (λ e. absurd (h.0 (eqb-true _ _ e)))
      (λ e. has_none n xs h.1)

  pub has_push : (n : ℕ) (xs : List X) (x : X) → has key n (xs ++ (x ∷ [])) ≡ cond (has key n xs) true (eqb (key x) n)
  has_push n [] x = by_test (eqb (key x) n) (λ b. cond b true false ≡ b) (λ e. refl) (λ e. refl)
  has_push n (y ∷ xs) x =
      by_test (eqb (key y) n) (λ b. cond b true (has key n (xs ++ (x ∷ []))) ≡ cond (cond b true (has key n xs)) true (eqb (key x) n))
      (λ e. refl)
      (λ e. has_push n xs x)

  pub found_push_old : (z : X) (n : ℕ) (xs : List X) (x : X) → has key n xs ≡ true → found key z n (xs ++ (x ∷ [])) ≡ found key z n xs
  found_push_old z n [] x h = absurd (both_ways false refl h)
  found_push_old z n (y ∷ xs) x h =
      by_test (eqb (key y) n) (λ b. cond b true (has key n xs) ≡ true → cond b y (found key z n (xs ++ (x ∷ []))) ≡ cond b y (found key z n xs))
      (λ e k. refl)
      (λ e k. found_push_old z n xs x k) h

  pub found_push_new : (z : X) (n : ℕ) (xs : List X) (x : X) → has key n xs ≡ false → key x ≡ n → found key z n (xs ++ (x ∷ [])) ≡ x
  found_push_new z n [] x h e = let t : eqb (key x) n ≡ true = rw e (grind (arith, nat_tests)) in rw t
  found_push_new z n (y ∷ xs) x h e =
      by_test (eqb (key y) n) (λ b. cond b true (has key n xs) ≡ false → cond b y (found key z n (xs ++ (x ∷ []))) ≡ x)
      (λ t k. absurd (both_ways true k refl))
      (λ t k. found_push_new z n xs x k e) h

  -- ── the rows g in its place ──

  module _ (n : ℕ) (g : X → List X) where
    pub total_replaced : (f : X → ℕ) (z : X) (xs : List X) → has key n xs ≡ true
        → total f (replaced key n g xs) + f (found key z n xs) ≡ total f xs + total f (g (found key z n xs))
    total_replaced f z [] h = absurd (both_ways false refl h)
    total_replaced f z (x ∷ xs) h =
        by_test (eqb (key x) n) (λ b. cond b true (has key n xs) ≡ true → total f (cond b (g x ++ xs) (x ∷ replaced key n g xs)) + f (cond b x (found key z n xs)) ≡ f x + total f xs + total f (g (cond b x (found key z n xs))))
        (λ e k. omega (arith, total_append f (g x) xs))
        (λ e k. omega (arith, total_replaced f z xs k)) h

    -- what holds of each row, and of those in the place of the one that is found
    pub all_replaced : (P : X → Type 0) (z : X) (xs : List X) → has key n xs ≡ true → Each P xs → Each P (g (found key z n xs)) → Each P (replaced key n g xs)
    all_replaced P z [] h a k = tt
    all_replaced P z (x ∷ xs) h a k =
        by_test (eqb (key x) n) (λ b. cond b true (has key n xs) ≡ true → Each P (g (cond b x (found key z n xs))) → Each P (cond b (g x ++ xs) (x ∷ replaced key n g xs)))
        (λ e t k'. all_append P (g x) xs k' a.1)
        (λ e t k'. (a.0, all_replaced P z xs t a.1 k')) h k

    pub length_replaced : (z : X) (xs : List X) → has key n xs ≡ true → length (replaced key n g xs) + 1 ≡ length xs + length (g (found key z n xs))
    length_replaced z [] h = absurd (both_ways false refl h)
    length_replaced z (x ∷ xs) h =
        by_test (eqb (key x) n) (λ b. cond b true (has key n xs) ≡ true → length (cond b (g x ++ xs) (x ∷ replaced key n g xs)) + 1 ≡ length (x ∷ xs) + length (g (cond b x (found key z n xs))))
        (λ e k. grind (arith, lib.ListN.length-append (g x) xs))
        (λ e k. omega (arith, length_replaced z xs k)) h
