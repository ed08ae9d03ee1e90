-- The first row of a number, by its place.
use Rattle.std.proofs.Common.{◌≡◌, ℕ, zero, suc, ◌+◌, ◌<◌, true, false, cond, eqb, List, [], ◌∷◌, ◌++◌, map, length, get_or, take, drop, set, Some, None, sym, refl, ap, ◌∙◌, arith}
use Rattle.std.proofs.lemmas.List.{length-map, get_or-map}
use Rattle.std.proofs.lemmas.Bool.{eq-eqb, ne_eqb}
use Rattle.memory.specs.Places.{place_of}
use Rattle.memory.proofs.Halves.{place_some, place_none}
use Rattle.law.specs.Finding.{has, found, replaced}

module _ {X : Type 0} (key : X → ℕ) where
  -- it is found there, and what replaces it stands there
  pub record At (z : X) (n i : ℕ) (xs : List X) : Type 0 where
    pub listed : i < length xs
    pub there : has key n xs ≡ true
    pub is : found key z n xs ≡ get_or xs i z
    pub replace : (g : X → List X) → replaced key n g xs ≡ take i xs ++ (g (get_or xs i z) ++ drop (i + 1) xs)

  at_place : (z : X) (n i : ℕ) (xs : List X) → i < length xs → key (get_or xs i z) ≡ n → ((j : ℕ) → j < i → key (get_or xs j z) ≡ n → ⊥) → At z n i xs
  at_place z n i [] l e b = absurd (let w : ⊥ = omega arith in w)
  at_place z n zero (x ∷ xs) l e b =
      let t : eqb (key x) n ≡ true = eq-eqb _ _ e in
      record {
        listed = l;
        there = ap (λ v. cond v true (has key n xs)) t;
        is = ap (λ v. cond v x (found key z n xs)) t;
        replace = λ g. ap (λ v. cond v (g x ++ xs) (x ∷ replaced key n g xs)) t;
      }
  at_place z n (suc i) (x ∷ xs) l e b =
      let f : eqb (key x) n ≡ false = ne_eqb _ _ (b 0 (omega arith)) in
      let r = at_place z n i xs (omega arith) e (λ j k. b (suc j) (omega arith)) in
      record {
        listed = l;
        there = ap (λ v. cond v true (has key n xs)) f ∙ r.there;
        is = ap (λ v. cond v x (found key z n xs)) f ∙ r.is;
        replace = λ g.
            let m : suc (i + 1) ≡ suc i + 1 = omega arith in
            ap (λ v. cond v (g x ++ xs) (x ∷ replaced key n g xs)) f ∙ ap (λ ys. x ∷ ys) (r.replace g)
            ∙ ap (λ k. x ∷ (take i xs ++ (g (get_or xs i z) ++ drop k (x ∷ xs)))) m;
      }

  nowhere : (z : X) (n : ℕ) (xs : List X) → ((j : ℕ) → j < length xs → key (get_or xs j z) ≡ n → ⊥) → has key n xs ≡ false
  nowhere z n [] b = refl
  nowhere z n (x ∷ xs) b =
      ap (λ v. cond v true (has key n xs)) (ne_eqb _ _ (b 0 (omega arith))) ∙ nowhere z n xs (λ j k. b (suc j) (omega arith))

  module _ (z : X) (n : ℕ) (xs : List X) where
    pub place_at : (i : ℕ) → place_of n (map key xs) ≡ Some i → At z n i xs
    place_at i e =
        let p = place_some n i (map key xs) e in
        let long : length (map key xs) ≡ length xs = length-map xs key in
        let l : i < length xs = omega (arith, p.0, long) in
        at_place z n i xs l (sym (get_or-map key xs i z 0 l) ∙ p.1) (λ j k e'. p.2 j k (get_or-map key xs j z 0 (omega (arith, k, l)) ∙ e'))

    pub place_out : place_of n (map key xs) ≡ None → has key n xs ≡ false
    place_out e =
        let b = place_none n (map key xs) e in
        let long : length (map key xs) ≡ length xs = length-map xs key in
        nowhere z n xs (λ j k e'. b j (omega (arith, k, long)) (get_or-map key xs j z 0 k ∙ e'))

-- a row put at a place
pub put_at : {X : Type 0} (xs : List X) (i : ℕ) (y : X) → i < length xs → take i xs ++ (y ∷ drop (i + 1) xs) ≡ set xs i y
put_at [] i y l = absurd (let w : ⊥ = omega arith in w)
put_at (x ∷ xs) zero y l = refl
put_at (x ∷ xs) (suc i) y l =
    let m : suc i + 1 ≡ suc (i + 1) = omega arith in
    ap (λ k. x ∷ (take i xs ++ (y ∷ drop k (x ∷ xs)))) m ∙ ap (λ ys. x ∷ ys) (put_at xs i y (omega arith))
