-- Numbers that rise, and the search for one by halves. Assumes nothing.
use Rattle.std.proofs.Common.{◌≡◌, ℕ, zero, suc, ◌+◌, ◌<◌, ◌≤◌, min, true, false, eqb, ◌⊎◌, List, [], ◌∷◌, map, length, get_or, take, is_some, IfSome, Some, None, Option, Result, Ok, Err, sym, refl, ap, ◌∙◌, subst, inl, inr, arith, MatchOption}
use Rattle.std.proofs.lemmas.List.{get_or-map, length-map, length-take, get_or-take, map-id, take_all}
use Rattle.std.proofs.lemmas.Bool.{cases_lt, cases_eq, eq-eqb, ne_eqb, cond-true, cond-false}
use Rattle.std.proofs.lemmas.Bool.Decides.{nat_tests}
use Rattle.std.proofs.lemmas.Cmp.{ranked}
use Rattle.std.specs.List.Sorted.{IsSearchInRange, IsBinarySearchResult, IsNonDecreasingBy, IsPartitionPoint}
use Rattle.std.specs.Ordering.{nat_cmp, ordering_index}
use Rattle.std.specs.Result.{result_ok}
use Rattle.std.specs.declared.cmp.Ordering.TheVariants.{Less, Greater}
use Rattle.memory.specs.Places.{Rising, place_from, place_of, FoundAt}

-- ── the first place ──

-- none before it is n
abbrev pub Before : ℕ → List ℕ → ℕ → Type 0
Before n ns k = (j : ℕ) → j < k → get_or ns j 0 ≡ n → ⊥

place_from_lem : (n i k : ℕ) (ns : List ℕ) → k < length ns → get_or ns k 0 ≡ n → Before n ns k → place_from n i ns ≡ Some (i + k)
unfolding place_from
place_from_lem n i k [] h e b = absurd (omega arith)
place_from_lem n i zero (x ∷ xs) h e b = cond-true (eqb x n) _ _ (eq-eqb x n e) ∙ let same : i ≡ i + 0 = omega arith in ap Some same
place_from_lem n i (suc k) (x ∷ xs) h e b =
    cond-false (eqb x n) _ _ (ne_eqb x n (b 0 (omega arith)))
    ∙ place_from_lem n (i + 1) k xs (omega arith) e (λ j l. b (suc j) (omega arith))
    ∙ let same : i + 1 + k ≡ i + suc k = omega arith in ap Some same

none_from : (n i : ℕ) (ns : List ℕ) → Before n ns (length ns) → place_from n i ns ≡ None
unfolding place_from
none_from n i [] b = refl
none_from n i (x ∷ xs) b =
    cond-false (eqb x n) _ _ (ne_eqb x n (b 0 (omega arith)))
    ∙ none_from n (i + 1) xs (λ j l. b (suc j) (omega arith))

pub place_first : (n k : ℕ) (ns : List ℕ) → k < length ns → get_or ns k 0 ≡ n → Before n ns k → place_of n ns ≡ Some k
place_first n k ns h e b = place_from_lem n 0 k ns h e b ∙ let same : 0 + k ≡ k = omega arith in ap Some same

pub place_absent : (n : ℕ) (ns : List ℕ) → Before n ns (length ns) → place_of n ns ≡ None
place_absent n ns b = none_from n 0 ns b

-- what a place is: the first of that number; and nothing says that there is none
abbrev pub PlaceIs : ℕ → List ℕ → ℕ → Type 0
PlaceIs n ns k = (k < length ns) × (get_or ns k 0 ≡ n) × Before n ns k

abbrev PlaceFrom : ℕ → ℕ → List ℕ → ℕ → Type 0
PlaceFrom n i ns m = (k : ℕ) × (m ≡ i + k) × PlaceIs n ns k

before_more : (n x : ℕ) (ns : List ℕ) (k : ℕ) → (x ≡ n → ⊥) → Before n ns k → Before n (x ∷ ns) (suc k)
before_more n x ns k ne b zero l e = ne e
before_more n x ns k ne b (suc j) l e = b j (omega arith) e

place_later : (n i x : ℕ) (ns : List ℕ) (o : Option ℕ) → (x ≡ n → ⊥) → MatchOption o (Before n ns (length ns)) (PlaceFrom n (i + 1) ns) → MatchOption o (Before n (x ∷ ns) (length (x ∷ ns))) (PlaceFrom n i (x ∷ ns))
place_later n i x ns None ne c = before_more n x ns (length ns) ne c
place_later n i x ns (Some m) ne c = (suc c.0, omega (arith, c.1), (omega (arith, c.2.0), c.2.1, before_more n x ns c.0 ne c.2.2))

place_from_cases : (n i : ℕ) (ns : List ℕ) → MatchOption (place_from n i ns) (Before n ns (length ns)) (PlaceFrom n i ns)
unfolding place_from
place_from_cases n i [] = λ j l e. omega arith
place_from_cases n i (x ∷ xs) =
    elim (cases_eq x n) [
      | inl e ↦ rw (eq-eqb x n e) (0, omega arith, (omega arith, e, λ j l z. omega arith))
      | inr ne ↦ rw (ne_eqb x n ne) (place_later n i x xs (place_from n (i + 1) xs) ne (place_from_cases n (i + 1) xs))
    ]

at_start : (n : ℕ) (ns : List ℕ) (o : Option ℕ) → MatchOption o (Before n ns (length ns)) (PlaceFrom n 0 ns) → MatchOption o (Before n ns (length ns)) (PlaceIs n ns)
at_start n ns None c = c
at_start n ns (Some m) c = let e : c.0 ≡ m = omega (arith, c.1) in subst (PlaceIs n ns) e c.2

pub place_cases : (n : ℕ) (ns : List ℕ) → MatchOption (place_of n ns) (Before n ns (length ns)) (PlaceIs n ns)
place_cases n ns = at_start n ns (place_of n ns) (place_from_cases n 0 ns)

pub place_some : (n k : ℕ) (ns : List ℕ) → place_of n ns ≡ Some k → PlaceIs n ns k
place_some n k ns e = rw e at (place_cases n ns)

pub place_none : (n : ℕ) (ns : List ℕ) → place_of n ns ≡ None → Before n ns (length ns)
place_none n ns e = rw e at (place_cases n ns)

-- where the numbers rise, no two are one
pub rising_before : (n k : ℕ) (ns : List ℕ) → Rising ns → k < length ns → get_or ns k 0 ≡ n → Before n ns k
rising_before n k ns up h e j l is = let z = up j k l h in omega arith

pub rising_other : (j k : ℕ) (ns : List ℕ) → Rising ns → j < length ns → k < length ns → (j ≡ k → ⊥) → get_or ns j 0 ≡ get_or ns k 0 → ⊥
rising_other j k ns up l h ne e =
    elim (cases_lt j k) [
      | inl b ↦ let z = up j k b h in omega arith
      | inr b ↦ let z = up k j (omega arith) l in omega arith
    ]

-- among the first so many
pub among : (n c k : ℕ) (ns : List ℕ) → k < length ns → get_or ns k 0 ≡ n → k < c → is_some (place_of n (take c ns)) ≡ true
among n c k ns h e l = some_where (place_of n (take c ns)) (place_cases n (take c ns))
  where
    some_where : (o : Option ℕ) → MatchOption o (Before n (take c ns) (length (take c ns))) (PlaceIs n (take c ns)) → is_some o ≡ true
    some_where None b = absurd (b k (rw (length-take c ns) (omega arith)) (get_or-take c ns k 0 l ∙ e))
    some_where (Some m) b = refl

pub not_among : (n c k : ℕ) (ns : List ℕ) → Before n ns k → (c ≤ k) ⊎ (length ns ≤ k) → is_some (place_of n (take c ns)) ≡ false
not_among n c k ns b h =
    ap is_some (place_absent n (take c ns) (λ j l e.
    let long = length-take c ns in
    b j (omega (arith, h)) (sym (get_or-take c ns j 0 (omega arith)) ∙ e)))

-- ── by halves ──

-- the number of a row that is there
number_at : {X : Type 0} (key : X → ℕ) (xs : List X) (i n : ℕ) → i < length xs → ((d : X) → key (get_or xs i d) ≡ n) → get_or (map key xs) i 0 ≡ n
number_at key [] i n h e = absurd (omega arith)
number_at key (x ∷ xs) i n h e = get_or-map key (x ∷ xs) i x 0 h ∙ e x

module _ {X : Type 0} (key : X → ℕ) (xs : List X) (n : ℕ) where
  -- comparisons with n rise along numbers that rise
  comparisons_rise : Rising (map key xs) → IsNonDecreasingBy (λ x. ordering_index (nat_cmp (key x) n)) xs
  comparisons_rise up i j d le l =
      let long = length-map xs key in
      let at : (k : ℕ) → k < length xs → get_or (map key xs) k 0 ≡ key (get_or xs k d) = λ k h. get_or-map key xs k d 0 h in
      elim (cases_eq i j) [
        | inl e ↦ rw e (omega arith)
        | inr ne ↦
            let less : key (get_or xs i d) < key (get_or xs j d) = omega (arith, up i j (omega arith) (omega arith), at i (omega arith), at j l) in
            grind (arith, nat_tests)
      ]

  -- what a search by numbers finds
  pub searched_in : (r : Result ℕ ℕ) → IsSearchInRange r (length xs) → IsBinarySearchResult (λ x. nat_cmp (key x) n) xs r → IfSome (result_ok r) (λ i. (i < length xs) × (get_or (map key xs) i 0 ≡ n))
  searched_in (Ok i) within equal = (within, number_at key xs i n within (λ d. ranked _ n _ (sym (equal d))))
  searched_in (Err i) within parted = tt

  pub searched_place : (r : Result ℕ ℕ) → IsSearchInRange r (length xs) → IsBinarySearchResult (λ x. nat_cmp (key x) n) xs r → Rising (map key xs) → result_ok r ≡ place_of n (map key xs)
  searched_place (Ok i) within equal up =
      let long = length-map xs key in
      let is = number_at key xs i n within (λ d. ranked _ n _ (sym (equal d))) in
      sym (place_first n i (map key xs) (omega arith) is (rising_before n i (map key xs) up (omega arith) is))
  searched_place (Err i) within parted up = sym (place_absent n (map key xs) (absent xs (parted (comparisons_rise up))))
    where
      absent : (ys : List X) → IsPartitionPoint (λ x. nat_cmp (key x) n ≡ Less) (λ x. nat_cmp (key x) n ≡ Greater) ys i → Before n (map key ys) (length (map key ys))
      absent [] p j l e = omega arith
      absent (y ∷ ys) p j l e =
          let long = length-map (y ∷ ys) key in
          let at = get_or-map key (y ∷ ys) j y 0 (omega arith) in
          elim (cases_lt j i) [
            | inl a ↦ let low : key (get_or (y ∷ ys) j y) < n = ranked _ n _ (sym (p.0 j y (omega arith) a)) in omega arith
            | inr a ↦ let high : n < key (get_or (y ∷ ys) j y) = ranked _ n _ (sym (p.1 j y a (omega arith))) in omega arith
          ]

-- among numbers alone
pub place_searched : (ns : List ℕ) (n : ℕ) (r : Result ℕ ℕ) → IsSearchInRange r (length ns) → IsBinarySearchResult (λ m. nat_cmp m n) ns r → Rising ns → result_ok r ≡ place_of n ns
place_searched ns n r within is up =
    let same = map-id ns in
    searched_place (λ m. m) ns n r within is (subst Rising (sym same) up) ∙ ap (place_of n) same

module _ {X : Type 0} (xs : List X) where
  -- no more rows than there are
  pub take_min : (n : ℕ) → take (min (length xs) n) xs ≡ take n xs
  take_min n =
      elim (cases_lt n (length xs)) [
        | inl l ↦ let e : min (length xs) n ≡ n = omega arith in ap (λ k. take k xs) e
        | inr l ↦ let e : min (length xs) n ≡ length xs = omega arith in ap (λ k. take k xs) e ∙ take_all (length xs) xs (omega arith) ∙ sym (take_all n xs l)
      ]

  pub found_used : (key : X → ℕ) (ys : List X) (used n : ℕ) (o : Option ℕ) → ys ≡ take used xs → IfSome o (λ i. (i < length ys) × (get_or (map key ys) i 0 ≡ n)) → IfSome o (FoundAt key xs used n)
  found_used key ys used n None e f = tt
  found_used key ys used n (Some i) e f =
      let long : length ys ≡ min used (length xs) = ap length e ∙ length-take used xs in
      let below : i < used = omega (arith, f.0) in
      record {
        used = below;
        listed = omega (arith, f.0);
        named = λ d. ap key (sym (get_or-take used xs i d below) ∙ ap (λ (zs : List X). get_or zs i d) (sym e)) ∙ sym (get_or-map key ys i d 0 f.0) ∙ f.1;
      }
