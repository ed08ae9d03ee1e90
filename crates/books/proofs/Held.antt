-- What the rows hold back, as one of them is replaced. Assumes nothing.
use Rattle.std.proofs.Common.{◌≡◌, ℕ, ◌+◌, ◌≤◌, min, Bool, true, false, cond, not, ◌&&◌, ◌||◌, eqb, ltb, List, [], ◌∷◌, set, Some, None, Ok, unwrap_or, option_map, sym, refl, ap, ◌∙◌, inl, inr, arith}
use mathlib.Core.Path.{fun_ext}
use Rattle.std.proofs.lemmas.Bool.{cases_Bool, cases_eq, or_parts, and_parts, cond-true, cond-false, ne_eqb, eq-eqb, eqb-true, not-true, not-false, not_from_false, or_from, or_left, or_right, and_from, true≢false, false≢true}
use Rattle.std.proofs.lemmas.Bool.Decides.{nat_tests as tells}
use Rattle.books.specs.declared.row.HoldRow.{HoldRow}
use Rattle.books.specs.Rows.{named, free, row_of, replaced, held, distinct}
use Rattle.books.proofs.Places.{found, missing}
use Rattle.std.specs.List.{find, list_any, position}
use Rattle.books.specs.Holding.{layered, holding_back, holding_more, crowded, rows_with}
use Rattle.book.specs.Meaning.{Meaning, Lawful, within, limit}
use Rattle.book.specs.Moving.{verdict}
use Rattle.book.specs.declared.movement.Movement.{Movement}
use Rattle.book.proofs.Moves.{allowed}

-- a row apart from the first that passes names account a and resource r
abbrev others : (HoldRow → Bool) → ℕ → ℕ → List HoldRow → Bool
others p a r [] = false
others p a r (x ∷ xs) = cond (p x) (list_any (named a r) xs) (named a r x || others p a r xs)

-- ── what the rows hold back ──

-- the quantity of the first row that names them
pub held_found : (rows : List HoldRow) (a r : ℕ) → held rows a r ≡ unwrap_or (option_map (λ x. x.quantity) (find (named a r) rows)) 0
unfolding held
held_found [] a r = refl
held_found (x ∷ rows) a r =
    elim (cases_Bool (named a r x)) [ inl e ↦ rw e refl | inr e ↦ rw e (held_found rows a r) ]

-- ── one row is replaced ──

-- where nobody names them, nothing is held back
held_none : (rows : List HoldRow) (a r : ℕ) → list_any (named a r) rows ≡ false → held rows a r ≡ 0
unfolding held
held_none [] a r e = refl
held_none (x ∷ xs) a r e = let o = or_parts (named a r x) (list_any (named a r) xs) e in ap (λ t. cond t x.quantity (held xs a r)) o.0 ∙ held_none xs a r o.1

-- a row that is written names what it was written for, and nothing where the quantity is 0
named_row_of : (a r q x y : ℕ) → named x y (row_of a r q) ≡ (ltb 0 q && (eqb x a && eqb y r))
named_row_of a r q x y = grind (arith, tells)

-- the row that is replaced
here : (a r q x y : ℕ) (n : Bool) (v h : ℕ) → (n ≡ true → (x ≡ a) × (y ≡ r)) → (x ≡ a → y ≡ r → h ≡ 0) → cond (named x y (row_of a r q)) (row_of a r q).quantity h ≡ cond (eqb x a && eqb y r) q (cond n v h)
here a r q x y true v h own none = let o = own refl in let z = none o.0 o.1 in grind (arith, tells)
here a r q x y false v h own none =
    elim (cases_eq x a) [
      | inr d ↦ grind (arith, tells)
      | inl e ↦ elim (cases_eq y r) [ inr d ↦ grind (arith, tells) | inl f ↦ let z = none e f in grind (arith, tells) ]
    ]

-- a row before it
before : (a r q x y : ℕ) (n : Bool) (v h k : ℕ) → (x ≡ a → y ≡ r → n ≡ false) → k ≡ cond (eqb x a && eqb y r) q h → cond n v k ≡ cond (eqb x a && eqb y r) q (cond n v h)
before a r q x y false v h k apart e = e
before a r q x y true v h k apart e =
    elim (cases_eq x a) [
      | inr d ↦ grind (arith, tells)
      | inl i ↦ elim (cases_eq y r) [ inr d ↦ grind (arith, tells) | inl j ↦ absurd (true≢false (apart i j)) ]
    ]

module _ (p : HoldRow → Bool) (a r q : ℕ) (own : (x : HoldRow) → p x ≡ true → (i j : ℕ) → named i j x ≡ true → (i ≡ a) × (j ≡ r)) where
  -- only what was written for changes
  pub held_replaced : (rows : List HoldRow) → list_any p rows ≡ true → others p a r rows ≡ false → (x y : ℕ) → held (replaced p (row_of a r q) rows) x y ≡ cond (eqb x a && eqb y r) q (held rows x y)
  unfolding replaced held
  held_replaced [] found alone x y = absurd (false≢true found)
  held_replaced (w ∷ rows) found alone x y =
      elim (cases_Bool (p w)) [
        | inl e ↦
            let nobody : list_any (named a r) rows ≡ false = sym (cond-true (p w) _ _ e) ∙ alone in
            ap (λ t. held (cond t (row_of a r q ∷ rows) (w ∷ replaced p (row_of a r q) rows)) x y) e
            ∙ here a r q x y (named x y w) w.quantity (held rows x y) (own w e x y) (λ i j. rw (i, j) (held_none rows a r nobody))
        | inr e ↦
            let apart = or_parts (named a r w) (others p a r rows) (sym (cond-false (p w) _ _ e) ∙ alone) in
            let rest : list_any p rows ≡ true = ap (λ t. t || list_any p rows) (sym e) ∙ found in
            ap (λ t. held (cond t (row_of a r q ∷ rows) (w ∷ replaced p (row_of a r q) rows)) x y) e
            ∙ before a r q x y (named x y w) w.quantity (held rows x y) _ (λ i j. rw (i, j) apart.0) (held_replaced rows rest apart.1 x y)
      ]

list_any-replaced : (s p : HoldRow → Bool) (w : HoldRow) (rows : List HoldRow) → s w ≡ false → list_any s rows ≡ false → list_any s (replaced p w rows) ≡ false
unfolding replaced
list_any-replaced s p w [] other none = refl
list_any-replaced s p w (x ∷ rows) other none =
    let o = or_parts (s x) (list_any s rows) none in
    elim (cases_Bool (p x)) [
      | inl e ↦ ap (λ t. list_any s (cond t (w ∷ rows) (x ∷ replaced p w rows))) e ∙ or_from (s w) (list_any s rows) other o.1
      | inr e ↦ ap (λ t. list_any s (cond t (w ∷ rows) (x ∷ replaced p w rows))) e ∙ or_from (s x) _ o.0 (list_any-replaced s p w rows other o.1)
    ]

-- a row in use, whose place no other row of a distinct table names
alone : (x : HoldRow) (rows : List HoldRow) → distinct (x ∷ rows) ≡ true → free x ≡ false → list_any (named x.account x.resource) rows ≡ false
unfolding distinct
alone x rows d used = not-true _ (sym (ap (λ t. t || not (list_any (named x.account x.resource) rows)) used) ∙ (and_parts (free x || not (list_any (named x.account x.resource) rows)) (distinct rows) d).0)

rest_distinct : (x : HoldRow) (rows : List HoldRow) → distinct (x ∷ rows) ≡ true → distinct rows ≡ true
unfolding distinct
rest_distinct x rows d = (and_parts (free x || not (list_any (named x.account x.resource) rows)) (distinct rows) d).1

-- what a row that names them is like
naming : (x : HoldRow) (a r : ℕ) → named a r x ≡ true → (free x ≡ false) × (x.account ≡ a) × (x.resource ≡ r)
naming x a r e = (grind (arith, tells), grind (arith, tells), grind (arith, tells))

-- the written row in front
distinct_here : (a r q : ℕ) (rows : List HoldRow) → list_any (named a r) rows ≡ false → distinct rows ≡ true → distinct (row_of a r q ∷ rows) ≡ true
unfolding distinct
distinct_here a r q rows nobody d = elim (cases_eq q 0) [
  | inl e ↦ rw e d
  | inr n ↦ rw (ne_eqb q 0 n, ne_eqb q 0 n, nobody) d
]

pub distinct_replaced : (p : HoldRow → Bool) (a r q : ℕ) (rows : List HoldRow) → distinct rows ≡ true → others p a r rows ≡ false → distinct (replaced p (row_of a r q) rows) ≡ true
unfolding distinct replaced
distinct_replaced p a r q [] d o = refl
distinct_replaced p a r q (x ∷ rows) d o =
    elim (cases_Bool (p x)) [
      | inl e ↦ ap (λ t. distinct (cond t (row_of a r q ∷ rows) (x ∷ replaced p (row_of a r q) rows))) e
          ∙ distinct_here a r q rows (sym (cond-true (p x) _ _ e) ∙ o) (rest_distinct x rows d)
      | inr e ↦
          let apart = or_parts (named a r x) (others p a r rows) (sym (cond-false (p x) _ _ e) ∙ o) in
          let clear = not (list_any (named x.account x.resource) (replaced p (row_of a r q) rows)) in
          ap (λ t. distinct (cond t (row_of a r q ∷ rows) (x ∷ replaced p (row_of a r q) rows))) e
          ∙ and_from (free x || clear) (distinct (replaced p (row_of a r q) rows))
          (elim (cases_Bool (free x)) [
            | inl f ↦ or_left (free x) clear f
            | inr f ↦ or_right (free x) clear (not_from_false _ (list_any-replaced (named x.account x.resource) p (row_of a r q) rows (let n = apart.0 in grind (arith, tells)) (alone x rows d f)))
          ])
          (distinct_replaced p a r q rows (rest_distinct x rows d) apart.1)
    ]

-- ── the two ways to find a row ──

others_naming : (a r : ℕ) (rows : List HoldRow) → distinct rows ≡ true → others (named a r) a r rows ≡ false
others_naming a r [] d = refl
others_naming a r (x ∷ rows) d =
    elim (cases_Bool (named a r x)) [
      | inl e ↦ let n = naming x a r e in rw e (rw (n.1, n.2) at (alone x rows d n.0))
      | inr e ↦ rw e (others_naming a r rows (rest_distinct x rows d))
    ]

others_free : (a r : ℕ) (rows : List HoldRow) → list_any (named a r) rows ≡ false → others free a r rows ≡ false
others_free a r [] e = refl
others_free a r (x ∷ rows) e =
    let o = or_parts (named a r x) (list_any (named a r) rows) e in
    elim (cases_Bool (free x)) [
      | inl f ↦ rw f o.1
      | inr f ↦ rw (f, o.0) (others_free a r rows o.1)
    ]

own_naming : (a r : ℕ) (x : HoldRow) → named a r x ≡ true → (i j : ℕ) → named i j x ≡ true → (i ≡ a) × (j ≡ r)
own_naming a r x e i j n = let s = naming x a r e in let t = naming x i j n in (sym t.1 ∙ s.1, sym t.2 ∙ s.2)

own_free : (a r : ℕ) (x : HoldRow) → free x ≡ true → (i j : ℕ) → named i j x ≡ true → (i ≡ a) × (j ≡ r)
own_free a r x e i j n = absurd (true≢false (sym e ∙ (naming x i j n).0))

unheld : (a r x y h : ℕ) → (x ≡ a → y ≡ r → h ≡ 0) → h ≡ cond (eqb x a && eqb y r) 0 h
unheld a r x y h none =
    elim (cases_eq x a) [
      | inr d ↦ grind (arith, tells)
      | inl i ↦ elim (cases_eq y r) [ inr d ↦ grind (arith, tells) | inl j ↦ let z = none i j in grind (arith, tells) ]
    ]

-- the rows after holding back
pub held_with : (a r q : ℕ) (rows : List HoldRow) → distinct rows ≡ true → crowded rows a r q ≡ false → (x y : ℕ) → held (rows_with rows a r q) x y ≡ cond (eqb x a && eqb y r) q (held rows x y)
held_with a r q rows d room x y =
    elim (cases_Bool (list_any (named a r) rows)) [
      | inl e ↦ ap (λ t. held (cond t (replaced (named a r) (row_of a r q) rows) (cond (eqb q 0) rows (replaced free (row_of a r q) rows))) x y) e
          ∙ held_replaced (named a r) a r q (own_naming a r) rows e (others_naming a r rows d) x y
      | inr e ↦ ap (λ t. held (cond t (replaced (named a r) (row_of a r q) rows) (cond (eqb q 0) rows (replaced free (row_of a r q) rows))) x y) e
          ∙ elim (cases_eq q 0) [
            | inl z ↦ rw z (unheld a r x y (held rows x y) (λ i j. rw (i, j) (held_none rows a r e)))
            | inr n ↦ ap (λ t. held (cond t rows (replaced free (row_of a r q) rows)) x y) (ne_eqb q 0 n)
                ∙ held_replaced free a r q (own_free a r) rows (not-false (list_any free rows) (rw (ne_eqb q 0 n, e) at room)) (others_free a r rows e) x y
          ]
    ]

-- ── the layer ──

-- rows that hold nothing back leave the book as it is
pub layered_none : (m : Meaning) (rows : List HoldRow) → Lawful m → ((a r : ℕ) → held rows a r ≡ 0) → layered m rows ≡ m
layered_none m rows l none =
    ap (λ (f : ℕ → ℕ → ℕ). record { accounts = m.accounts; resources = m.resources; amount = m.amount; holdback = f; left = m.left })
    (fun_ext (λ a. fun_ext (λ r. capped (within m a r) (m.holdback a r) (held rows a r) (none a r) (l.holdbacks a r) (l.no_holdbacks a r))))
  where
    capped : (b : Bool) (h k : ℕ) → k ≡ 0 → h ≤ limit → (b ≡ false → h ≡ 0) → cond b (min limit (h + k)) 0 ≡ h
    capped true h k z le out = omega arith
    capped false h k z le out = sym (out refl)

-- the layer after holding back, by what its rows hold back
pub layered_with : (m : Meaning) (rows ys : List HoldRow) (a r q : ℕ) → within m a r ≡ true → ((x y : ℕ) → held ys x y ≡ cond (eqb x a && eqb y r) q (held rows x y)) → layered m ys ≡ holding_back (layered m rows) a r (min limit (m.holdback a r + q))
layered_with m rows ys a r q inside is =
    ap (λ (f : ℕ → ℕ → ℕ). record { accounts = m.accounts; resources = m.resources; amount = m.amount; holdback = f; left = m.left })
    (fun_ext (λ x. fun_ext (λ y. ap (λ k. cond (within m x y) (min limit (m.holdback x y + k)) 0) (is x y) ∙ at x y)))
  where
    at : (x y : ℕ) → cond (within m x y) (min limit (m.holdback x y + cond (eqb x a && eqb y r) q (held rows x y))) 0 ≡ cond (eqb x a && eqb y r) (min limit (m.holdback a r + q)) (cond (within m x y) (min limit (m.holdback x y + held rows x y)) 0)
    at x y =
        elim (cases_Bool (eqb x a && eqb y r)) [
          | inr e ↦ rw e
          | inl e ↦
              let t = and_parts (eqb x a) (eqb y r) e in
              rw (eqb-true x a t.0, eqb-true y r t.1, eq-eqb a a refl, eq-eqb r r refl, inside) refl
        ]

-- the book below accepts what the layer accepts
pub layered_accepts : (m : Meaning) (rows : List HoldRow) (v : Movement) → Lawful m → Ok tt ≡ verdict (layered m rows) v → Ok tt ≡ verdict m v
layered_accepts m rows v l e =
    let h = allowed (layered m rows) v e in
    let le = l.holdbacks v.from v.resource in
    let from_in = h.from_in in
    let resource_in = h.resource_in in
    let enough = h.enough in
    grind (arith, tells)

-- ── the row of an account and a resource ──

none_of : (b : Bool) → (b && false) ≡ false
none_of true = refl
none_of false = refl

-- what setting the row of q of account a in resource r makes of the rows
pub record RowSet (xs ys : List HoldRow) (a r q : ℕ) : Type 0 where
  pub apart : distinct ys ≡ true
  pub room : crowded xs a r q ≡ false
  pub rows : ys ≡ rows_with xs a r q

-- the layer after its row is set
pub layered_set : (m : Meaning) (rows ys : List HoldRow) (a r q : ℕ) → RowSet rows ys a r q → distinct rows ≡ true → within m a r ≡ true → layered m ys ≡ holding_more m rows a r q
layered_set m rows ys a r q s d inside = ap (layered m) s.rows ∙ layered_with m rows (rows_with rows a r q) a r q inside (held_with a r q rows d s.room)

module _ (a r q : ℕ) (rows : List HoldRow) (d : distinct rows ≡ true) where
  -- the row that names them is written
  pub naming_set : (i : ℕ) (w : HoldRow) → w ≡ row_of a r q → Some i ≡ position (named a r) rows → RowSet rows (set rows i w) a r q
  naming_set i w e p =
      let f = found (named a r) rows i p in
      let is = f.1 w ∙ ap (λ x. replaced (named a r) x rows) e in
      record {
        apart = ap distinct is ∙ distinct_replaced (named a r) a r q rows d (others_naming a r rows d);
        room = rw f.0 (none_of (not (eqb q 0)));
        rows = is ∙ rw f.0 refl;
      }

  module _ (nobody : None ≡ position (named a r) rows) where
    -- nothing is to be held back, and nothing is
    pub nothing_set : q ≡ 0 → RowSet rows rows a r q
    nothing_set e = let n = missing (named a r) rows nobody in record { apart = d; room = rw e refl; rows = rw (n, e) refl }

    -- a free row is taken
    pub free_set : (i : ℕ) (w : HoldRow) → w ≡ row_of a r q → (q ≡ 0 → ⊥) → Some i ≡ position free rows → RowSet rows (set rows i w) a r q
    free_set i w e some p =
        let n = missing (named a r) rows nobody in
        let f = found free rows i p in
        let is = f.1 w ∙ ap (λ x. replaced free x rows) e in
        record {
          apart = ap distinct is ∙ distinct_replaced free a r q rows d (others_free a r rows n);
          room = rw (ne_eqb q 0 some, n, f.0) refl;
          rows = is ∙ rw (n, ne_eqb q 0 some) refl;
        }

    -- none is free
    pub none_free : (q ≡ 0 → ⊥) → None ≡ position free rows → crowded rows a r q ≡ true
    none_free some p = let n = missing (named a r) rows nobody in let f = missing free rows p in rw (ne_eqb q 0 some, n, f) refl
