-- The first row that passes, by its place. Assumes nothing.
use Rattle.std.proofs.Common.{◌≡◌, ℕ, Bool, true, false, cond, List, [], ◌∷◌, length, nat_lt, set, Some, None, Option, sym, refl, ap, ◌∙◌, inl, inr, one-add, arith}
use Rattle.std.proofs.lemmas.Bool.{cases_Bool, lt-ltb}
use Rattle.std.proofs.lemmas.Bool.Decides.{nat_tests}
use Rattle.std.specs.List.{list_any, position, position_or_len}
use Rattle.books.specs.declared.row.HoldRow.{HoldRow}
use Rattle.books.specs.Rows.{replaced}

module _ (p : HoldRow → Bool) where
  list_any_by_position : (rows : List HoldRow) → list_any p rows ≡ nat_lt (position_or_len p rows) (length rows)
  list_any_by_position [] = refl
  list_any_by_position (x ∷ rows) =
      elim (cases_Bool (p x)) [
        | inl e ↦ rw e (sym (lt-ltb 0 (length (x ∷ rows)) (omega arith)))
        | inr e ↦ rw e (list_any_by_position rows ∙ grind (arith, nat_tests))
      ]

  set_at_position : (w : HoldRow) (rows : List HoldRow) → set rows (position_or_len p rows) w ≡ replaced p w rows
  unfolding replaced
  set_at_position w [] = refl
  set_at_position w (x ∷ rows) =
      elim (cases_Bool (p x)) [
        | inl e ↦ rw e refl
        | inr e ↦ rw (e, one-add (position_or_len p rows)) (ap (λ ys. x ∷ ys) (set_at_position w rows))
      ]

  by_test : (rows : List HoldRow) (b : Bool) → nat_lt (position_or_len p rows) (length rows) ≡ b → position p rows ≡ cond b (Some (position_or_len p rows)) None
  by_test rows b e = ap (λ t. cond t (Some (position_or_len p rows)) None) e

  -- where a row is found, it is the one that is replaced
  pub found : (rows : List HoldRow) (i : ℕ) → Some i ≡ position p rows → (list_any p rows ≡ true) × ((w : HoldRow) → set rows i w ≡ replaced p w rows)
  found rows i e =
      elim (cases_Bool (nat_lt (position_or_len p rows) (length rows))) [
        | inl t ↦
            let is : Some i ≡ Some (position_or_len p rows) = e ∙ by_test rows true t in
            let k : i ≡ position_or_len p rows = cc in
            (list_any_by_position rows ∙ t, λ w. ap (λ j. set rows j w) k ∙ set_at_position w rows)
        | inr t ↦ absurd (let z : ◌≡◌ {A = Option ℕ} (Some i) None = e ∙ by_test rows false t in cc)
      ]

  -- where none is found, none passes
  pub missing : (rows : List HoldRow) → None ≡ position p rows → list_any p rows ≡ false
  missing rows e =
      elim (cases_Bool (nat_lt (position_or_len p rows) (length rows))) [
        | inl t ↦ absurd (let z : ◌≡◌ {A = Option ℕ} None (Some (position_or_len p rows)) = e ∙ by_test rows true t in cc)
        | inr t ↦ list_any_by_position rows ∙ t
      ]
