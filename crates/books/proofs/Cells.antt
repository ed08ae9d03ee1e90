-- Amounts that lie in memory row by row. Assumes nothing.
use Rattle.std.proofs.Common.{◌≡◌, ℕ, ◌+◌, ◌-◌, ◌*◌, ◌/◌, ◌%◌, ◌<◌, cond, ◌&&◌, eqb, ◌≢◌, List, length, set, Ok, is_ok, sym, ap, ◌∙◌, inl, inr, arith}
use mathlib.Core.Path.{fun_ext}
use Rattle.std.proofs.lemmas.Nat.{mul-add-lt, div-mul-add, mod-mul-add}
use Rattle.std.proofs.lemmas.List.{get_or-set_same, get_or-set_other, length-set}
use Rattle.std.proofs.lemmas.Bool.{cases_lt, cases_eq}
use Rattle.std.proofs.lemmas.Bool.Decides.{nat_tests}
use Rattle.book.specs.declared.movement.Movement.{Movement}
use Rattle.book.specs.Moving.{verdict, moved, shifted}
use Rattle.book.proofs.Moves.{allowed}
use Rattle.books.specs.Laying.{cell, opened, written, amounts_after}

-- ── writing ──

pub place_below : (A R a r : ℕ) → a < A → r < R → a * R + r < A * R
place_below A R a r p q = omega (arith, mul-add-lt a R r A p q)

-- two places are one only at one account and one resource
place_apart : (R a r x s : ℕ) → r < R → s < R → (a ≡ x → r ≡ s → ⊥) → a * R + r ≢ x * R + s
place_apart R a r x s p q ne e =
    ne (sym (div-mul-add a R r p) ∙ (ap (λ n. n / R) e ∙ div-mul-add x R s q)) (sym (mod-mul-add a R r p) ∙ (ap (λ n. n % R) e ∙ mod-mul-add x R s q))

-- an amount that is written
cell_set : (A R : ℕ) (xs : List ℕ) (x s v : ℕ) → length xs ≡ A * R → x < A → s < R → (a r : ℕ) → cell A R (set xs (x * R + s) v) a r ≡ cond (eqb a x && eqb r s) v (cell A R xs a r)
cell_set A R xs x s v whole hx hs a r =
    elim (cases_lt a A) [
      | inr h ↦ grind (arith, nat_tests)
      | inl h ↦ elim (cases_lt r R) [
        | inr k ↦ grind (arith, nat_tests)
        | inl k ↦ elim (cases_eq a x) [
          | inl e ↦ elim (cases_eq r s) [
            | inl f ↦ let b : x * R + s < length xs = omega (arith, place_below A R x s hx hs) in rw (e, f, get_or-set_same xs (x * R + s) v 0 b) (grind (arith, nat_tests))
            | inr d ↦ let p : a * R + r ≢ x * R + s = place_apart R a r x s k hs (λ _ f. d f) in rw (get_or-set_other xs (x * R + s) (a * R + r) v 0 p) (grind (arith, nat_tests))
          ]
          | inr d ↦ let p : a * R + r ≢ x * R + s = place_apart R a r x s k hs (λ e _. d e) in rw (get_or-set_other xs (x * R + s) (a * R + r) v 0 p) (grind (arith, nat_tests))
        ]
      ]
    ]

-- the sender's amount written first, and then the receiver's
shifted_by_writes : (v : Movement) (f : ℕ → ℕ → ℕ) (a r x : ℕ) → (v.from ≡ v.to → ⊥) → x ≡ cond (eqb a v.from && eqb r v.resource) (f v.from v.resource - v.quantity) (f a r) → cond (eqb a v.to && eqb r v.resource) (f v.to v.resource + v.quantity) x ≡ shifted v a r (f a r)
shifted_by_writes v f a r x apart e =
    elim (cases_eq r v.resource) [
      | inr d ↦ grind (arith, nat_tests)
      | inl p ↦ elim (cases_eq a v.from) [
        | inl q ↦ grind (arith, nat_tests)
        | inr d ↦ elim (cases_eq a v.to) [ inl q ↦ grind (arith, nat_tests) | inr z ↦ grind (arith, nat_tests) ]
      ]
    ]

module _ (A R n : ℕ) (xs : List ℕ) (v : Movement) (whole : length xs ≡ A * R) (ok : Ok tt ≡ verdict (opened A R n xs) v) where
  abbrev after : List ℕ
  after = written R v (cell A R xs v.from v.resource - v.quantity) (cell A R xs v.to v.resource + v.quantity) xs

  at : (a r : ℕ) → cell A R after a r ≡ shifted v a r (cell A R xs a r)
  at a r =
      let h = allowed (opened A R n xs) v ok in
      let one = cell_set A R xs v.from v.resource (cell A R xs v.from v.resource - v.quantity) whole h.from_in h.resource_in a r in
      let two = cell_set A R (set xs (v.from * R + v.resource) (cell A R xs v.from v.resource - v.quantity)) v.to v.resource (cell A R xs v.to v.resource + v.quantity) (simp length-set whole) h.to_in h.resource_in a r in
      two ∙ shifted_by_writes v (cell A R xs) a r _ h.apart one

  -- writing the two amounts is moving
  pub opened_after : opened A R (n - 1) (amounts_after A R n v xs) ≡ moved (opened A R n xs) v
  opened_after =
      ap (λ a. opened A R (n - 1) (cond (is_ok a) after xs)) (sym ok)
      ∙ ap (λ f. record { accounts = A; resources = R; amount = f; holdback = λ _ _. 0; left = n - 1 }) (fun_ext (λ a. fun_ext (at a)))
