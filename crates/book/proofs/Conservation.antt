-- Movements make nothing and lose nothing. Assumes nothing.
use Rattle.std.proofs.Common.{◌≡◌, ℕ, ◌+◌, cond, List, [], ◌∷◌, length, is_ok, Ok, Err, Result, refl, ◌∙◌, inl, inr, add-zero, one-add, arith}
use Rattle.std.proofs.lemmas.Bool.{cases_eq}
use Rattle.std.proofs.lemmas.Bool.Decides.{nat_tests}
use Rattle.book.specs.declared.movement.Movement.{Movement}
use Rattle.book.specs.declared.refusal.BookRefusal.{BookRefusal}
use Rattle.book.specs.Meaning.{Meaning}
use Rattle.book.specs.Moving.{verdict, moved, after}
use Rattle.book.specs.Lists.{run, refusal_from, attempted, accepted}
use Rattle.book.specs.Law.{Conserved}
use Rattle.book.proofs.Moves.{allowed}
use Rattle.book.proofs.Runs.{both_ok}
use Rattle.book.proofs.Totals.{sum_below_same, sum_below_moved}

pub conserved_none : (m : Meaning) → Conserved m m 0
conserved_none m =
    record { same_accounts = refl; same_resources = refl; same_holdbacks = refl; same_totals = λ r. refl; movements = add-zero m.left }

pub conserved_then : {m n k : Meaning} {a b : ℕ} → Conserved m n a → Conserved n k b → Conserved m k (a + b)
conserved_then x y =
    record {
      same_accounts = y.same_accounts ∙ x.same_accounts;
      same_resources = y.same_resources ∙ x.same_resources;
      same_holdbacks = y.same_holdbacks ∙ x.same_holdbacks;
      same_totals = λ r. y.same_totals r ∙ x.same_totals r;
      movements = omega arith;
    }

pub conserved_moved : (m : Meaning) (v : Movement) → Ok tt ≡ verdict m v → Conserved m (moved m v) 1
conserved_moved m v e =
    let h = allowed m v e in
    record {
      same_accounts = refl;
      same_resources = refl;
      same_holdbacks = refl;
      same_totals = λ r. elim (cases_eq r v.resource) [
        | inr d ↦ sum_below_same (λ a. (moved m v).amount a r) (λ a. m.amount a r) m.accounts (λ k l. grind (arith, nat_tests))
        | inl p ↦ rw p (sum_below_moved (λ a. (moved m v).amount a v.resource) (λ a. m.amount a v.resource) m.accounts v.from v.to v.quantity
            h.from_in h.to_in h.apart (omega (arith, h.enough)) (grind (arith, nat_tests)) (grind (arith, nat_tests)) (λ k d z. grind (arith, nat_tests)))
      ];
      movements = omega (arith, h.one_left);
    }

pub conserved_after : (m : Meaning) (v : Movement) → Conserved m (after m v) (cond (is_ok (verdict m v)) 1 0)
conserved_after m v = by (verdict m v) refl
  where
    by : (a : Result (Unit {0}) BookRefusal) → a ≡ verdict m v → Conserved m (cond (is_ok a) (moved m v) m) (cond (is_ok a) 1 0)
    by (Ok tt) e = conserved_moved m v e
    by (Err x) e = conserved_none m

-- over an accepted list
pub conserved_run : (i : ℕ) (m : Meaning) (vs : List Movement) → Ok tt ≡ refusal_from i m vs → Conserved m (run m vs) (length vs)
unfolding run refusal_from
conserved_run i m [] e = conserved_none m
conserved_run i m (v ∷ vs) e =
    let b = both_ok i (verdict m v) (refusal_from (i + 1) (moved m v) vs) e in
    rw (← one-add (length vs)) (conserved_then (conserved_moved m v b.0) (conserved_run (i + 1) (moved m v) vs b.1))

-- over any list, by those that were accepted
pub conserved_attempted : (m : Meaning) (vs : List Movement) → Conserved m (attempted m vs) (accepted m vs)
unfolding attempted accepted
conserved_attempted m [] = conserved_none m
conserved_attempted m (v ∷ vs) = conserved_then (conserved_after m v) (conserved_attempted (after m v) vs)

pub conserved_attempt : (m n : Meaning) (vs : List Movement) (k : ℕ) → n ≡ attempted m vs → k ≡ accepted m vs → Conserved m n k
conserved_attempt m n vs k p q = rw (p, q) (conserved_attempted m vs)
