-- A deal that comes, with its cash.
use Rattle.std.proofs.Common.{◌≡◌, ℕ, ◌+◌, ◌*◌, ◌<◌, true, false, cond, eqb, List, [], ◌∷◌, ◌++◌, Ok, sym, refl, ap, ◌∙◌, subst, inl, inr, arith}
use Rattle.std.specs.List.{AllByRecursion as Each}
use Rattle.std.proofs.lemmas.Bool.{cases_eq, both_ways, eq-eqb, ne_eqb}
use Rattle.std.proofs.lemmas.Bool.Decides.{nat_tests}
use Rattle.book.specs.Lists.{run, rehearsed}
use Rattle.book.specs.Meaning.{Meaning}
use Rattle.book.proofs.Runs.{run_accounts}
use Rattle.memory.specs.declared.row.Deal.{Deal}
use Rattle.memory.specs.declared.row.Line.{Line}
use Rattle.memory.specs.Sound.{number}
use Rattle.sides.specs.declared.terms.Terms.{Terms}
use Rattle.law.specs.Calls.{deal_for}
use Rattle.law.specs.Sums.{only, total}
use Rattle.law.specs.Finding.{has_deal}
use Rattle.law.specs.Slips.{movements_of}
use Rattle.law.specs.Past.{Opening, Entry, settled, stated, is_interest, comes_to, goes_from, settled_numbers, deal_numbers, back_on, interest_of, pair_by, pair_of, rate_by, rate_of, stood_by, stood, accrued_on, added_by, date_by, date_of}
use Rattle.law.specs.Agree.{takes_in, gives_in, unit_in}
use Rattle.law.proofs.Totals.{by_test, total_append, has_push, all_to, all_both, all_append}
use Rattle.law.proofs.Ordered.{ordered_push}
use Rattle.law.proofs.Histories.{count, Quiet, Still, quiet_settled, accrued_still, Unseen, unseen_quiet}
use Rattle.law.proofs.Moves.{run_amount}
use Rattle.law.proofs.Unchanged.{says_quiet, went_quiet}
use Rattle.law.proofs.Kept.{parts_for, Ranged, Says, DealsKept}

module _ (o : Opening) (m : Meaning) (date next : ℕ) (ds : List Deal) (ls after : List Line) (h : List Entry) (e : Entry) (t : Terms)
    (k : DealsKept o m date next ds ls h) (takes_all : Ok tt ≡ rehearsed m (movements_of e.slips))
    (says-settled : stated e ≡ settled next t) (in_range : Ranged m.accounts (next + 1) date (deal_for next t))
    (whole : parts_for next after ≡ t.cash) (even : (i : ℕ) → (i ≡ next → ⊥) → parts_for i after ≡ parts_for i ls)
    (no-back : (i : ℕ) → total (back_on i) e.slips ≡ 0) (no_interest : (i : ℕ) → total (interest_of i) e.slips ≡ 0)
    (in-cash : (a c : ℕ) → c < 3 → total (comes_to a c) e.slips ≡ only (gives_in a c (deal_for next t)) t.cash)
    (out-cash : (a c : ℕ) → c < 3 → total (goes_from a c) e.slips ≡ only (takes_in a c (deal_for next t)) t.cash)
    (in-interest : (a c : ℕ) → total (λ x. only (is_interest x) (comes_to a c x)) e.slips ≡ 0)
    (out-interest : (a c : ℕ) → total (λ x. only (is_interest x) (goes_from a c x)) e.slips ≡ 0) where
  quiet : (i : ℕ) → (next ≡ i → ⊥) → Quiet i e
  quiet i ne = quiet_settled i e (no-back i) (no_interest i) next t says-settled ne

  still : Still e
  still = record { nothing = λ daily date'. ap (λ z. added_by z daily date') says-settled }

  abbrev es : List Deal
  es = ds ++ (deal_for next t ∷ [])

  old : Each (λ d. d.number < next) ds
  old = all_to _ _ (λ d r. r.number_below) ds k.ranged

  unseen : Unseen o next h
  unseen = k.fresh next (omega arith)

  same : eqb next next ≡ true
  same = eq-eqb next next refl

  pair : pair_of next (e ∷ h) ≡ t
  pair = ap (λ y. pair_by next y (pair_of next h)) says-settled ∙ ap (λ b. cond b t (pair_of next h)) same

  up : stood next (e ∷ h) ≡ true
  up = ap (λ y. stood_by next y (stood next h)) says-settled ∙ ap (λ b. cond b true (stood next h)) same

  none_yet : accrued_on o next (e ∷ h) ≡ 0
  none_yet = accrued_still o next e h still ∙ unseen.nothing

  says_new : Says o (e ∷ h) after (deal_for next t)
  says_new =
      record {
        giver = ap (λ u. u.giver) (sym pair);
        taker = ap (λ u. u.taker) (sym pair);
        currency = ap (λ u. u.currency) (sym pair);
        rate = sym (ap (λ y. rate_by next y (rate_of next h)) says-settled ∙ ap (λ b. cond b t.rate (rate_of next h)) same);
        cash = omega (arith, no-back next, unseen.back, ap (λ u. u.cash) pair);
        parts = whole;
        interest = zero_mul_add (unit_in t.currency) ∙ sym none_yet;
        up = up;
        unpaid = omega (arith, no_interest next, unseen.unpaid);
      }
    where
      zero_mul_add : (u : ℕ) → 0 * u + 0 ≡ 0
      zero_mul_add u = omega arith

  pub added_step : DealsKept o (run m (movements_of e.slips)) date (next + 1) es after (e ∷ h)
  added_step =
      record {
        dated = k.dated ∙ ap (λ z. date_by z (date_of o h)) (sym says-settled);
        date_most = k.date_most;
        next_some = omega (arith, k.next_some);
        rise = ordered_push number ds (deal_for next t) k.rise old;
        ranged = subst (λ x. Each (Ranged x (next + 1) date) es) (sym (run_accounts m (movements_of e.slips)))
            (all_append _ ds (deal_for next t ∷ [])
            (all_to _ _ (λ d r. record { number_some = r.number_some; number_below = omega (arith, r.number_below); giver = r.giver; taker = r.taker; differ = r.differ; margin = r.margin; sought_some = r.sought_some; sought_most = r.sought_most; rate = r.rate; cash = r.cash; whole = r.whole; residue = r.residue }) ds k.ranged)
            (in_range, tt));
        says = all_append _ ds (deal_for next t ∷ [])
            (all_to _ _ (λ d p.
            let ne : d.number ≡ next → ⊥ = λ i. let z : ⊥ = omega (arith, p.1, i) in z in
            says_quiet o h e ls after d (quiet d.number (λ i. ne (sym i))) still (even d.number ne) p.0) ds (all_both _ _ ds k.says old))
            (says_new, tt);
        once = λ i. elim (cases_eq next i) [
          | inl is ↦
              let c : count i (settled_numbers (stated e) ++ deal_numbers h) ≡ only (eqb next i) 1 + count i (deal_numbers h) = ap (λ y. count i (settled_numbers y ++ deal_numbers h)) says-settled in
              let f : count i (deal_numbers h) ≡ 0 = subst (λ j. count j (deal_numbers h) ≡ 0) is unseen.never in
              grind (arith, nat_tests, c, f)
          | inr ne ↦ omega (arith, total_append (λ x. only (eqb x i) 1) (settled_numbers (stated e)) (deal_numbers h), (quiet i ne).numbers, k.once i)
        ];
        fresh = λ i l. unseen_quiet o i e h (quiet i (λ is. let z : ⊥ = omega (arith, l, is) in z)) (k.fresh i (omega (arith, l)));
        stand = λ i. has_push number i ds (deal_for next t) ∙ elim (cases_eq next i) [
          | inl is ↦
              let z : eqb next i ≡ true = eq-eqb next i is in
              let s : stood i (e ∷ h) ≡ true = subst (λ j. stood j (e ∷ h) ≡ true) is up in
              ap (λ b. cond (has_deal i ds) true b) z ∙ by_test (has_deal i ds) (λ b. cond b true true ≡ true) (λ _. refl) (λ _. refl) ∙ sym s
          | inr ne ↦
              let z : eqb next i ≡ false = ne_eqb next i ne in
              ap (λ b. cond (has_deal i ds) true b) z ∙ by_test (has_deal i ds) (λ b. cond b true false ≡ b) (λ _. refl) (λ _. refl) ∙ k.stand i ∙ sym ((quiet i ne).stands (stood i h))
        ];
        went = λ i out. elim (cases_eq next i) [
          | inl is ↦ absurd (both_ways (stood i (e ∷ h)) out (subst (λ j. stood j (e ∷ h) ≡ true) is up))
          | inr ne ↦ went_quiet o h e i (quiet i ne) (k.went i) out
        ];
        cash = λ a c money. omega (
          arith,
          k.cash a c money,
          run_amount 0 m e.slips a c takes_all,
          total_append (λ d. only (takes_in a c d) d.cash) ds (deal_for next t ∷ []),
          total_append (λ d. only (gives_in a c d) d.cash) ds (deal_for next t ∷ []),
          in-cash a c money,
          out-cash a c money,
          in-interest a c,
          out-interest a c,
        );
      }
