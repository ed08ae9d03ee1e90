-- A deal whose standing cash falls by what goes back.
use Rattle.std.proofs.Common.{◌≡◌, ℕ, ◌+◌, ◌-◌, ◌/◌, ◌<◌, ◌≤◌, Bool, true, false, List, [], ◌∷◌, ◌++◌, Ok, sym, refl, ap, ◌∙◌, subst, inl, inr, arith}
use Rattle.std.specs.List.{AllByRecursion as Each}
use Rattle.std.proofs.lemmas.Bool.{cases_eq, both_ways}
use Rattle.book.specs.Lists.{run, rehearsed}
use Rattle.book.specs.Meaning.{Meaning}
use Rattle.book.proofs.Runs.{run_accounts}
use Rattle.memory.specs.declared.row.Deal.{Deal}
use Rattle.memory.specs.declared.row.Line.{Line}
use Rattle.memory.specs.Deals.{less_cash}
use Rattle.memory.specs.Rows.{no_deal}
use Rattle.memory.specs.Sound.{number}
use Rattle.law.specs.Sums.{only, total}
use Rattle.law.specs.Finding.{replaced, has_deal, deal_of}
use Rattle.law.specs.Slips.{movements_of}
use Rattle.law.specs.Past.{Opening, Entry, other, stated, is_interest, comes_to, goes_from, settled_numbers, deal_numbers, back_on, interest_of, interest_on, pair_by, pair_of, rate_by, rate_of, stood_by, stood, accrued_on, added_by, date_by, date_of}
use Rattle.law.specs.Agree.{takes_in, gives_in, unit_in}
use Rattle.law.proofs.Totals.{by_test, total_replaced, found_all, found_key, all_to}
use Rattle.law.proofs.Ordered.{ordered_replaced, all_changed}
use Rattle.law.proofs.Lookups.{has_changed}
use Rattle.law.proofs.Histories.{count, Quiet, Still, quiet_other, accrued_still, unseen_quiet}
use Rattle.law.proofs.Moves.{run_amount}
use Rattle.law.proofs.Unchanged.{says_quiet}
use Rattle.law.proofs.Kept.{parts_for, Ranged, Says, cash_over, DealsKept}

module _ (o : Opening) (m : Meaning) (date next : ℕ) (ds : List Deal) (ls after : List Line) (h : List Entry) (e : Entry) (n part : ℕ)
    (k : DealsKept o m date next ds ls h) (takes_all : Ok tt ≡ rehearsed m (movements_of e.slips))
    (Says-other : stated e ≡ other) (there : has_deal n ds ≡ true)
    (falls : parts_for n after + part ≡ parts_for n ls) (even : (i : ℕ) → (i ≡ n → ⊥) → parts_for i after ≡ parts_for i ls)
    (back : total (back_on n) e.slips ≡ part) (no-back : (i : ℕ) → (i ≡ n → ⊥) → total (back_on i) e.slips ≡ 0)
    (no_interest : (i : ℕ) → total (interest_of i) e.slips ≡ 0)
    (in-cash : (a c : ℕ) → c < 3 → total (comes_to a c) e.slips ≡ only (takes_in a c (deal_of n ds)) part)
    (out-cash : (a c : ℕ) → c < 3 → total (goes_from a c) e.slips ≡ only (gives_in a c (deal_of n ds)) part)
    (in-interest : (a c : ℕ) → total (λ x. only (is_interest x) (comes_to a c x)) e.slips ≡ 0)
    (out-interest : (a c : ℕ) → total (λ x. only (is_interest x) (goes_from a c x)) e.slips ≡ 0) where
  quiet : (i : ℕ) → (i ≡ n → ⊥) → Quiet i e
  quiet i ne = quiet_other i e (no-back i ne) (no_interest i) Says-other

  still : Still e
  still = record { nothing = λ daily date'. ap (λ z. added_by z daily date') Says-other }

  abbrev es : List Deal
  es = replaced number n (λ d. less_cash part d ∷ []) ds

  within : (d : Deal) → d.number ≡ n → Says o h ls d → part ≤ d.cash
  within d is s = omega (arith, falls, subst (λ i. parts_for i ls ≡ d.cash) is s.parts)

  says_here : (d : Deal) → d.number ≡ n → Says o h ls d → Says o (e ∷ h) after (less_cash part d)
  says_here d is s =
      let pair : pair_of d.number (e ∷ h) ≡ pair_of d.number h = ap (λ y. pair_by d.number y (pair_of d.number h)) Says-other in
      let b : total (back_on d.number) e.slips ≡ part = subst (λ i. total (back_on i) e.slips ≡ part) (sym is) back in
      let f : parts_for d.number after + part ≡ parts_for d.number ls = subst (λ i. parts_for i after + part ≡ parts_for i ls) (sym is) falls in
      record {
        giver = s.giver ∙ ap (λ u. u.giver) (sym pair);
        taker = s.taker ∙ ap (λ u. u.taker) (sym pair);
        currency = s.currency ∙ ap (λ u. u.currency) (sym pair);
        rate = s.rate ∙ sym (ap (λ y. rate_by d.number y (rate_of d.number h)) Says-other);
        cash = omega (arith, s.cash, b, f, s.parts, ap (λ u. u.cash) pair);
        parts = omega (arith, f, s.parts);
        interest = s.interest ∙ sym (accrued_still o d.number e h still);
        up = ap (λ y. stood_by d.number y (stood d.number h)) Says-other ∙ s.up;
        unpaid = omega (arith, s.unpaid, no_interest d.number);
      }

  cash_here : (test : Deal → Bool) → ((d : Deal) → test (less_cash part d) ≡ test d) → cash_over test es + only (test (deal_of n ds)) part ≡ cash_over test ds
  cash_here test same =
      let f : Deal → ℕ = λ d. only (test d) d.cash in
      let d : Deal = deal_of n ds in
      let enough : part ≤ d.cash = found_all number (λ x. x.number ≡ n → part ≤ x.cash) no_deal n ds there (all_to _ _ (λ x s is. within x is s) ds k.says) (found_key number no_deal n ds there) in
      let t = total_replaced number n (λ d. less_cash part d ∷ []) f no_deal ds there in
      by_test (test d) (λ b. only b (d.cash - part) ≡ only (test (less_cash part d)) (d.cash - part) → only b d.cash ≡ only (test d) d.cash → cash_over test es + only b part ≡ cash_over test ds)
      (λ y p q. omega (arith, t, p, q, enough))
      (λ y p q. omega (arith, t, p, q, enough))
      (ap (λ b. only b (d.cash - part)) (sym (same d))) refl

  pub lowered_step : DealsKept o (run m (movements_of e.slips)) date next es after (e ∷ h)
  lowered_step =
      record {
        dated = k.dated ∙ ap (λ z. date_by z (date_of o h)) (sym Says-other);
        date_most = k.date_most;
        next_some = k.next_some;
        rise = ordered_replaced number n (λ d. less_cash part d ∷ []) (λ d. record { rise = (tt, tt); same = (refl, tt) }) ds k.rise;
        ranged = subst (λ x. Each (Ranged x next date) es) (sym (run_accounts m (movements_of e.slips)))
            (all_changed number (Ranged m.accounts next date) (Ranged m.accounts next date) no_deal n (λ d. less_cash part d ∷ []) ds there k.rise k.ranged (λ d r ne. r)
            (λ d r is. (record { number_some = r.number_some; number_below = r.number_below; giver = r.giver; taker = r.taker; differ = r.differ; margin = r.margin; sought_some = r.sought_some; sought_most = r.sought_most; rate = r.rate; cash = omega (arith, r.cash); whole = r.whole; residue = r.residue }, tt)));
        says = all_changed number (Says o h ls) (Says o (e ∷ h) after) no_deal n (λ d. less_cash part d ∷ []) ds there k.rise k.says
            (λ d s ne. says_quiet o h e ls after d (quiet d.number ne) still (even d.number ne) s)
            (λ d s is. (says_here d is s, tt));
        once = λ i. omega (arith, ap (λ y. count i (settled_numbers y ++ deal_numbers h)) Says-other, k.once i);
        fresh = λ i l. elim (cases_eq i n) [
          | inl is ↦ absurd (both_ways (stood n h) (subst (λ j. stood j h ≡ false) is (k.fresh i l).out) (sym (k.stand n) ∙ there))
          | inr ne ↦ unseen_quiet o i e h (quiet i ne) (k.fresh i l)
        ];
        stand = λ i. has_changed number (less_cash part) (λ d. refl) n i ds ∙ k.stand i ∙ sym (ap (λ y. stood_by i y (stood i h)) Says-other);
        went = λ i out.
            let was : stood i h ≡ false = sym (ap (λ y. stood_by i y (stood i h)) Says-other) ∙ out in
            let int : interest_on i (e ∷ h) ≡ interest_on i h = omega (arith, no_interest i) in
            let pair : pair_of i (e ∷ h) ≡ pair_of i h = ap (λ y. pair_by i y (pair_of i h)) Says-other in
            int ∙ k.went i was ∙ ap (λ v. v / unit_in (pair_of i h).currency) (sym (accrued_still o i e h still)) ∙ ap (λ u. accrued_on o i (e ∷ h) / unit_in u.currency) (sym pair);
        cash = λ a c money. omega (
          arith,
          k.cash a c money,
          run_amount 0 m e.slips a c takes_all,
          cash_here (takes_in a c) (λ d. refl),
          cash_here (gives_in a c) (λ d. refl),
          in-cash a c money,
          out-cash a c money,
          in-interest a c,
          out-interest a c,
        );
      }
