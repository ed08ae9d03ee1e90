-- A deal's rate and return day replaced.
use Rattle.std.proofs.Common.{◌≡◌, ℕ, ◌/◌, ◌≤◌, Bool, true, false, cond, eqb, List, [], ◌∷◌, ◌++◌, sym, refl, ap, ◌∙◌, subst, inl, inr, arith}
use Rattle.std.proofs.lemmas.Bool.{cases_eq, both_ways, eq-eqb}
use Rattle.book.specs.Meaning.{Meaning}
use Rattle.memory.specs.declared.row.Deal.{Deal}
use Rattle.memory.specs.declared.row.Line.{Line}
use Rattle.memory.specs.Deals.{amended as amended_to}
use Rattle.memory.specs.Rows.{no_deal}
use Rattle.memory.specs.Sound.{number}
use Rattle.sharing.specs.Limits.{most_rate}
use Rattle.law.specs.Sums.{only, total}
use Rattle.law.specs.Finding.{replaced, has_deal, deal_of}
use Rattle.law.specs.Past.{Opening, Entry, amended, stated, is_interest, comes_to, goes_from, settled_numbers, deal_numbers, back_on, interest_of, interest_on, pair_by, pair_of, rate_by, rate_of, stood_by, stood, accrued_on, added_by, date_by, date_of}
use Rattle.law.specs.Agree.{takes_in, gives_in, unit_in}
use Rattle.law.proofs.Totals.{total_replaced}
use Rattle.law.proofs.Ordered.{ordered_replaced, all_changed}
use Rattle.law.proofs.Lookups.{has_changed}
use Rattle.law.proofs.Histories.{count, Quiet, Still, quiet_amended, accrued_still, unseen_quiet}
use Rattle.law.proofs.Unchanged.{says_quiet}
use Rattle.law.proofs.Kept.{Ranged, Says, cash_over, DealsKept}

module _ (o : Opening) (m : Meaning) (date next : ℕ) (ds : List Deal) (ls : List Line) (h : List Entry) (e : Entry) (n rate due : ℕ)
    (k : DealsKept o m date next ds ls h) (no_slips : e.slips ≡ []) (says-amended : stated e ≡ amended n rate)
    (there : has_deal n ds ≡ true) (rate_most : rate ≤ most_rate) where
  quiet_a : (i : ℕ) → (n ≡ i → ⊥) → Quiet i e
  quiet_a i ne = quiet_amended i e (ap (total (back_on i)) no_slips) (ap (total (interest_of i)) no_slips) n rate says-amended ne

  still_a : Still e
  still_a = record { nothing = λ daily date'. ap (λ z. added_by z daily date') says-amended }

  abbrev es : List Deal
  es = replaced number n (λ d. amended_to rate due d ∷ []) ds

  says_a : (d : Deal) → d.number ≡ n → Says o h ls d → Says o (e ∷ h) ls (amended_to rate due d)
  says_a d is s =
      let z : eqb n d.number ≡ true = eq-eqb n d.number (sym is) in
      let pair : pair_of d.number (e ∷ h) ≡ pair_of d.number h = ap (λ y. pair_by d.number y (pair_of d.number h)) says-amended in
      record {
        giver = s.giver ∙ ap (λ u. u.giver) (sym pair);
        taker = s.taker ∙ ap (λ u. u.taker) (sym pair);
        currency = s.currency ∙ ap (λ u. u.currency) (sym pair);
        rate = sym (ap (λ y. rate_by d.number y (rate_of d.number h)) says-amended ∙ ap (λ b. cond b rate (rate_of d.number h)) z);
        cash = omega (arith, s.cash, ap (total (back_on d.number)) no_slips, ap (λ u. u.cash) pair);
        parts = s.parts;
        interest = s.interest ∙ sym (accrued_still o d.number e h still_a);
        up = ap (λ y. stood_by d.number y (stood d.number h)) says-amended ∙ s.up;
        unpaid = omega (arith, s.unpaid, ap (total (interest_of d.number)) no_slips);
      }

  cash_a : (test : Deal → Bool) → ((d : Deal) → test (amended_to rate due d) ≡ test d) → cash_over test es ≡ cash_over test ds
  cash_a test same =
      let f : Deal → ℕ = λ d. only (test d) d.cash in
      let d : Deal = deal_of n ds in
      omega (arith, total_replaced number n (λ d. amended_to rate due d ∷ []) f no_deal ds there, ap (λ b. only b d.cash) (same d))

  pub amended_step : DealsKept o m date next es ls (e ∷ h)
  amended_step =
      record {
        dated = k.dated ∙ ap (λ z. date_by z (date_of o h)) (sym says-amended);
        date_most = k.date_most;
        next_some = k.next_some;
        rise = ordered_replaced number n (λ d. amended_to rate due d ∷ []) (λ d. record { rise = (tt, tt); same = (refl, tt) }) ds k.rise;
        ranged = all_changed number (Ranged m.accounts next date) (Ranged m.accounts next date) no_deal n (λ d. amended_to rate due d ∷ []) ds there k.rise k.ranged (λ d r ne. r)
            (λ d r is. (record { number_some = r.number_some; number_below = r.number_below; giver = r.giver; taker = r.taker; differ = r.differ; margin = r.margin; sought_some = r.sought_some; sought_most = r.sought_most; rate = rate_most; cash = r.cash; whole = r.whole; residue = r.residue }, tt));
        says = all_changed number (Says o h ls) (Says o (e ∷ h) ls) no_deal n (λ d. amended_to rate due d ∷ []) ds there k.rise k.says
            (λ d s ne. says_quiet o h e ls ls d (quiet_a d.number (λ i. ne (sym i))) still_a refl s)
            (λ d s is. (says_a d is s, tt));
        once = λ i. omega (arith, ap (λ y. count i (settled_numbers y ++ deal_numbers h)) says-amended, k.once i);
        fresh = λ i l. elim (cases_eq n i) [
          | inl is ↦ absurd (both_ways (stood n h) (subst (λ j. stood j h ≡ false) (sym is) (k.fresh i l).out) (sym (k.stand n) ∙ there))
          | inr ne ↦ unseen_quiet o i e h (quiet_a i ne) (k.fresh i l)
        ];
        stand = λ i. has_changed number (amended_to rate due) (λ d. refl) n i ds ∙ k.stand i ∙ sym (ap (λ y. stood_by i y (stood i h)) says-amended);
        went = λ i out.
            let was : stood i h ≡ false = sym (ap (λ y. stood_by i y (stood i h)) says-amended) ∙ out in
            let int : interest_on i (e ∷ h) ≡ interest_on i h = omega (arith, ap (total (interest_of i)) no_slips) in
            let pair : pair_of i (e ∷ h) ≡ pair_of i h = ap (λ y. pair_by i y (pair_of i h)) says-amended in
            int ∙ k.went i was ∙ ap (λ v. v / unit_in (pair_of i h).currency) (sym (accrued_still o i e h still_a)) ∙ ap (λ u. accrued_on o i (e ∷ h) / unit_in u.currency) (sym pair);
        cash = λ a c money. omega (
          arith,
          k.cash a c money,
          cash_a (takes_in a c) (λ d. refl),
          cash_a (gives_in a c) (λ d. refl),
          ap (total (λ x. only (is_interest x) (comes_to a c x))) no_slips,
          ap (total (λ x. only (is_interest x) (goes_from a c x))) no_slips,
        );
      }
