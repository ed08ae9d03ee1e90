-- Every deal some days later.
use Rattle.std.proofs.Common.{◌≡◌, ℕ, ◌+◌, ◌-◌, ◌*◌, ◌≤◌, Bool, true, cond, List, [], ◌∷◌, ◌++◌, map, Some, None, sym, refl, ap, ◌∙◌, subst, arith}
use Rattle.std.specs.List.{AllByRecursion as Each}
use Rattle.std.proofs.lemmas.Bool.Decides.{nat_tests}
use Rattle.book.specs.Meaning.{Meaning}
use Rattle.memory.specs.declared.row.Deal.{Deal}
use Rattle.memory.specs.declared.row.Line.{Line}
use Rattle.memory.specs.Deals.{grown as grown_by, interest_in, with_interest, with_growth}
use Rattle.memory.specs.Kinds.{base_of}
use Rattle.memory.specs.Sound.{number}
use Rattle.sharing.specs.Accrual.{accrued, in_range}
use Rattle.sharing.proofs.Accruing.{exact, below, dated}
use Rattle.sharing.specs.Limits.{most_days, most_daily}
use Rattle.law.specs.Sums.{only, total}
use Rattle.law.specs.Past.{Opening, Entry, closed, stated, is_interest, comes_to, goes_from, settled_numbers, deal_numbers, back_on, interest_of, pair_of, rate_of, stood, accrued_on, added_by, date_by, date_of, cash_of}
use Rattle.law.specs.Agree.{takes_in, gives_in}
use Rattle.law.proofs.Totals.{total_map, total_same, all_over}
use Rattle.law.proofs.Ordered.{ordered_map}
use Rattle.law.proofs.Lookups.{has_map}
use Rattle.law.proofs.Histories.{count, Quiet, quiet_closed, unseen_quiet}
use Rattle.law.proofs.Unchanged.{went_quiet}
use Rattle.law.proofs.Kept.{Ranged, Says, cash_over, DealsKept}

-- a deal with the interest of some days
pub grown_is : (accounts next date days : ℕ) (d : Deal) → Ranged accounts next date d → date ≤ 65_535 → days ≤ most_days
    → grown_by days d ≡ with_interest (accrued (interest_in d) d.cash d.rate days (base_of d.currency)) d
grown_is accounts next date days d r late few =
    let t : in_range (interest_in d) d.cash d.rate days (base_of d.currency) ≡ true = grind (arith, nat_tests, r.cash, r.rate, r.whole, r.residue, late, few) in
    ap (λ b. with_growth (cond b (Some (accrued (interest_in d) d.cash d.rate days (base_of d.currency))) None) d) t

module _ (o : Opening) (m : Meaning) (date next days new : ℕ) (ds : List Deal) (ls : List Line) (h : List Entry) (e : Entry)
    (k : DealsKept o m date next ds ls h) (no_slips : e.slips ≡ []) (says-closed : stated e ≡ closed new)
    (later : new ≡ date + days) (few : days ≤ most_days) (new-most : new ≤ 65_535) where
  quiet_c : (i : ℕ) → Quiet i e
  quiet_c i = quiet_closed i e (ap (total (back_on i)) no_slips) (ap (total (interest_of i)) no_slips) new says-closed

  abbrev grows : Deal → Deal
  grows d = with_interest (accrued (interest_in d) d.cash d.rate days (base_of d.currency)) d

  -- each deal by itself
  same_deals : (xs : List Deal) → Each (Ranged m.accounts next date) xs → map (grown_by days) xs ≡ map grows xs
  same_deals [] r = refl
  same_deals (x ∷ xs) r =
      ap (λ y. y ∷ map (grown_by days) xs) (grown_is m.accounts next date days x r.0 k.date_most few)
      ∙ ap (λ ys. grows x ∷ ys) (same_deals xs r.1)

  says_c : (d : Deal) → Says o h ls d → Says o (e ∷ h) ls (grows d)
  says_c d s =
      let q = quiet_c d.number in
      let pair = q.pair (pair_of d.number h) in
      let c : cash_of d.number h ≡ d.cash = omega (arith, s.cash) in
      let span : new - date_of o h ≡ days = omega (arith, later, k.dated) in
      let more : accrued_on o d.number (e ∷ h) ≡ accrued_on o d.number h + d.cash * d.rate * days =
      ap (λ z. accrued_on o d.number h + only (stood d.number h) (added_by z (cash_of d.number h * rate_of d.number h) (date_of o h))) says-closed
      ∙ ap (λ b. accrued_on o d.number h + only b (cash_of d.number h * rate_of d.number h * (new - date_of o h))) s.up
      ∙ ap (λ v. accrued_on o d.number h + v * rate_of d.number h * (new - date_of o h)) c
      ∙ ap (λ v. accrued_on o d.number h + d.cash * v * (new - date_of o h)) (sym s.rate)
      ∙ ap (λ v. accrued_on o d.number h + d.cash * d.rate * v) span in
      record {
        giver = s.giver ∙ ap (λ u. u.giver) (sym pair);
        taker = s.taker ∙ ap (λ u. u.taker) (sym pair);
        currency = s.currency ∙ ap (λ u. u.currency) (sym pair);
        rate = s.rate ∙ sym (q.rate (rate_of d.number h));
        cash = omega (arith, s.cash, q.back, ap (λ u. u.cash) pair);
        parts = s.parts;
        interest = exact (interest_in d) d.cash d.rate days (base_of d.currency) ∙ ap (λ v. v + d.cash * d.rate * days) s.interest ∙ sym more;
        up = q.stands (stood d.number h) ∙ s.up;
        unpaid = omega (arith, s.unpaid, q.interest);
      }

  cash_c : (test : Deal → Bool) → ((d : Deal) → test (grows d) ≡ test d) → cash_over test (map grows ds) ≡ cash_over test ds
  cash_c test same = total_map (λ d. only (test d) d.cash) grows ds ∙ total_same (λ d. Unit {0}) _ _ (λ d u. ap (λ b. only b d.cash) (same d)) ds (all_unit ds)
    where
      all_unit : (xs : List Deal) → Each (λ d. Unit {0}) xs
      all_unit [] = tt
      all_unit (x ∷ xs) = (tt, all_unit xs)

  later_step : DealsKept o m new next (map grows ds) ls (e ∷ h)
  later_step =
      record {
        dated = sym (ap (λ z. date_by z (date_of o h)) says-closed);
        date_most = new-most;
        next_some = k.next_some;
        rise = ordered_map number grows (λ d. refl) ds k.rise;
        ranged = all_over _ _ grows (λ d r. record { number_some = r.number_some; number_below = r.number_below; giver = r.giver; taker = r.taker; differ = r.differ; margin = r.margin; sought_some = r.sought_some; sought_most = r.sought_most; rate = r.rate; cash = r.cash; whole = subst (λ x. (accrued (interest_in d) d.cash d.rate days (base_of d.currency)).whole ≤ most_daily * x) (sym later) (dated (interest_in d) d.cash d.rate days date (base_of d.currency) r.cash r.rate r.residue r.whole); residue = below (interest_in d) d.cash d.rate days (base_of d.currency) }) ds k.ranged;
        says = all_over _ _ grows says_c ds k.says;
        once = λ i. omega (arith, ap (λ y. count i (settled_numbers y ++ deal_numbers h)) says-closed, k.once i);
        fresh = λ i l. unseen_quiet o i e h (quiet_c i) (k.fresh i l);
        stand = λ i. has_map number grows (λ d. refl) i ds ∙ k.stand i ∙ sym ((quiet_c i).stands (stood i h));
        went = λ i. went_quiet o h e i (quiet_c i) (k.went i);
        cash = λ a c money. omega (
          arith,
          k.cash a c money,
          cash_c (takes_in a c) (λ d. refl),
          cash_c (gives_in a c) (λ d. refl),
          ap (total (λ x. only (is_interest x) (comes_to a c x))) no_slips,
          ap (total (λ x. only (is_interest x) (goes_from a c x))) no_slips,
        );
      }

  pub grown_step : DealsKept o m new next (map (grown_by days) ds) ls (e ∷ h)
  grown_step = subst (λ ds'. DealsKept o m new next ds' ls (e ∷ h)) (sym (same_deals ds k.ranged)) later_step
