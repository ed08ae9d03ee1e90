-- A deal that is paid its interest and goes.
use Rattle.std.proofs.Common.{◌≡◌, ℕ, ◌+◌, ◌*◌, ◌/◌, ◌<◌, Bool, true, false, cond, List, [], ◌∷◌, ◌++◌, Ok, sym, refl, ap, ◌∙◌, subst, inl, inr, arith}
use Rattle.std.specs.List.{AllByRecursion as Each}
use Rattle.std.proofs.lemmas.Bool.{cases_eq, both_ways, eq-eqb}
use Rattle.book.specs.Lists.{run, rehearsed}
use Rattle.book.specs.Meaning.{Meaning}
use Rattle.book.proofs.Runs.{run_accounts}
use Rattle.memory.specs.declared.row.Deal.{Deal}
use Rattle.memory.specs.declared.row.Line.{Line}
use Rattle.memory.specs.Rows.{no_deal}
use Rattle.memory.specs.Sound.{number}
use Rattle.valuation.specs.declared.currency.Currency.{Currency}
use Rattle.valuation.specs.declared.currency.Currency.TheVariants.{Gbp, Eur, Usd}
use Rattle.law.specs.Sums.{only, total}
use Rattle.law.specs.Finding.{replaced, has_deal, deal_of}
use Rattle.law.specs.Slips.{movements_of}
use Rattle.law.specs.Past.{Opening, Entry, paid, stated, is_interest, comes_to, goes_from, settled_numbers, deal_numbers, back_on, interest_of, interest_on, pair_by, pair_of, stood_by, stood, accrued_on, added_by, date_by, date_of}
use Rattle.law.specs.Agree.{takes_in, gives_in, unit_in}
use Rattle.law.proofs.Totals.{only_none, total_replaced, found_all, found_key}
use Rattle.law.proofs.Ordered.{ordered_replaced, all_changed, gone_once}
use Rattle.law.proofs.Lookups.{has_gone}
use Rattle.law.proofs.Histories.{count, Quiet, Still, quiet_paid, accrued_still, unseen_quiet}
use Rattle.law.proofs.Moves.{run_amount}
use Rattle.law.proofs.Unchanged.{says_quiet, went_quiet}
use Rattle.law.proofs.Kept.{parts_for, Ranged, Says, cash_over, DealsKept}

-- the quotient of what accrued is the whole interest
whole_is : (c : Currency) (whole residue all : ℕ) → whole * unit_in c + residue ≡ all → residue < unit_in c → whole ≡ all / unit_in c
whole_is Gbp whole residue all e l = omega arith
whole_is Eur whole residue all e l = omega arith
whole_is Usd whole residue all e l = omega arith

module _ (o : Opening) (m : Meaning) (date next : ℕ) (ds : List Deal) (ls : List Line) (h : List Entry) (e : Entry) (n : ℕ)
    (k : DealsKept o m date next ds ls h) (takes_all : Ok tt ≡ rehearsed m (movements_of e.slips))
    (says-paid : stated e ≡ paid n) (there : has_deal n ds ≡ true) (no-parts : parts_for n ls ≡ 0)
    (interest : total (interest_of n) e.slips ≡ (deal_of n ds).whole) (no_interest : (i : ℕ) → (n ≡ i → ⊥) → total (interest_of i) e.slips ≡ 0)
    (no-back : (i : ℕ) → total (back_on i) e.slips ≡ 0)
    (in-interest : (a c : ℕ) → total (λ x. only (is_interest x) (comes_to a c x)) e.slips ≡ total (comes_to a c) e.slips)
    (out-interest : (a c : ℕ) → total (λ x. only (is_interest x) (goes_from a c x)) e.slips ≡ total (goes_from a c) e.slips) where
  quiet : (i : ℕ) → (n ≡ i → ⊥) → Quiet i e
  quiet i ne = quiet_paid i e (no-back i) (no_interest i ne) n says-paid ne

  still : Still e
  still = record { nothing = λ daily date'. ap (λ z. added_by z daily date') says-paid }

  abbrev es : List Deal
  es = replaced number n (λ _. []) ds

  abbrev paid_deal : Deal
  paid_deal = deal_of n ds

  is_n : paid_deal.number ≡ n
  is_n = found_key number no_deal n ds there

  said : Says o h ls paid_deal
  said = found_all number (Says o h ls) no_deal n ds there k.says

  in_range : Ranged m.accounts next date paid_deal
  in_range = found_all number (Ranged m.accounts next date) no_deal n ds there k.ranged

  no_cash : paid_deal.cash ≡ 0
  no_cash = sym said.parts ∙ ap (λ i. parts_for i ls) is_n ∙ no-parts

  cash_same : (test : Deal → Bool) → cash_over test es ≡ cash_over test ds
  cash_same test =
      let t = total_replaced number n (λ _. []) (λ d. only (test d) d.cash) no_deal ds there in
      let z : only (test paid_deal) paid_deal.cash ≡ 0 = ap (only (test paid_deal)) no_cash ∙ only_none (test paid_deal) in
      omega (arith, t, z)

  went_here : interest_on n (e ∷ h) ≡ accrued_on o n (e ∷ h) / unit_in (pair_of n (e ∷ h)).currency
  went_here =
      let pair : pair_of n (e ∷ h) ≡ pair_of n h = ap (λ y. pair_by n y (pair_of n h)) says-paid in
      let unpaid : interest_on n h ≡ 0 = subst (λ i. interest_on i h ≡ 0) is_n said.unpaid in
      let all : paid_deal.whole * unit_in paid_deal.currency + paid_deal.residue ≡ accrued_on o n h = said.interest ∙ ap (λ i. accrued_on o i h) is_n in
      let q = whole_is paid_deal.currency paid_deal.whole paid_deal.residue (accrued_on o n h) all in_range.residue in
      let cur : paid_deal.currency ≡ (pair_of n h).currency = said.currency ∙ ap (λ i. (pair_of i h).currency) is_n in
      let first : interest_on n (e ∷ h) ≡ paid_deal.whole = omega (arith, interest, unpaid) in
      first ∙ q ∙ ap (λ c. accrued_on o n h / unit_in c) cur ∙ ap (λ v. v / unit_in (pair_of n h).currency) (sym (accrued_still o n e h still)) ∙ ap (λ u. accrued_on o n (e ∷ h) / unit_in u.currency) (sym pair)

  pub gone_step : DealsKept o (run m (movements_of e.slips)) date next es ls (e ∷ h)
  gone_step =
      record {
        dated = k.dated ∙ ap (λ z. date_by z (date_of o h)) (sym says-paid);
        date_most = k.date_most;
        next_some = k.next_some;
        rise = ordered_replaced number n (λ _. []) (λ d. record { rise = tt; same = tt }) ds k.rise;
        ranged = subst (λ x. Each (Ranged x next date) es) (sym (run_accounts m (movements_of e.slips)))
            (all_changed number (Ranged m.accounts next date) (Ranged m.accounts next date) no_deal n (λ _. []) ds there k.rise k.ranged (λ d r ne. r) (λ d r is. tt));
        says = all_changed number (Says o h ls) (Says o (e ∷ h) ls) no_deal n (λ _. []) ds there k.rise k.says
            (λ d s ne. says_quiet o h e ls ls d (quiet d.number (λ i. ne (sym i))) still refl s)
            (λ d s is. tt);
        once = λ i. omega (arith, ap (λ y. count i (settled_numbers y ++ deal_numbers h)) says-paid, k.once i);
        fresh = λ i l. elim (cases_eq n i) [
          | inl is ↦ absurd (both_ways (stood n h) (subst (λ j. stood j h ≡ false) (sym is) (k.fresh i l).out) (sym (k.stand n) ∙ there))
          | inr ne ↦ unseen_quiet o i e h (quiet i ne) (k.fresh i l)
        ];
        stand = λ i. elim (cases_eq n i) [
          | inl is ↦ subst (λ j. has_deal j es ≡ stood j (e ∷ h)) is
              (gone_once number n ds k.rise ∙ sym (ap (λ y. stood_by n y (stood n h)) says-paid ∙ ap (λ b. cond b false (stood n h)) (eq-eqb n n refl)))
          | inr ne ↦ has_gone number n i ne ds ∙ k.stand i ∙ sym ((quiet i ne).stands (stood i h))
        ];
        went = λ i out. elim (cases_eq n i) [
          | inl is ↦ subst (λ j. interest_on j (e ∷ h) ≡ accrued_on o j (e ∷ h) / unit_in (pair_of j (e ∷ h)).currency) is went_here
          | inr ne ↦ went_quiet o h e i (quiet i ne) (k.went i) out
        ];
        cash = λ a c money. omega (
          arith,
          k.cash a c money,
          run_amount 0 m e.slips a c takes_all,
          cash_same (takes_in a c),
          cash_same (gives_in a c),
          in-interest a c,
          out-interest a c,
        );
      }
