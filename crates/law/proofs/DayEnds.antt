-- The day end opened, lifted and closed, and a deal amended: plans without slips.
use Rattle.std.proofs.Common.{◌≡◌, ℕ, ◌+◌, ◌-◌, ◌≤◌, true, false, leb, List, [], ◌∷◌, map, Some, None, Ok, Option, sym, refl, ap, ◌∙◌, subst, arith}
use Rattle.std.proofs.lemmas.Bool.{and_parts, leb-true}
use Rattle.book.specs.Lists.{run}
use Rattle.memory.specs.declared.row.Deal.{Deal}
use Rattle.sharing.specs.declared.accrual.Interest.{Interest}
use Rattle.memory.specs.Deals.{amended as amended_to, grown as grown_by, with_growth, accrual_of}
use Rattle.memory.specs.Rows.{no_deal}
use Rattle.memory.specs.Sound.{number}
use Rattle.sharing.specs.Limits.{most_rate, most_days}
use Rattle.law.specs.World.{State}
use Rattle.law.specs.Finding.{replaced, has_deal, deal_of}
use Rattle.law.specs.Slips.{lines_by}
use Rattle.law.specs.Plans.{Plan, carried}
use Rattle.law.specs.Calls.{amend, open_day_end, close_day_end, lift_day_end, open_plan, lift_plan, close_plan, close_refusals, amend_plan, amend_refusals}
use Rattle.law.specs.Past.{Opening, Entry}
use Rattle.law.proofs.Totals.{all_to}
use Rattle.law.proofs.Lookups.{has_map, found_map, has_changed, found_changed}
use Rattle.law.proofs.Kept.{DealsKept, Kept}
use Rattle.law.proofs.LinesStep.{Alike}
use Rattle.law.proofs.Amending.{amended_step}
use Rattle.law.proofs.Growing.{grown_step}
use Rattle.law.proofs.Verdicts.{plan_ok, none_holds, not_true_false, Passes}
use Rattle.law.proofs.Stepping.{entry_for, joined, no_slips, nothing_moves}

alike_same : (d : Deal) → Alike d d
alike_same d = record { giver = refl; taker = refl; currency = refl }

module _ (o : Opening) (s : State) (h : List Entry) (k : Kept o s h) (p : Plan) (places : ℕ) (ok : Passes s p places) where
  pub open_step : open_plan s ≡ Ok p → Kept o (carried s p) (entry_for open_day_end s p ∷ h)
  unfolding open_plan
  open_step e =
      let q = plan_ok _ _ p e in
      subst (λ x. Passes s x places → Kept o (carried s x) (entry_for open_day_end s x ∷ h)) q.1
      (λ ok'. nothing_moves o s h open_day_end places _ false k ok' refl) ok

  pub lift_step : lift_plan s ≡ Ok p → Kept o (carried s p) (entry_for lift_day_end s p ∷ h)
  unfolding lift_plan
  lift_step e =
      let q = ap (λ r. Rattle.std.specs.Result.result_unwrap_or r p) e in
      subst (λ x. Passes s x places → Kept o (carried s x) (entry_for lift_day_end s x ∷ h)) q
      (λ ok'. nothing_moves o s h lift_day_end places _ false k ok' refl) ok

  -- ── close ──

  grown_number : (days : ℕ) (d : Deal) → ((grown_by days d).number ≡ d.number) × Alike (grown_by days d) d
  grown_number days d = go (accrual_of days d)
    where
      go : (i : Option Interest) → ((with_growth i d).number ≡ d.number) × Alike (with_growth i d) d
      go (Some i) = (refl, record { giver = refl; taker = refl; currency = refl })
      go None = (refl, record { giver = refl; taker = refl; currency = refl })

  pub close_step : (date : ℕ) → close_plan s date ≡ Ok p → Kept o (carried s p) (entry_for (close_day_end date) s p ∷ h)
  unfolding close_plan run
  close_step date e =
      let q = plan_ok _ _ p e in
      let c = none_holds (close_refusals s date) q.0 in
      let r = and_parts (leb (s.date + 1) date) _ (not_true_false _ c.1.0) in
      let r2 = and_parts (leb date (s.date + most_days)) _ r.1 in
      let low : s.date + 1 ≤ date = leb-true _ _ r.0 in
      let high : date ≤ s.date + most_days = leb-true _ _ r2.0 in
      let most : date ≤ 65_535 = leb-true _ _ r2.1 in
      let days : ℕ = date - s.date in
      let n : s.next_deal ≡ s.next_deal + 0 = omega arith in
      subst (λ x. Passes s x places → Kept o (carried s x) (entry_for (close_day_end date) s x ∷ h)) q.1
      (λ ok'. joined o s h (close_day_end date) _ places k ok'
      (all_to _ _ (λ l pl. (
        has_map number (grown_by days) (λ d. (grown_number days d).0) l.deal s.deals ∙ pl.stands,
        subst (λ x. Alike x (deal_of l.deal s.deals)) (sym (found_map number (grown_by days) (λ d. (grown_number days d).0) no_deal l.deal s.deals pl.stands)) (grown_number days (deal_of l.deal s.deals)).1,
      )) s.lines k.lines.placed)
      tt
      (subst (λ x. DealsKept o s.book date x (map (grown_by days) s.deals) (lines_by [] s.lines) (record { call = close_day_end date; next = s.next_deal; slips = [] } ∷ h)) n
      (subst (λ x. DealsKept o s.book date s.next_deal (map (grown_by days) s.deals) x (record { call = close_day_end date; next = s.next_deal; slips = [] } ∷ h)) (sym (no_slips s.lines))
      (grown_step o s.book s.date s.next_deal days date s.deals s.lines h (record { call = close_day_end date; next = s.next_deal; slips = [] }) k.deals refl refl (omega (arith, low)) (omega (arith, low, high)) most)))) ok

  -- ── amend ──

  pub amend_step : (n rate due : ℕ) → amend_plan s n rate due ≡ Ok p → Kept o (carried s p) (entry_for (amend n rate due) s p ∷ h)
  unfolding amend_plan run
  amend_step n rate due e =
      let q = plan_ok _ _ p e in
      let c = none_holds (amend_refusals s n rate due) q.0 in
      let there : has_deal n s.deals ≡ true = not_true_false _ c.1.0 in
      let r = and_parts (leb rate most_rate) _ (not_true_false _ c.1.1.0) in
      let z : s.next_deal ≡ s.next_deal + 0 = omega arith in
      let after : List Deal = replaced number n (λ d. amended_to rate due d ∷ []) s.deals in
      subst (λ x. Passes s x places → Kept o (carried s x) (entry_for (amend n rate due) s x ∷ h)) q.1
      (λ ok'. joined o s h (amend n rate due) _ places k ok'
      (all_to _ _ (λ l pl. (
        has_changed number (amended_to rate due) (λ d. refl) n l.deal s.deals ∙ pl.stands,
        found_changed number (amended_to rate due) (λ d. refl) Alike alike_same (λ d. record { giver = refl; taker = refl; currency = refl }) no_deal n l.deal s.deals,
      )) s.lines k.lines.placed)
      tt
      (subst (λ x. DealsKept o s.book s.date x after (lines_by [] s.lines) (record { call = amend n rate due; next = s.next_deal; slips = [] } ∷ h)) z
      (subst (λ x. DealsKept o s.book s.date s.next_deal after x (record { call = amend n rate due; next = s.next_deal; slips = [] } ∷ h)) (sym (no_slips s.lines))
      (amended_step o s.book s.date s.next_deal s.deals s.lines h (record { call = amend n rate due; next = s.next_deal; slips = [] }) n rate due k.deals refl refl there (leb-true _ _ r.0))))) ok
