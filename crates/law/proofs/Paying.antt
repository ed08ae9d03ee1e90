-- The interest of a deal paid, and the deal gone.
use Rattle.std.proofs.Common.{◌≡◌, ℕ, ◌+◌, true, false, cond, eqb, List, [], ◌∷◌, Ok, sym, refl, ap, ◌∙◌, subst, append-nil, arith}
use Rattle.std.specs.List.{AllByRecursion as Each}
use Rattle.std.proofs.lemmas.Bool.{eq-eqb, ne_eqb, both_ways}
use Rattle.book.specs.Lists.{run}
use Rattle.memory.specs.declared.row.Deal.{Deal}
use Rattle.memory.specs.declared.row.Kind.TheVariants.{Pay}
use Rattle.memory.specs.declared.row.Line.{Line}
use Rattle.memory.specs.declared.row.Slip.{Slip}
use Rattle.memory.specs.Rows.{no_deal}
use Rattle.memory.specs.Sound.{number}
use Rattle.law.specs.Sums.{only}
use Rattle.law.specs.World.{State}
use Rattle.law.specs.Finding.{replaced, has_deal, deal_of}
use Rattle.law.specs.Slips.{movements_of, lines_by}
use Rattle.law.specs.Plans.{Plan, carried}
use Rattle.law.specs.Calls.{pay, pay_slips, has_lines, pay_plan}
use Rattle.law.specs.Past.{Opening, Entry, back_on, interest_of, comes_to, goes_from, is_interest}
use Rattle.law.proofs.Totals.{by_test, total_zero, all_to, all_both, found_key}
use Rattle.law.proofs.Lookups.{has_gone, found_gone}
use Rattle.law.proofs.Fitting.{Fitting}
use Rattle.law.proofs.Cashing.{cash_fits, cash_lines, cash_total, cash_alike}
use Rattle.law.proofs.Kept.{DealsKept, Kept}
use Rattle.law.proofs.LinesStep.{Alike}
use Rattle.law.proofs.Going.{gone_step}
use Rattle.law.proofs.Verdicts.{plan_ok, Passes}
use Rattle.law.proofs.Stepping.{entry_for, joined}

-- no line is of the deal
pub no_lines : (n : ℕ) (ls : List Line) → has_lines n ls ≡ false → Each (λ l. l.deal ≡ n → ⊥) ls
no_lines n [] e = tt
no_lines n (l ∷ ls) e =
    by_test (eqb l.deal n) (λ b. eqb l.deal n ≡ b → cond b true (has_lines n ls) ≡ false → Each (λ l. l.deal ≡ n → ⊥) (l ∷ ls))
    (λ t _ f. absurd (both_ways true f refl))
    (λ t _ f. ((λ i. both_ways (eqb l.deal n) t (eq-eqb _ _ i)), no_lines n ls f)) refl e

module _ (o : Opening) (s : State) (h : List Entry) (k : Kept o s h) (n : ℕ) (there : has_deal n s.deals ≡ true) (free : has_lines n s.lines ≡ false) where
  abbrev d : Deal
  d = deal_of n s.deals

  abbrev xs : List Slip
  xs = pay_slips s n

  abbrev es : List Deal
  es = replaced number n (λ _. []) s.deals

  off : Each (λ l. l.deal ≡ n → ⊥) s.lines
  off = no_lines n s.lines free

  is_n : d.number ≡ n
  is_n = found_key number no_deal n s.deals there

  lines_are : lines_by xs s.lines ≡ s.lines
  unfolding lines_by
  lines_are = ap (λ ys. lines_by ys s.lines) (sym (append-nil xs)) ∙ cash_lines Pay d 0 d.giver d.taker d.whole [] s.lines

  fits : Fitting s.book.resources es s.next_line xs s.lines
  fits = subst (λ ys. Fitting s.book.resources es s.next_line ys s.lines) (append-nil xs) (cash_fits Pay d 0 d.giver d.taker d.whole s.book.resources es s.next_line [] s.lines tt)

  pub pay_kept : (p : Plan) (places : ℕ) → Passes s p places → pay_plan s n ≡ Ok p → Kept o (carried s p) (entry_for (pay places n) s p ∷ h)
  unfolding pay_plan
  pay_kept p places ok e =
      let q = plan_ok _ _ p e in
      let z : s.next_deal ≡ s.next_deal + 0 = omega arith in
      let e' : Entry = record { call = pay places n; next = s.next_deal; slips = xs } in
      subst (λ x. Passes s x places → Kept o (carried s x) (entry_for (pay places n) s x ∷ h)) q.1
      (λ ok'. joined o s h (pay places n) _ places k ok'
      (all_to _ _ (λ l pl. (
        has_gone number n l.deal (λ i. pl.1 (sym i)) s.deals ∙ pl.0.stands,
        subst (λ x. Alike x (deal_of l.deal s.deals)) (sym (found_gone number n l.deal (λ i. pl.1 (sym i)) no_deal s.deals)) (record { giver = refl; taker = refl; currency = refl }),
      )) s.lines (all_both _ _ s.lines k.lines.placed off))
      fits
      (subst (λ x. DealsKept o (run s.book (movements_of xs)) s.date x es (lines_by xs s.lines) (e' ∷ h)) z
      (subst (λ ls. DealsKept o (run s.book (movements_of xs)) s.date s.next_deal es ls (e' ∷ h)) (sym lines_are)
      (gone_step o s.book s.date s.next_deal s.deals s.lines h e' n k.deals ok'.book refl there
      (total_zero _ (λ l. only (eqb l.deal n) l.part) (λ l ne. ap (λ b. only b l.part) (ne_eqb _ _ ne)) s.lines off)
      (cash_total Pay d 0 d.giver d.taker d.whole (interest_of n) true (ap (λ b. only b d.whole) (eq-eqb d.number n is_n)))
      (λ i ne. cash_total Pay d 0 d.giver d.taker d.whole (interest_of i) false (ap (λ b. only b d.whole) (ne_eqb d.number i (λ w. ne (sym is_n ∙ w)))))
      (λ i. cash_total Pay d 0 d.giver d.taker d.whole (back_on i) false refl)
      (λ a c. cash_alike Pay d 0 d.giver d.taker d.whole (λ x. only (is_interest x) (comes_to a c x)) (comes_to a c) refl)
      (λ a c. cash_alike Pay d 0 d.giver d.taker d.whole (λ x. only (is_interest x) (goes_from a c x)) (goes_from a c) refl))))) ok
