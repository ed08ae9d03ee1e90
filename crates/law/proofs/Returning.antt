-- A line returned, with its part.
use Rattle.std.proofs.Common.{◌≡◌, ℕ, ◌+◌, ◌<◌, ◌≤◌, true, false, cond, ◌&&◌, eqb, List, [], ◌∷◌, Ok, sym, refl, ap, ◌∙◌, subst, append-nil, arith}
use Rattle.std.proofs.lemmas.Bool.{eq-eqb, ne_eqb}
use Rattle.std.proofs.lemmas.Bool.Decides.{nat_tests}
use Rattle.book.specs.Lists.{run}
use Rattle.memory.specs.declared.row.Deal.{Deal}
use Rattle.memory.specs.declared.row.Kind.TheVariants.{Return}
use Rattle.memory.specs.declared.row.Line.{Line}
use Rattle.memory.specs.declared.row.Slip.{Slip}
use Rattle.memory.specs.Deals.{less_cash}
use Rattle.memory.specs.Rows.{no_deal, no_line}
use Rattle.memory.specs.Sound.{number, return_number}
use Rattle.tables.specs.Rows.{less_quantity}
use Rattle.law.specs.Sums.{only, total}
use Rattle.law.specs.World.{State}
use Rattle.law.specs.Finding.{replaced, has_deal, deal_of, has_line}
use Rattle.law.specs.Slips.{back_slip, cash_slips, lessened, movements_of, lines_by}
use Rattle.law.specs.Plans.{Plan, carried}
use Rattle.law.specs.Calls.{return_line, the_line, its_deal, return_slips, return_plan}
use Rattle.law.specs.Past.{Opening, Entry, back_on, interest_of, comes_to, goes_from, is_interest}
use Rattle.law.specs.Agree.{gives_in, takes_in}
use Rattle.law.proofs.Totals.{total_replaced, all_to, found_all, found_key}
use Rattle.law.proofs.Lookups.{has_changed, found_changed}
use Rattle.law.proofs.Rows.{Placed}
use Rattle.law.proofs.Fitting.{Fitting}
use Rattle.law.proofs.Cashing.{cash_fits, cash_lines, cash_total}
use Rattle.law.proofs.Kept.{parts_for, DealsKept, Kept}
use Rattle.law.proofs.LinesStep.{Alike}
use Rattle.law.proofs.Lowering.{lowered_step}
use Rattle.law.proofs.Verdicts.{plan_ok, Passes}
use Rattle.law.proofs.Stepping.{entry_for, joined}

module _ (o : Opening) (s : State) (h : List Entry) (k : Kept o s h) (n : ℕ) (there : has_line n s.lines ≡ true) where
  abbrev l : Line
  l = the_line s n

  abbrev d : Deal
  d = its_deal s n

  abbrev xs : List Slip
  xs = return_slips s n

  pub line_placed : Placed s.book.resources s.deals s.next_line l
  line_placed = found_all return_number (Placed s.book.resources s.deals s.next_line) no_line n s.lines there k.lines.placed

  pub deal_number : d.number ≡ l.deal
  deal_number = found_key number no_deal l.deal s.deals line_placed.stands

  abbrev es : List Deal
  es = replaced number l.deal (λ x. less_cash l.part x ∷ []) s.deals

  alike : (i : ℕ) → Alike (deal_of i es) (deal_of i s.deals)
  alike i = found_changed number (less_cash l.part) (λ x. refl) Alike (λ x. record { giver = refl; taker = refl; currency = refl }) (λ x. record { giver = refl; taker = refl; currency = refl }) no_deal l.deal i s.deals

  -- the deal's row after it has the same parties
  same_parties_lem : Alike d (deal_of d.number es)
  same_parties_lem =
      subst (λ i. Alike d (deal_of i es)) (sym deal_number)
      (record { giver = sym (alike l.deal).giver; taker = sym (alike l.deal).taker; currency = sym (alike l.deal).currency })

  cash_after : List Slip
  cash_after = cash_slips Return d n d.giver d.taker l.part

  fits : Fitting s.book.resources es s.next_line xs s.lines
  fits = (
    record {
      listed = there;
      on = sym deal_number;
      of = refl;
      stands = subst (λ i. has_deal i es ≡ true) (sym deal_number) (has_changed number (less_cash l.part) (λ _. refl) l.deal l.deal s.deals ∙ line_placed.stands);
      from = same_parties_lem.taker;
      to = same_parties_lem.giver;
      low = line_placed.low;
      some = line_placed.quantity_some;
      enough = omega arith;
    },
    subst (λ ys. Fitting s.book.resources es (s.next_line + 0) ys (replaced return_number n (lessened l.quantity) s.lines)) (append-nil _) (cash_fits Return d n d.giver d.taker l.part s.book.resources es (s.next_line + 0) [] _ tt),
  )

  lines_are : lines_by xs s.lines ≡ replaced return_number n (lessened l.quantity) s.lines
  unfolding lines_by
  lines_are =
      ap (λ ys. lines_by ys (replaced return_number n (lessened l.quantity) s.lines)) (sym (append-nil (cash_slips Return d n d.giver d.taker l.part)))
      ∙ cash_lines Return d n d.giver d.taker l.part [] _

  whole_line : lessened l.quantity l ≡ []
  whole_line = ap (λ b. cond b [] (less_quantity l.quantity l ∷ [])) (eq-eqb l.quantity l.quantity refl)

  parts_fall : (i : ℕ) → parts_for i (lines_by xs s.lines) + only (eqb l.deal i) l.part ≡ parts_for i s.lines
  parts_fall i =
      let f : Line → ℕ = λ x. only (eqb x.deal i) x.part in
      let t = total_replaced return_number n (lessened l.quantity) f no_line s.lines there in
      omega (arith, ap (total f) lines_are, t, ap (total f) whole_line)

  stock_slip : Slip
  stock_slip = back_slip Return d n l.security l.quantity

  pub return_kept : (p : Plan) (places : ℕ) → Passes s p places → return_plan s n ≡ Ok p → Kept o (carried s p) (entry_for (return_line places n) s p ∷ h)
  unfolding return_plan
  return_kept p places ok e =
      let q = plan_ok _ _ p e in
      let z : s.next_deal ≡ s.next_deal + 0 = omega arith in
      let e' : Entry = record { call = return_line places n; next = s.next_deal; slips = xs } in
      let same : eqb l.deal l.deal ≡ true = eq-eqb _ _ refl in
      let named : eqb d.number l.deal ≡ true = eq-eqb _ _ deal_number in
      let lw : 3 ≤ l.security = line_placed.low in
      subst (λ x. Passes s x places → Kept o (carried s x) (entry_for (return_line places n) s x ∷ h)) q.1
      (λ ok'. joined o s h (return_line places n) _ places k ok'
      (all_to _ _ (λ x pl. (has_changed number (less_cash l.part) (λ _. refl) l.deal x.deal s.deals ∙ pl.stands, alike x.deal)) s.lines k.lines.placed)
      fits
      (subst (λ x. DealsKept o (run s.book (movements_of xs)) s.date x es (lines_by xs s.lines) (e' ∷ h)) z
      (lowered_step o s.book s.date s.next_deal s.deals s.lines (lines_by xs s.lines) h e' l.deal l.part k.deals ok'.book refl line_placed.stands
      (omega (arith, parts_fall l.deal, ap (λ b. only b l.part) same))
      (λ i ne. omega (arith, parts_fall i, ap (λ b. only b l.part) (ne_eqb l.deal i (λ w. ne (sym w)))))
      (omega (arith, cash_total Return d n d.giver d.taker l.part (back_on l.deal) true (ap (λ b. only b l.part) named)))
      (λ i ne. omega (arith, cash_total Return d n d.giver d.taker l.part (back_on i) false (ap (λ b. only b l.part) (ne_eqb d.number i (λ w. ne (sym w ∙ deal_number))))))
      (λ i. omega (arith, cash_total Return d n d.giver d.taker l.part (interest_of i) false refl))
      (λ a c money. omega (arith, cash_total Return d n d.giver d.taker l.part (comes_to a c) (takes_in a c d) refl, stock_none a c money d.giver))
      (λ a c money. omega (arith, cash_total Return d n d.giver d.taker l.part (goes_from a c) (gives_in a c d) refl, stock_none a c money d.taker))
      (λ a c. omega (arith, cash_total Return d n d.giver d.taker l.part (λ x. only (is_interest x) (comes_to a c x)) false refl))
      (λ a c. omega (arith, cash_total Return d n d.giver d.taker l.part (λ x. only (is_interest x) (goes_from a c x)) false refl))))) ok
    where
      stock_none : (a c : ℕ) → c < 3 → (party : ℕ) → only (eqb party a && eqb l.security c) l.quantity ≡ 0
      stock_none a c money party = let lw = line_placed.low in grind (arith, nat_tests, lw, money)
