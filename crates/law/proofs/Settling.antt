-- A pair settled: a deal comes, with its cash and its basket.
use Rattle.std.proofs.Common.{◌≡◌, ℕ, ◌+◌, ◌<◌, ◌≤◌, true, false, cond, eqb, List, [], ◌∷◌, ◌++◌, length, is_some, Some, None, Ok, Option, unwrap_or, sym, refl, ap, ◌∙◌, subst, arith}
use Rattle.std.specs.List.{AllByRecursion as Each}
use Rattle.std.proofs.lemmas.Bool.{eq-eqb, both_ways}
use Rattle.gathering.specs.declared.order.Pick.{Pick}
use Rattle.gathering.specs.Law.{Covers}
use Rattle.gathering.proofs.Courses.{gathered_covers}
use Rattle.gathering.proofs.Picks.{covers_some}
use Rattle.memory.specs.declared.row.Deal.{Deal}
use Rattle.memory.specs.declared.row.Kind.TheVariants.{Settle}
use Rattle.memory.specs.declared.row.Line.{Line}
use Rattle.memory.specs.declared.row.Slip.{Slip}
use Rattle.memory.specs.declared.row.Weighing.{Weighing}
use Rattle.memory.specs.declared.row.Weighing.TheVariants.{Margin, Haircut}
use Rattle.memory.specs.Deals.{worth_by, target_of}
use Rattle.memory.specs.Register.{MarginHolds}
use Rattle.memory.specs.Rows.{no_deal}
use Rattle.memory.specs.Sound.{number}
use Rattle.sides.specs.declared.terms.Terms.{Terms}
use Rattle.sides.specs.Ranges.{InRange, terms_fit}
use Rattle.sides.proofs.InRanges.{in_range}
use Rattle.valuation.specs.declared.currency.Currency.{Currency}
use Rattle.valuation.specs.declared.currency.Currency.TheVariants.{Gbp, Eur, Usd}
use Rattle.valuation.specs.declared.price.Price.{Price}
use Rattle.law.specs.Sums.{only, total}
use Rattle.law.specs.World.{State}
use Rattle.law.specs.Finding.{has_deal, deal_of}
use Rattle.law.specs.Slips.{cash_slips, deliveries, lines_by}
use Rattle.law.specs.Plans.{Plan, over, parted, carried}
use Rattle.law.specs.Calls.{settle, order_for, new_deal, basket, settle_slips, settle_plan}
use Rattle.law.specs.Past.{Opening, Entry, back_on, interest_of, comes_to, goes_from, is_interest}
use Rattle.law.specs.Agree.{gives_in, takes_in, unit_in}
use Rattle.law.proofs.Totals.{total_append, total_zero, all_to, all_append, has_none, has_push, found_push_old, found_push_new}
use Rattle.law.proofs.Histories.{Stock, stock_back, stock_interest}
use Rattle.law.proofs.Rows.{parts_others}
use Rattle.law.proofs.Parting.{lines_on, parted_whole, parted_others}
use Rattle.law.proofs.Fitting.{Fitting}
use Rattle.law.proofs.Worths.{worth_none, worth_more}
use Rattle.law.proofs.Cashing.{cash_fits, cash_lines, cash_total, cash_all}
use Rattle.law.proofs.Delivering.{Picked, deliveries_fit, deliveries_stock, deliveries_deal, deliveries_total}
use Rattle.law.proofs.Unchanged.{stock_low, no_cash_in, no_cash_out}
use Rattle.law.proofs.Kept.{parts_for, Ranged, Kept}
use Rattle.law.proofs.LinesStep.{Alike}
use Rattle.law.proofs.Adding.{added_step}
use Rattle.law.proofs.Marking.{target_enough, picks_stand}
use Rattle.law.proofs.Verdicts.{plan_ok, Passes}
use Rattle.law.proofs.Stepping.{entry_for, joined}

unit_some : (c : Currency) → 0 < unit_in c
unit_some Gbp = omega arith
unit_some Eur = omega arith
unit_some Usd = omega arith

margin_holds : (w : Weighing) (t : Terms) → t.weighing ≡ w → InRange t → MarginHolds w t.margin
margin_holds Margin t e r = r.margin_most
margin_holds Haircut t e r = r.margin_none e

pub picks_are : (o : Option (List Pick)) → is_some o ≡ true → Some (unwrap_or o []) ≡ o
picks_are (Some xs) e = refl
picks_are None e = absurd (both_ways false refl e)

module _ (o : Opening) (s : State) (h : List Entry) (k : Kept o s h) (ps : List Price) (t : Terms)
    (fit : terms_fit t ≡ true) (giver_in : t.giver < s.book.accounts) (taker-in : t.taker < s.book.accounts)
    (gathers : is_some (basket s ps t) ≡ true) (listed : 3 + length ps ≡ s.book.resources) where
  abbrev d : Deal
  d = new_deal s t

  abbrev n : ℕ
  n = s.next_deal

  abbrev picks : List Pick
  picks = unwrap_or (basket s ps t) []

  abbrev ys : List Slip
  ys = deliveries Settle d s.next_line picks

  abbrev xs : List Slip
  xs = settle_slips s ps t

  abbrev es : List Deal
  es = s.deals ++ (d ∷ [])

  abbrev after : List Line
  after = parted (over ps n) es (lines_by xs s.lines)

  ranges : InRange t
  ranges = in_range t fit

  pub covers : Covers s.book (worth_by d.weighing) ps (order_for d (target_of d)) [] picks
  covers = gathered_covers s.book (worth_by d.weighing) ps (order_for d (target_of d)) [] (worth_none d.weighing) (worth_more d.weighing) picks (picks_are (basket s ps t) gathers)

  some_picks : 0 < length picks
  some_picks = covers_some s.book (worth_by d.weighing) ps (order_for d (target_of d)) [] picks covers (omega (arith, ranges.sought_least, target_enough t.weighing t.margin t.sought))

  pub standing_picks : Each (Picked s.book.resources) picks
  standing_picks = picks_stand s.book (worth_by d.weighing) ps (order_for d (target_of d)) [] s.book.resources picks listed covers

  not_yet : has_deal n s.deals ≡ false
  not_yet = has_none number n s.deals (all_to _ _ (λ x r e. let z : ⊥ = omega (arith, r.number_below, e) in z) s.deals k.deals.ranged)

  there : has_deal n es ≡ true
  there = has_push number n s.deals d ∙ ap (λ b. cond b true (eqb n n)) not_yet ∙ eq-eqb n n refl

  pub is_new : deal_of n es ≡ d
  is_new = found_push_new number no_deal n s.deals d not_yet refl

  fits_out : Fitting s.book.resources es s.next_line ys s.lines
  fits_out = deliveries_fit Settle d s.book.resources es there is_new s.next_line picks s.lines standing_picks

  fits : Fitting s.book.resources es s.next_line xs s.lines
  fits = cash_fits Settle d 0 d.taker d.giver d.cash s.book.resources es s.next_line ys s.lines fits_out

  pub lines_are : lines_by xs s.lines ≡ lines_by ys s.lines
  lines_are = cash_lines Settle d 0 d.taker d.giver d.cash ys s.lines

  stocks : Each Stock ys
  stocks = deliveries_stock Settle d refl s.next_line picks

  low : Each (λ x. 3 ≤ x.resource) ys
  low = stock_low s.book.resources es s.next_line ys s.lines fits_out stocks

  one_deal : Each (λ x. x.deal ≡ n) xs
  one_deal = all_append _ _ ys (cash_all Settle d 0 d.taker d.giver d.cash (λ x. x.deal ≡ n) refl) (deliveries_deal Settle d s.next_line picks)

  total_ones : (zs : List Pick) → total (λ (x : Pick). 1) zs ≡ length zs
  total_ones [] = refl
  total_ones (x ∷ zs) = omega (arith, total_ones zs)

  some_line : 0 < lines_on n (lines_by xs s.lines)
  some_line =
      let c = deliveries_total Settle d (λ l. only (eqb l.deal n) 1) s.next_line picks s.lines (λ x. 1) (λ i x. ap (λ b. only b 1) (eq-eqb n n refl)) in
      omega (arith, c, total_ones picks, some_picks, ap (lines_on n) lines_are)

  no_parts_yet : (i : ℕ) → (i ≡ n → ⊥) → parts_for i after ≡ parts_for i s.lines
  no_parts_yet i ne =
      parted_others ps n es (lines_by xs s.lines) i ne
      ∙ parts_others s.book.resources es i s.next_line xs s.lines fits (all_to _ _ (λ x e w. ne (sym w ∙ e)) xs one_deal)

  ranged_new : Ranged s.book.accounts (n + 1) s.date d
  ranged_new =
      record {
        number_some = k.deals.next_some;
        number_below = omega arith;
        giver = giver_in;
        taker = taker-in;
        differ = ranges.different;
        margin = margin_holds t.weighing t refl ranges;
        sought_some = ranges.sought_least;
        sought_most = ranges.sought_most;
        rate = ranges.rate_most;
        cash = ranges.cash_most;
        whole = omega arith;
        residue = unit_some t.currency;
      }

  abbrev C : List Slip
  C = cash_slips Settle d 0 d.taker d.giver d.cash

  pub settle_kept : (p : Plan) (places : ℕ) → Passes s p places → settle_plan s ps t ≡ Ok p → Kept o (carried s p) (entry_for (settle ps places t) s p ∷ h)
  unfolding settle_plan
  settle_kept p places ok e =
      let q = plan_ok _ _ p e in
      let e' : Entry = record { call = settle ps places t; next = n; slips = xs } in
      subst (λ x. Passes s x places → Kept o (carried s x) (entry_for (settle ps places t) s x ∷ h)) q.1
      (λ ok'. joined o s h (settle ps places t) _ places k ok'
      (all_to _ _ (λ l pl. (
        has_push number l.deal s.deals d ∙ ap (λ b. cond b true (eqb n l.deal)) pl.stands,
        subst (λ x. Alike x (deal_of l.deal s.deals)) (sym (found_push_old number no_deal l.deal s.deals d pl.stands)) (record { giver = refl; taker = refl; currency = refl }),
      )) s.lines k.lines.placed)
      fits
      (added_step o s.book s.date n s.deals s.lines after h e' t k.deals ok'.book refl ranged_new
      (parted_whole ps n es (lines_by xs s.lines) some_line ∙ ap (λ x. x.cash) is_new)
      no_parts_yet
      (λ i. omega (arith, total_append (back_on i) C ys, stock_back i ys stocks, cash_total Settle d 0 d.taker d.giver d.cash (back_on i) false refl))
      (λ i. omega (arith, total_append (interest_of i) C ys, stock_interest i ys stocks, cash_total Settle d 0 d.taker d.giver d.cash (interest_of i) false refl))
      (λ a c money. omega (arith, total_append (comes_to a c) C ys, no_cash_in a c money ys low, cash_total Settle d 0 d.taker d.giver d.cash (comes_to a c) (gives_in a c d) refl))
      (λ a c money. omega (arith, total_append (goes_from a c) C ys, no_cash_out a c money ys low, cash_total Settle d 0 d.taker d.giver d.cash (goes_from a c) (takes_in a c d) refl))
      (λ a c. omega (arith, total_append (λ x. only (is_interest x) (comes_to a c x)) C ys, no_interest_of (comes_to a c) ys stocks, cash_total Settle d 0 d.taker d.giver d.cash (λ x. only (is_interest x) (comes_to a c x)) false refl))
      (λ a c. omega (arith, total_append (λ x. only (is_interest x) (goes_from a c x)) C ys, no_interest_of (goes_from a c) ys stocks, cash_total Settle d 0 d.taker d.giver d.cash (λ x. only (is_interest x) (goes_from a c x)) false refl)))) ok
    where
      no_interest_of : (f : Slip → ℕ) (zs : List Slip) → Each Stock zs → total (λ x. only (is_interest x) (f x)) zs ≡ 0
      no_interest_of f zs = total_zero Stock (λ x. only (is_interest x) (f x)) (λ x st. ap (λ b. only b (f x)) st.no_interest) zs
