-- A world and the rows that stand in it; and that it is sound.
use Rattle.std.proofs.Common.{◌≡◌, ℕ, suc, ◌≤◌, true, false, cond, eqb, leb, List, [], ◌∷◌, length, take, sym, refl, ap, ◌∙◌, subst, arith}
use Rattle.std.specs.List.{AllByRecursion as Each}
use Rattle.std.proofs.lemmas.Bool.{and_parts, leb-true, both_ways, eqb-true, eq-eqb}
use Rattle.memory.specs.declared.row.Deal.{Deal}
use Rattle.memory.specs.declared.row.Line.{Line}
use Rattle.memory.specs.Register.{Stands, Sound}
use Rattle.memory.specs.Rows.{no_deal, no_line, padded}
use Rattle.memory.specs.Sound.{number, return_number}
use Rattle.memory.proofs.Filled.{length_padded, take_padded, filled_padded}
use Rattle.sharing.specs.Limits.{most_cash}
use Rattle.law.specs.Sums.{only}
use Rattle.law.specs.World.{State, state_of, head_of, world_of}
use Rattle.law.specs.Finding.{has_deal, deal_of}
use Rattle.law.specs.Past.{Opening, Entry}
use Rattle.law.proofs.Totals.{by_test, total_each, all_to, all_both, found_all, found_key}
use Rattle.law.proofs.Ordered.{ordered_rising}
use Rattle.law.proofs.Parting.{parts_on_lem}
use Rattle.law.proofs.Kept.{parts_for, Ranged, Says, Kept}

-- the rows that stand in the world of a state are its own
pub state_world : (s : State) → length s.deals ≤ s.deal_rows → length s.lines ≤ s.line_rows → state_of (world_of s) ≡ s
state_world s d l =
    let a = take_padded no_deal s.deal_rows s.deals in
    let b = take_padded no_line s.line_rows s.lines in
    let c = length_padded no_deal s.deal_rows s.deals d in
    let e = length_padded no_line s.line_rows s.lines l in
    λ i. record { date = s.date; phase = s.phase; next_deal = s.next_deal; next_line = s.next_line; deals = a i; lines = b i; deal_rows = c i; line_rows = e i; book = s.book }

-- a deal that stands has a place
has_place : (n : ℕ) (ds : List Deal) → has_deal n ds ≡ true → Stands n ds
has_place n [] h = absurd (both_ways false refl h)
has_place n (x ∷ xs) h =
    by_test (eqb x.number n) (λ b. eqb x.number n ≡ b → cond b true (has_deal n xs) ≡ true → Stands n (x ∷ xs))
    (λ e _ k. (0, omega arith, eqb-true _ _ e))
    (λ e _ k. let p = has_place n xs k in (suc p.0, omega (arith, p.1), p.2)) refl h

module _ (o : Opening) (s : State) (h : List Entry) (k : Kept o s h) where
  -- no part is more than its deal's cash
  parts_low : Each (λ l. l.part ≤ most_cash) s.lines
  parts_low =
      all_to _ _ (λ l p.
      let each : Each (λ x. only (eqb x.deal l.deal) x.part ≤ parts_for l.deal s.lines) s.lines = total_each (λ x. only (eqb x.deal l.deal) x.part) s.lines in
      let said = found_all number (λ d. Says o h s.lines d × Ranged s.book.accounts s.next_deal s.date d) no_deal l.deal s.deals p.1.stands (all_both _ _ s.deals k.deals.says k.deals.ranged) in
      let key = found_key number no_deal l.deal s.deals p.1.stands in
      let parts : parts_for l.deal s.lines ≡ (deal_of l.deal s.deals).cash = ap (λ i. parts_for i s.lines) (sym key) ∙ said.0.parts in
      omega (arith, p.0, parts, said.1.cash)) s.lines
      (all_both _ _ s.lines (own s.lines) k.lines.placed)
    where
      -- each line's part is one of its deal's
      up : (x : Line) (xs ys : List Line) → Each (λ l. l.part ≤ parts_for l.deal xs) ys → Each (λ l. l.part ≤ parts_for l.deal (x ∷ xs)) ys
      up x xs [] a = tt
      up x xs (y ∷ ys) a = (omega (arith, a.0), up x xs ys a.1)

      own : (xs : List Line) → Each (λ l. l.part ≤ parts_for l.deal xs) xs
      own [] = tt
      own (x ∷ xs) = (omega (arith, ap (λ b. only b x.part) (eq-eqb x.deal x.deal refl)), up x xs xs (own xs))

  pub state_sound : Sound s.book.accounts s.book.resources (head_of s) (world_of s).deals (world_of s).lines
  state_sound =
      let d = and_parts (leb 1 s.deal_rows) _ k.deal_rows_fit in
      let l = and_parts (leb 1 s.line_rows) _ k.line_rows_fit in
      let ts : take (length s.lines) (padded no_line s.line_rows s.lines) ≡ s.lines = take_padded no_line s.line_rows s.lines in
      let td : take (length s.deals) (padded no_deal s.deal_rows s.deals) ≡ s.deals = take_padded no_deal s.deal_rows s.deals in
      record {
        next_deal_low = k.deals.next_some;
        next_deal_most = k.deal_most;
        next_line_low = k.lines.next_some;
        next_line_most = k.line_most;
        deal_table = filled_padded no_deal s.deal_rows s.deals number _ 64 (leb-true _ _ d.0) (leb-true _ _ d.1) k.deals_room (ordered_rising number s.deals k.deals.rise)
            (all_to _ _ (λ x p. record {
              number_some = p.1.number_some;
              number_below = p.1.number_below;
              giver = p.1.giver;
              taker = p.1.taker;
              differ = p.1.differ;
              margin = p.1.margin;
              sought_some = p.1.sought_some;
              sought_most = p.1.sought_most;
              rate = p.1.rate;
              cash_most = p.1.cash;
              cash_parts = sym p.0.parts ∙ sym (parts_on_lem x.number s.lines) ∙ ap (Rattle.memory.specs.Sound.parts_on x.number) (sym ts);
              whole = p.1.whole;
              residue = p.1.residue;
            }) s.deals (all_both _ _ s.deals k.deals.says k.deals.ranged));
        line_table = filled_padded no_line s.line_rows s.lines return_number _ 1024 (leb-true _ _ l.0) (leb-true _ _ l.1) k.lines_room (ordered_rising return_number s.lines k.lines.rise)
            (all_to _ _ (λ x p. record {
              number_some = p.1.some;
              number_below = p.1.below;
              deal = subst (Stands x.deal) (sym td) (has_place x.deal s.deals p.1.stands);
              security_some = p.1.low;
              security_below = p.1.high;
              quantity_some = p.1.quantity_some;
              quantity_most = p.1.quantity_most;
              part = p.0;
            }) s.lines (all_both _ _ s.lines parts_low k.lines.placed));
      }
