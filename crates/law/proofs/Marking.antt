-- A deal marked, either way.
use Rattle.std.proofs.Common.{◌≡◌, ℕ, ◌+◌, ◌-◌, ◌<◌, ◌≤◌, true, false, cond, eqb, ltb, List, [], ◌∷◌, reverse, length, Some, None, Ok, Option, sym, refl, ap, ◌∙◌, subst, arith}
use Rattle.std.specs.List.{AllByRecursion as Each}
use Rattle.std.proofs.lemmas.Bool.{ltb-true}
use Rattle.gathering.specs.declared.order.Pick.{Pick}
use Rattle.gathering.specs.Law.{Covers}
use Rattle.gathering.proofs.Courses.{gathered_covers}
use Rattle.gathering.proofs.Picks.{covers_some}
use Rattle.memory.specs.declared.row.Deal.{Deal}
use Rattle.memory.specs.declared.row.Kind.TheVariants.{Mark}
use Rattle.memory.specs.declared.row.Line.{Line}
use Rattle.memory.specs.declared.row.Slip.{Slip}
use Rattle.memory.specs.declared.row.Weighing.{Weighing}
use Rattle.memory.specs.declared.row.Weighing.TheVariants.{Margin, Haircut}
use Rattle.memory.specs.Deals.{worth_by, target_by, target_of}
use Rattle.memory.specs.Rows.{no_deal, no_line}
use Rattle.memory.specs.Sound.{number, return_number}
use Rattle.tables.specs.Values.{held_worths}
use Rattle.valuation.specs.declared.price.Price.{Price}
use Rattle.law.specs.Sums.{only, total}
use Rattle.law.specs.World.{State}
use Rattle.law.specs.Finding.{has_deal, deal_of}
use Rattle.law.specs.Slips.{deliveries, lines_by}
use Rattle.law.specs.Plans.{Plan, over, carried}
use Rattle.law.specs.Calls.{mark, worth_on_line, worth_on, order_for, cuts_from, marked, mark_value, cover, moving, covering, marking, mark_plan}
use Rattle.law.specs.Past.{Opening, Entry}
use Rattle.law.proofs.Totals.{by_test, all_to, all_both, found_all, found_key}
use Rattle.law.proofs.Histories.{Stock}
use Rattle.law.proofs.Parting.{lines_on}
use Rattle.law.proofs.Fitting.{Fitting}
use Rattle.law.proofs.Worths.{worth_none, worth_more, worth_total}
use Rattle.law.proofs.Delivering.{Picked, deliveries_fit, deliveries_stock, deliveries_deal, deliveries_total}
use Rattle.law.proofs.Cutting.{Met, Fair, cuts_fair, all_reverse, distinct_reverse, found_each}
use Rattle.law.proofs.Kept.{Ranged, Kept}
use Rattle.law.proofs.Verdicts.{plan_ok, Passes}
use Rattle.law.proofs.Stepping.{entry_for, stock_only, nothing_moves, even_over}

-- no target is below the value sought
pub target_enough : (w : Weighing) (margin sought : ℕ) → sought ≤ target_by w margin sought
target_enough Margin margin sought = omega arith
target_enough Haircut margin sought = omega arith

-- a deal that is worth something has a line
pub worth_lines : (ps : List Price) (d : Deal) (ls : List Line) → 0 < worth_on ps d ls → 0 < lines_on d.number ls
worth_lines ps d ls w = go ls (rw (← worth_total ps d ls) w)
  where
    go : (xs : List Line) → 0 < total (λ l. only (eqb l.deal d.number) (worth_on_line ps d l)) xs → 0 < lines_on d.number xs
    go [] k = k
    go (x ∷ xs) k =
        by_test (eqb x.deal d.number) (λ b. 0 < only b (worth_on_line ps d x) + total (λ l. only (eqb l.deal d.number) (worth_on_line ps d l)) xs → 0 < only b 1 + lines_on d.number xs)
        (λ e k'. omega arith) (λ e k'. let i = go xs (omega (arith, k')) in omega (arith, i)) k

-- what may be taken may stand on a line
pub picks_stand : (m : _) (worth : ℕ → ℕ → ℕ → ℕ) (ps : List Price) (order : _) (held : List ℕ) (resources : ℕ) (picks : List Pick)
    → 3 + length ps ≡ resources → Covers m worth ps order held picks → Each (Picked resources) picks
picks_stand m worth ps order held resources picks e c =
    all_to _ _ (λ x a. record { low = a.low; high = omega (arith, a.listed, e); some = a.some; most = a.bounded }) picks c.allowed

total_ones : (picks : List Pick) → total (λ (x : Pick). 1) picks ≡ length picks
total_ones [] = refl
total_ones (x ∷ xs) = omega (arith, total_ones xs)

module _ (o : Opening) (s : State) (h : List Entry) (k : Kept o s h) (ps : List Price) (places n : ℕ)
    (there : has_deal n s.deals ≡ true) (listed : 3 + length ps ≡ s.book.resources) where
  abbrev d : Deal
  d = marked s n

  is_n : d.number ≡ n
  is_n = found_key number no_deal n s.deals there

  stands : has_deal d.number s.deals ≡ true
  stands = subst (λ i. has_deal i s.deals ≡ true) (sym is_n) there

  same : deal_of d.number s.deals ≡ d
  same = ap (λ i. deal_of i s.deals) is_n

  in_range : Ranged s.book.accounts s.next_deal s.date d
  in_range = found_all number (Ranged s.book.accounts s.next_deal s.date) no_deal n s.deals there k.deals.ranged

  target_some : 1 ≤ target_of d
  target_some = omega (arith, in_range.sought_some, target_enough d.weighing d.margin d.sought)

  -- slips of stock on this deal, after which it has a line
  moving_kept : (xs : List Slip) → Fitting s.book.resources s.deals s.next_line xs s.lines → Each Stock xs → Each (λ x. x.deal ≡ n) xs → 0 < lines_on n (lines_by xs s.lines)
      → Passes s (moving s ps n xs) places → Kept o (carried s (moving s ps n xs)) (entry_for (mark ps places n) s (moving s ps n xs) ∷ h)
  moving_kept [] f st one some ok = nothing_moves o s h (mark ps places n) places s.phase false k ok refl
  moving_kept (x ∷ xs) f st one some ok =
      stock_only o s h (mark ps places n) places s.phase (x ∷ xs) (over ps n) false k ok refl f st (even_over o s h k ps n (x ∷ xs) f one some)

  covering_kept : (c : Option (List Pick)) → c ≡ cover s ps n → mark_value s ps n < target_of d
      → Passes s (covering s ps n c) places → Kept o (carried s (covering s ps n c)) (entry_for (mark ps places n) s (covering s ps n c) ∷ h)
  covering_kept None e less ok = nothing_moves o s h (mark ps places n) places s.phase true k ok refl
  covering_kept (Some picks) e less ok =
      let held : List ℕ = held_worths (worth_by d.weighing) d.currency ps n s.lines in
      let order = order_for d (target_of d - mark_value s ps n) in
      let c = gathered_covers s.book (worth_by d.weighing) ps order held (worth_none d.weighing) (worth_more d.weighing) picks e in
      let some : 0 < length picks = covers_some s.book (worth_by d.weighing) ps order held picks c (omega (arith, less)) in
      let f = deliveries_fit Mark d s.book.resources s.deals stands same s.next_line picks s.lines (picks_stand s.book (worth_by d.weighing) ps order held s.book.resources picks listed c) in
      let t = deliveries_total Mark d (λ l. only (eqb l.deal n) 1) s.next_line picks s.lines (λ x. 1) (λ i x. ap (λ b. only b 1) (Rattle.std.proofs.lemmas.Bool.eq-eqb d.number n is_n)) in
      moving_kept (deliveries Mark d s.next_line picks) f (deliveries_stock Mark d refl s.next_line picks)
      (all_to _ _ (λ x e'. e' ∙ is_n) _ (deliveries_deal Mark d s.next_line picks))
      (omega (arith, t, total_ones picks, some)) ok

  -- the lines as the cuts meet them
  pub met : Each (Met ps d s.lines) (reverse s.lines)
  met =
      all_reverse return_number _ s.lines
      (all_to _ _ (λ l p. record { listed = p.0.0; is = p.0.1; low = p.1.low }) s.lines
      (all_both _ _ s.lines (found_each return_number no_line s.lines k.lines.rise) k.lines.placed))

  pub fair_cuts : target_of d ≤ mark_value s ps n → Fair ps d s.book.resources s.deals s.next_line s.lines (cuts_from ps d s.book (mark_value s ps n) (reverse s.lines))
  fair_cuts enough =
      cuts_fair ps d s.book.resources s.deals stands same s.book (mark_value s ps n) s.next_line (reverse s.lines) s.lines (distinct_reverse return_number s.lines k.lines.rise) met refl enough

  cutting_kept : target_of d < mark_value s ps n
      → Passes s (moving s ps n (cuts_from ps d s.book (mark_value s ps n) (reverse s.lines))) places
      → Kept o (carried s (moving s ps n (cuts_from ps d s.book (mark_value s ps n) (reverse s.lines)))) (entry_for (mark ps places n) s (moving s ps n (cuts_from ps d s.book (mark_value s ps n) (reverse s.lines))) ∷ h)
  cutting_kept more ok =
      let f = fair_cuts (omega (arith, more)) in
      moving_kept (cuts_from ps d s.book (mark_value s ps n) (reverse s.lines)) f.fits f.stocks (all_to _ _ (λ x e. e ∙ is_n) _ f.one_deal)
      (subst (λ i. 0 < lines_on i (lines_by (cuts_from ps d s.book (mark_value s ps n) (reverse s.lines)) s.lines)) is_n
      (worth_lines ps d _ (omega (arith, f.worth, target_some)))) ok

  abbrev Goes : Plan → Type 0
  Goes x = Passes s x places → Kept o (carried s x) (entry_for (mark ps places n) s x ∷ h)

  marking_kept : Goes (marking s ps n)
  marking_kept =
      by_test (ltb (mark_value s ps n) (target_of d)) (λ b. ltb (mark_value s ps n) (target_of d) ≡ b → Goes (cond b (covering s ps n (cover s ps n)) (cond (ltb (target_of d) (mark_value s ps n)) (moving s ps n (cuts_from ps d s.book (mark_value s ps n) (reverse s.lines))) (moving s ps n []))))
      (λ e _. covering_kept (cover s ps n) refl (ltb-true _ _ e))
      (λ e _. by_test (ltb (target_of d) (mark_value s ps n)) (λ b. Goes (cond b (moving s ps n (cuts_from ps d s.book (mark_value s ps n) (reverse s.lines))) (moving s ps n [])))
      (λ t. cutting_kept (ltb-true _ _ t))
      (λ t ok. nothing_moves o s h (mark ps places n) places s.phase false k ok refl)) refl

  pub mark_kept : (p : Plan) → Passes s p places → mark_plan s ps n ≡ Ok p → Kept o (carried s p) (entry_for (mark ps places n) s p ∷ h)
  unfolding mark_plan
  mark_kept p ok e =
      let q = plan_ok _ _ p e in
      subst Goes q.1 marking_kept ok
