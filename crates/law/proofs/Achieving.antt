-- What an accepted settle, mark and substitute achieve.
use Rattle.std.proofs.Common.{◌≡◌, ℕ, ◌+◌, ◌-◌, ◌<◌, ◌≤◌, true, false, cond, not, eqb, ltb, List, [], ◌∷◌, ◌++◌, reverse, length, Some, None, Ok, Option, unwrap_or, sym, refl, ap, ◌∙◌, subst, inl, arith}
use Rattle.std.specs.List.{AllByRecursion as Each}
use Rattle.std.proofs.lemmas.Bool.{and_parts, and_from, both_ways, eq-eqb, leb-true, le-leb, ltb-true, ltb-false}
use Rattle.book.specs.Lists.{run}
use Rattle.book.specs.Meaning.{Meaning}
use Rattle.gathering.specs.declared.order.Pick.{Pick}
use Rattle.gathering.specs.Law.{record_of, Allowed, Covers, value_of_all}
use Rattle.gathering.proofs.Courses.{gathered_covers, gathered_fails}
use Rattle.memory.specs.declared.row.Deal.{Deal}
use Rattle.memory.specs.declared.row.Kind.{Kind}
use Rattle.memory.specs.declared.row.Kind.TheVariants.{Settle, Mark}
use Rattle.memory.specs.declared.row.Line.{Line}
use Rattle.memory.specs.declared.row.Slip.{Slip}
use Rattle.memory.specs.Deals.{worth_by, target_of}
use Rattle.memory.specs.Sound.{return_number}
use Rattle.sides.specs.declared.terms.Terms.{Terms}
use Rattle.tables.specs.Values.{held_worths}
use Rattle.valuation.specs.declared.price.Price.{Price}
use Rattle.valuation.specs.Most.{most_units}
use Rattle.valuation.specs.Prices.{in_ranges, admits}
use Rattle.law.specs.Sums.{only, total}
use Rattle.law.specs.World.{State, World, state_of}
use Rattle.law.specs.Finding.{has_deal}
use Rattle.law.specs.Slips.{deliveries, lines_by, movements_of}
use Rattle.law.specs.Plans.{Plan, Sharing, over, parted, carried}
use Rattle.law.specs.Calls.{Call, settle, mark, substitute, plan_of, places_of, prices_of, units_worth, quantity_worth, worth_on_line, worth_on, order_for, admitted, new_deal, basket, settle_plan, settle_refusals, its_deal, replacement, substitute_refusals, substitute_plan, marked, mark_value, cover, moving, covering, marking, mark_plan, mark_refusals, cuts_from}
use Rattle.law.specs.Outcomes.{prices_fault, outcome, world_by, after}
use Rattle.law.specs.Past.{Opening, Entry, Past}
use Rattle.law.specs.Sparing.{Spent}
use Rattle.law.specs.Theorems.{SettleCovers, Marks, MarkCovers, SubstituteCovers}
use Rattle.law.proofs.Totals.{by_test, all_to}
use Rattle.law.proofs.Parting.{parted_total, parted_all}
use Rattle.law.proofs.Worths.{worth_none, worth_more, worth_total, quantity_priced}
use Rattle.law.proofs.Delivering.{deliveries_total}
use Rattle.law.proofs.Cutting.{distinct_reverse, all_reverse}
use Rattle.law.proofs.Sparing.{has_reverse, cuts_spent}
use Rattle.law.proofs.Kept.{Kept}
use Rattle.law.proofs.Verdicts.{plan_ok, none_holds, not_true_false, Passes, passes}
use Rattle.law.proofs.Settling as settling
use Rattle.law.proofs.Substituting as substituting
use Rattle.law.proofs.Marking as marks
use Rattle.law.proofs.Stepping.{no_slips}
use Rattle.law.proofs.Worlds.{state_world}
use Rattle.law.proofs.Pasts.{held, broken_ok, passed_ok, prices_listed, call_kept}

-- ── what is accepted ──

first_none : (a b : Option Rattle.memory.specs.declared.place.Fault.Fault) → Rattle.memory.specs.Sound.first_found a b ≡ None → b ≡ None
first_none None b e = e
first_none (Some f) b e = Rattle.memory.proofs.Filled.not_some f (sym e)

pub record Accepted (o : Opening) (c : Call) (w : World) (h : List Entry) (p : Plan) : Type 0 where
  pub kept : Kept o (state_of w) h
  pub plans : plan_of c (state_of w) ≡ Ok p
  pub passing : Passes (state_of w) p (places_of c)
  pub prices : prices_fault w.book.resources (prices_of c) ≡ None
  pub leaves : state_of (after c w) ≡ carried (state_of w) p

pub accepted : (o : Opening) (c : Call) (w : World) (h : List Entry) (p : Plan) → Past o w h → outcome c w ≡ Ok p → Accepted o c w h p
unfolding outcome
accepted o c w h p past e =
    let b = broken_ok _ _ p e in
    let r = passed_ok (places_of c) (state_of w) (plan_of c (state_of w)) p b.1 in
    let k = (held past).kept in
    let ok = passes (state_of w) p (places_of c) r.1 in
    let prices = first_none _ _ b.0 in
    let next = call_kept o (state_of w) h c p k prices r.0 ok in
    record {
      kept = k;
      plans = r.0;
      passing = ok;
      prices = prices;
      leaves = ap (λ q. state_of (world_by w q)) e ∙ state_world (carried (state_of w) p) next.deals_room next.lines_room;
    }

-- ── what a basket is worth on its lines ──

module _ (ps : List Price) (d : Deal) (m : Meaning) (need : ℕ) (held' : List ℕ) where
  allowed_worth : (x : Pick) → Allowed m (worth_by d.weighing) ps (order_for d need) held' x.security x.quantity
      → quantity_worth ps d x.security x.quantity ≡ units_worth ps d x.security x.quantity
  allowed_worth x a =
      let i = and_parts (in_ranges (record_of ps x.security)) _ a.admitted in
      let c = and_parts (admits d.class (record_of ps x.security).category) _ i.1 in
      let n = and_parts (not (record_of ps x.security).excluded) _ c.1 in
      quantity_priced ps d x.security x.quantity (and_from _ _ i.0 (and_from _ _ n.1 (le-leb _ _ a.bounded)))

  basket_worth : (picks : List Pick) → Each (λ x. Allowed m (worth_by d.weighing) ps (order_for d need) held' x.security x.quantity) picks
      → total (λ x. quantity_worth ps d x.security x.quantity) picks ≡ value_of_all (worth_by d.weighing) ps (order_for d need) picks
  basket_worth [] a = refl
  basket_worth (x ∷ xs) a = omega (arith, allowed_worth x a.0, basket_worth xs a.1)

  -- the deal is worth so much more with the basket on its lines
  pub with_basket : (kind : Kind) (next : ℕ) (picks : List Pick) (ls : List Line) → Covers m (worth_by d.weighing) ps (order_for d need) held' picks
      → worth_on ps d ls + need ≤ worth_on ps d (lines_by (deliveries kind d next picks) ls)
  with_basket kind next picks ls c =
      let f : Line → ℕ = λ l. only (eqb l.deal d.number) (worth_on_line ps d l) in
      let t = deliveries_total kind d f next picks ls (λ x. quantity_worth ps d x.security x.quantity) (λ n x. ap (λ b. only b (quantity_worth ps d x.security x.quantity)) (eq-eqb d.number d.number refl)) in
      omega (arith, t, worth_total ps d ls, worth_total ps d (lines_by (deliveries kind d next picks) ls), basket_worth picks c.allowed, c.enough)

-- sharing out changes no worth
parted_worth : (ps : List Price) (d : Deal) (sh : Sharing) (ds : List Deal) (ls : List Line) → worth_on ps d (parted sh ds ls) ≡ worth_on ps d ls
parted_worth ps d sh ds ls =
    worth_total ps d (parted sh ds ls) ∙ parted_total sh ds ls (λ l. only (eqb l.deal d.number) (worth_on_line ps d l)) (λ l. refl) ∙ sym (worth_total ps d ls)

-- ── settle ──

settle_worth : (o : Opening) (s : State) (h : List Entry) (ps : List Price) (places : ℕ) (t : Terms) (p : Plan) → Kept o s h → 3 + length ps ≡ s.book.resources → settle_plan s ps t ≡ Ok p
    → target_of (new_deal s t) ≤ worth_on ps (new_deal s t) (carried s p).lines
unfolding settle_plan carried
settle_worth o s h ps places t p k listed e =
    let q = plan_ok _ _ p e in
    let c = none_holds (settle_refusals s ps t) q.0 in
    let a = and_parts (ltb t.giver s.book.accounts) _ (not_true_false _ c.1.1.1.0) in
    let fit = not_true_false _ c.1.0 in
    let gathers = not_true_false _ c.1.1.1.1.0 in
    let giver_in = ltb-true _ _ a.0 in
    let taker-in = ltb-true _ _ a.1 in
    let d : Deal = new_deal s t in
    let picks : List Pick = unwrap_or (basket s ps t) [] in
    let covers = settling.covers o s h k ps t fit giver_in taker-in gathers listed in
    let lines = settling.lines_are o s h k ps t fit giver_in taker-in gathers listed in
    let grew = with_basket ps d s.book (target_of d) [] Settle s.next_line picks s.lines covers in
    subst (λ x. target_of d ≤ worth_on ps d (carried s x).lines) q.1
    (omega (arith, grew, ap (worth_on ps d) lines, parted_worth ps d (over ps s.next_deal) (s.deals ++ (d ∷ [])) (lines_by (Rattle.law.specs.Calls.settle_slips s ps t) s.lines)))

pub settle_covers : SettleCovers
settle_covers o w h past ps places t p e =
    let a = accepted o (settle ps places t) w h p past e in
    subst (λ s. target_of (new_deal (state_of w) t) ≤ worth_on ps (new_deal (state_of w) t) s.lines) (sym a.leaves)
    (settle_worth o (state_of w) h ps places t p a.kept (prices_listed _ ps a.prices) a.plans)

-- ── substitute ──

pub substitute_covers : SubstituteCovers
unfolding substitute_plan
substitute_covers o w h past ps places n out security p e =
    let a = accepted o (substitute ps places n out security) w h p past e in
    let s : State = state_of w in
    let q = plan_ok _ _ p a.plans in
    let c = none_holds (substitute_refusals s n ps out security) q.0 in
    let x = and_parts (admitted ps (its_deal s n) security) _ (not_true_false _ c.1.1.1.1.0) in
    let i = and_parts (in_ranges (record_of ps security)) _ x.0 in
    let y = and_parts (admits (its_deal s n).class (record_of ps security).category) _ i.1 in
    let z = and_parts (not (record_of ps security).excluded) _ y.1 in
    let in' = substituting.quantity_in_lem o s h a.kept n ps out security (not_true_false _ c.1.0) (not_true_false _ c.1.1.0) x.1 in
    let q' : ℕ = unwrap_or (replacement s n ps out security) 0 in
    let few : q' ≤ most_units = omega (arith, in'.bounded) in
    let priced' = quantity_priced ps (its_deal s n) security q' (and_from _ _ i.0 (and_from _ _ z.1 (le-leb _ _ few))) in
    record {
      quantity = q';
      slips = ap (λ v. v.slips) (sym q.1);
      enough = omega (arith, leb-true _ _ in'.passes, priced');
    }

-- ── mark ──

module _ (o : Opening) (s : State) (h : List Entry) (k : Kept o s h) (ps : List Price) (n : ℕ) (there : has_deal n s.deals ≡ true) (listed : 3 + length ps ≡ s.book.resources) where
  abbrev d : Deal
  d = marked s n

  abbrev cutting : List Slip
  cutting = cuts_from ps d s.book (mark_value s ps n) (reverse s.lines)

  -- what moving slips leaves
  moving_worth : (xs : List Slip) → worth_on ps d (carried s (moving s ps n xs)).lines ≡ worth_on ps d (lines_by xs s.lines)
  unfolding carried
  moving_worth [] = refl
  moving_worth (x ∷ xs) = parted_worth ps d (over ps n) s.deals (lines_by (x ∷ xs) s.lines)

  moving_book : (xs : List Slip) → (carried s (moving s ps n xs)).book ≡ run s.book (movements_of xs)
  unfolding carried
  moving_book [] = refl
  moving_book (x ∷ xs) = refl

  moving_spent : (xs : List Slip) (m : Meaning) (value : ℕ) → Each (Spent ps d m value) (lines_by xs s.lines) → Each (Spent ps d m value) (carried s (moving s ps n xs)).lines
  unfolding carried
  moving_spent [] m value a = a
  moving_spent (x ∷ xs) m value a = parted_all (over ps n) s.deals (lines_by (x ∷ xs) s.lines) (Spent ps d m value) (λ l z. z) (λ l z. z) a

  moving_quiet : (xs : List Slip) → (moving s ps n xs).alert ≡ false
  moving_quiet [] = refl
  moving_quiet (x ∷ xs) = refl

  covering_marks : (c : Option (List Pick)) → c ≡ cover s ps n → mark_value s ps n < target_of d → Marks ps n s (covering s ps n c) (carried s (covering s ps n c))
  covering_marks None e less =
      record {
        covered = λ f. absurd (both_ways true f refl);
        unmoved = λ _. refl;
        uncovered = λ _. gathered_fails s.book (worth_by d.weighing) ps (order_for d (target_of d - mark_value s ps n)) (held_worths (worth_by d.weighing) d.currency ps n s.lines) (worth_none d.weighing) (worth_more d.weighing) e;
        spent = λ more. let z : ⊥ = omega (arith, more, less) in absurd z;
      }
  covering_marks (Some picks) e less =
      let need : ℕ = target_of d - mark_value s ps n in
      let held' : List ℕ = held_worths (worth_by d.weighing) d.currency ps n s.lines in
      let c = gathered_covers s.book (worth_by d.weighing) ps (order_for d need) held' (worth_none d.weighing) (worth_more d.weighing) picks e in
      let grew = with_basket ps d s.book need held' Mark s.next_line picks s.lines c in
      let ys : List Slip = deliveries Mark d s.next_line picks in
      record {
        covered = λ _. omega (arith, grew, moving_worth ys, less);
        unmoved = λ t. absurd (both_ways _ (moving_quiet ys) t);
        uncovered = λ t. absurd (both_ways _ (moving_quiet ys) t);
        spent = λ more. let z : ⊥ = omega (arith, more, less) in absurd z;
      }

  cutting_marks : target_of d < mark_value s ps n → Marks ps n s (moving s ps n cutting) (carried s (moving s ps n cutting))
  cutting_marks more =
      let fair = marks.fair_cuts o s h k ps 0 n there listed (omega (arith, more)) in
      let some : Each (λ l. 1 ≤ l.quantity) s.lines = all_to _ _ (λ l p. p.quantity_some) s.lines k.lines.placed in
      let all = cuts_spent ps d s.book (mark_value s ps n) (reverse s.lines) s.lines (distinct_reverse return_number s.lines k.lines.rise) (marks.met o s h k ps 0 n there listed)
      (all_reverse return_number _ s.lines some) k.lines.rise refl (omega (arith, more)) (all_to _ _ (λ l t. inl t) s.lines (has_reverse return_number s.lines)) in
      record {
        covered = λ _. omega (arith, fair.worth, moving_worth cutting);
        unmoved = λ t. absurd (both_ways _ (moving_quiet cutting) t);
        uncovered = λ t. absurd (both_ways _ (moving_quiet cutting) t);
        spent = λ _. subst (λ m. Each (Spent ps d m (worth_on ps d (carried s (moving s ps n cutting)).lines)) (carried s (moving s ps n cutting)).lines) (sym (moving_book cutting))
            (subst (λ v. Each (Spent ps d (run s.book (movements_of cutting)) v) (carried s (moving s ps n cutting)).lines) (sym (moving_worth cutting)) (moving_spent cutting (run s.book (movements_of cutting)) (worth_on ps d (lines_by cutting s.lines)) all));
      }

  still_marks : target_of d ≤ mark_value s ps n → mark_value s ps n ≤ target_of d → Marks ps n s (moving s ps n []) (carried s (moving s ps n []))
  still_marks low high =
      record {
        covered = λ _. omega (arith, low, moving_worth [], ap (worth_on ps d) (no_slips s.lines));
        unmoved = λ t. absurd (both_ways false refl t);
        uncovered = λ t. absurd (both_ways false refl t);
        spent = λ more. let z : ⊥ = omega (arith, more, high) in absurd z;
      }

  abbrev Goes : Plan → Type 0
  Goes x = Marks ps n s x (carried s x)

  pub marking_marks : Goes (marking s ps n)
  marking_marks =
      by_test (ltb (mark_value s ps n) (target_of d)) (λ b. ltb (mark_value s ps n) (target_of d) ≡ b → Goes (cond b (covering s ps n (cover s ps n)) (cond (ltb (target_of d) (mark_value s ps n)) (moving s ps n cutting) (moving s ps n []))))
      (λ e _. covering_marks (cover s ps n) refl (ltb-true _ _ e))
      (λ e _. by_test (ltb (target_of d) (mark_value s ps n)) (λ b. ltb (target_of d) (mark_value s ps n) ≡ b → Goes (cond b (moving s ps n cutting) (moving s ps n [])))
      (λ t _. cutting_marks (ltb-true _ _ t))
      (λ t _. still_marks (ltb-false _ _ e) (ltb-false _ _ t)) refl) refl

pub mark_covers : MarkCovers
unfolding mark_plan
mark_covers o w h past ps places n p e =
    let a = accepted o (mark ps places n) w h p past e in
    let s : State = state_of w in
    let q = plan_ok _ _ p a.plans in
    let c = none_holds (mark_refusals s ps n) q.0 in
    subst (λ t. Marks ps n s p t) (sym a.leaves)
    (subst (λ x. Marks ps n s x (carried s x)) q.1 (marking_marks o s h a.kept ps n (not_true_false _ c.1.0) (prices_listed _ ps a.prices)))
