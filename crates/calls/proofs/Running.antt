-- What a call comes to over a sound register, and the law at its end.
use Rattle.std.proofs.Common.{◌≡◌, ℕ, ◌+◌, ◌≤◌, Bool, true, false, cond, ◌||◌, ltb, [], ◌∷◌, length, Some, None, Ok, Err, Result, sym, refl, ap, ◌∙◌, subst, arith}
use Rattle.std.specs.Result.{IsErrAnd}
use Rattle.std.proofs.lemmas.Result.{err_from_is_err_and}
use Rattle.std.proofs.lemmas.List.{length-take-le}
use Rattle.std.proofs.lemmas.Bool.{le-ltb, or_from}
use Rattle.book.specs.Lists.{run, refusal_from}
use Rattle.memory.specs.declared.place.Fault.{Fault}
use Rattle.memory.specs.declared.row.Phase.{Phase}
use Rattle.memory.specs.Register.{Sound}
use Rattle.memory.specs.Sound.{most_number, fault_of}
use Rattle.sides.specs.declared.refusal.Refusal.{Refusal}
use Rattle.sides.specs.declared.refusal.Refusal.TheVariants.{Broken}
use Rattle.law.specs.World.{World, state_of, world_of}
use Rattle.law.specs.Slips.{lines_by, issues}
use Rattle.law.specs.Changes.{none, numbers_by, deals_by}
use Rattle.law.specs.Plans.{Plan, asis, deals_after, unfit, checked, carried}
use Rattle.law.specs.Calls.{Call, plan_of, places_of, prices_of}
use Rattle.law.specs.Outcomes.{prices_fault, outcome, world_by, after}
use Rattle.law.specs.Past.{Past, called, recorded}
use Rattle.law.proofs.Theorems.{every_past_agrees}
use Rattle.book.specs.declared.movement.RefusedAt.{RefusedAt}
use Rattle.book.specs.Lists.{rehearsed}
use Rattle.book.specs.Refusals.{first_refusal}
use Rattle.drafts.specs.Drafts.{movable, by_book}
use Rattle.sides.specs.declared.refusal.Refusal.TheVariants.{NoRows, NoNumbers, NoSlips}
use Rattle.law.specs.Slips.{movements_of}
use Rattle.law.specs.Plans.{lines_after, or_book}
use Rattle.calls.specs.Clauses.{GoesOn}

-- ── the law ──

pub goes_on : (c : Call) (w v : World) → v ≡ after c w → GoesOn c w v
goes_on c w v e =
    record {
      goes = λ o h p.
          let q : Past o v (recorded c w h) = subst (λ x. Past o x (recorded c w h)) (sym e) (called c p) in
          (q, every_past_agrees o v (recorded c w h) q);
    }

-- ── refusals ──

-- a refusal, told by its error
pub err_is : {X : Type 0} (r : Result X Refusal) (e : Refusal) → IsErrAnd r (λ x. x ≡ e) → r ≡ Err e
err_is r e is = let x = err_from_is_err_and r is in x.1 ∙ ap Err x.2

-- a call that is refused leaves all
pub refused_leaves : (c : Call) (w : World) (e : Refusal) → outcome c w ≡ Err e → w ≡ after c w
refused_leaves c w e q = sym (ap (world_by w) q)

pub broken_outcome : (c : Call) (w : World) (f : Fault) → Some f ≡ fault_of w.book.accounts w.book.resources w.head w.deals w.lines → outcome c w ≡ Err (Broken f)
unfolding outcome
broken_outcome c w f e =
    ap (λ o. Rattle.law.specs.Outcomes.or_broken (Rattle.memory.specs.Sound.first_found o (prices_fault w.book.resources (prices_of c))) (Rattle.law.specs.Outcomes.passed (places_of c) (state_of w) (plan_of c (state_of w)))) (sym e)

-- where nothing is broken, the plan or its refusal
pub sound_outcome : (c : Call) (w : World) → None ≡ fault_of w.book.accounts w.book.resources w.head w.deals w.lines → None ≡ prices_fault w.book.resources (prices_of c)
    → outcome c w ≡ Rattle.law.specs.Outcomes.passed (places_of c) (state_of w) (plan_of c (state_of w))
unfolding outcome
sound_outcome c w e p =
    ap (λ o. Rattle.law.specs.Outcomes.or_broken (Rattle.memory.specs.Sound.first_found o (prices_fault w.book.resources (prices_of c))) (Rattle.law.specs.Outcomes.passed (places_of c) (state_of w) (plan_of c (state_of w)))) (sym e)
    ∙ ap (λ o. Rattle.law.specs.Outcomes.or_broken o (Rattle.law.specs.Outcomes.passed (places_of c) (state_of w) (plan_of c (state_of w)))) (sym p)

-- ── the rows that stand ──

module _ (w : World) (s : Sound w.book.accounts w.book.resources w.head w.deals w.lines) where
  pub deals_used : length (state_of w).deals ≡ w.head.used.deals
  deals_used = length-take-le w.head.used.deals w.deals s.deal_table.within

  pub lines_used : length (state_of w).lines ≡ w.head.used.lines
  lines_used = length-take-le w.head.used.lines w.lines s.line_table.within

  -- a plan without slips that leaves the deals: only date and phase may change
  pub phase_world : (phase : Phase) (date : ℕ) (alert : Bool)
      → world_of (carried (state_of w) (record { date = date; phase = phase; change = none; slips = []; sharing = asis; alert = alert }))
      ≡ record { head = record { date = date; phase = phase; next = w.head.next; used = w.head.used }; deals = w.deals; lines = w.lines; book = w.book }
  unfolding carried lines_by issues run
  phase_world phase date alert =
      let a : w.head.next.deal + 0 ≡ w.head.next.deal = omega arith in
      let b : w.head.next.line + 0 ≡ w.head.next.line = omega arith in
      λ i. record {
        head = record { date = date; phase = phase; next = record { deal = a i; line = b i }; used = record { deals = deals_used i; lines = lines_used i } };
        deals = sym s.deal_table.spare i;
        lines = sym s.line_table.spare i;
        book = w.book;
      }

  -- a plan without slips always passes
  pub no_slips_pass : (places : ℕ) (p : Plan) → p.slips ≡ [] → numbers_by p.change ≡ 0 → length (deals_by p.change (state_of w).deals) ≤ w.head.used.deals
      → checked places (state_of w) p ≡ Ok tt
  unfolding unfit lines_by issues refusal_from
  no_slips_pass places p none' same rows =
      let a : ltb (length w.deals) (length (deals_after (state_of w) p)) ≡ false = le-ltb _ _ (omega (arith, rows, s.deal_table.within)) in
      let b : ltb (length w.lines) (length (lines_by p.slips (state_of w).lines)) ≡ false = rw none' (le-ltb _ _ (omega (arith, lines_used, s.line_table.within))) in
      let c : ltb most_number (w.head.next.deal + numbers_by p.change) ≡ false = le-ltb _ _ (omega (arith, same, s.next_deal_most)) in
      let d : ltb most_number (w.head.next.line + issues p.slips) ≡ false = rw none' (le-ltb _ _ (omega (arith, s.next_line_most))) in
      let e : ltb places (length p.slips) ≡ false = rw none' (le-ltb _ _ (omega arith)) in
      rw (a, b, c, d, e, none')

-- ── a plan whose rows and numbers fit ──

-- it passes where its slips have their places and the book takes them
pub slips_pass : (w : World) (places : ℕ) (p : Plan) → length (deals_after (state_of w) p) ≤ length w.deals → length (lines_after (state_of w) p) ≤ length w.lines
    → w.head.next.deal + numbers_by p.change ≤ most_number → w.head.next.line + issues p.slips ≤ most_number → checked places (state_of w) p ≡ movable w.book p.slips places
unfolding unfit
slips_pass w places p ds ls nd nl =
    let a : ltb (length w.deals) (length (deals_after (state_of w) p)) ≡ false = le-ltb _ _ ds in
    let b : ltb (length w.lines) (length (lines_after (state_of w) p)) ≡ false = le-ltb _ _ ls in
    let c : ltb most_number (w.head.next.deal + numbers_by p.change) ≡ false = le-ltb _ _ nd in
    let d : ltb most_number (w.head.next.line + issues p.slips) ≡ false = le-ltb _ _ nl in
    ap (λ t. or_book (first_refusal ((t, NoRows) ∷ ((ltb most_number (w.head.next.deal + numbers_by p.change) || ltb most_number (w.head.next.line + issues p.slips), NoNumbers) ∷ ((ltb places (length p.slips), NoSlips) ∷ [])))) (rehearsed w.book (movements_of p.slips))) (or_from _ _ a b)
    ∙ ap (λ t. or_book (first_refusal ((t, NoNumbers) ∷ ((ltb places (length p.slips), NoSlips) ∷ []))) (rehearsed w.book (movements_of p.slips))) (or_from _ _ c d)
    ∙ either (ltb places (length p.slips)) (rehearsed w.book (movements_of p.slips))
  where
    either : (t : Bool) (r : Result (Unit {0}) RefusedAt) → or_book (cond t (Err NoSlips) (Ok tt)) r ≡ cond t (Err NoSlips) (by_book r)
    either true r = refl
    either false (Ok u) = refl
    either false (Err x) = refl
