-- The induction over a past.
use Rattle.std.proofs.Common.{◌≡◌, ℕ, ◌+◌, ◌≤◌, true, ltb, List, [], ◌∷◌, length, Some, None, Ok, Err, Option, Result, sym, refl, ap, subst, arith}
use Rattle.std.specs.Result.{result_unwrap_or}
use Rattle.std.proofs.lemmas.Bool.{and_parts, ltb-true}
use Rattle.memory.specs.declared.place.Fault.{Fault}
use Rattle.memory.specs.declared.place.Table.TheVariants as table
use Rattle.memory.specs.Sound.{first_found, at}
use Rattle.memory.proofs.Filled.{not_some}
use Rattle.sides.specs.declared.refusal.Refusal.{Refusal}
use Rattle.valuation.specs.declared.price.Price.{Price}
use Rattle.valuation.specs.Prices.{fault_of as price_fault_of}
use Rattle.valuation.proofs.Faults.{faultless}
use Rattle.law.specs.World.{State, World, state_of, world_of}
use Rattle.law.specs.Plans.{Plan, checked, carried}
use Rattle.law.specs.Calls.{Call, settle, return_line, substitute, amend, open_day_end, mark, close_day_end, lift_day_end, pay, plan_of, places_of, prices_of, settle_plan, settle_refusals, return_plan, return_refusals, substitute_plan, substitute_refusals, admitted, its_deal, pay_plan, pay_refusals, mark_plan, mark_refusals}
use Rattle.law.specs.Outcomes.{prices_fault, passed, or_broken, outcome, world_by}
use Rattle.law.specs.Past.{Opening, Entry, fresh_state, recorded_by, Past, fresh, called}
use Rattle.law.proofs.Kept.{Kept}
use Rattle.law.proofs.Verdicts.{not_ok, plan_ok, none_holds, not_true_false, Passes, passes}
use Rattle.law.proofs.Stepping.{entry_for}
use Rattle.law.proofs.DayEnds.{open_step, lift_step, close_step, amend_step}
use Rattle.law.proofs.Returning.{return_kept}
use Rattle.law.proofs.Paying.{pay_kept}
use Rattle.law.proofs.Substituting.{substitute_kept}
use Rattle.law.proofs.Marking.{mark_kept}
use Rattle.law.proofs.Settling.{settle_kept}
use Rattle.law.proofs.Worlds.{state_world}

-- ── what it takes to be accepted ──

first_none : (a b : Option Fault) → first_found a b ≡ None → (a ≡ None) × (b ≡ None)
first_none None b e = (refl, e)
first_none (Some f) b e = not_some f (sym e)

pub broken_ok : (f : Option Fault) (r : Result Plan Refusal) (p : Plan) → or_broken f r ≡ Ok p → (f ≡ None) × (r ≡ Ok p)
broken_ok None r p e = (refl, e)
broken_ok (Some f) r p e = not_ok _ p e

pub passed_ok : (places : ℕ) (s : State) (r : Result Plan Refusal) (p : Plan) → passed places s r ≡ Ok p → (r ≡ Ok p) × (Ok tt ≡ checked places s p)
passed_ok places s (Err e) p k = not_ok e p k
passed_ok places s (Ok q) p k = go (checked places s q) refl k
  where
    go : (c : Result (Unit {0}) Refusal) → checked places s q ≡ c → Rattle.std.specs.Result.result_map_both (λ _. q) (λ e. e) c ≡ Ok p → (◌≡◌ {A = Result Plan Refusal} (Ok q) (Ok p)) × (Ok tt ≡ checked places s p)
    go (Ok u) e m = (m, subst (λ x. Ok tt ≡ checked places s x) (ap (λ r. result_unwrap_or r q) m) (sym e))
    go (Err x) e m = not_ok x p m

pub prices_listed : (resources : ℕ) (ps : List Price) → prices_fault resources (Some ps) ≡ None → 3 + length ps ≡ resources
prices_listed resources ps e = (faultless resources ps (none_at (price_fault_of resources ps) e)).count
  where
    none_at : (i : Option ℕ) → at table.Prices i ≡ None → None ≡ i
    none_at None k = refl
    none_at (Some i) k = not_some _ (sym k)

-- ── a call that is accepted keeps the law ──

pub call_kept : (o : Opening) (s : State) (h : List Entry) (c : Call) (p : Plan) → Kept o s h → prices_fault s.book.resources (prices_of c) ≡ None
    → plan_of c s ≡ Ok p → Passes s p (places_of c) → Kept o (carried s p) (entry_for c s p ∷ h)
unfolding settle_plan return_plan substitute_plan pay_plan mark_plan
call_kept o s h (settle ps places t) p k prices e ok =
    let c = none_holds (settle_refusals s ps t) (plan_ok _ _ p e).0 in
    let a = and_parts (ltb t.giver s.book.accounts) _ (not_true_false _ c.1.1.1.0) in
    settle_kept o s h k ps t (not_true_false _ c.1.0) (ltb-true _ _ a.0) (ltb-true _ _ a.1) (not_true_false _ c.1.1.1.1.0) (prices_listed _ ps prices) p places ok e
call_kept o s h (return_line places n) p k prices e ok =
    let c = none_holds (return_refusals s n) (plan_ok _ _ p e).0 in
    return_kept o s h k n (not_true_false _ c.1.0) p places ok e
call_kept o s h (substitute ps places n out security) p k prices e ok =
    let c = none_holds (substitute_refusals s n ps out security) (plan_ok _ _ p e).0 in
    let a = and_parts (admitted ps (its_deal s n) security) _ (not_true_false _ c.1.1.1.1.0) in
    substitute_kept o s h k n ps out security (not_true_false _ c.1.0) (not_true_false _ c.1.1.0) a.1 p places ok e
call_kept o s h (amend n rate due) p k prices e ok = amend_step o s h k p 0 ok n rate due e
call_kept o s h open_day_end p k prices e ok = open_step o s h k p 0 ok e
call_kept o s h (mark ps places n) p k prices e ok =
    let c = none_holds (mark_refusals s ps n) (plan_ok _ _ p e).0 in
    mark_kept o s h k ps places n (not_true_false _ c.1.0) (prices_listed _ ps prices) p ok e
call_kept o s h (close_day_end date) p k prices e ok = close_step o s h k p 0 ok date e
call_kept o s h lift_day_end p k prices e ok = lift_step o s h k p 0 ok e
call_kept o s h (pay places n) p k prices e ok =
    let c = none_holds (pay_refusals s n) (plan_ok _ _ p e).0 in
    pay_kept o s h k n (not_true_false _ c.1.0) c.1.1.0 p places ok e

-- ── every past ──

-- the world is that of the rows that stand, which keep the law
pub record Held (o : Opening) (w : World) (h : List Entry) : Type 0 where
  pub whole : w ≡ world_of (state_of w)
  pub kept : Kept o (state_of w) h

held_of : (o : Opening) (s : State) (h : List Entry) → Kept o s h → Held o (world_of s) h
held_of o s h k =
    let e = state_world s k.deals_room k.lines_room in
    record { whole = ap world_of (sym e); kept = subst (λ x. Kept o x h) (sym e) k }

pub accepted_held : (o : Opening) (w : World) (h : List Entry) (c : Call) (p : Plan) → Held o w h → outcome c w ≡ Ok p
    → Held o (world_of (carried (state_of w) p)) (entry_for c (state_of w) p ∷ h)
unfolding outcome
accepted_held o w h c p k e =
    let b = broken_ok _ _ p e in
    let r = passed_ok (places_of c) (state_of w) (plan_of c (state_of w)) p b.1 in
    let f = first_none _ _ b.0 in
    held_of o _ _ (call_kept o (state_of w) h c p k.kept f.1 r.0 (passes (state_of w) p (places_of c) r.1))

fresh_kept : (o : Opening) (d l : ℕ) → Rattle.memory.specs.Begin.sized d 64 ≡ true → Rattle.memory.specs.Begin.sized l 1024 ≡ true → Rattle.book.specs.Meaning.Lawful o.book → o.date ≤ 65_535
    → Kept o (fresh_state o d l) []
fresh_kept o d l sd sl book date =
    record {
      lawful = book;
      deal_rows_fit = sd;
      line_rows_fit = sl;
      deals_room = omega arith;
      lines_room = omega arith;
      deal_most = omega arith;
      line_most = omega arith;
      lines = record { next_some = omega arith; rise = tt; placed = tt; balance = λ n. refl; once = λ n. omega arith; fresh = λ n k. refl; stock = λ a r k. refl; nominal = λ a r. refl };
      deals = record {
        dated = refl;
        date_most = date;
        next_some = omega arith;
        rise = tt;
        ranged = tt;
        says = tt;
        once = λ n. omega arith;
        fresh = λ n k. record { never = refl; out = refl; back = refl; nothing = refl; unpaid = refl };
        stand = λ n. refl;
        went = λ n k. omega arith;
        cash = λ a c k. refl;
      };
      slips = tt;
    }

pub held : {o : Opening} {w : World} {h : List Entry} → Past o w h → Held o w h
held {o} (fresh d l sd sl book date) = held_of o (fresh_state o d l) [] (fresh_kept o d l sd sl book date)
held {o} (called {w = w} {h = h} c p) = go (outcome c w) refl (held p)
  where
    go : (r : Result Plan Refusal) → outcome c w ≡ r → Held o w h → Held o (world_by w r) (recorded_by c w r h)
    go (Err e) q k = k
    go (Ok x) q k = accepted_held o w h c x k q
