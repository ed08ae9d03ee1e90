-- What holds of every past, from the induction.
use Rattle.std.proofs.Common.{◌≡◌, ℕ, ◌+◌, Bool, true, false, cond, ◌&&◌, eqb, List, [], ◌∷◌, length, Some, None, Ok, Err, sum_by, Result, sym, refl, ap, subst, arith}
use Rattle.std.specs.List.{AllByRecursion as Each}
use Rattle.std.proofs.lemmas.List.{length-map}
use Rattle.std.proofs.lemmas.List.Sums.{sum_by-cons}
use Rattle.std.proofs.lemmas.Bool.{both_ways}
use Rattle.book.specs.Law.{Conserved}
use Rattle.book.specs.Lists.{run}
use Rattle.book.proofs.Conservation.{conserved_none, conserved_then, conserved_run}
use Rattle.memory.specs.declared.row.Deal.{Deal}
use Rattle.memory.specs.declared.row.Line.{Line}
use Rattle.memory.specs.declared.row.Slip.{Slip}
use Rattle.memory.specs.Register.{Sound}
use Rattle.memory.proofs.Sounds.{fault_none}
use Rattle.panel.specs.declared.party.Party.TheVariants.{Giver}
use Rattle.panel.specs.Standing.{is_party, lines_of, quantity_of as quantity_of_some}
use Rattle.panel.proofs.Quantities.{sound_whole}
use Rattle.sides.specs.declared.refusal.Refusal.{Refusal}
use Rattle.law.specs.Sums.{only, total}
use Rattle.law.specs.World.{State, World, state_of, world_of}
use Rattle.law.specs.Finding.{has_deal, deal_of}
use Rattle.law.specs.Slips.{movements_of}
use Rattle.law.specs.Plans.{Plan, carried}
use Rattle.law.specs.Calls.{Call, plan_of, places_of}
use Rattle.law.specs.Outcomes.{outcome, world_by}
use Rattle.law.specs.Past.{Opening, Entry, Past, fresh, called, recorded_by, slipped, is_out, is_back, out_from, back_to, pair_of}
use Rattle.law.specs.Agree.{over, gives, quantity_of}
use Rattle.law.specs.Theorems.{EveryPastAgrees, EveryPastIsSound, out_on_given, back_on_given, EveryPanelTells, EveryPastConserves, EveryPastIsBounded}
use Rattle.law.proofs.Totals.{by_test, total_same, all_to}
use Rattle.law.proofs.Kept.{Between, Kept}
use Rattle.law.proofs.Verdicts.{passes}
use Rattle.law.proofs.Agreeing.{agrees}
use Rattle.law.proofs.Worlds.{state_sound}
use Rattle.law.proofs.Unbroken.{prices_only}
use Rattle.law.proofs.Pasts.{held, broken_ok, passed_ok}

pub every_past_agrees : EveryPastAgrees
every_past_agrees o w h p = agrees o (state_of w) h (held p).kept

pub every_past_is_sound : EveryPastIsSound
every_past_is_sound o w h p =
    let k = held p in
    let s : Sound w.book.accounts w.book.resources w.head w.deals w.lines =
    subst (λ v. Sound v.book.accounts v.book.resources v.head v.deals v.lines) (sym k.whole) (state_sound o (state_of w) h k.kept) in
    let none = fault_none w.book.accounts w.book.resources w.head w.deals w.lines s in
    record { sound = s; faultless = none; unbroken = λ c f e. prices_only c w none f e }

pub every_past_is_bounded : EveryPastIsBounded
every_past_is_bounded o w h p =
    let k = (held p).kept in
    record {
      amounts = k.lawful.amounts;
      quantities = all_to _ _ (λ l x. x.quantity_most) (state_of w).lines k.lines.placed;
      interest = all_to _ _ (λ d x. x.whole) (state_of w).deals k.deals.ranged;
    }

-- ── conservation ──

accepted_conserves : (c : Call) (w : World) (p : Plan) → outcome c w ≡ Ok p → Conserved w.book (world_of (carried (state_of w) p)).book (length p.slips)
unfolding outcome carried
accepted_conserves c w p e =
    let b = broken_ok _ _ p e in
    let r = passed_ok (places_of c) (state_of w) (plan_of c (state_of w)) p b.1 in
    let ok = (passes (state_of w) p (places_of c) r.1).book in
    subst (Conserved w.book (run w.book (movements_of p.slips))) (length-map p.slips _) (conserved_run 0 w.book (movements_of p.slips) ok)

pub every_past_conserves : EveryPastConserves
every_past_conserves o w h p = go p
  where
    step : (c : Call) (v : World) (g : List Entry) (r : Result Plan Refusal) → outcome c v ≡ r → Conserved o.book v.book (total (λ e. length e.slips) g)
        → Conserved o.book (world_by v r).book (total (λ e. length e.slips) (recorded_by c v r g))
    step c v g (Err e) q k = k
    step c v g (Ok x) q k = subst (Conserved o.book (world_of (carried (state_of v) x)).book) (omega arith) (conserved_then k (accepted_conserves c v x q))

    go : {v : World} {g : List Entry} → Past o v g → Conserved o.book v.book (total (λ e. length e.slips) g)
    go (fresh d l sd sl book date) = conserved_none o.book
    go (called {w = v} {h = g} c q) = step c v g (outcome c v) refl (go q)

-- ── the front panel ──

-- the panel's sum is that over the lines whose deal the account gives
giver_is : (a n : ℕ) (ds : List Deal) → has_deal n ds ≡ true → is_party Giver a n ds ≡ gives a (deal_of n ds)
unfolding is_party
giver_is a n [] h = absurd (both_ways false refl h)
giver_is a n (d ∷ ds) h =
    by_test (eqb d.number n) (λ b. cond b true (has_deal n ds) ≡ true → cond b (eqb d.giver a) (is_party Giver a n ds) ≡ gives a (cond b d (deal_of n ds)))
    (λ e k. refl) (λ e k. giver_is a n ds k) h

panel_sum : (f : Line → ℕ) (a : ℕ) (ds : List Deal) (ls : List Line) → Each (λ l. has_deal l.deal ds ≡ true) ls → sum_by f (lines_of Giver a ds ls) ≡ over ds (gives a) f ls
panel_sum f a ds [] on = refl
panel_sum f a ds (l ∷ ls) on =
    let g = giver_is a l.deal ds on.0 in
    by_test (is_party Giver a l.deal ds) (λ b. gives a (deal_of l.deal ds) ≡ b → sum_by f (cond b (l ∷ lines_of Giver a ds ls) (lines_of Giver a ds ls)) ≡ only (gives a (deal_of l.deal ds)) (f l) + over ds (gives a) f ls)
    (λ e t. omega (arith, sum_by-cons f l (lines_of Giver a ds ls), panel_sum f a ds ls on.1, ap (λ b. only b (f l)) t))
    (λ e t. omega (arith, panel_sum f a ds ls on.1, ap (λ b. only b (f l)) t)) (sym g)

-- by the pairs, where the parties of each slip are those of its deal's pair
slips_alike : (next : ℕ) (h es : List Entry) (f g : Slip → ℕ) → ((x : Slip) → Between next h x → f x ≡ g x) → Each (λ e. Each (Between next h) e.slips) es → slipped f es ≡ slipped g es
slips_alike next h [] f g e a = refl
slips_alike next h (x ∷ es) f g e a = omega (arith, total_same (Between next h) f g e x.slips a.0, slips_alike next h es f g e a.1)

given_out : (a : ℕ) (test : ℕ → Bool) (next : ℕ) (h : List Entry) (x : Slip) → Between next h x
    → out_from a test x ≡ only (is_out x && (eqb (pair_of x.deal h).giver a && test x.resource)) x.amount
given_out a test next h x b =
    by_test (is_out x) (λ t. is_out x ≡ t → only (t && (eqb x.from a && test x.resource)) x.amount ≡ only (t && (eqb (pair_of x.deal h).giver a && test x.resource)) x.amount)
    (λ e _. ap (λ v. only (eqb v a && test x.resource) x.amount) (b.out e)) (λ e _. refl) refl

given_back : (a : ℕ) (test : ℕ → Bool) (next : ℕ) (h : List Entry) (x : Slip) → Between next h x
    → back_to a test x ≡ only (is_back x && (eqb (pair_of x.deal h).giver a && test x.resource)) x.amount
given_back a test next h x b =
    by_test (is_back x) (λ t. is_back x ≡ t → only (t && (eqb x.to a && test x.resource)) x.amount ≡ only (t && (eqb (pair_of x.deal h).giver a && test x.resource)) x.amount)
    (λ e _. ap (λ v. only (eqb v a && test x.resource) x.amount) (b.back e)) (λ e _. refl) refl

given_told : (o : Opening) (s : State) (h : List Entry) → Kept o s h → (a : ℕ) (test : ℕ → Bool) → over s.deals (gives a) (quantity_of test) s.lines + back_on_given a test h ≡ out_on_given a test h
given_told o s h k a test =
    omega (
      arith,
      k.lines.nominal a test,
      slips_alike s.next_deal h h (out_from a test) _ (given_out a test s.next_deal h) k.slips,
      slips_alike s.next_deal h h (back_to a test) _ (given_back a test s.next_deal h) k.slips,
    )

pub every_panel_tells : EveryPanelTells
every_panel_tells o w h p =
    let k = (held p).kept in
    let s : State = state_of w in
    let on : Each (λ l. has_deal l.deal s.deals ≡ true) s.lines = all_to _ _ (λ l x. x.stands) s.lines k.lines.placed in
    let sound = (every_past_is_sound o w h p).sound in
    let whole = sound_whole w.book.resources w.book.accounts w.head w.deals w.lines sound in
    record {
      security = λ a r. omega (arith, given_told o s h k a (λ v. eqb v r), panel_sum (quantity_of_some (Some r)) a s.deals s.lines on, same_sum a (λ l. quantity_of_some (Some r) l) (quantity_of (λ v. eqb v r)) s.deals (λ l. some_only (eqb l.security r) l.quantity) s.lines);
      in_all = λ a. omega (arith, given_told o s h k a (λ _. true), panel_sum (quantity_of_some None) a s.deals s.lines on, whole.total Giver a);
    }
  where
    some_only : (b : Bool) (n : ℕ) → cond b n 0 ≡ only b n
    some_only true n = refl
    some_only false n = refl

    same_sum : (a : ℕ) (f g : Line → ℕ) (ds : List Deal) → ((l : Line) → f l ≡ g l) → (ls : List Line) → over ds (gives a) f ls ≡ over ds (gives a) g ls
    same_sum a f g ds e [] = refl
    same_sum a f g ds e (l ∷ ls) = omega (arith, ap (only (gives a (deal_of l.deal ds))) (e l), same_sum a f g ds e ls)
