-- The day end's calls, as they run, are as they are defined.
use Rattle.std.proofs.Common.{◌≡◌, ℕ, ◌+◌, ◌-◌, ◌≤◌, Bool, true, false, cond, not, ◌&&◌, leb, List, [], ◌∷◌, ◌++◌, map, length, take, drop, replicate, is_ok, Some, None, Ok, Err, Option, Result, sym, refl, ap, ◌∙◌, subst, arith}
use Rattle.memory.specs.declared.place.Fault.{Fault}
use Rattle.memory.specs.declared.row.Head.{Head}
use Rattle.memory.specs.declared.row.Phase.{Phase}
use Rattle.memory.specs.declared.row.Phase.TheVariants.{Day, DayEnd}
use Rattle.memory.specs.Register.{Sound}
use Rattle.memory.specs.Sound.{fault_of}
use Rattle.memory.proofs.Sounds.{sound_from}
use Rattle.sides.specs.declared.day_end.DaySheet.{DaySheet}
use Rattle.sides.specs.declared.refusal.Refusal.{Refusal}
use Rattle.sides.specs.declared.refusal.Refusal.TheVariants.{WrongPhase}
use Rattle.std.specs.Result.{result_map_both, result_err}
use Rattle.book.specs.Refusals.{first_refusal}
use Rattle.sides.specs.DayEnd.{in_day, in_phase, owed, open_verdict, opening, opened, lifted}
use Rattle.law.specs.World.{World, state_of}
use Rattle.law.specs.Plans.{Plan, asis}
use Rattle.law.specs.Changes.{none}
use Rattle.law.specs.Calls.{Call, open_day_end, lift_day_end, lift_plan, open_plan, or_plan}
use Rattle.law.specs.Outcomes.{outcome, world_by, after, passed}
use Rattle.calls.specs.Clauses.{GoesOn, sheet_by, verdict_by, or_broken_fault, unless_broken}
use Rattle.std.proofs.lemmas.List.{length-map}
use Rattle.std.proofs.lemmas.Bool.{le-leb}
use Rattle.book.specs.Lists.{run}
use Rattle.memory.specs.declared.row.Deal.{Deal}
use Rattle.memory.specs.Deals.{grown}
use Rattle.memory.specs.Rows.{no_deal, padded}
use Rattle.memory.proofs.Filled.{drop_padded}
use Rattle.sharing.specs.Limits.{most_days}
use Rattle.sides.specs.declared.day_end.NotClosed.{NotClosed}
use Rattle.sides.specs.declared.refusal.Refusal.TheVariants.{Broken, OutOfRange}
use Rattle.sides.specs.DayEnd.{on_date, close_verdict, closing, closed}
use Rattle.law.specs.World.{world_of}
use Rattle.law.specs.Slips.{lines_by, issues}
use Rattle.law.specs.Changes.{grown as grown_change}
use Rattle.law.specs.Plans.{carried}
use Rattle.law.specs.Calls.{close_day_end, close_refusals, close_plan}
use Rattle.calls.specs.Clauses.{closed_by}
use Rattle.calls.proofs.Running.{lines_used}
use Rattle.calls.proofs.Running.{goes_on, broken_outcome, sound_outcome, deals_used, phase_world, no_slips_pass}

-- what a call did, by a view of its outcome
pub record Ran {X : Type 0} (view : Result Plan Refusal → X) (c : Call) (w : World) (r : X) (v : World) : Type 0 where
  pub answer : r ≡ view (outcome c w)
  pub world : v ≡ after c w
  pub law : GoesOn c w v

pub ran : {X : Type 0} (view : Result Plan Refusal → X) (c : Call) (w v : World) (r : X) (q : Result Plan Refusal) → outcome c w ≡ q → r ≡ view q → v ≡ world_by w q → Ran view c w r v
ran view c w v r q e a b =
    let world : v ≡ after c w = b ∙ ap (world_by w) (sym e) in
    record { answer = a ∙ ap view (sym e); world = world; law = goes_on c w v world }

abbrev pub with_head : World → Head → World
with_head w h = record { head = h; deals = w.deals; lines = w.lines; book = w.book }

pub open_ran : (w : World) (checked : Result (Unit {0}) Fault) → result_err checked ≡ fault_of w.book.accounts w.book.resources w.head w.deals w.lines
    → Ran sheet_by open_day_end w (or_broken_fault checked (opening w.head)) (with_head w (unless_broken checked (opened w.head) w.head))
unfolding open_plan
open_ran w (Err f) e = ran sheet_by open_day_end w w _ (Err _) (broken_outcome open_day_end w f e) refl refl
open_ran w (Ok u) e = go w.head.phase refl
  where
    s : Sound w.book.accounts w.book.resources w.head w.deals w.lines
    s = sound_from w.book.accounts w.book.resources w.head w.deals w.lines e

    out : outcome open_day_end w ≡ passed 0 (state_of w) (open_plan (state_of w))
    out = sound_outcome open_day_end w e refl

    plan : Plan
    plan = record { date = w.head.date; phase = DayEnd; change = none; slips = []; sharing = asis; alert = false }

    verdict : (p : Phase) → w.head.phase ≡ p → open_verdict w.head ≡ first_refusal ((not (in_day p), WrongPhase) ∷ [])
    verdict p e = ap (λ x. first_refusal ((not (in_day x), WrongPhase) ∷ [])) e

    go : (p : Phase) → w.head.phase ≡ p → Ran sheet_by open_day_end w (opening w.head) (with_head w (opened w.head))
    go DayEnd p =
        let v : open_verdict w.head ≡ Err WrongPhase = verdict DayEnd p in
        ran sheet_by open_day_end w _ _ (Err WrongPhase) (out ∙ ap (λ r. passed 0 (state_of w) (or_plan r plan)) v) (ap (λ r. result_map_both (λ _. owed) (λ x. x) r) v) (ap (λ r. with_head w (cond (is_ok r) (in_phase DayEnd w.head) w.head)) v)
    go Day p =
        let v : open_verdict w.head ≡ Ok tt = verdict Day p in
        let ok = no_slips_pass w s 0 plan refl refl (omega (arith, deals_used w s)) in
        ran sheet_by open_day_end w _ _ (Ok plan) (out ∙ ap (λ r. passed 0 (state_of w) (or_plan r plan)) v ∙ ap (result_map_both (λ _. plan) (λ x. x)) ok) (ap (λ r. result_map_both (λ _. owed) (λ x. x) r) v)
        (ap (λ r. with_head w (cond (is_ok r) (in_phase DayEnd w.head) w.head)) v ∙ sym (phase_world w s DayEnd w.head.date false))

-- with what was checked, answered and left
pub open_told : (w : World) (checked : Result (Unit {0}) Fault) → result_err checked ≡ fault_of w.book.accounts w.book.resources w.head w.deals w.lines
    → (r : Result DaySheet Refusal) → r ≡ or_broken_fault checked (opening w.head) → (h : Head) → h ≡ unless_broken checked (opened w.head) w.head → Ran sheet_by open_day_end w r (with_head w h)
open_told w checked f r e h c =
    subst (λ x. Ran sheet_by open_day_end w x (with_head w h)) (sym e) (subst (λ x. Ran sheet_by open_day_end w (or_broken_fault checked (opening w.head)) (with_head w x)) (sym c)
    (open_ran w checked f))

-- a fault that was looked for with the book's numbers
pub found_is : (w : World) (accounts resources : ℕ) → accounts ≡ w.book.accounts → resources ≡ w.book.resources → (found : Option Fault) → found ≡ fault_of accounts resources w.head w.deals w.lines
    → found ≡ fault_of w.book.accounts w.book.resources w.head w.deals w.lines
found_is w accounts resources a b found f =
    f ∙ ap (λ x. fault_of x resources w.head w.deals w.lines) a ∙ ap (λ x. fault_of w.book.accounts x w.head w.deals w.lines) b

-- ── lift ──

lift_ran : (w : World) (checked : Result (Unit {0}) Fault) → result_err checked ≡ fault_of w.book.accounts w.book.resources w.head w.deals w.lines
    → Ran verdict_by lift_day_end w (or_broken_fault checked (Ok tt)) (with_head w (unless_broken checked (lifted w.head) w.head))
unfolding lift_plan
lift_ran w (Err f) e = ran verdict_by lift_day_end w w _ (Err _) (broken_outcome lift_day_end w f e) refl refl
lift_ran w (Ok u) e =
    let s = sound_from w.book.accounts w.book.resources w.head w.deals w.lines e in
    let plan : Plan = record { date = w.head.date; phase = Day; change = none; slips = []; sharing = asis; alert = false } in
    let ok = no_slips_pass w s 0 plan refl refl (omega (arith, deals_used w s)) in
    ran verdict_by lift_day_end w _ _ (Ok plan) (sound_outcome lift_day_end w e refl ∙ ap (result_map_both (λ _. plan) (λ x. x)) ok) refl (sym (phase_world w s Day w.head.date false))

pub lift_told : (w : World) (checked : Result (Unit {0}) Fault) → result_err checked ≡ fault_of w.book.accounts w.book.resources w.head w.deals w.lines
    → (r : Result (Unit {0}) Refusal) → r ≡ or_broken_fault checked (Ok tt) → (h : Head) → h ≡ unless_broken checked (lifted w.head) w.head → Ran verdict_by lift_day_end w r (with_head w h)
lift_told w checked f r e h c =
    subst (λ x. Ran verdict_by lift_day_end w x (with_head w h)) (sym e) (subst (λ x. Ran verdict_by lift_day_end w (or_broken_fault checked (Ok tt)) (with_head w x)) (sym c)
    (lift_ran w checked f))

-- ── close ──

-- the deals' table with every used deal grown
grown_table : (w : World) (s : Sound w.book.accounts w.book.resources w.head w.deals w.lines) (days : ℕ)
    → padded no_deal (length w.deals) (map (grown days) (take w.head.used.deals w.deals)) ≡ map (grown days) (take w.head.used.deals w.deals) ++ drop w.head.used.deals w.deals
grown_table w s days =
    let us : List Deal = take w.head.used.deals w.deals in
    let n : ℕ = length w.deals in
    let same : length (map (grown days) us) ≡ length us = length-map us (grown days) in
    let rest : drop w.head.used.deals w.deals ≡ replicate (n - length us) no_deal =
    ap (λ k. drop k w.deals) (sym (deals_used w s)) ∙ ap (drop (length us)) s.deal_table.spare ∙ drop_padded no_deal n us in
    ap (λ k. map (grown days) us ++ replicate (n - k) no_deal) same ∙ ap (λ zs. map (grown days) us ++ zs) (sym rest)

close_world : (w : World) (s : Sound w.book.accounts w.book.resources w.head w.deals w.lines) (date days : ℕ)
    → world_of (carried (state_of w) (record { date = date; phase = Day; change = grown_change days; slips = []; sharing = asis; alert = false }))
    ≡ record { head = in_phase Day (on_date date w.head); deals = map (grown days) (take w.head.used.deals w.deals) ++ drop w.head.used.deals w.deals; lines = w.lines; book = w.book }
unfolding carried lines_by issues run
close_world w s date days =
    let a : w.head.next.deal + 0 ≡ w.head.next.deal = omega arith in
    let b : w.head.next.line + 0 ≡ w.head.next.line = omega arith in
    let c : length (map (grown days) (take w.head.used.deals w.deals)) ≡ w.head.used.deals = length-map _ (grown days) ∙ deals_used w s in
    λ i. record {
      head = record { date = date; phase = Day; next = record { deal = a i; line = b i }; used = record { deals = c i; lines = lines_used w s i } };
      deals = grown_table w s days i;
      lines = sym s.line_table.spare i;
      book = w.book;
    }

pub close_broken : (w : World) (date : ℕ) (sheet : DaySheet) (accounts resources : ℕ) → accounts ≡ w.book.accounts → resources ≡ w.book.resources
    → (f : Fault) → Some f ≡ fault_of accounts resources w.head w.deals w.lines → Ran (closed_by sheet) (close_day_end date) w (Err (record { refusal = Broken f; sheet = sheet })) w
close_broken w date sheet accounts resources a b f e =
    ran (closed_by sheet) (close_day_end date) w w _ (Err (Broken f)) (broken_outcome (close_day_end date) w f (found_is w accounts resources a b (Some f) e)) refl refl

pub close_told : (w : World) (date : ℕ) (sheet : DaySheet) (accounts resources : ℕ) → date ≤ 65_535 → accounts ≡ w.book.accounts → resources ≡ w.book.resources
    → None ≡ fault_of accounts resources w.head w.deals w.lines
    → (r : Result (Unit {0}) NotClosed) → r ≡ closing w.head date sheet → (h : Head) → h ≡ closed w.head date
    → (ds : List Deal) → ds ≡ cond (is_ok (close_verdict w.head date)) (map (grown (date - w.head.date)) (take w.head.used.deals w.deals) ++ drop w.head.used.deals w.deals) w.deals
    → Ran (closed_by sheet) (close_day_end date) w r (record { head = h; deals = ds; lines = w.lines; book = w.book })
unfolding close_plan
close_told w date sheet accounts resources most a b f r e h c ds d = go (close_verdict w.head date) refl
  where
    none' : None ≡ fault_of w.book.accounts w.book.resources w.head w.deals w.lines
    none' = found_is w accounts resources a b None f

    s : Sound w.book.accounts w.book.resources w.head w.deals w.lines
    s = sound_from w.book.accounts w.book.resources w.head w.deals w.lines none'

    plan : Plan
    plan = record { date = date; phase = Day; change = grown_change (date - w.head.date); slips = []; sharing = asis; alert = false }

    -- a stated date is one that is counted
    and_true : (b : Bool) → (b && true) ≡ b
    and_true true = refl
    and_true false = refl

    same_tests : close_verdict w.head date ≡ first_refusal (close_refusals (state_of w) date)
    same_tests =
        ap (λ t. first_refusal ((in_day w.head.phase, WrongPhase) ∷ ((not (leb (w.head.date + 1) date && t), OutOfRange) ∷ [])))
        (sym (ap (λ t. leb date (w.head.date + most_days) && t) (le-leb date 65_535 most) ∙ and_true (leb date (w.head.date + most_days))))

    out : outcome (close_day_end date) w ≡ passed 0 (state_of w) (or_plan (close_verdict w.head date) plan)
    out = sound_outcome (close_day_end date) w none' refl ∙ ap (λ v. passed 0 (state_of w) (or_plan v plan)) (sym same_tests)

    go : (v : Result (Unit {0}) Refusal) → close_verdict w.head date ≡ v → Ran (closed_by sheet) (close_day_end date) w r (record { head = h; deals = ds; lines = w.lines; book = w.book })
    go (Err x) v =
        ran (closed_by sheet) (close_day_end date) w _ r (Err x) (out ∙ ap (λ t. passed 0 (state_of w) (or_plan t plan)) v)
        (e ∙ ap (λ t. result_map_both (λ _. tt) (λ y. record { refusal = y; sheet = sheet }) t) v)
        (λ i. record { head = (c ∙ ap (λ t. cond (is_ok t) (in_phase Day (on_date date w.head)) w.head) v) i; deals = (d ∙ ap (λ t. cond (is_ok t) (map (grown (date - w.head.date)) (take w.head.used.deals w.deals) ++ drop w.head.used.deals w.deals) w.deals) v) i; lines = w.lines; book = w.book })
    go (Ok u) v =
        let rows : length (map (grown (date - w.head.date)) (state_of w).deals) ≤ w.head.used.deals = omega (arith, length-map (state_of w).deals (grown (date - w.head.date)), deals_used w s) in
        let ok = no_slips_pass w s 0 plan refl refl rows in
        ran (closed_by sheet) (close_day_end date) w _ r (Ok plan) (out ∙ ap (λ t. passed 0 (state_of w) (or_plan t plan)) v ∙ ap (result_map_both (λ _. plan) (λ x. x)) ok)
        (e ∙ ap (λ t. result_map_both (λ _. tt) (λ y. record { refusal = y; sheet = sheet }) t) v)
        ((λ i. record { head = (c ∙ ap (λ t. cond (is_ok t) (in_phase Day (on_date date w.head)) w.head) v) i; deals = (d ∙ ap (λ t. cond (is_ok t) (map (grown (date - w.head.date)) (take w.head.used.deals w.deals) ++ drop w.head.used.deals w.deals) w.deals) v) i; lines = w.lines; book = w.book })
        ∙ sym (close_world w s date (date - w.head.date)))
