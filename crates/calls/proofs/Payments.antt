-- A payment, as it runs, is as it is defined.
use Rattle.std.proofs.Common.{◌≡◌, ℕ, ◌+◌, ◌-◌, ◌<◌, ◌≤◌, true, cond, not, ltb, List, [], ◌∷◌, map, length, get_or, is_ok, Some, None, Ok, Err, Option, Result, sym, refl, ap, ◌∙◌, append-nil, arith}
use Rattle.std.specs.Result.{result_map_both, IsErrAnd}
use Rattle.std.proofs.lemmas.Bool.{both_ways}
use Rattle.book.specs.Lists.{run}
use Rattle.book.specs.Meaning.{Meaning}
use Rattle.book.specs.Refusals.{first_refusal}
use Rattle.drafts.specs.Drafts.{movable}
use Rattle.memory.specs.declared.place.Fault.{Fault}
use Rattle.memory.specs.declared.row.Deal.{Deal}
use Rattle.memory.specs.declared.row.Head.{Head}
use Rattle.memory.specs.declared.row.Kind.TheVariants.{Pay}
use Rattle.memory.specs.declared.row.Phase.{Phase}
use Rattle.memory.specs.declared.row.Phase.TheVariants.{Day, DayEnd}
use Rattle.memory.specs.declared.row.Slip.{Slip}
use Rattle.memory.specs.Places.{place_of, deal_numbers}
use Rattle.memory.specs.Register.{Sound}
use Rattle.memory.specs.Rows.{no_deal, padded}
use Rattle.memory.specs.Sound.{number, fault_of}
use Rattle.memory.proofs.Filled.{get_d_padded}
use Rattle.memory.proofs.Sounds.{sound_from}
use Rattle.sides.specs.declared.refusal.Refusal.{Refusal}
use Rattle.sides.specs.declared.refusal.Refusal.TheVariants.{Broken, WrongPhase, NotStanding, LinesStand}
use Rattle.sides.specs.DayEnd.{in_day}
use Rattle.tables.specs.Rows.{removed, without, using_deals}
use Rattle.tables.proofs.Padded.{without_padded, length_removed}
use Rattle.law.specs.World.{World, state_of, world_of}
use Rattle.law.specs.Finding.{replaced, has_deal, deal_of}
use Rattle.law.specs.Slips.{movements_of, lines_by, issues}
use Rattle.law.specs.Changes.{gone}
use Rattle.law.specs.Plans.{Plan, asis, carried, checked}
use Rattle.law.specs.Calls.{Call, pay, or_plan, pay_refusals, pay_plan, pay_slips, planned, has_lines}
use Rattle.law.specs.Outcomes.{outcome, after, passed, world_by, slips_by, written, listed}
use Rattle.law.proofs.Cashing.{cash_slip, cash_lines}
use Rattle.law.proofs.Totals.{by_test}
use Rattle.calls.specs.Clauses.{GoesOn, count_by}
use Rattle.calls.specs.Paying.{interest_slips, pay_at, pay_verdict, paid_at, row_of, pay_answer, pay_head, pay_deals, pay_list, pay_book}
use Rattle.calls.proofs.Running.{goes_on, err_is, broken_outcome, sound_outcome, deals_used, lines_used, slips_pass}
use Rattle.calls.proofs.DayEnds.{found_is}
use Rattle.calls.proofs.Places.{At, place_at, place_out}

-- what a call that writes slips did
pub record Wrote (c : Call) (w : World) (r : Result ℕ Refusal) (v : World) (before list : List Slip) : Type 0 where
  pub answer : r ≡ count_by (outcome c w)
  pub world : v ≡ after c w
  pub slips : list ≡ listed (written c w) before
  pub law : GoesOn c w v

pub wrote : (c : Call) (w v : World) (r : Result ℕ Refusal) (before list : List Slip) (q : Result Plan Refusal) → outcome c w ≡ q → r ≡ count_by q → v ≡ world_by w q → list ≡ listed (slips_by q) before → Wrote c w r v before list
wrote c w v r before list q e a b l =
    let world : v ≡ after c w = b ∙ ap (world_by w) (sym e) in
    record { answer = a ∙ ap count_by (sym e); world = world; slips = l ∙ ap (λ x. listed (slips_by x) before) (sym e); law = goes_on c w v world }

pub pay_broken : (w : World) (n : ℕ) (list : List Slip) (accounts resources : ℕ) → accounts ≡ w.book.accounts → resources ≡ w.book.resources
    → (f : Fault) → Some f ≡ fault_of accounts resources w.head w.deals w.lines → (r : Result ℕ Refusal) → IsErrAnd r (λ x. x ≡ Broken f) → Wrote (pay (length list) n) w r w list list
pay_broken w n list accounts resources a b f e r is =
    wrote (pay (length list) n) w w r list list (Err (Broken f)) (broken_outcome (pay (length list) n) w f (found_is w accounts resources a b (Some f) e)) (err_is r (Broken f) is) refl refl

-- cash issues no number
cash_issues : (d : Deal) → issues (interest_slips d) ≡ 0
unfolding issues
cash_issues d = by_test (ltb 0 d.whole) (λ b. issues (cond b (cash_slip Pay d 0 d.giver d.taker d.whole ∷ []) []) ≡ 0) (λ e. refl) (λ e. refl)

module _ (w : World) (n : ℕ) (list : List Slip) (s : Sound w.book.accounts w.book.resources w.head w.deals w.lines) where
  abbrev us : List Deal
  us = (state_of w).deals

  abbrev plan : Plan
  plan = planned (state_of w) (gone n) (pay_slips (state_of w) n) asis

  read : (i : ℕ) → i < length us → get_or us i no_deal ≡ get_or w.deals i no_deal
  read i l = sym (ap (λ ds. get_or ds i no_deal) s.deal_table.spare ∙ get_d_padded no_deal (length w.deals) us i no_deal l)

  module _ (i : ℕ) (p : At number no_deal n i us) where
    same_deal : deal_of n us ≡ get_or w.deals i no_deal
    same_deal = p.is ∙ read i p.listed

    same_slips : pay_slips (state_of w) n ≡ interest_slips (get_or w.deals i no_deal)
    same_slips = ap interest_slips same_deal

    gone_used : replaced number n (λ _. []) us ≡ removed i us
    gone_used = p.replace (λ _. [])

    few : length us ≤ length w.deals
    few = omega (arith, deals_used w s, s.deal_table.within)

    long : length (removed i us) ≡ w.head.used.deals - 1
    long = omega (arith, length_removed i us p.listed, deals_used w s)

    gone_table : padded no_deal (length w.deals) (removed i us) ≡ without no_deal w.head.used.deals i w.deals
    gone_table =
        sym (without_padded no_deal (length w.deals) us i p.listed few)
        ∙ ap (λ k. without no_deal k i (padded no_deal (length w.deals) us)) (deals_used w s)
        ∙ ap (without no_deal w.head.used.deals i) (sym s.deal_table.spare)

    lines_stay : lines_by (pay_slips (state_of w) n) (state_of w).lines ≡ (state_of w).lines
    unfolding lines_by
    lines_stay =
        ap (λ xs. lines_by xs (state_of w).lines) (sym (append-nil (pay_slips (state_of w) n)))
        ∙ cash_lines Pay (deal_of n us) 0 (deal_of n us).giver (deal_of n us).taker (deal_of n us).whole [] (state_of w).lines

    passes : checked (length list) (state_of w) plan ≡ movable w.book (interest_slips (get_or w.deals i no_deal)) (length list)
    passes =
        slips_pass w (length list) plan (omega (arith, ap length gone_used, long, s.deal_table.within)) (omega (arith, ap length lines_stay, lines_used w s, s.line_table.within))
        (omega (arith, s.next_deal_most)) (omega (arith, s.next_line_most, cash_issues (deal_of n us)))
        ∙ ap (λ xs. movable w.book xs (length list)) same_slips

    pay_world : world_of (carried (state_of w) plan) ≡ record { head = using_deals (w.head.used.deals - 1) w.head; deals = without no_deal w.head.used.deals i w.deals; lines = w.lines; book = run w.book (movements_of (interest_slips (get_or w.deals i no_deal))) }
    unfolding carried
    pay_world =
        let a : w.head.next.deal + 0 ≡ w.head.next.deal = omega arith in
        let b : w.head.next.line + issues (pay_slips (state_of w) n) ≡ w.head.next.line = omega (arith, cash_issues (deal_of n us)) in
        let c : length (lines_by (pay_slips (state_of w) n) (state_of w).lines) ≡ w.head.used.lines = ap length lines_stay ∙ lines_used w s in
        λ k. record {
          head = record { date = w.head.date; phase = w.head.phase; next = record { deal = a k; line = b k }; used = record { deals = (ap length gone_used ∙ long) k; lines = c k } };
          deals = (ap (padded no_deal (length w.deals)) gone_used ∙ gone_table) k;
          lines = (ap (padded Rattle.memory.specs.Rows.no_line (length w.lines)) lines_stay ∙ sym s.line_table.spare) k;
          book = run w.book (movements_of (same_slips k));
        }

  abbrev after' : Head → List Deal → Meaning → World
  after' h ds m = record { head = h; deals = ds; lines = w.lines; book = m }

  -- the verdict of the definition, by the place
  stated : (o : Option ℕ) → place_of n (map number us) ≡ o
      → passed (length list) (state_of w) (or_plan (first_refusal (pay_refusals (state_of w) n)) plan) ≡ result_map_both (λ _. plan) (λ e. e) (pay_verdict w.head w.deals w.lines w.book list n o)
  stated o e = go w.head.phase refl
    where
      rest : Result (Unit {0}) Refusal
      rest = first_refusal ((not (has_deal n us), NotStanding) ∷ ((has_lines n (state_of w).lines, LinesStand) ∷ []))

      standing : (o : Option ℕ) → place_of n (map number us) ≡ o → passed (length list) (state_of w) (or_plan rest plan) ≡ result_map_both (λ _. plan) (λ e. e) (pay_at w.head w.deals w.lines w.book list n o)
      standing None e = ap (λ b. passed (length list) (state_of w) (or_plan (first_refusal ((not b, NotStanding) ∷ ((has_lines n (state_of w).lines, LinesStand) ∷ []))) plan)) (place_out number no_deal n us e)
      standing (Some i) e =
          let p = place_at number no_deal n us i e in
          ap (λ b. passed (length list) (state_of w) (or_plan (first_refusal ((not b, NotStanding) ∷ ((has_lines n (state_of w).lines, LinesStand) ∷ []))) plan)) p.there
          ∙ by_test (has_lines n (state_of w).lines) (λ b. passed (length list) (state_of w) (or_plan (first_refusal ((b, LinesStand) ∷ [])) plan) ≡ result_map_both (λ _. plan) (λ e. e) (cond b (Err LinesStand) (movable w.book (interest_slips (get_or w.deals i no_deal)) (length list))))
          (λ _. refl) (λ _. ap (result_map_both (λ _. plan) (λ e. e)) (passes i p))

      go : (ph : Phase) → w.head.phase ≡ ph → passed (length list) (state_of w) (or_plan (first_refusal (pay_refusals (state_of w) n)) plan) ≡ result_map_both (λ _. plan) (λ e. e) (pay_verdict w.head w.deals w.lines w.book list n o)
      go Day p =
          ap (λ x. passed (length list) (state_of w) (or_plan (cond (not (in_day x)) (Err WrongPhase) rest) plan)) p ∙ standing o e
          ∙ sym (ap (λ x. result_map_both (λ _. plan) (λ e. e) (cond (in_day x) (pay_at w.head w.deals w.lines w.book list n o) (Err WrongPhase))) p)
      go DayEnd p =
          ap (λ x. passed (length list) (state_of w) (or_plan (cond (not (in_day x)) (Err WrongPhase) rest) plan)) p
          ∙ sym (ap (λ x. result_map_both (λ _. plan) (λ e. e) (cond (in_day x) (pay_at w.head w.deals w.lines w.book list n o) (Err WrongPhase))) p)

  here : (o : Option ℕ) → place_of n (map number us) ≡ o → is_ok (pay_verdict w.head w.deals w.lines w.book list n o) ≡ true → (i : ℕ) × (o ≡ Some i) × At number no_deal n i us
  here (Some i) e t = (i, refl, place_at number no_deal n us i e)
  here None e t = no_place w.head.phase refl
    where
      no_place : (ph : Phase) → w.head.phase ≡ ph → (i : ℕ) × (None ≡ Some i) × At number no_deal n i us
      no_place Day p = absurd (both_ways _ (ap (λ x. is_ok (cond (in_day x) (pay_at w.head w.deals w.lines w.book list n None) (Err WrongPhase))) p) t)
      no_place DayEnd p = absurd (both_ways _ (ap (λ x. is_ok (cond (in_day x) (pay_at w.head w.deals w.lines w.book list n None) (Err WrongPhase))) p) t)

  module _ (o : Option ℕ) (e : place_of n (map number us) ≡ o) where
    abbrev xs : List Slip
    xs = interest_slips (paid_at w.head w.deals w.lines w.book list n o)

    abbrev V : Result (Unit {0}) Refusal
    V = pay_verdict w.head w.deals w.lines w.book list n o

    abbrev ready : Result (Unit {0}) Refusal → World
    ready v = after' (cond (is_ok v) (using_deals (w.head.used.deals - 1) w.head) w.head) (cond (is_ok v) (without no_deal w.head.used.deals (row_of w.head w.deals w.lines w.book list n o) w.deals) w.deals) (cond (is_ok v) (run w.book (movements_of xs)) w.book)

    pay_ran : None ≡ fault_of w.book.accounts w.book.resources w.head w.deals w.lines → Wrote (pay (length list) n) w (result_map_both (λ _. length xs) (λ e. e) V) (ready V) list (cond (is_ok V) (listed xs list) list)
    unfolding pay_plan
    pay_ran f = go V refl
      where
        out : outcome (pay (length list) n) w ≡ result_map_both (λ _. plan) (λ e. e) V
        out = sound_outcome (pay (length list) n) w f refl ∙ stated o e

        go : (v : Result (Unit {0}) Refusal) → V ≡ v → Wrote (pay (length list) n) w (result_map_both (λ _. length xs) (λ e. e) V) (ready V) list (cond (is_ok V) (listed xs list) list)
        go (Err x) v =
            wrote (pay (length list) n) w (ready V) _ list _ (Err x) (out ∙ ap (result_map_both (λ _. plan) (λ e. e)) v) (ap (result_map_both (λ _. length xs) (λ e. e)) v) (ap ready v) (ap (λ t. cond (is_ok t) (listed xs list) list) v)
        go (Ok u) v =
            let h = here o e (ap is_ok v) in
            let p : At number no_deal n h.0 us = h.2 in
            let same : plan.slips ≡ xs = same_slips h.0 p ∙ ap (λ t. interest_slips (paid_at w.head w.deals w.lines w.book list n t)) (sym h.1) in
            wrote (pay (length list) n) w (ready V) _ list _ (Ok plan) (out ∙ ap (result_map_both (λ _. plan) (λ e. e)) v)
            (ap (result_map_both (λ _. length xs) (λ e. e)) v ∙ ap (λ ys. Ok (length ys)) (sym same))
            (ap ready v ∙ ap (λ t. after' (using_deals (w.head.used.deals - 1) w.head) (without no_deal w.head.used.deals (row_of w.head w.deals w.lines w.book list n t) w.deals) (run w.book (movements_of (interest_slips (paid_at w.head w.deals w.lines w.book list n t))))) h.1 ∙ sym (pay_world h.0 p))
            (ap (λ t. cond (is_ok t) (listed xs list) list) v ∙ ap (λ ys. listed ys list) (sym same))

pub pay_told : (w : World) (n : ℕ) (list after'' : List Slip) (accounts resources : ℕ) → accounts ≡ w.book.accounts → resources ≡ w.book.resources → None ≡ fault_of accounts resources w.head w.deals w.lines
    → (o : Option ℕ) → o ≡ place_of n (deal_numbers w.head w.deals) → (r : Result ℕ Refusal) → r ≡ pay_answer w.head w.deals w.lines w.book list n o
    → (h : Head) → h ≡ pay_head w.head w.deals w.lines w.book list n o → (ds : List Deal) → ds ≡ pay_deals w.head w.deals w.lines w.book list n o
    → after'' ≡ pay_list w.head w.deals w.lines w.book list n o → (m : Meaning) → m ≡ pay_book w.head w.deals w.lines w.book list n o
    → Wrote (pay (length list) n) w r (record { head = h; deals = ds; lines = w.lines; book = m }) list after''
pay_told w n list after'' accounts resources a b f o at r er h eh ds ed el m em =
    let none' = found_is w accounts resources a b None f in
    let s = sound_from w.book.accounts w.book.resources w.head w.deals w.lines none' in
    let k = pay_ran w n list s o (sym at) none' in
    let world = (λ i. record { head = eh i; deals = ed i; lines = w.lines; book = em i }) ∙ k.world in
    record { answer = er ∙ k.answer; world = world; slips = el ∙ k.slips; law = goes_on (pay (length list) n) w _ world }
