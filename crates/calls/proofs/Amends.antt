-- An amend, as it runs, is as it is defined.
use Rattle.std.proofs.Common.{◌≡◌, ℕ, ◌+◌, ◌<◌, ◌≤◌, true, cond, not, List, [], ◌∷◌, ◌++◌, map, length, get_or, take, drop, set, is_ok, Some, None, Ok, Err, Option, Result, sym, refl, ap, ◌∙◌, arith}
use Rattle.std.specs.Result.{result_map_both, IsErrAnd}
use Rattle.std.proofs.lemmas.List.{length-set}
use Rattle.std.proofs.lemmas.Bool.{both_ways}
use Rattle.book.specs.Lists.{run}
use Rattle.book.specs.Refusals.{first_refusal}
use Rattle.memory.specs.declared.place.Fault.{Fault}
use Rattle.memory.specs.declared.row.Deal.{Deal}
use Rattle.memory.specs.declared.row.Phase.{Phase}
use Rattle.memory.specs.declared.row.Phase.TheVariants.{Day, DayEnd}
use Rattle.memory.specs.Deals.{due_at, amended}
use Rattle.memory.specs.Places.{place_of, deal_numbers}
use Rattle.memory.specs.Register.{Sound}
use Rattle.memory.specs.Rows.{no_deal, padded}
use Rattle.memory.specs.Sound.{number, fault_of}
use Rattle.memory.proofs.Filled.{get_d_padded}
use Rattle.memory.proofs.Sounds.{sound_from}
use Rattle.sides.specs.declared.refusal.Refusal.{Refusal}
use Rattle.sides.specs.declared.refusal.Refusal.TheVariants.{Broken, WrongPhase, NotStanding, OutOfRange, ReturnDay}
use Rattle.sides.specs.DayEnd.{in_day}
use Rattle.tables.proofs.Padded.{set_padded}
use Rattle.law.specs.World.{World, state_of, world_of}
use Rattle.law.specs.Finding.{replaced, has_deal, deal_of}
use Rattle.law.specs.Slips.{lines_by, issues}
use Rattle.law.specs.Changes.{amended as amended_change}
use Rattle.law.specs.Plans.{Plan, asis, carried}
use Rattle.law.specs.Calls.{amend, or_plan, amend_refusals, amend_plan, planned}
use Rattle.law.specs.Outcomes.{outcome, passed}
use Rattle.calls.specs.Amending.{amendable, amend_at, amend_verdict, amended_at, amended_rows}
use Rattle.calls.specs.Clauses.{verdict_by}
use Rattle.calls.proofs.Running.{goes_on, err_is, broken_outcome, sound_outcome, deals_used, lines_used, no_slips_pass}
use Rattle.calls.proofs.DayEnds.{Ran, ran, found_is}
use Rattle.calls.proofs.Places.{At, place_at, place_out, put_at}

pub amend_broken : (w : World) (n rate due accounts resources : ℕ) → accounts ≡ w.book.accounts → resources ≡ w.book.resources
    → (f : Fault) → Some f ≡ fault_of accounts resources w.head w.deals w.lines → (r : Result (Unit {0}) Refusal) → IsErrAnd r (λ x. x ≡ Broken f) → Ran verdict_by (amend n rate due) w r w
amend_broken w n rate due accounts resources a b f e r is =
    ran verdict_by (amend n rate due) w w r (Err (Broken f)) (broken_outcome (amend n rate due) w f (found_is w accounts resources a b (Some f) e)) (err_is r (Broken f) is) refl

module _ (w : World) (n rate due : ℕ) (s : Sound w.book.accounts w.book.resources w.head w.deals w.lines) where
  abbrev us : List Deal
  us = (state_of w).deals

  abbrev plan : Plan
  plan = planned (state_of w) (amended_change n rate due) [] asis

  -- a used row, read in the table
  read : (i : ℕ) → i < length us → get_or us i no_deal ≡ get_or w.deals i no_deal
  read i l = sym (ap (λ ds. get_or ds i no_deal) s.deal_table.spare ∙ get_d_padded no_deal (length w.deals) us i no_deal l)

  -- the verdicts are the same
  same_verdict : (o : Option ℕ) → place_of n (map number us) ≡ o → first_refusal (amend_refusals (state_of w) n rate due) ≡ amend_verdict w.head w.deals rate due o
  same_verdict o e = go w.head.phase refl o e
    where
      standing : (o : Option ℕ) → place_of n (map number us) ≡ o
          → first_refusal ((not (has_deal n us), NotStanding) ∷ ((not (amendable w.head.date rate due), OutOfRange) ∷ ((due_at w.head.date (deal_of n us), ReturnDay) ∷ []))) ≡ amend_at w.head w.deals rate due o
      standing None e = ap (λ b. first_refusal ((not b, NotStanding) ∷ ((not (amendable w.head.date rate due), OutOfRange) ∷ ((due_at w.head.date (deal_of n us), ReturnDay) ∷ [])))) (place_out number no_deal n us e)
      standing (Some i) e =
          let p = place_at number no_deal n us i e in
          ap (λ b. first_refusal ((not b, NotStanding) ∷ ((not (amendable w.head.date rate due), OutOfRange) ∷ ((due_at w.head.date (deal_of n us), ReturnDay) ∷ [])))) p.there
          ∙ ap (λ d. first_refusal ((not (amendable w.head.date rate due), OutOfRange) ∷ ((due_at w.head.date d, ReturnDay) ∷ []))) (p.is ∙ read i p.listed)

      go : (ph : Phase) → w.head.phase ≡ ph → (o : Option ℕ) → place_of n (map number us) ≡ o → first_refusal (amend_refusals (state_of w) n rate due) ≡ amend_verdict w.head w.deals rate due o
      go Day p o e =
          ap (λ x. cond (not (in_day x)) (Err WrongPhase) (first_refusal ((not (has_deal n us), NotStanding) ∷ ((not (amendable w.head.date rate due), OutOfRange) ∷ ((due_at w.head.date (deal_of n us), ReturnDay) ∷ []))))) p
          ∙ standing o e ∙ sym (ap (λ x. cond (in_day x) (amend_at w.head w.deals rate due o) (Err WrongPhase)) p)
      go DayEnd p o e =
          ap (λ x. cond (not (in_day x)) (Err WrongPhase) (first_refusal ((not (has_deal n us), NotStanding) ∷ ((not (amendable w.head.date rate due), OutOfRange) ∷ ((due_at w.head.date (deal_of n us), ReturnDay) ∷ []))))) p
          ∙ sym (ap (λ x. cond (in_day x) (amend_at w.head w.deals rate due o) (Err WrongPhase)) p)

  -- the row amended, in the table and among the used rows
  module _ (i : ℕ) (p : At number no_deal n i us) where
    abbrev row : Deal
    row = amended rate due (get_or w.deals i no_deal)

    amended_used : replaced number n (λ d. amended rate due d ∷ []) us ≡ set us i row
    amended_used = p.replace (λ d. amended rate due d ∷ []) ∙ ap (λ d. take i us ++ (amended rate due d ∷ drop (i + 1) us)) (read i p.listed) ∙ put_at us i row p.listed

    long : length (set us i row) ≡ w.head.used.deals
    long = length-set us i row ∙ deals_used w s

    few : length us ≤ length w.deals
    few = omega (arith, deals_used w s, s.deal_table.within)

    amended_table : padded no_deal (length w.deals) (set us i row) ≡ set w.deals i row
    amended_table = sym (set_padded no_deal (length w.deals) us i row p.listed) ∙ ap (λ ds. set ds i row) (sym s.deal_table.spare)

    amend_world : world_of (carried (state_of w) plan) ≡ record { head = w.head; deals = set w.deals i row; lines = w.lines; book = w.book }
    unfolding carried lines_by issues run
    amend_world =
        let a : w.head.next.deal + 0 ≡ w.head.next.deal = omega arith in
        let b : w.head.next.line + 0 ≡ w.head.next.line = omega arith in
        λ k. record {
          head = record { date = w.head.date; phase = w.head.phase; next = record { deal = a k; line = b k }; used = record { deals = (ap length amended_used ∙ long) k; lines = lines_used w s k } };
          deals = (ap (padded no_deal (length w.deals)) amended_used ∙ amended_table) k;
          lines = sym s.line_table.spare k;
          book = w.book;
        }

  abbrev after' : List Deal → World
  after' ds = record { head = w.head; deals = ds; lines = w.lines; book = w.book }

  amend_ran : None ≡ fault_of w.book.accounts w.book.resources w.head w.deals w.lines → (o : Option ℕ) → place_of n (map number us) ≡ o
      → Ran verdict_by (amend n rate due) w (amend_verdict w.head w.deals rate due o) (after' (amended_rows w.head w.deals rate due o))
  unfolding amend_plan
  amend_ran f o e = go (amend_verdict w.head w.deals rate due o) refl
    where
      out : outcome (amend n rate due) w ≡ passed 0 (state_of w) (or_plan (amend_verdict w.head w.deals rate due o) plan)
      out = sound_outcome (amend n rate due) w f refl ∙ ap (λ v. passed 0 (state_of w) (or_plan v plan)) (same_verdict o e)

      -- an accepted amend has found its row
      here : (o : Option ℕ) → place_of n (map number us) ≡ o → (v : Result (Unit {0}) Refusal) → amend_verdict w.head w.deals rate due o ≡ v → is_ok v ≡ true
          → (i : ℕ) × (o ≡ Some i) × At number no_deal n i us
      here (Some i) e v q t = (i, refl, place_at number no_deal n us i e)
      here None e v q t = no_place w.head.phase refl
        where
          no_place : (ph : Phase) → w.head.phase ≡ ph → (i : ℕ) × (None ≡ Some i) × At number no_deal n i us
          no_place Day p = absurd (both_ways (is_ok v) (ap is_ok (sym q) ∙ ap (λ x. is_ok (cond (in_day x) (amend_at w.head w.deals rate due None) (Err WrongPhase))) p) t)
          no_place DayEnd p = absurd (both_ways (is_ok v) (ap is_ok (sym q) ∙ ap (λ x. is_ok (cond (in_day x) (amend_at w.head w.deals rate due None) (Err WrongPhase))) p) t)

      go : (v : Result (Unit {0}) Refusal) → amend_verdict w.head w.deals rate due o ≡ v → Ran verdict_by (amend n rate due) w (amend_verdict w.head w.deals rate due o) (after' (amended_rows w.head w.deals rate due o))
      go (Err x) v =
          ran verdict_by (amend n rate due) w _ _ (Err x) (out ∙ ap (λ t. passed 0 (state_of w) (or_plan t plan)) v) v (ap (λ t. after' (cond (is_ok t) (amended_at w.head w.deals rate due o) w.deals)) v)
      go (Ok u) v =
          let h = here o e (Ok u) v refl in
          let p : At number no_deal n h.0 us = h.2 in
          let rows : length (replaced number n (λ d. amended rate due d ∷ []) us) ≤ w.head.used.deals = omega (arith, ap length (amended_used h.0 p), long h.0 p) in
          let ok = no_slips_pass w s 0 plan refl refl rows in
          ran verdict_by (amend n rate due) w _ _ (Ok plan) (out ∙ ap (λ t. passed 0 (state_of w) (or_plan t plan)) v ∙ ap (result_map_both (λ _. plan) (λ x. x)) ok) v
          (ap (λ t. after' (cond (is_ok t) (amended_at w.head w.deals rate due o) w.deals)) v ∙ ap (λ t. after' (amended_at w.head w.deals rate due t)) h.1 ∙ sym (amend_world h.0 p))

pub amend_told : (w : World) (n rate due accounts resources : ℕ) → accounts ≡ w.book.accounts → resources ≡ w.book.resources → None ≡ fault_of accounts resources w.head w.deals w.lines
    → (o : Option ℕ) → o ≡ place_of n (deal_numbers w.head w.deals)
    → (r : Result (Unit {0}) Refusal) → r ≡ amend_verdict w.head w.deals rate due o → (ds : List Deal) → ds ≡ amended_rows w.head w.deals rate due o
    → Ran verdict_by (amend n rate due) w r (record { head = w.head; deals = ds; lines = w.lines; book = w.book })
amend_told w n rate due accounts resources a b f o at r e ds d =
    let none' = found_is w accounts resources a b None f in
    let s = sound_from w.book.accounts w.book.resources w.head w.deals w.lines none' in
    let k = amend_ran w n rate due s none' o (sym at) in
    let world = (λ i. record { head = w.head; deals = d i; lines = w.lines; book = w.book }) ∙ k.world in
    record { answer = e ∙ k.answer; world = world; law = goes_on (amend n rate due) w _ world }
