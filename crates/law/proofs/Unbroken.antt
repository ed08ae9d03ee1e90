-- Over a sound register a call finds nothing broken but a price list.
use Rattle.std.proofs.Common.{◌≡◌, Bool, true, false, List, [], ◌∷◌, Some, None, Ok, Err, Option, Result, sym, refl, ap, ◌∙◌, inl, inr}
use Rattle.std.specs.List.{AllByRecursion as Each}
use Rattle.std.proofs.lemmas.Bool.{both_ways, cases_Bool}
use Rattle.book.specs.declared.movement.RefusedAt.{RefusedAt}
use Rattle.book.specs.Lists.{rehearsed}
use Rattle.book.specs.Refusals.{Condition, first_refusal}
use Rattle.memory.specs.declared.place.Fault.{Fault}
use Rattle.memory.specs.declared.place.Table.TheVariants.{Prices}
use Rattle.memory.specs.Sound.{fault_of, at}
use Rattle.memory.specs.Sound as memory
use Rattle.sides.specs.declared.refusal.Refusal.{Refusal}
use Rattle.sides.specs.declared.refusal.Refusal.TheVariants.{Broken, WrongPhase, NotStanding, OutOfRange, SidesDiffer, OtherDay, NoAccount, ReturnDay, LinesStand, NoSecurities, NoRows, NoNumbers, NoSlips, Book}
use Rattle.valuation.specs.declared.price.Price.{Price}
use Rattle.valuation.specs.Prices.{fault_of as price_fault_of}
use Rattle.law.specs.World.{State, World, state_of}
use Rattle.law.specs.Slips.{movements_of}
use Rattle.law.specs.Plans.{Plan, shortages, unfit, or_book, checked}
use Rattle.law.specs.Calls.{Call, settle, return_line, substitute, amend, open_day_end, mark, close_day_end, lift_day_end, pay, or_plan, in_day_only, plan_of, places_of, prices_of, settle_refusals, settle_plan, return_refusals, return_plan, substitute_refusals, substitute_plan, amend_refusals, amend_plan, open_plan, mark_refusals, mark_plan, close_refusals, close_plan, lift_plan, pay_refusals, pay_plan}
use Rattle.law.specs.Outcomes.{prices_fault, or_broken, passed, outcome}

abbrev is_broken : Refusal → Bool
is_broken (Broken f) = true
is_broken WrongPhase = false
is_broken NotStanding = false
is_broken OutOfRange = false
is_broken SidesDiffer = false
is_broken OtherDay = false
is_broken NoAccount = false
is_broken ReturnDay = false
is_broken LinesStand = false
is_broken NoSecurities = false
is_broken NoRows = false
is_broken NoNumbers = false
is_broken NoSlips = false
is_broken (Book x) = false

-- an answer that is no refusal by 1
abbrev Whole : {A : Type 0} → Result A Refusal → Type 0
Whole (Ok a) = Unit {0}
Whole (Err e) = is_broken e ≡ false

first_whole : (cs : List (Condition Refusal)) → Each (λ c. is_broken c.1 ≡ false) cs → Whole (first_refusal cs)
first_whole [] a = tt
first_whole (c ∷ cs) a =
    elim (cases_Bool c.0) [
      | inl t ↦ rw t a.0
      | inr t ↦ rw t (first_whole cs a.1)
    ]

plan_whole : (r : Result (Unit {0}) Refusal) (p : Plan) → Whole r → Whole (or_plan r p)
plan_whole (Ok u) p k = tt
plan_whole (Err e) p k = k

planned_whole : (c : Call) (s : State) → Whole (plan_of c s)
unfolding settle_plan return_plan substitute_plan amend_plan open_plan mark_plan close_plan lift_plan pay_plan
planned_whole (settle ps places t) s = plan_whole _ _ (first_whole (settle_refusals s ps t) (refl, (refl, (refl, (refl, (refl, tt))))))
planned_whole (return_line places n) s = plan_whole _ _ (first_whole (return_refusals s n) (refl, (refl, (refl, tt))))
planned_whole (substitute ps places n out security) s = plan_whole _ _ (first_whole (substitute_refusals s n ps out security) (refl, (refl, (refl, (refl, (refl, tt))))))
planned_whole (amend n rate due) s = plan_whole _ _ (first_whole (amend_refusals s n rate due) (refl, (refl, (refl, (refl, tt)))))
planned_whole open_day_end s = plan_whole _ _ (first_whole (in_day_only s ∷ []) (refl, tt))
planned_whole (mark ps places n) s = plan_whole _ _ (first_whole (mark_refusals s ps n) (refl, (refl, (refl, tt))))
planned_whole (close_day_end date) s = plan_whole _ _ (first_whole (close_refusals s date) (refl, (refl, tt)))
planned_whole lift_day_end s = tt
planned_whole (pay places n) s = plan_whole _ _ (first_whole (pay_refusals s n) (refl, (refl, (refl, tt))))

book_whole : (a : Result (Unit {0}) Refusal) (b : Result (Unit {0}) RefusedAt) → Whole a → Whole (or_book a b)
book_whole (Err e) b k = k
book_whole (Ok u) (Err x) k = refl
book_whole (Ok u) (Ok v) k = tt

checked_whole : (places : _) (s : State) (p : Plan) → Whole (checked places s p)
unfolding unfit
checked_whole places s p = book_whole (unfit s p places) (rehearsed s.book (movements_of p.slips)) (first_whole (shortages s p places) (refl, (refl, (refl, tt))))

passed_whole : (places : _) (s : State) (r : Result Plan Refusal) → Whole r → Whole (passed places s r)
passed_whole places s (Err e) k = k
passed_whole places s (Ok p) k = go (checked places s p) (checked_whole places s p)
  where
    go : (c : Result (Unit {0}) Refusal) → Whole c → Whole (Rattle.std.specs.Result.result_map_both (λ _. p) (λ e. e) c)
    go (Ok u) w = tt
    go (Err e) w = w

pub prices_only : (c : Call) (w : World) → None ≡ fault_of w.book.accounts w.book.resources w.head w.deals w.lines → (f : Fault) → outcome c w ≡ Err (Broken f) → f.table ≡ Prices
unfolding outcome
prices_only c w sound f e =
    go (prices_of c) refl (ap (λ o. or_broken (memory.first_found o (prices_fault w.book.resources (prices_of c))) (passed (places_of c) (state_of w) (plan_of c (state_of w)))) sound ∙ e)
  where
    rest : Result Plan Refusal
    rest = passed (places_of c) (state_of w) (plan_of c (state_of w))

    not_here : (r : Result Plan Refusal) → Whole r → r ≡ Err (Broken f) → f.table ≡ Prices
    not_here (Ok p) k q = absurd (both_ways false refl (ap Rattle.std.specs.Result.is_err q))
    not_here (Err x) k q = absurd (both_ways true (sym (ap broken q) ∙ k) refl)
      where
        broken : Result Plan Refusal → Bool
        broken (Ok p) = false
        broken (Err y) = is_broken y

    by_list : (i : Option _) → or_broken (at Prices i) rest ≡ Err (Broken f) → f.table ≡ Prices
    by_list None q = not_here rest (passed_whole (places_of c) (state_of w) (plan_of c (state_of w)) (planned_whole c (state_of w))) q
    by_list (Some i) q = table_of q
      where
        fault_in' : Result Plan Refusal → Fault
        fault_in' (Ok p) = f
        fault_in' (Err (Broken g)) = g
        fault_in' (Err WrongPhase) = f
        fault_in' (Err NotStanding) = f
        fault_in' (Err OutOfRange) = f
        fault_in' (Err SidesDiffer) = f
        fault_in' (Err OtherDay) = f
        fault_in' (Err NoAccount) = f
        fault_in' (Err ReturnDay) = f
        fault_in' (Err LinesStand) = f
        fault_in' (Err NoSecurities) = f
        fault_in' (Err NoRows) = f
        fault_in' (Err NoNumbers) = f
        fault_in' (Err NoSlips) = f
        fault_in' (Err (Book x)) = f

        table_of : ◌≡◌ {A = Result Plan Refusal} (Err (Broken (record { table = Prices; row = i }))) (Err (Broken f)) → f.table ≡ Prices
        table_of z = sym (ap (λ r. (fault_in' r).table) z)

    go : (o : Option (List Price)) → prices_of c ≡ o → or_broken (prices_fault w.book.resources (prices_of c)) rest ≡ Err (Broken f) → f.table ≡ Prices
    go None p q = not_here rest (passed_whole (places_of c) (state_of w) (plan_of c (state_of w)) (planned_whole c (state_of w))) (ap (λ x. or_broken (prices_fault w.book.resources x) rest) (sym p) ∙ q)
    go (Some ps) p q = by_list (price_fault_of w.book.resources ps) (ap (λ x. or_broken (prices_fault w.book.resources x) rest) (sym p) ∙ q)
