-- The nine calls: what each plans, or the first refusal before the plan is checked.
use Rattle.std.specs.Prelude.{ℕ, ◌+◌, ◌-◌, min, Bool, true, false, cond, not, ◌&&◌, List, [], ◌∷◌, ◌++◌, reverse, is_some, Some, None, Ok, Err, Option, Result, ◌==◌, nat_le, nat_lt}
use Rattle.std.specs.Option.{unwrap_or}
use Rattle.book.specs.Meaning.{Meaning, free}
use Rattle.book.specs.Moving.{moved}
use Rattle.book.specs.Refusals.{Condition, first_refusal}
use Rattle.gathering.specs.declared.order.Order.{Order}
use Rattle.gathering.specs.declared.order.Pick.{Pick}
use Rattle.gathering.specs.Gathered.{gathered}
use Rattle.gathering.specs.Law.{record_of}
use Rattle.memory.specs.declared.row.Deal.{Deal}
use Rattle.memory.specs.declared.row.Kind.TheVariants.{Settle, Return, Substitute, Mark, Pay}
use Rattle.memory.specs.declared.row.Line.{Line}
use Rattle.memory.specs.declared.row.Phase.TheVariants.{Day, DayEnd}
use Rattle.memory.specs.declared.row.Slip.{Slip}
use Rattle.memory.specs.Deals.{worth_by, target_of, due_at}
use Rattle.sharing.specs.Limits.{most_rate, most_days}
use Rattle.sides.specs.declared.refusal.Refusal.{Refusal}
use Rattle.sides.specs.declared.refusal.Refusal.TheVariants.{WrongPhase, NotStanding, OutOfRange, OtherDay, NoAccount, ReturnDay, LinesStand, NoSecurities}
use Rattle.sides.specs.declared.terms.Terms.{Terms}
use Rattle.sides.specs.DayEnd.{in_day}
use Rattle.sides.specs.Ranges.{terms_fit}
use Rattle.tables.specs.Values.{line_worth, deal_worth, held_worths, worth_of, on_deal}
use Rattle.valuation.specs.declared.price.Price.{Price}
use Rattle.valuation.specs.Best.{largest_up_to, smallest_up_to, at_least, leaves}
use Rattle.valuation.specs.Most.{most_units}
use Rattle.valuation.specs.Prices.{price_in, in_ranges, eligible_in}
use Rattle.law.specs.World.{State}
use Rattle.law.specs.Finding.{has_deal, deal_of, has_line, line_of}
use Rattle.law.specs.Slips.{out_slip, back_slip, cash_slips, deliveries, movement_of}
use Rattle.law.specs.Changes.{Change, none, added, lowered, amended, grown, gone}
use Rattle.law.specs.Plans.{Plan, Sharing, asis, over}

-- what is stated, with the price list that is looked at and the places of the slip list
pub data Call : Type 0 where
  settle : List Price → ℕ → Terms → Call
  -- a return number
  return_line : ℕ → ℕ → Call
  -- a return number, the quantity out, the security in
  substitute : List Price → ℕ → ℕ → ℕ → ℕ → Call
  -- a deal, its new rate and return day
  amend : ℕ → ℕ → ℕ → Call
  open_day_end : Call
  mark : List Price → ℕ → ℕ → Call
  -- the new date
  close_day_end : ℕ → Call
  lift_day_end : Call
  pay : ℕ → ℕ → Call

-- ── what a deal's securities are worth ──

module _ (ps : List Price) (d : Deal) where
  -- so many units of a security, by its record
  abbrev pub units_worth : ℕ → ℕ → ℕ
  units_worth security q = worth_by d.weighing (price_in d.currency (record_of ps security)) (record_of ps security).haircut q

  -- a quantity of a security, or 0 without a price
  abbrev pub quantity_worth : ℕ → ℕ → ℕ
  quantity_worth = worth_of (worth_by d.weighing) d.currency ps

  abbrev pub worth_on_line : Line → ℕ
  worth_on_line = line_worth (worth_by d.weighing) d.currency ps

  -- its lines together
  abbrev pub worth_on : List Line → ℕ
  worth_on ls = deal_worth (worth_by d.weighing) d.currency ps d.number ls

  -- the class admits it, it is not excluded, and it has a price
  abbrev pub admitted : ℕ → Bool
  admitted security = in_ranges (record_of ps security) && eligible_in d.class d.currency (record_of ps security)

-- what is gathered for a deal
abbrev pub order_for : Deal → ℕ → Order
order_for d need =
    record { giver = d.giver; currency = d.currency; class = d.class; limit = d.limit; target = target_of d; need = need }

-- ── plans ──

-- a refusal, or else the plan
abbrev pub or_plan : Result (Unit {0}) Refusal → Plan → Result Plan Refusal
or_plan (Ok _) p = Ok p
or_plan (Err e) p = Err e

abbrev pub in_day_only : State → Condition Refusal
in_day_only s = (not (in_day s.phase), WrongPhase)

abbrev pub in_day_end_only : State → Condition Refusal
in_day_end_only s = (in_day s.phase, WrongPhase)

-- in the same phase of the same date
abbrev pub planned : State → Change → List Slip → Sharing → Plan
planned s c xs sh = record { date = s.date; phase = s.phase; change = c; slips = xs; sharing = sh; alert = false }

-- the deal of a matched pair
abbrev pub deal_for : ℕ → Terms → Deal
deal_for n t =
    record { number = n; giver = t.giver; taker = t.taker; currency = t.currency; class = t.class; weighing = t.weighing; margin = t.margin; sought = t.sought; rate = t.rate; due = t.due; limit = t.limit; cash = t.cash; whole = 0; residue = 0 }

abbrev pub new_deal : State → Terms → Deal
new_deal s t = deal_for s.next_deal t

module _ (s : State) (ps : List Price) (t : Terms) where
  abbrev pub basket : Option (List Pick)
  basket = gathered s.book (worth_by (new_deal s t).weighing) ps (order_for (new_deal s t) (target_of (new_deal s t))) []

  -- cash from taker to giver, then the basket from giver to taker
  abbrev pub settle_slips : List Slip
  settle_slips =
      cash_slips Settle (new_deal s t) 0 (new_deal s t).taker (new_deal s t).giver (new_deal s t).cash
      ++ deliveries Settle (new_deal s t) s.next_line (unwrap_or basket [])

  abbrev pub settle_refusals : List (Condition Refusal)
  settle_refusals =
      in_day_only s
      ∷ ((not (terms_fit t), OutOfRange)
      ∷ ((not (t.day == s.date), OtherDay)
      ∷ ((not (nat_lt t.giver s.book.accounts && nat_lt t.taker s.book.accounts), NoAccount)
      ∷ ((not (is_some basket), NoSecurities)
      ∷ []))))

  unfoldable pub settle_plan : Result Plan Refusal
  settle_plan = or_plan (first_refusal settle_refusals) (planned s (added (new_deal s t)) settle_slips (over ps s.next_deal))

module _ (s : State) (n : ℕ) where
  -- the line of the number, and its deal
  abbrev pub the_line : Line
  the_line = line_of n s.lines

  abbrev pub its_deal : Deal
  its_deal = deal_of the_line.deal s.deals

  -- the whole line back, then its part from giver to taker
  abbrev pub return_slips : List Slip
  return_slips =
      back_slip Return its_deal n the_line.security the_line.quantity
      ∷ cash_slips Return its_deal n its_deal.giver its_deal.taker the_line.part

  abbrev pub return_refusals : List (Condition Refusal)
  return_refusals =
      in_day_only s
      ∷ ((not (has_line n s.lines), NotStanding)
      ∷ ((not (due_at s.date its_deal), ReturnDay)
      ∷ []))

  unfoldable pub return_plan : Result Plan Refusal
  return_plan = or_plan (first_refusal return_refusals) (planned s (lowered the_line.deal the_line.part) return_slips asis)

  module _ (ps : List Price) (out security : ℕ) where
    -- the smallest quantity, of 1 or more, that is worth at least the quantity out; no more than a line can have and the giver has free
    abbrev pub replacement : Option ℕ
    replacement =
        smallest_up_to (at_least (units_worth ps its_deal security) (quantity_worth ps its_deal the_line.security out))
        (min most_units (free s.book its_deal.giver security))

    abbrev pub substitute_slips : List Slip
    substitute_slips =
        back_slip Substitute its_deal n the_line.security out
        ∷ (out_slip Substitute its_deal s.next_line security (unwrap_or replacement 0)
        ∷ [])

    -- a part of the line, and another security of the book
    abbrev pub substitutes : Bool
    substitutes =
        nat_le 1 out && (nat_le out the_line.quantity && (nat_le 3 security && (nat_lt security s.book.resources && not (security == the_line.security))))

    abbrev pub substitute_refusals : List (Condition Refusal)
    substitute_refusals =
        in_day_only s
        ∷ ((not (has_line n s.lines), NotStanding)
        ∷ ((not substitutes, OutOfRange)
        ∷ ((due_at s.date its_deal, ReturnDay)
        ∷ ((not (admitted ps its_deal security && is_some replacement), NoSecurities)
        ∷ []))))

    unfoldable pub substitute_plan : Result Plan Refusal
    substitute_plan = or_plan (first_refusal substitute_refusals) (planned s none substitute_slips (over ps the_line.deal))

-- a line of the deal stands
abbrev pub has_lines : ℕ → List Line → Bool
has_lines n [] = false
has_lines n (l ∷ ls) = cond (l.deal == n) true (has_lines n ls)

module _ (s : State) (n : ℕ) where
  abbrev pub amend_refusals : ℕ → ℕ → List (Condition Refusal)
  amend_refusals rate due =
      in_day_only s
      ∷ ((not (has_deal n s.deals), NotStanding)
      ∷ ((not (nat_le rate most_rate && (nat_le s.date due && nat_le due (s.date + 730))), OutOfRange)
      ∷ ((due_at s.date (deal_of n s.deals), ReturnDay)
      ∷ [])))

  unfoldable pub amend_plan : ℕ → ℕ → Result Plan Refusal
  amend_plan rate due = or_plan (first_refusal (amend_refusals rate due)) (planned s (amended n rate due) [] asis)

  abbrev pub pay_slips : List Slip
  pay_slips =
      cash_slips Pay (deal_of n s.deals) 0 (deal_of n s.deals).giver (deal_of n s.deals).taker (deal_of n s.deals).whole

  abbrev pub pay_refusals : List (Condition Refusal)
  pay_refusals =
      in_day_only s
      ∷ ((not (has_deal n s.deals), NotStanding)
      ∷ ((has_lines n s.lines, LinesStand)
      ∷ []))

  unfoldable pub pay_plan : Result Plan Refusal
  pay_plan = or_plan (first_refusal pay_refusals) (planned s (gone n) pay_slips asis)

-- ── the day end ──

unfoldable pub open_plan : State → Result Plan Refusal
open_plan s =
    or_plan (first_refusal (in_day_only s ∷ []))
    (record { date = s.date; phase = DayEnd; change = none; slips = []; sharing = asis; alert = false })

-- 1 to 31 days later, up to the last day that is counted
abbrev pub close_refusals : State → ℕ → List (Condition Refusal)
close_refusals s date =
    in_day_end_only s
    ∷ ((not (nat_le (s.date + 1) date && (nat_le date (s.date + most_days) && nat_le date 65_535)), OutOfRange)
    ∷ [])

unfoldable pub close_plan : State → ℕ → Result Plan Refusal
close_plan s date =
    or_plan (first_refusal (close_refusals s date))
    (record { date = date; phase = Day; change = grown (date - s.date); slips = []; sharing = asis; alert = false })

unfoldable pub lift_plan : State → Result Plan Refusal
lift_plan s = Ok (record { date = s.date; phase = Day; change = none; slips = []; sharing = asis; alert = false })

-- ── a mark ──

module _ (ps : List Price) (d : Deal) where
  -- the most that a line sends back, up to its quantity and the taker's free amount, that keeps the deal, which is worth so much, at its target
  abbrev pub cut_of : Meaning → ℕ → Line → ℕ
  cut_of m value l =
      largest_up_to (leaves (units_worth ps d l.security) l.quantity (target_of d - (value - worth_on_line ps d l)))
      (min (free m d.taker l.security) l.quantity)

  -- a line of the deal that is worth more than 0 and can send something back
  abbrev pub cuts : Meaning → ℕ → Line → Bool
  cuts m value l = on_deal d.number l && (nat_lt 0 (worth_on_line ps d l) && nat_lt 0 (cut_of m value l))

  abbrev pub cut_slip : Meaning → ℕ → Line → Slip
  cut_slip m value l = back_slip Mark d l.number l.security (cut_of m value l)

  -- what the deal is worth without what the line sends back
  abbrev pub value_cut : Meaning → ℕ → Line → ℕ
  value_cut m value l = (value - worth_on_line ps d l) + units_worth ps d l.security (l.quantity - cut_of m value l)

  -- the lines are visited in turn; each meets what those before it left of the value and of the taker's amounts
  unfoldable pub cuts_from : Meaning → ℕ → List Line → List Slip
  cuts_from m value [] = []
  cuts_from m value (l ∷ ls) =
      cond (cuts m value l)
      (cut_slip m value l ∷ cuts_from (moved m (movement_of (cut_slip m value l))) (value_cut m value l) ls)
      (cuts_from m value ls)

abbrev pub marked : State → ℕ → Deal
marked s n = deal_of n s.deals

module _ (s : State) (ps : List Price) (n : ℕ) where
  abbrev pub mark_value : ℕ
  mark_value = worth_on ps (marked s n) s.lines

  -- what covers the difference, beside the deal's own lines
  abbrev pub cover : Option (List Pick)
  cover =
      gathered s.book (worth_by (marked s n).weighing) ps (order_for (marked s n) (target_of (marked s n) - mark_value))
      (held_worths (worth_by (marked s n).weighing) (marked s n).currency ps n s.lines)

  -- the cash is shared out again if anything moves
  abbrev pub moving : List Slip → Plan
  moving [] = planned s none [] asis
  moving (x ∷ xs) = planned s none (x ∷ xs) (over ps n)

  abbrev pub alerted : Plan
  alerted = record { date = s.date; phase = s.phase; change = none; slips = []; sharing = asis; alert = true }

  abbrev pub covering : Option (List Pick) → Plan
  covering (Some picks) = moving (deliveries Mark (marked s n) s.next_line picks)
  covering None = alerted

  -- below the target the difference is gathered; above it the lines send back, newest first
  abbrev pub marking : Plan
  marking =
      cond (nat_lt mark_value (target_of (marked s n))) (covering cover)
      (cond (nat_lt (target_of (marked s n)) mark_value) (moving (cuts_from ps (marked s n) s.book mark_value (reverse s.lines))) (moving []))

  abbrev pub mark_refusals : List (Condition Refusal)
  mark_refusals =
      in_day_end_only s
      ∷ ((not (has_deal n s.deals), NotStanding)
      ∷ ((due_at s.date (marked s n), ReturnDay)
      ∷ []))

  unfoldable pub mark_plan : Result Plan Refusal
  mark_plan = or_plan (first_refusal mark_refusals) marking

-- ── all of them ──

abbrev pub plan_of : Call → State → Result Plan Refusal
plan_of (settle ps places t) s = settle_plan s ps t
plan_of (return_line places n) s = return_plan s n
plan_of (substitute ps places n out security) s = substitute_plan s n ps out security
plan_of (amend n rate due) s = amend_plan s n rate due
plan_of open_day_end s = open_plan s
plan_of (mark ps places n) s = mark_plan s ps n
plan_of (close_day_end date) s = close_plan s date
plan_of lift_day_end s = lift_plan s
plan_of (pay places n) s = pay_plan s n

-- the places of the slip list; a call that moves nothing asks for none
abbrev pub places_of : Call → ℕ
places_of (settle ps places t) = places
places_of (return_line places n) = places
places_of (substitute ps places n out security) = places
places_of (amend n rate due) = 0
places_of open_day_end = 0
places_of (mark ps places n) = places
places_of (close_day_end date) = 0
places_of lift_day_end = 0
places_of (pay places n) = places

-- the price list that a call looks at
abbrev pub prices_of : Call → Option (List Price)
prices_of (settle ps places t) = Some ps
prices_of (return_line places n) = None
prices_of (substitute ps places n out security) = Some ps
prices_of (amend n rate due) = None
prices_of open_day_end = None
prices_of (mark ps places n) = Some ps
prices_of (close_day_end date) = None
prices_of lift_day_end = None
prices_of (pay places n) = None
