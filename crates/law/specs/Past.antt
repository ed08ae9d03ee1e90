-- A register's past, and what its history states.
use Rattle.std.specs.Prelude.{◌≡◌, ℕ, ◌+◌, ◌-◌, ◌*◌, ◌≤◌, Bool, true, false, cond, ◌&&◌, List, [], ◌∷◌, ◌++◌, Ok, Err, Result, ◌==◌}
use Rattle.book.specs.Meaning.{Meaning, Lawful}
use Rattle.memory.specs.declared.row.Phase.TheVariants.{Day}
use Rattle.memory.specs.declared.row.Slip.{Slip}
use Rattle.memory.specs.declared.row.Weighing.TheVariants.{Margin}
use Rattle.memory.specs.Begin.{sized}
use Rattle.memory.specs.Kinds.{kind_number, sense_number}
use Rattle.sides.specs.declared.refusal.Refusal.{Refusal}
use Rattle.sides.specs.declared.terms.Terms.{Terms}
use Rattle.valuation.specs.declared.currency.Currency.TheVariants.{Gbp}
use Rattle.law.specs.Sums.{only, total}
use Rattle.law.specs.World.{State, World, world_of}
use Rattle.law.specs.Plans.{Plan}
use Rattle.law.specs.Calls.{Call, settle, return_line, substitute, amend, open_day_end, mark, close_day_end, lift_day_end, pay}
use Rattle.law.specs.Outcomes.{outcome, world_by}

-- the book over which a register began, and the date at which it did
pub record Opening : Type 0 where
  pub book : Meaning
  pub date : ℕ

abbrev pub fresh_state : Opening → ℕ → ℕ → State
fresh_state o deal_rows line_rows =
    record { date = o.date; phase = Day; next_deal = 1; next_line = 1; deals = []; lines = []; deal_rows = deal_rows; line_rows = line_rows; book = o.book }

-- an accepted call: what was stated, the deal number that was next, and the slips
pub record Entry : Type 0 where
  pub call : Call
  pub next : ℕ
  pub slips : List Slip

-- a history has the accepted calls, the latest first
abbrev pub recorded_by : Call → World → Result Plan Refusal → List Entry → List Entry
recorded_by c w (Ok p) h = record { call = c; next = w.head.next.deal; slips = p.slips } ∷ h
recorded_by c w (Err e) h = h

abbrev pub recorded : Call → World → List Entry → List Entry
recorded c w h = recorded_by c w (outcome c w) h

-- the register began fresh over the opening book, and then it and the book underwent calls, with anything stated, accepted or refused
pub data Past (o : Opening) : World → List Entry → Type 0 where
  fresh : (deal_rows line_rows : ℕ) → sized deal_rows 64 ≡ true → sized line_rows 1024 ≡ true → Lawful o.book → o.date ≤ 65_535
      → Past o (world_of (fresh_state o deal_rows line_rows)) []
  called : {w : World} {h : List Entry} (c : Call) → Past o w h → Past o (world_by w (outcome c w)) (recorded c w h)

-- ── sums over all slips ──

abbrev pub slipped : (Slip → ℕ) → List Entry → ℕ
slipped f [] = 0
slipped f (e ∷ h) = total f e.slips + slipped f h

abbrev pub is_out : Slip → Bool
is_out x = sense_number x.sense == 0

abbrev pub is_back : Slip → Bool
is_back x = sense_number x.sense == 1

abbrev pub is_cash : Slip → Bool
is_cash x = sense_number x.sense == 2

abbrev pub is_return : Slip → Bool
is_return x = kind_number x.kind == 2

abbrev pub is_interest : Slip → Bool
is_interest x = kind_number x.kind == 5

-- under a return number
abbrev pub out_under : ℕ → Slip → ℕ
out_under n x = only (is_out x && x.number == n) x.amount

abbrev pub back_under : ℕ → Slip → ℕ
back_under n x = only (is_back x && x.number == n) x.amount

abbrev pub delivered : ℕ → List Entry → ℕ
delivered n h = slipped (out_under n) h

abbrev pub sent_back : ℕ → List Entry → ℕ
sent_back n h = slipped (back_under n) h

-- what comes to an account, and what goes from it, in a resource
abbrev pub comes_to : ℕ → ℕ → Slip → ℕ
comes_to a r x = only (x.to == a && x.resource == r) x.amount

abbrev pub goes_from : ℕ → ℕ → Slip → ℕ
goes_from a r x = only (x.from == a && x.resource == r) x.amount

-- stock of the securities that pass a test, which goes out from an account, and which comes back to it
abbrev pub out_from : ℕ → (ℕ → Bool) → Slip → ℕ
out_from a test x = only (is_out x && (x.from == a && test x.resource)) x.amount

abbrev pub back_to : ℕ → (ℕ → Bool) → Slip → ℕ
back_to a test x = only (is_back x && (x.to == a && test x.resource)) x.amount

-- interest that an account receives, and that it pays, in a currency
abbrev pub interest_to : ℕ → ℕ → List Entry → ℕ
interest_to a c h = slipped (λ x. only (is_interest x) (comes_to a c x)) h

abbrev pub interest_from : ℕ → ℕ → List Entry → ℕ
interest_from a c h = slipped (λ x. only (is_interest x) (goes_from a c x)) h

-- cash that went back on a deal, and interest that was paid on it
abbrev pub back_on : ℕ → Slip → ℕ
back_on n x = only (is_return x && (is_cash x && x.deal == n)) x.amount

abbrev pub cash_back : ℕ → List Entry → ℕ
cash_back n h = slipped (back_on n) h

abbrev pub interest_of : ℕ → Slip → ℕ
interest_of n x = only (is_interest x && x.deal == n) x.amount

abbrev pub interest_on : ℕ → List Entry → ℕ
interest_on n h = slipped (interest_of n) h

-- ── the numbers that were issued ──

abbrev pub out_numbers : List Slip → List ℕ
out_numbers [] = []
out_numbers (x ∷ xs) = cond (is_out x) (x.number ∷ out_numbers xs) (out_numbers xs)

abbrev pub return_numbers : List Entry → List ℕ
return_numbers [] = []
return_numbers (e ∷ h) = out_numbers e.slips ++ return_numbers h

-- ── what was stated of a deal, so far ──

-- by the deal that it is about
pub data Stated : Type 0 where
  settled : ℕ → Terms → Stated
  -- its rate
  amended : ℕ → ℕ → Stated
  paid : ℕ → Stated
  -- a date
  closed : ℕ → Stated
  other : Stated

abbrev pub stated_by : Call → ℕ → Stated
stated_by (settle ps places t) next = settled next t
stated_by (return_line places n) next = other
stated_by (substitute ps places n out security) next = other
stated_by (amend n rate due) next = amended n rate
stated_by open_day_end next = other
stated_by (mark ps places n) next = other
stated_by (close_day_end date) next = closed date
stated_by lift_day_end next = other
stated_by (pay places n) next = paid n

abbrev pub stated : Entry → Stated
stated e = stated_by e.call e.next

-- the deal numbers that were issued
abbrev pub settled_numbers : Stated → List ℕ
settled_numbers (settled n t) = n ∷ []
settled_numbers (amended n rate) = []
settled_numbers (paid n) = []
settled_numbers (closed date) = []
settled_numbers other = []

abbrev pub deal_numbers : List Entry → List ℕ
deal_numbers [] = []
deal_numbers (e ∷ h) = settled_numbers (stated e) ++ deal_numbers h

-- the matched pair of a deal
abbrev pub no_terms : Terms
no_terms = record { day = 0; giver = 0; taker = 0; currency = Gbp; class = 0; weighing = Margin; margin = 0; sought = 0; cash = 0; rate = 0; due = 0; limit = false }

abbrev pub pair_by : ℕ → Stated → Terms → Terms
pair_by n (settled m t) before = cond (m == n) t before
pair_by n (amended m rate) before = before
pair_by n (paid m) before = before
pair_by n (closed date) before = before
pair_by n other before = before

abbrev pub pair_of : ℕ → List Entry → Terms
pair_of n [] = no_terms
pair_of n (e ∷ h) = pair_by n (stated e) (pair_of n h)

-- the rate in force: that of the pair until an amend replaces it
abbrev pub rate_by : ℕ → Stated → ℕ → ℕ
rate_by n (settled m t) before = cond (m == n) t.rate before
rate_by n (amended m rate) before = cond (m == n) rate before
rate_by n (paid m) before = before
rate_by n (closed date) before = before
rate_by n other before = before

abbrev pub rate_of : ℕ → List Entry → ℕ
rate_of n [] = 0
rate_of n (e ∷ h) = rate_by n (stated e) (rate_of n h)

-- settled, and not paid
abbrev pub stood_by : ℕ → Stated → Bool → Bool
stood_by n (settled m t) before = cond (m == n) true before
stood_by n (amended m rate) before = before
stood_by n (paid m) before = cond (m == n) false before
stood_by n (closed date) before = before
stood_by n other before = before

abbrev pub stood : ℕ → List Entry → Bool
stood n [] = false
stood n (e ∷ h) = stood_by n (stated e) (stood n h)

-- the date: that of the latest close, or else the opening's
abbrev pub date_by : Stated → ℕ → ℕ
date_by (settled m t) before = before
date_by (amended m rate) before = before
date_by (paid m) before = before
date_by (closed date) before = date
date_by other before = before

abbrev pub date_of : Opening → List Entry → ℕ
date_of o [] = o.date
date_of o (e ∷ h) = date_by (stated e) (date_of o h)

-- the standing cash: what was stated less what went back
abbrev pub cash_of : ℕ → List Entry → ℕ
cash_of n h = (pair_of n h).cash - cash_back n h

-- what a close adds at so much a day, where the date before is known
abbrev pub added_by : Stated → ℕ → ℕ → ℕ
added_by (settled m t) daily date = 0
added_by (amended m rate) daily date = 0
added_by (paid m) daily date = 0
added_by (closed new) daily date = daily * (new - date)
added_by other daily date = 0

-- the sum, over the closes while the deal stands, of standing cash × rate × days
abbrev pub accrued_on : Opening → ℕ → List Entry → ℕ
accrued_on o n [] = 0
accrued_on o n (e ∷ h) = accrued_on o n h + only (stood n h) (added_by (stated e) (cash_of n h * rate_of n h) (date_of o h))
