-- A deal lived through from settle to pay, slip by slip, and each condition of each call met by itself.
use Rattle.std.specs.Prelude.{◌≡◌, ℕ, ◌+◌, false, cond, List, [], ◌∷◌, map, Err, ◌==◌, nat_lt}
use Rattle.book.specs.Meaning.{Meaning}
use Rattle.memory.specs.declared.row.Phase.TheVariants.{Day, DayEnd}
use Rattle.memory.specs.declared.row.Slip.{Slip}
use Rattle.memory.specs.declared.row.Weighing.TheVariants.{Margin, Haircut}
use Rattle.memory.specs.Kinds.{kind_number, sense_number}
use Rattle.sides.specs.declared.refusal.Refusal.TheVariants.{WrongPhase, OutOfRange, OtherDay, NoAccount, ReturnDay, LinesStand, NoSecurities, NoNumbers, NoSlips}
use Rattle.sides.specs.declared.terms.Terms.{Terms}
use Rattle.valuation.specs.declared.currency.Currency.TheVariants.{Eur, Usd}
use Rattle.valuation.specs.declared.price.Price.{Price}
use Rattle.law.specs.World.{World, world_of}
use Rattle.law.specs.Calls.{settle, return_line, substitute, amend, open_day_end, mark, close_day_end, lift_day_end, pay}
use Rattle.law.specs.Outcomes.{outcome, after, written, listed}

-- both accounts have 2,000,000 of each currency; account 0 has 3 of security 3 and 100 of each other one
abbrev pub amounts : ℕ → ℕ → ℕ
amounts a r = cond (nat_lt r 3) 2_000_000 (cond (a == 0) (cond (r == 3) 3 100) 0)

abbrev pub book : Meaning
book = record { accounts = 2; resources = 7; amount = amounts; holdback = λ _ _. 0; left = 1_000 }

-- with such next numbers
abbrev pub begun_at : ℕ → ℕ → World
begun_at next_deal next_line =
    world_of (record { date = 100; phase = Day; next_deal = next_deal; next_line = next_line; deals = []; lines = []; deal_rows = 2; line_rows = 5; book = book })

abbrev pub begun : World
begun = begun_at 1 1

abbrev pub priced : ℕ → ℕ → ℕ → Price
priced category haircut p = record { category = category; excluded = false; haircut = haircut; gbp = p; eur = p; usd = p }

-- securities 3 to 6; security 4 is of another category
abbrev pub prices_with : Price → List Price
prices_with fifth = priced 0 0 2_500 ∷ (priced 1 0 1_000 ∷ (fifth ∷ (priced 0 0 300 ∷ [])))

abbrev pub prices : ℕ → List Price
prices fifth = prices_with (priced 0 0 fifth)

abbrev pub pair : ℕ → ℕ → Terms
pair day taker =
    record { day = day; giver = 0; taker = taker; currency = Eur; class = 1; weighing = Margin; margin = 1_000; sought = 10; cash = 900_000; rate = 200_000; due = day + 2; limit = false }

-- by haircut, free of payment
abbrev pub free_pair : Terms
free_pair =
    record { day = 100; giver = 0; taker = 1; currency = Usd; class = 1; weighing = Haircut; margin = 0; sought = 10; cash = 0; rate = 0; due = 102; limit = false }

-- ── its life ──

abbrev pub settled : World
settled = after (settle (prices 1_000) 3 (pair 100 1)) begun

abbrev pub substituted : World
substituted = after (substitute (prices 1_000) 2 2 1 6) settled

abbrev pub marked : World
marked = after (mark (prices 2_000) 50 1) (after open_day_end substituted)

-- lifted, amended in the day, opened and closed: then it is due
abbrev pub due_day : World
due_day = after (close_day_end 101) (after open_day_end (after (amend 1 100_000 101) (after lift_day_end marked)))

abbrev pub returned : World
returned = after (return_line 50 2) (after (return_line 50 1) due_day)

abbrev pub last_day : World
last_day = world_of (record { date = 65_535; phase = DayEnd; next_deal = 1; next_line = 1; deals = []; lines = []; deal_rows = 1; line_rows = 1; book = book })

-- kind, sense, deal, number, resource, from, to and amount of each slip
abbrev pub figures : List Slip → List (ℕ × ℕ × ℕ × ℕ × ℕ × ℕ × ℕ × ℕ)
figures xs = map (λ x. (kind_number x.kind, sense_number x.sense, x.deal, x.number, x.resource, x.from, x.to, x.amount)) xs

pub record LifeSlips : Type 0 where
  pub settle_slips : figures (written (settle (prices 1_000) 3 (pair 100 1)) begun) ≡ (1, 2, 1, 0, 1, 1, 0, 900_000) ∷ ((1, 0, 1, 1, 3, 0, 1, 3) ∷ ((1, 0, 1, 2, 5, 0, 1, 4) ∷ []))
  pub free_slips : figures (written (settle (prices_with (priced 0 5_000 1_000)) 2 free_pair) begun) ≡ (1, 0, 1, 1, 3, 0, 1, 3) ∷ ((1, 0, 1, 2, 5, 0, 1, 6) ∷ [])
  pub substitute_slips : figures (written (substitute (prices 1_000) 2 2 1 6) settled) ≡ (3, 1, 1, 2, 5, 1, 0, 1) ∷ ((3, 0, 1, 3, 6, 0, 1, 4) ∷ [])
  pub mark_slips : figures (written (mark (prices 2_000) 50 1) (after open_day_end substituted)) ≡ (4, 1, 1, 3, 6, 1, 0, 4) ∷ ((4, 1, 1, 2, 5, 1, 0, 1) ∷ [])
  pub return_slips : figures (written (return_line 50 1) due_day) ≡ (2, 1, 1, 1, 3, 1, 0, 3) ∷ ((2, 2, 1, 1, 1, 0, 1, 572_727) ∷ [])
  pub return_when_due : figures (written (return_line 50 1) (after (close_day_end 102) (after open_day_end settled))) ≡ (2, 1, 1, 1, 3, 1, 0, 3) ∷ ((2, 2, 1, 1, 1, 0, 1, 572_727) ∷ [])
  pub pay_slips : figures (written (pay 50 1) returned) ≡ (5, 2, 1, 0, 1, 0, 1, 250) ∷ []
  -- the later places stay
  pub slip_list : figures (listed (written (pay 50 1) returned) (written (return_line 50 1) due_day)) ≡ (5, 2, 1, 0, 1, 0, 1, 250) ∷ ((2, 2, 1, 1, 1, 0, 1, 572_727) ∷ [])

pub record LifeRefusals : Type 0 where
  pub settle_in_day_end : outcome (settle (prices 1_000) 3 (pair 100 1)) (after open_day_end begun) ≡ Err WrongPhase
  pub open_in_day_end : outcome open_day_end (after open_day_end settled) ≡ Err WrongPhase
  pub mark_in_day : outcome (mark (prices 1_000) 50 1) settled ≡ Err WrongPhase
  pub close_in_day : outcome (close_day_end 101) settled ≡ Err WrongPhase
  pub settle_of_the_day_before : outcome (settle (prices 1_000) 3 (pair 99 1)) begun ≡ Err OtherDay
  pub settle_with_nobody : outcome (settle (prices 1_000) 3 (pair 100 2)) begun ≡ Err NoAccount
  pub settle_past_the_numbers : outcome (settle (prices 1_000) 3 (pair 100 1)) (begun_at 4_294_967_295 1) ≡ Err NoNumbers
  pub settle_past_the_places : outcome (settle (prices 1_000) 2 (pair 100 1)) begun ≡ Err NoSlips
  pub return_early : outcome (return_line 50 1) settled ≡ Err ReturnDay
  pub return_a_day_early : outcome (return_line 50 1) (after (close_day_end 101) (after open_day_end settled)) ≡ Err ReturnDay
  pub substitute_by_the_same : outcome (substitute (prices 1_000) 2 2 1 5) settled ≡ Err OutOfRange
  pub substitute_by_another_category : outcome (substitute (prices 1_000) 2 2 1 4) settled ≡ Err NoSecurities
  pub substitute_when_due : outcome (substitute (prices 1_000) 2 1 1 6) due_day ≡ Err ReturnDay
  pub amend_when_due : outcome (amend 1 0 101) due_day ≡ Err ReturnDay
  pub amend_to_the_day_before : outcome (amend 1 0 99) settled ≡ Err OutOfRange
  pub amend_too_far : outcome (amend 1 0 831) settled ≡ Err OutOfRange
  pub mark_when_due : outcome (mark (prices 1_000) 50 1) (after open_day_end due_day) ≡ Err ReturnDay
  pub pay_with_lines : outcome (pay 50 1) settled ≡ Err LinesStand
  pub close_at_the_date : outcome (close_day_end 100) (after open_day_end settled) ≡ Err OutOfRange
  pub close_32_days_on : outcome (close_day_end 132) (after open_day_end settled) ≡ Err OutOfRange
  pub close_past_the_last_day : outcome (close_day_end 65_536) last_day ≡ Err OutOfRange
