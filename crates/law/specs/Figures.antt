-- One small deal, worked through: sought 10 at margin 0 against cash 9, with 3 free at 2,500 and 100 free at 1,000.
use Rattle.std.specs.Prelude.{◌≡◌, ℕ, Bool, true, false, cond, ◌&&◌, List, [], ◌∷◌, map, Err, ◌==◌}
use Rattle.book.specs.Meaning.{Meaning}
use Rattle.memory.specs.declared.row.Phase.TheVariants.{Day}
use Rattle.memory.specs.declared.row.Weighing.TheVariants.{Margin}
use Rattle.memory.specs.declared.row.Slip.{Slip}
use Rattle.sides.specs.declared.refusal.Refusal.TheVariants.{NoSecurities}
use Rattle.sides.specs.declared.terms.Terms.{Terms}
use Rattle.valuation.specs.declared.currency.Currency.TheVariants.{Gbp}
use Rattle.valuation.specs.declared.price.Price.{Price}
use Rattle.memory.specs.Kinds.{sense_number}
use Rattle.law.specs.World.{World, state_of, world_of}
use Rattle.law.specs.Calls.{settle, open_day_end, mark}
use Rattle.law.specs.Outcomes.{outcome, after, written}

-- account 0 has 3 of security 3 and 100 of security 4; account 1 has 100 of the first currency
abbrev pub amounts : ℕ → ℕ → ℕ
amounts a r = cond (a == 0) (cond (r == 3) 3 (cond (r == 4) 100 0)) (cond (a == 1 && r == 0) 100 0)

abbrev pub book : Meaning
book = record { accounts = 2; resources = 5; amount = amounts; holdback = λ _ _. 0; left = 1_000 }

abbrev pub start : World
start = world_of (record { date = 100; phase = Day; next_deal = 1; next_line = 1; deals = []; lines = []; deal_rows = 1; line_rows = 3; book = book })

abbrev pub priced : ℕ → Price
priced p = record { category = 0; excluded = false; haircut = 0; gbp = p; eur = 0; usd = 0 }

abbrev pub prices : ℕ → List Price
prices second = priced 2_500 ∷ (priced second ∷ [])

abbrev pub terms : Bool → Terms
terms limit = record { day = 100; giver = 0; taker = 1; currency = Gbp; class = 1; weighing = Margin; margin = 0; sought = 10; cash = 9; rate = 50_000; due = 101; limit = limit }

abbrev pub settled : World
settled = after (settle (prices 1_000) 50 (terms false)) start

abbrev pub opened : World
opened = after open_day_end settled

-- security, quantity and part of each line
abbrev pub line_figures : World → List (ℕ × ℕ × ℕ)
line_figures w = map (λ l. (l.security, l.quantity, l.part)) (state_of w).lines

-- sense, resource and amount of each slip
abbrev pub slip_figures : List Slip → List (ℕ × ℕ × ℕ)
slip_figures xs = map (λ x. (sense_number x.sense, x.resource, x.amount)) xs

pub record WorkedDeal : Type 0 where
  pub lines : line_figures settled ≡ (3, 3, 6) ∷ ((4, 3, 3) ∷ [])
  -- with the limit no basket covers
  pub limited : outcome (settle (prices 1_000) 50 (terms true)) start ≡ Err NoSecurities
  -- at 500 the second security is short by 2, and 4 more go out; at 2,000 it is 3 over, and 1 comes back
  pub more : slip_figures (written (mark (prices 500) 50 1) opened) ≡ (0, 4, 4) ∷ []
  pub less : slip_figures (written (mark (prices 2_000) 50 1) opened) ≡ (1, 4, 1) ∷ []
