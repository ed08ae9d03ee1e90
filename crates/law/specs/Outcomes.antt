-- What a call answers, and the world and the slips after it.
use Rattle.std.specs.Prelude.{ℕ, Bool, List, [], ◌++◌, length, drop, Some, None, Ok, Err, Option, Result}
use Rattle.std.specs.Result.{result_map_both}
use Rattle.memory.specs.declared.place.Fault.{Fault}
use Rattle.memory.specs.declared.place.Table.TheVariants as table
use Rattle.memory.specs.declared.row.Slip.{Slip}
use Rattle.memory.specs.Sound.{fault_of, first_found, at}
use Rattle.sides.specs.declared.refusal.Refusal.{Refusal}
use Rattle.sides.specs.declared.refusal.Refusal.TheVariants.{Broken}
use Rattle.valuation.specs.declared.price.Price.{Price}
use Rattle.valuation.specs.Prices.{fault_of as price_fault_of}
use Rattle.law.specs.World.{State, World, state_of, world_of}
use Rattle.law.specs.Changes.{Change, none, added, lowered, amended, grown, gone}
use Rattle.law.specs.Plans.{Plan, checked, carried}
use Rattle.law.specs.Calls.{Call, plan_of, places_of, prices_of}

abbrev pub prices_fault : ℕ → Option (List Price) → Option Fault
prices_fault resources None = None
prices_fault resources (Some ps) = at table.Prices (price_fault_of resources ps)

-- the first rule that the register, or the price list that is looked at, breaks
abbrev pub fault_in : Option (List Price) → World → Option Fault
fault_in prices w =
    first_found (fault_of w.book.accounts w.book.resources w.head w.deals w.lines) (prices_fault w.book.resources prices)

-- a plan that passes its check
abbrev pub passed : ℕ → State → Result Plan Refusal → Result Plan Refusal
passed places s (Err e) = Err e
passed places s (Ok p) = result_map_both (λ _. p) (λ e. e) (checked places s p)

abbrev pub or_broken : Option Fault → Result Plan Refusal → Result Plan Refusal
or_broken (Some f) r = Err (Broken f)
or_broken None r = r

-- the plan that is carried out, or the refusal
unfoldable pub outcome : Call → World → Result Plan Refusal
outcome c w = or_broken (fault_in (prices_of c) w) (passed (places_of c) (state_of w) (plan_of c (state_of w)))

-- how many slips are written, the number of a deal that came, and alert B
pub record Answer : Type 0 where
  pub count : ℕ
  pub deal : Option ℕ
  pub alert : Bool

abbrev pub deal_by : Change → Option ℕ
deal_by none = None
deal_by (added d) = Some d.number
deal_by (lowered n part) = None
deal_by (amended n rate due) = None
deal_by (grown days) = None
deal_by (gone n) = None

abbrev pub answer_by : Plan → Answer
answer_by p = record { count = length p.slips; deal = deal_by p.change; alert = p.alert }

abbrev pub answer : Call → World → Result Answer Refusal
answer c w = result_map_both answer_by (λ e. e) (outcome c w)

-- after a refusal all is as it was
abbrev pub world_by : World → Result Plan Refusal → World
world_by w (Ok p) = world_of (carried (state_of w) p)
world_by w (Err e) = w

abbrev pub after : Call → World → World
after c w = world_by w (outcome c w)

abbrev pub slips_by : Result Plan Refusal → List Slip
slips_by (Ok p) = p.slips
slips_by (Err e) = []

abbrev pub written : Call → World → List Slip
written c w = slips_by (outcome c w)

-- the slip list after it: the slips from its first place on, and the later places as they were
abbrev pub listed : List Slip → List Slip → List Slip
listed xs before = xs ++ drop (length xs) before
