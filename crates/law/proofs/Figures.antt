-- The worked deal, computed by the definitions.
use Rattle.std.proofs.Common.{refl}
use Rattle.book.specs.Lists.{run, refusal_from}
use Rattle.gathering.specs.Gathered.{gathered, gathered_from}
use Rattle.memory.specs.Sound.{parts_on, stands, first_broken, first_set}
use Rattle.sharing.specs.Parts.{scale_from, up_to}
use Rattle.sharing.specs.Tables.{shared_from}
use Rattle.sides.specs.Ranges.{terms_fit}
use Rattle.tables.specs.Values.{deal_worth, held_worth, held_worths}
use Rattle.valuation.specs.Best.{largest_up_to, smallest_up_to}
use Rattle.law.specs.Slips.{deliveries, lines_by, issues}
use Rattle.law.specs.Plans.{unfit, carried}
use Rattle.law.specs.Calls.{settle_plan, return_plan, substitute_plan, amend_plan, open_plan, mark_plan, close_plan, lift_plan, pay_plan, cuts_from}
use Rattle.law.specs.Outcomes.{outcome}
use Rattle.law.specs.Figures.{WorkedDeal}
use Rattle.law.specs.Life.{LifeSlips, LifeRefusals}

pub worked_deal : WorkedDeal
unfolding run refusal_from gathered gathered_from parts_on stands first_broken first_set scale_from up_to shared_from terms_fit deal_worth held_worth held_worths largest_up_to smallest_up_to deliveries lines_by issues unfit carried settle_plan open_plan mark_plan cuts_from outcome
worked_deal = record { lines = refl; limited = refl; more = refl; less = refl }

pub life_slips : LifeSlips
unfolding run refusal_from gathered gathered_from parts_on stands first_broken first_set scale_from up_to shared_from terms_fit deal_worth held_worth held_worths largest_up_to smallest_up_to deliveries lines_by issues unfit carried settle_plan return_plan substitute_plan amend_plan open_plan mark_plan close_plan lift_plan pay_plan cuts_from outcome
life_slips = record { settle_slips = refl; free_slips = refl; substitute_slips = refl; mark_slips = refl; return_slips = refl; return_when_due = refl; pay_slips = refl; slip_list = refl }

pub life_refusals : LifeRefusals
unfolding run refusal_from gathered gathered_from parts_on stands first_broken first_set scale_from up_to shared_from terms_fit deal_worth held_worth held_worths largest_up_to smallest_up_to deliveries lines_by issues unfit carried settle_plan return_plan substitute_plan amend_plan open_plan mark_plan close_plan lift_plan pay_plan cuts_from outcome
life_refusals = record { settle_in_day_end = refl; open_in_day_end = refl; mark_in_day = refl; close_in_day = refl; settle_of_the_day_before = refl; settle_with_nobody = refl; settle_past_the_numbers = refl; settle_past_the_places = refl; return_early = refl; return_a_day_early = refl; substitute_by_the_same = refl; substitute_by_another_category = refl; substitute_when_due = refl; amend_when_due = refl; amend_to_the_day_before = refl; amend_too_far = refl; mark_when_due = refl; pay_with_lines = refl; close_at_the_date = refl; close_32_days_on = refl; close_past_the_last_day = refl }
