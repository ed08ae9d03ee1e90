-- What replacing a record of the price list comes to.
use Rattle.std.specs.Prelude.{ℕ, ◌-◌, Bool, cond, ◌&&◌, List, length, nat_le, nat_lt, slice_set}
use Rattle.register_script.specs.declared.command.Quotation.{Quotation}
use Rattle.sides.specs.declared.refusal.Refusal.TheVariants.{OutOfRange}
use Rattle.valuation.specs.declared.price.Price.{Price}
use Rattle.valuation.specs.Prices.{in_ranges}
use Rattle.commands.specs.Answers.{Answer, accepted, refused}

-- one of so many securities, which are the resources from 3 on, with a record in its ranges
abbrev pub quotable : ℕ → Quotation → Bool
quotable n q = nat_le 3 q.security && (nat_lt (q.security - 3) n && in_ranges q.price)

abbrev pub priced_answer : ℕ → Quotation → Answer
priced_answer n q = cond (quotable n q) accepted (refused OutOfRange)

abbrev pub priced_after : Quotation → List Price → List Price
priced_after q ps = cond (quotable (length ps) q) (slice_set ps (q.security - 3) q.price) ps
