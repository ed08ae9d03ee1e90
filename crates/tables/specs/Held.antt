-- The lines of a deal, counted by security.
use Rattle.std.specs.Prelude.{ℕ, ◌+◌, ◌-◌, Bool, cond, ◌&&◌, List, nat_le, nat_lt, slice_index, slice_set}
use Rattle.valuation.specs.declared.currency.Currency.{Currency}
use Rattle.valuation.specs.declared.price.Price.{Price}
use Rattle.memory.specs.declared.row.Line.{Line}
use Rattle.tables.specs.Values.{line_worth, on_deal}

-- a security that a book can have
abbrev pub is_security : ℕ → Bool
is_security s = nat_le 3 s && nat_lt s 128

-- the sums, for each security from 3 on, with a line, if it is on deal n
abbrev pub with_held : (ℕ → ℕ → ℕ → ℕ) → Currency → List Price → ℕ → Line → List ℕ → List ℕ
with_held worth currency ps n l sums =
    cond (on_deal n l && is_security l.security)
    (slice_set sums (l.security - 3) (slice_index sums (l.security - 3) + line_worth worth currency ps l))
    sums
