-- Cash that may be shared.
use Rattle.std.specs.Prelude.{ℕ, cond, Some, None, Option, nat_le}
use Rattle.sharing.specs.declared.share.Share.{Share}
use Rattle.sharing.specs.Limits.{most_cash}

-- what is shared, and the total of the values
abbrev pub terms_of : Share → ℕ × ℕ
terms_of s = (s.cash, s.total)

abbrev pub sharable : ℕ → ℕ → Option (ℕ × ℕ)
sharable cash total = cond (nat_le cash most_cash) (Some (cash, total)) None
