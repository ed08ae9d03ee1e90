-- What a book means: its sizes, an amount and a holdback for each account and resource, and the movements left.
use Rattle.std.specs.Prelude.{◌≡◌, ℕ, ◌-◌, ◌≤◌, Bool, false, cond, ◌&&◌, Some, None, Option, nat_lt}

pub record Meaning : Type 0 where
  pub accounts : ℕ
  pub resources : ℕ
  pub amount : ℕ → ℕ → ℕ
  pub holdback : ℕ → ℕ → ℕ
  pub left : ℕ

-- the most that an account has of a resource, and the most that is held back of it
abbrev pub limit : ℕ
limit = 1_000_000_000_000_000

abbrev pub within : Meaning → ℕ → ℕ → Bool
within m a r = nat_lt a m.accounts && nat_lt r m.resources

-- what an account may send of a resource: the amount less the holdback, or 0
abbrev pub free : Meaning → ℕ → ℕ → ℕ
free m a r = m.amount a r - m.holdback a r

-- a meaning that a book may have
pub record Lawful (m : Meaning) : Type 0 where
  pub accounts_low : 2 ≤ m.accounts
  pub accounts_high : m.accounts ≤ 64
  pub resources_low : 4 ≤ m.resources
  pub resources_high : m.resources ≤ 128
  pub amounts : (a r : ℕ) → m.amount a r ≤ limit
  pub holdbacks : (a r : ℕ) → m.holdback a r ≤ limit
  pub no_amounts : (a r : ℕ) → within m a r ≡ false → m.amount a r ≡ 0
  pub no_holdbacks : (a r : ℕ) → within m a r ≡ false → m.holdback a r ≡ 0

-- what a book answers of an amount and of a holdback: nothing outside
abbrev pub seen : Meaning → ℕ → ℕ → Option ℕ
seen m a r = cond (within m a r) (Some (m.amount a r)) None

abbrev pub kept : Meaning → ℕ → ℕ → Option ℕ
kept m a r = cond (within m a r) (Some (m.holdback a r)) None
