-- What movements keep.
use Rattle.std.specs.Prelude.{◌≡◌, ℕ, ◌+◌}
use Rattle.book.specs.Meaning.{Meaning}
use Rattle.book.specs.Totals.{in_all}

-- from m to n so many movements were made: nothing came into being and nothing was lost
pub record Conserved (m n : Meaning) (made : ℕ) : Type 0 where
  pub same_accounts : n.accounts ≡ m.accounts
  pub same_resources : n.resources ≡ m.resources
  pub same_holdbacks : n.holdback ≡ m.holdback
  pub same_totals : (r : ℕ) → in_all n r ≡ in_all m r
  pub movements : n.left + made ≡ m.left
