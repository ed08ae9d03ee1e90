-- Postings, and the amounts that they leave.
use Rattle.std.specs.Prelude.{ℕ, ◌<◌, ◌≤◌, cond, List, [], ◌∷◌, Some, None, Option, ◌==◌}
use Rattle.std.specs.Option.{option_or, unwrap_or}
use Rattle.book.specs.Meaning.{Meaning, limit}
use Rattle.books.specs.declared.posting.Posting.{Posting}
use Rattle.books.specs.Laying.{cell}

abbrev pub blank : Posting
blank = record { from = 0; to = 0; resource = 0; sender = 0; receiver = 0 }

-- the new amount of an account in a resource, where the posting names them
abbrev pub posted : Posting → ℕ → ℕ → Option ℕ
posted p a r = cond (r == p.resource) (cond (a == p.from) (Some p.sender) (cond (a == p.to) (Some p.receiver) None)) None

-- a posting that a book of A accounts and R resources may have made
pub record Sound (A R : ℕ) (p : Posting) : Type 0 where
  pub from_in : p.from < A
  pub to_in : p.to < A
  pub resource_in : p.resource < R
  pub sender_low : p.sender ≤ limit
  pub receiver_low : p.receiver ≤ limit

-- what the latest posting that names an account and a resource says, the oldest standing first
abbrev pub latest : List Posting → ℕ → ℕ → Option ℕ
latest [] a r = None
latest (p ∷ ps) a r = option_or (latest ps a r) (posted p a r)

-- the amount after the postings: what the latest says, or else the opening amount
abbrev pub standing : ℕ → ℕ → List ℕ → List Posting → ℕ → ℕ → ℕ
standing A R xs ps a r = unwrap_or (latest ps a r) (cell A R xs a r)

-- the book after the postings, with nothing held back and so many movements left
abbrev pub journalled : ℕ → ℕ → ℕ → List ℕ → List Posting → Meaning
journalled A R n xs ps = record { accounts = A; resources = R; amount = standing A R xs ps; holdback = λ _ _. 0; left = n }
