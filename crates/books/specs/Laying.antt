-- Amounts that lie in memory row by row, and the book that is opened over them.
use Rattle.std.specs.Prelude.{◌≡◌, ℕ, ◌+◌, ◌-◌, ◌*◌, ◌<◌, ◌≤◌, Bool, cond, not, ◌&&◌, List, [], ◌∷◌, length, is_ok, Ok, Err, Result, Some, None, Option, ◌==◌, nat_le, nat_lt, slice_index, slice_set}
use Rattle.std.specs.List.{list_all}
use Rattle.book.specs.declared.movement.Movement.{Movement}
use Rattle.book.specs.declared.refusal.BookRefusal.{BookRefusal}
use Rattle.book.specs.declared.refusal.BookRefusal.TheVariants.{Outside, Unfit}
use Rattle.book.specs.Refusals.{first_refusal}
use Rattle.book.specs.Meaning.{Meaning, limit}
use Rattle.book.specs.Moving.{verdict}

-- ── the check before making ──

-- sizes that a book may have
abbrev pub sized : ℕ → ℕ → Bool
sized A R = nat_le 2 A && (nat_le A 64 && (nat_le 4 R && nat_le R 128))

-- no amount over the limit
abbrev pub all_low : List ℕ → Bool
all_low xs = list_all (λ x. nat_le x limit) xs

-- A accounts with R amounts each
abbrev pub fits : ℕ → ℕ → List ℕ → Bool
fits A R xs = sized A R && (length xs == A * R && all_low xs)

-- what the check finds
abbrev pub checked : ℕ → ℕ → List ℕ → Result (Unit {0}) BookRefusal
checked A R xs = cond (fits A R xs) (Ok tt) (Err Unfit)

-- memory that a book of A accounts and R resources can be laid over
pub record Fit (A R : ℕ) (xs : List ℕ) : Type 0 where
  pub accounts_low : 2 ≤ A
  pub accounts_high : A ≤ 64
  pub resources_low : 4 ≤ R
  pub resources_high : R ≤ 128
  pub whole : length xs ≡ A * R
  pub low : (k : ℕ) → k < length xs → slice_index xs k ≤ limit

-- whether something was made or refused, without what was made
abbrev pub outcome : {X : Type 0} → Result X BookRefusal → Result (Unit {0}) BookRefusal
outcome (Ok _) = Ok tt
outcome (Err e) = Err e

-- ── stating an amount ──

-- the answer to an amount q that is stated for account a and resource r, in a memory of n amounts
abbrev pub stated_verdict : ℕ → ℕ → ℕ → ℕ → ℕ → ℕ → Result (Unit {0}) BookRefusal
stated_verdict A R n a r q = first_refusal ((not (nat_lt a A && (nat_lt r R && nat_lt (a * R + r) n)), Outside) ∷ ((nat_lt limit q, Unfit) ∷ []))

-- ── the book that is opened ──

-- an account and a resource that there are
abbrev pub inside : ℕ → ℕ → ℕ → ℕ → Bool
inside A R a r = nat_lt a A && nat_lt r R

-- what stands at account a and resource r, nothing outside
abbrev pub seen_in : ℕ → ℕ → List ℕ → ℕ → ℕ → Option ℕ
seen_in A R xs a r = cond (inside A R a r) (Some (slice_index xs (a * R + r))) None

-- what stands at account a and resource r, 0 outside
abbrev pub cell : ℕ → ℕ → List ℕ → ℕ → ℕ → ℕ
cell A R xs a r = cond (inside A R a r) (slice_index xs (a * R + r)) 0

-- the book over amounts, with nothing held back and so many movements left
abbrev pub opened : ℕ → ℕ → ℕ → List ℕ → Meaning
opened A R n xs = record { accounts = A; resources = R; amount = cell A R xs; holdback = λ _ _. 0; left = n }

-- the memory after the sender's and the receiver's amounts are written
abbrev pub written : ℕ → Movement → ℕ → ℕ → List ℕ → List ℕ
written R v sender receiver xs = slice_set (slice_set xs (v.from * R + v.resource) sender) (v.to * R + v.resource) receiver

-- the memory after a movement: the two amounts where it is accepted, else as it was
abbrev pub amounts_after : ℕ → ℕ → ℕ → Movement → List ℕ → List ℕ
amounts_after A R n v xs =
    cond (is_ok (verdict (opened A R n xs) v))
    (written R v (cell A R xs v.from v.resource - v.quantity) (cell A R xs v.to v.resource + v.quantity) xs)
    xs
