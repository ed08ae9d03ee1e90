-- What a book answers to a movement, and what it means after it.
use Rattle.std.specs.Prelude.{ℕ, ◌+◌, ◌-◌, Bool, cond, not, ◌&&◌, [], ◌∷◌, is_ok, Result, ◌==◌, nat_lt}
use Rattle.book.specs.declared.movement.Movement.{Movement}
use Rattle.book.specs.declared.refusal.BookRefusal.{BookRefusal}
use Rattle.book.specs.declared.refusal.BookRefusal.TheVariants.{Outside, Quantity, NotFree, NoRoom, NoMovements}
use Rattle.book.specs.Refusals.{first_refusal}
use Rattle.book.specs.Meaning.{Meaning, limit}

-- two accounts and a resource of a book of so many
abbrev pub named : ℕ → ℕ → Movement → Bool
named accounts resources v =
    nat_lt v.from accounts && (nat_lt v.to accounts && (nat_lt v.resource resources && not (v.from == v.to)))

-- the answer where the sender has `had`, of which `held` is held back, the receiver has `has`, and `left` movements are left
abbrev pub judged : ℕ → ℕ → ℕ → ℕ → ℕ → ℕ → Movement → Result (Unit {0}) BookRefusal
judged accounts resources had held has left v =
    first_refusal (
    (not (named accounts resources v), Outside)
    ∷ (((v.quantity == 0), Quantity)
    ∷ ((nat_lt (had - held) v.quantity, NotFree)
    ∷ ((nat_lt limit (has + v.quantity), NoRoom)
    ∷ (((left == 0), NoMovements)
    ∷ [])))))

abbrev pub verdict : Meaning → Movement → Result (Unit {0}) BookRefusal
verdict m v =
    judged m.accounts m.resources (m.amount v.from v.resource) (m.holdback v.from v.resource) (m.amount v.to v.resource) m.left v

-- what the amount x of account a and resource r becomes: the sender's falls, the receiver's rises
abbrev pub shifted : Movement → ℕ → ℕ → ℕ → ℕ
shifted v a r x = cond (r == v.resource) (cond (a == v.from) (x - v.quantity) (cond (a == v.to) (x + v.quantity) x)) x

-- a movement made
abbrev pub moved : Meaning → Movement → Meaning
moved m v =
    record { accounts = m.accounts; resources = m.resources; amount = λ a r. shifted v a r (m.amount a r); holdback = m.holdback; left = m.left - 1 }

-- made if it is accepted
abbrev pub after : Meaning → Movement → Meaning
after m v = cond (is_ok (verdict m v)) (moved m v) m
