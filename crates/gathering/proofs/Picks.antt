-- What follows of picks that cover a need. Assumes nothing.
use Rattle.std.proofs.Common.{◌≡◌, ℕ, zero, suc, ◌+◌, ◌<◌, ◌≤◌, true, List, [], ◌∷◌, length, get_or, Some, sym, inl, inr, arith}
use Rattle.std.proofs.ByRecursion.{All-get_or}
use Rattle.std.proofs.lemmas.Bool.{cases_Bool}
use Rattle.std.proofs.lemmas.Bool.Decides.{nat_tests}
use Rattle.book.specs.Meaning.{Meaning, Lawful, within}
use Rattle.valuation.specs.declared.price.Price.{Price}
use Rattle.gathering.specs.declared.order.Order.{Order}
use Rattle.gathering.specs.declared.order.Pick.{Pick}
use Rattle.gathering.specs.Gathered.{gathered}
use Rattle.gathering.specs.Law.{Allowed, Rising, Covers}
use Rattle.gathering.proofs.Steps.{from_ended}

-- no two picks are of one security
pub rising_at : (picks : List Pick) → Rising picks → (i j : ℕ) (d : Pick) → i < j → j < length picks → (get_or picks i d).security < (get_or picks j d).security
rising_at [] r i j d h l = absurd (omega arith)
rising_at (x ∷ xs) r i zero d h l = absurd (omega arith)
rising_at (x ∷ xs) r zero (suc j) d h l = All-get_or (λ y. x.security < y.security) xs j d (omega arith) r.0
rising_at (x ∷ xs) r (suc i) (suc j) d h l = rising_at xs r.1 i j d (omega arith) (omega arith)

module _ (m : Meaning) (worth : ℕ → ℕ → ℕ → ℕ) (ps : List Price) (o : Order) (held : List ℕ) where
  -- no need is met by no picks, and a need by some
  pub gathered_nothing : o.need ≡ 0 → Some [] ≡ gathered m worth ps o held
  unfolding gathered
  gathered_nothing h = sym (from_ended m worth o held 0 o.need 0 ps h)

  pub covers_some : (picks : List Pick) → Covers m worth ps o held picks → 0 < o.need → 0 < length picks
  covers_some [] c pos = omega (arith, c.enough)
  covers_some (x ∷ xs) c pos = omega arith

  pub allowed_at : (picks : List Pick) → Covers m worth ps o held picks → (i : ℕ) (d : Pick) → i < length picks → Allowed m worth ps o held (get_or picks i d).security (get_or picks i d).quantity
  allowed_at picks c i d h = All-get_or (λ x. Allowed m worth ps o held x.security x.quantity) picks i d h c.allowed

  -- what may be taken is in the book, and leaves the holdback
  pub record InBook (s q : ℕ) : Type 0 where
    pub giver_in : o.giver < m.accounts
    pub security_in : s < m.resources
    pub enough : q + m.holdback o.giver s ≤ m.amount o.giver s

  pub in_book : Lawful m → (s q : ℕ) → Allowed m worth ps o held s q → InBook s q
  in_book lawful s q a =
      let some = a.some in
      let owned = a.owned in
      let inside : within m o.giver s ≡ true =
      elim (cases_Bool (within m o.giver s)) [ inl t ↦ t | inr f ↦ absurd (omega (arith, lawful.no_amounts o.giver s f)) ] in
      record { giver_in = grind (arith, nat_tests); security_in = grind (arith, nat_tests); enough = omega arith }
