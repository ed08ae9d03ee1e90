-- What a gathering comes to, in the words of the subject.
use Rattle.std.specs.Prelude.{◌≡◌, ℕ, ◌+◌, ◌-◌, ◌/◌, ◌<◌, ◌≤◌, true, cond, List, [], ◌∷◌, ◌++◌, map, length, take, slice_index, slice_index_or}
use Rattle.std.specs.List.{AllByRecursion as Each}
use Rattle.book.specs.Meaning.{Meaning, free}
use Rattle.valuation.specs.declared.price.Price.{Price}
use Rattle.valuation.specs.Most.{most_units}
use Rattle.valuation.specs.Prices.{no_price}
use Rattle.gathering.specs.declared.order.Order.{Order}
use Rattle.gathering.specs.declared.order.Pick.{Pick}
use Rattle.gathering.specs.Baskets.{most_picks}
use Rattle.gathering.specs.Taking.{eligible, value_of, security_at, most_of, passed_over}

-- ── by the number of a security ──

abbrev pub record_of : List Price → ℕ → Price
record_of ps s = slice_index_or ps (s - 3) no_price

-- what the deal's own lines in it are worth
abbrev pub held_in : List ℕ → ℕ → ℕ
held_in held s = slice_index held (s - 3)

-- what a quantity of it is worth
abbrev pub worth_in : (ℕ → ℕ → ℕ → ℕ) → List Price → Order → ℕ → ℕ → ℕ
worth_in worth ps o s q = value_of worth o (record_of ps s) q

-- the most that may be taken of it
abbrev pub most_in : Meaning → (ℕ → ℕ → ℕ → ℕ) → List Price → Order → List ℕ → ℕ → ℕ
most_in m worth ps o held s = most_of m worth o held (record_of ps s) (s - 3)

-- a quantity q that may be taken of security s
pub record Allowed (m : Meaning) (worth : ℕ → ℕ → ℕ → ℕ) (ps : List Price) (o : Order) (held : List ℕ) (s q : ℕ) : Type 0 where
  pub low : 3 ≤ s
  pub listed : s < 3 + length ps
  pub admitted : eligible o (record_of ps s) ≡ true
  pub some : 1 ≤ q
  pub bounded : q ≤ most_units
  pub owned : q ≤ free m o.giver s
  pub limited : o.limit ≡ true → worth_in worth ps o s q + held_in held s ≤ o.target / 10

-- ── picks ──

abbrev pub total : List ℕ → ℕ
total [] = 0
total (v ∷ vs) = v + total vs

abbrev pub value_of_all : (ℕ → ℕ → ℕ → ℕ) → List Price → Order → List Pick → ℕ
value_of_all worth ps o picks = total (map (λ x. worth_in worth ps o x.security x.quantity) picks)

-- each security is below those after it
abbrev pub Rising : List Pick → Type 0
Rising [] = Unit {0}
Rising (x ∷ xs) = Each (λ y. x.security < y.security) xs × Rising xs

-- the securities that are not passed over, by rising number, from the record at place k on
unfoldable pub takeable_from : Meaning → (ℕ → ℕ → ℕ → ℕ) → Order → List ℕ → ℕ → List Price → List ℕ
takeable_from m worth o held k [] = []
takeable_from m worth o held k (p ∷ ps) =
    cond (passed_over m worth o held p k) (takeable_from m worth o held (k + 1) ps) (security_at k ∷ takeable_from m worth o held (k + 1) ps)

abbrev pub takeable : Meaning → (ℕ → ℕ → ℕ → ℕ) → List Price → Order → List ℕ → List ℕ
takeable m worth ps o held = takeable_from m worth o held 0 ps

-- before the last pick the most is taken of each security, and with one unit less of the last one a need is not covered
pub record Ends (m : Meaning) (worth : ℕ → ℕ → ℕ → ℕ) (ps : List Price) (o : Order) (held : List ℕ) (need : ℕ) (before : List Pick) (last : Pick) : Type 0 where
  pub whole : Each (λ x. x.quantity ≡ most_in m worth ps o held x.security) before
  pub tight : value_of_all worth ps o before + worth_in worth ps o last.security (last.quantity - 1) < need

-- picks that cover the need of an order: each may be taken, no security that could be taken is left out between them, and no unit of the last one can be spared
pub record Covers (m : Meaning) (worth : ℕ → ℕ → ℕ → ℕ) (ps : List Price) (o : Order) (held : List ℕ) (picks : List Pick) : Type 0 where
  pub rising : Rising picks
  pub allowed : Each (λ x. Allowed m worth ps o held x.security x.quantity) picks
  pub few : length picks ≤ most_picks
  pub enough : o.need ≤ value_of_all worth ps o picks
  pub in_turn : map (λ x. x.security) picks ≡ take (length picks) (takeable m worth ps o held)
  pub ends : (before : List Pick) (last : Pick) → picks ≡ before ++ (last ∷ []) → Ends m worth ps o held o.need before last

-- the most of each of the first 99 securities that are not passed over is together worth less than the need
abbrev pub Fails : Meaning → (ℕ → ℕ → ℕ → ℕ) → List Price → Order → List ℕ → Type 0
Fails m worth ps o held = total (map (λ s. worth_in worth ps o s (most_in m worth ps o held s)) (take most_picks (takeable m worth ps o held))) < o.need
