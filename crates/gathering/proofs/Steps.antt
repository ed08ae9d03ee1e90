-- One security more. Assumes nothing.
use Rattle.std.proofs.Common.{◌≡◌, ℕ, ◌+◌, ◌-◌, ◌<◌, ◌≤◌, true, false, leb, List, [], ◌∷◌, ◌++◌, length, get_or, drop, Some, None, Option, sym, refl, ap, ◌∙◌, arith}
use Rattle.std.proofs.lemmas.List.{append_assoc, append-nil, length_push, at_drop_more, at_drop_all}
use Rattle.std.proofs.lemmas.Bool.Decides.{nat_tests}
use Rattle.std.specs.Option.{option_map}
use Rattle.book.specs.Meaning.{Meaning}
use Rattle.valuation.specs.declared.price.Price.{Price}
use Rattle.valuation.specs.Prices.{no_price}
use Rattle.gathering.specs.declared.order.Order.{Order}
use Rattle.gathering.specs.declared.order.Pick.{Pick}
use Rattle.gathering.specs.declared.taking.Taken.{Taken}
use Rattle.gathering.specs.Baskets.{most_picks}
use Rattle.gathering.specs.Taking.{taken_at}
use Rattle.gathering.specs.Gathered.{gathered_from, gathered, completed}

mapped_after : (xs : List Pick) (x : Pick) (o : Option (List Pick)) → option_map (λ more. (xs ++ (x ∷ [])) ++ more) o ≡ option_map (λ more. xs ++ more) (option_map (λ more. x ∷ more) o)
mapped_after xs x None = refl
mapped_after xs x (Some ys) = ap Some (append_assoc xs (x ∷ []) ys)

mapped_none : (o : Option (List Pick)) → option_map (λ more. [] ++ more) o ≡ o
mapped_none None = refl
mapped_none (Some ys) = refl

module _ (m : Meaning) (worth : ℕ → ℕ → ℕ → ℕ) (o : Order) (held : List ℕ) where
  -- nothing is open
  pub from_ended : (k need count : ℕ) (ps : List Price) → need ≡ 0 → gathered_from m worth o held k need count ps ≡ Some []
  unfolding gathered_from
  from_ended k need count [] h = grind (arith, nat_tests)
  from_ended k need count (p ∷ ps) h = grind (arith, nat_tests)

  -- no more securities may be taken
  from_full : (k need count : ℕ) (ps : List Price) → (need ≡ 0 → ⊥) → most_picks ≤ count → gathered_from m worth o held k need count ps ≡ None
  unfolding gathered_from
  from_full k need count [] h full = grind (arith, nat_tests)
  from_full k need count (p ∷ ps) h full = grind (arith, nat_tests)

  -- the record at k is passed over, or something is taken of its security
  from_passed : (k need count : ℕ) (p : Price) (ps : List Price) → (need ≡ 0 → ⊥) → count < most_picks → None ≡ taken_at m worth o held p k need → gathered_from m worth o held k need count (p ∷ ps) ≡ gathered_from m worth o held (k + 1) need count ps
  unfolding gathered_from
  from_passed k need count p ps h few none = grind (arith, nat_tests)

  from_taken : (k need count : ℕ) (p : Price) (ps : List Price) (t : Taken) → (need ≡ 0 → ⊥) → count < most_picks → Some t ≡ taken_at m worth o held p k need
      → gathered_from m worth o held k need count (p ∷ ps) ≡ option_map (λ more. t.pick ∷ more) (gathered_from m worth o held (k + 1) (need - t.worth) (count + 1) ps)
  unfolding gathered_from
  from_taken k need count p ps t h few some = grind (arith, nat_tests)

  module _ (ps : List Price) (k need : ℕ) (picks : List Pick) where
    -- a turn of the course: nothing is open, the basket is full, the security is passed over, or something is taken of it
    pub ended_more : need ≡ 0 → completed m worth ps o held (k + 1) need picks ≡ completed m worth ps o held k need picks
    unfolding completed
    ended_more h = ap (option_map (λ more. picks ++ more)) (from_ended (k + 1) need (length picks) (drop (k + 1) ps) h ∙ sym (from_ended k need (length picks) (drop k ps) h))

    pub full_more : (need ≡ 0 → ⊥) → true ≡ leb most_picks (length picks) → completed m worth ps o held (k + 1) need picks ≡ completed m worth ps o held k need picks
    unfolding completed
    full_more h full =
        let n : most_picks ≤ length picks = grind (arith, nat_tests) in
        ap (option_map (λ more. picks ++ more)) (from_full (k + 1) need (length picks) (drop (k + 1) ps) h n ∙ sym (from_full k need (length picks) (drop k ps) h n))

    module _ (h : need ≡ 0 → ⊥) (room : false ≡ leb most_picks (length picks)) (listed : k < length ps) where
      few : length picks < most_picks
      few = grind (arith, nat_tests)

      first : gathered_from m worth o held k need (length picks) (drop k ps) ≡ gathered_from m worth o held k need (length picks) (get_or ps k no_price ∷ drop (k + 1) ps)
      first = at_drop_more (gathered_from m worth o held k need (length picks)) ps k no_price listed

      pub passed_more : None ≡ taken_at m worth o held (get_or ps k no_price) k need → completed m worth ps o held (k + 1) need picks ≡ completed m worth ps o held k need picks
      unfolding completed
      passed_more none =
          ap (option_map (λ more. picks ++ more)) (sym (first ∙ from_passed k need (length picks) (get_or ps k no_price) (drop (k + 1) ps) h few none))

      pub taken_more : (t : Taken) (need' : ℕ) (picks' : List Pick) → Some t ≡ taken_at m worth o held (get_or ps k no_price) k need → need' ≡ need - t.worth → picks' ≡ picks ++ (t.pick ∷ [])
          → completed m worth ps o held (k + 1) need' picks' ≡ completed m worth ps o held k need picks
      unfolding completed
      taken_more t need' picks' some left put =
          rw (left, put, length_push picks t.pick)
          (mapped_after picks t.pick (gathered_from m worth o held (k + 1) (need - t.worth) (length picks + 1) (drop (k + 1) ps))
          ∙ ap (option_map (λ more. picks ++ more)) (sym (first ∙ from_taken k need (length picks) (get_or ps k no_price) (drop (k + 1) ps) t h few some)))

  module _ (ps : List Price) (need : ℕ) (picks : List Pick) (whole : completed m worth ps o held (length ps) need picks ≡ completed m worth ps o held 0 o.need []) where
    is_gathered : option_map (λ more. picks ++ more) (gathered_from m worth o held (length ps) need (length picks) []) ≡ gathered m worth ps o held
    unfolding completed gathered
    is_gathered =
        sym (ap (option_map (λ more. picks ++ more)) (at_drop_all (gathered_from m worth o held (length ps) need (length picks)) ps (length ps) (omega arith)))
        ∙ whole ∙ mapped_none (gathered_from m worth o held 0 o.need 0 ps)

    -- the end of the course
    pub covered_all : need ≡ 0 → Some picks ≡ gathered m worth ps o held
    covered_all h = ap Some (sym (append-nil picks)) ∙ sym (ap (option_map (λ more. picks ++ more)) (from_ended (length ps) need (length picks) [] h)) ∙ is_gathered

    pub open_all : (need ≡ 0 → ⊥) → None ≡ gathered m worth ps o held
    unfolding gathered_from
    open_all h = let e : gathered_from m worth o held (length ps) need (length picks) [] ≡ None = grind (arith, nat_tests) in sym (ap (option_map (λ more. picks ++ more)) e) ∙ is_gathered
