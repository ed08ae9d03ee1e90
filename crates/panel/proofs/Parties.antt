-- The parties to a deal, by the place where its number is found. Assumes nothing.
use Rattle.std.proofs.Common.{◌≡◌, ℕ, zero, suc, ◌<◌, false, eqb, List, [], ◌∷◌, length, get_or, None, sym, refl, ap, ◌∙◌, arith}
use Rattle.std.proofs.lemmas.List.{length-map, get_or-map, length-take, get_or-take}
use Rattle.std.proofs.lemmas.Bool.{eq-eqb, ne_eqb, cond-true, cond-false}
use Rattle.memory.specs.declared.row.Deal.{Deal}
use Rattle.memory.specs.declared.row.Head.{Head}
use Rattle.memory.specs.Places.{Rising, place_of, deal_numbers, FoundAt}
use Rattle.memory.specs.Rows.{no_deal}
use Rattle.memory.specs.Sound.{number, used_deals}
use Rattle.memory.proofs.Halves.{place_none}
use Rattle.panel.specs.declared.party.Party.{Party}
use Rattle.panel.specs.Standing.{party_of, is_party}

module _ (p : Party) (account n : ℕ) where
  -- no deal has the number
  party_absent : (ds : List Deal) → ((j : ℕ) → j < length ds → (get_or ds j no_deal).number ≡ n → ⊥) → is_party p account n ds ≡ false
  unfolding is_party
  party_absent [] b = refl
  party_absent (d ∷ ds) b = cond-false _ _ _ (ne_eqb _ _ (b 0 (omega arith))) ∙ party_absent ds (λ j l. b (suc j) (omega arith))

  -- the deal at k is the first of the number
  party_first : (k : ℕ) (ds : List Deal) → k < length ds → (get_or ds k no_deal).number ≡ n → ((j : ℕ) → j < k → (get_or ds j no_deal).number ≡ n → ⊥) → is_party p account n ds ≡ eqb (party_of p (get_or ds k no_deal)) account
  unfolding is_party
  party_first k [] h e b = absurd (omega arith)
  party_first zero (d ∷ ds) h e b = cond-true _ _ _ (eq-eqb _ _ e)
  party_first (suc k) (d ∷ ds) h e b = cond-false _ _ _ (ne_eqb _ _ (b 0 (omega arith))) ∙ party_first k ds (omega arith) e (λ j l. b (suc j) (omega arith))

  module _ (h : Head) (deals : List Deal) (up : Rising (deal_numbers h deals)) where
    number_at : (j : ℕ) → j < length (used_deals h deals) → get_or (deal_numbers h deals) j 0 ≡ (get_or (used_deals h deals) j no_deal).number
    number_at j l = get_or-map number (used_deals h deals) j no_deal 0 l

    pub party_none : None ≡ place_of n (deal_numbers h deals) → false ≡ is_party p account n (used_deals h deals)
    party_none e =
        sym (party_absent (used_deals h deals) (λ j l is.
        place_none n (deal_numbers h deals) (sym e) j (let same = length-map (used_deals h deals) number in omega arith) (number_at j l ∙ is)))

    pub party_found : (k : ℕ) → FoundAt number deals h.used.deals n k → eqb (party_of p (get_or deals k no_deal)) account ≡ is_party p account n (used_deals h deals)
    party_found k f =
        let long = length-take h.used.deals deals in
        let same = length-map (used_deals h deals) number in
        let in' : k < length (used_deals h deals) = omega (arith, f.used, f.listed) in
        let is = get_or-take h.used.deals deals k no_deal f.used in
        sym (party_first k (used_deals h deals) in' (ap number is ∙ f.named no_deal) (λ j l e.
        let z = up j k l (omega arith) in
        omega (arith, number_at j (omega arith), number_at k in', ap number is, f.named no_deal))
        ∙ ap (λ (d : Deal). eqb (party_of p d) account) is)
