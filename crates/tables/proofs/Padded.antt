-- Tables whose used rows come first, by the list of their used rows. Assumes nothing.
use Rattle.std.proofs.Common.{◌≡◌, ℕ, suc, ◌+◌, ◌-◌, ◌<◌, ◌≤◌, Bool, true, false, cond, eqb, List, [], ◌∷◌, ◌++◌, map, length, get_or, set, replicate, sym, refl, ap, ◌∙◌, arith}
use Rattle.std.proofs.lemmas.List.{append_assoc, length-append, length-drop, length-map, length_push, length-set, length-take, set-append_left, set_at}
use Rattle.sharing.proofs.Scattered.{shared_keeps}
use Rattle.valuation.specs.declared.currency.Currency.{Currency}
use Rattle.valuation.specs.declared.price.Price.{Price}
use Rattle.memory.specs.declared.row.Line.{Line}
use Rattle.memory.specs.Rows.{no_line, padded}
use Rattle.memory.specs.Sound.{return_number}
use Rattle.memory.proofs.Filled.{take_padded, drop_padded, get_d_padded}
use Rattle.tables.specs.Rows.{removed, without, less_quantity, empties, lowered_at, lowered_in}
use Rattle.tables.specs.Values.{line_worth, on_deal, with_part, shared_out, shared_in}

-- of one of two
of_either : {X Y : Type 0} (f : X → Y) (b : Bool) (x y : X) → cond b (f x) (f y) ≡ f (cond b x y)
of_either f true x y = refl
of_either f false x y = refl

pub length_removed : {X : Type 0} (i : ℕ) (xs : List X) → i < length xs → length (removed i xs) ≡ length xs - 1
length_removed i xs h = simp (length-append, length-take, length-drop) (omega arith)

module _ {X : Type 0} (z : X) (n : ℕ) (us : List X) where
  -- a row more
  pub set_padded_end : (x : X) → length us < n → set (padded z n us) (length us) x ≡ padded z n (us ++ (x ∷ []))
  set_padded_end x h =
      let m = n - (length us + 1) in
      let one : n - length us ≡ suc m = omega arith in
      let rest : m ≡ n - length (us ++ (x ∷ [])) = omega (arith, length_push us x) in
      ap (λ k. set (us ++ replicate k z) (length us) x) one
      ∙ set_at us z (replicate m z) x (length us) refl
      ∙ sym (append_assoc us (x ∷ []) (replicate m z))
      ∙ ap (λ k. (us ++ (x ∷ [])) ++ replicate k z) rest

  -- another row at i
  pub set_padded : (i : ℕ) (x : X) → i < length us → set (padded z n us) i x ≡ padded z n (set us i x)
  set_padded i x h =
      set-append_left us (replicate (n - length us) z) i x h
      ∙ ap (λ k. set us i x ++ replicate (n - k) z) (sym (length-set us i x))

  -- the row at i gone
  pub without_padded : (i : ℕ) → i < length us → length us ≤ n → without z (length us) i (padded z n us) ≡ padded z n (removed i us)
  without_padded i h fits =
      let one : suc (n - length us) ≡ n - length (removed i us) = omega (arith, length_removed i us h) in
      (λ k. removed i (take_padded z n us k) ++ (z ∷ drop_padded z n us k)) ∙ ap (λ k. removed i us ++ replicate k z) one

module _ (worth : ℕ → ℕ → ℕ → ℕ) (currency : Currency) (ps : List Price) (m cash : ℕ) (us : List Line) where
  pub shared_numbers : map return_number (shared_out worth currency ps m cash us) ≡ map return_number us
  shared_numbers = shared_keeps (on_deal m) (line_worth worth currency ps) with_part cash us return_number (λ l p. refl)

  pub length_shared : length (shared_out worth currency ps m cash us) ≡ length us
  length_shared = sym (length-map (shared_out worth currency ps m cash us) return_number) ∙ ap length shared_numbers ∙ length-map us return_number

module _ (n : ℕ) (us : List Line) where
  pub lowered_padded : (i q : ℕ) → i < length us → length us ≤ n → lowered_in (length us) i q (padded no_line n us) ≡ padded no_line n (lowered_at i q us)
  lowered_padded i q h fits =
      let x = get_or us i no_line in
      let rows = padded no_line n us in
      ap (λ (l : Line). cond (eqb l.quantity q) (without no_line (length us) i rows) (set rows i (less_quantity q l))) (get_d_padded no_line n us i no_line h)
      ∙ (λ k. cond (empties i q us) (without_padded no_line n us i h fits k) (set_padded no_line n us i (less_quantity q x) h k))
      ∙ of_either (padded no_line n) (empties i q us) (removed i us) (set us i (less_quantity q x))

  pub shared_padded : (worth : ℕ → ℕ → ℕ → ℕ) (currency : Currency) (ps : List Price) (m cash : ℕ) → shared_in worth currency ps m cash (length us) (padded no_line n us) ≡ padded no_line n (shared_out worth currency ps m cash us)
  shared_padded worth currency ps m cash =
      (λ k. shared_out worth currency ps m cash (take_padded no_line n us k) ++ drop_padded no_line n us k)
      ∙ ap (λ k. shared_out worth currency ps m cash us ++ replicate (n - k) no_line) (sym (length_shared worth currency ps m cash us))
