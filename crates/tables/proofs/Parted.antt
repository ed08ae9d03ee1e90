-- The lines of a deal, one by one, with their parts. Assumes nothing.
use Rattle.std.proofs.Common.{◌≡◌, ℕ, ◌+◌, ◌-◌, ◌<◌, ◌≤◌, Bool, true, false, cond, ◌&&◌, eqb, leb, List, ◌∷◌, ◌++◌, length, get_or, take, drop, set, count_by, Some, sym, refl, ap, ◌∙◌, subst, inl, inr, arith}
use Rattle.std.proofs.lemmas.Bool.{cases_Bool, and_from, and_right, cond-true, cond-false, le-leb}
use Rattle.std.proofs.lemmas.List.{take-append-drop, set-get_or}
use Rattle.std.proofs.lemmas.List.Recursion.{is_count_by}
use Rattle.memory.specs.declared.row.Line.{Line}
use Rattle.memory.specs.Rows.{no_line}
use Rattle.sharing.specs.declared.share.Share.{Share}
use Rattle.sharing.specs.Limits.{most_cash}
use Rattle.sharing.specs.Parts.{line_part}
use Rattle.sharing.specs.Shares.{terms_of, sharable}
use Rattle.sharing.specs.Tables.{picked}
use Rattle.sharing.proofs.Scattered.{shared_mine, shared_other, walk_some, walk_room, walk_last, walk_mine, walk_other}
use Rattle.sharing.proofs.Walks.{made_of}
use Rattle.valuation.specs.declared.currency.Currency.{Currency}
use Rattle.valuation.specs.declared.price.Price.{Price}
use Rattle.tables.specs.declared.sharing_out.Walk.{Walk}
use Rattle.tables.specs.Rows.{fits}
use Rattle.tables.specs.Values.{line_worth, deal_worth, on_deal, with_part, shared_out, shared_in}
use Rattle.tables.specs.Walks.{Reached, walked}
use Rattle.tables.proofs.Worths.{deal_total}

-- how many lines a deal has
counted_on : (f : Line → ℕ) (n : ℕ) (ls : List Line) → count_by (on_deal n) ls ≡ length (picked (on_deal n) f ls)
counted_on f n ls = sym (is_count_by (λ zs. length (picked (on_deal n) f zs)) (on_deal n) refl (λ x xs. one_more (on_deal n x) (f x) (picked (on_deal n) f xs)) ls)
  where
    one_more : (b : Bool) (v : ℕ) (vs : List ℕ) → length (cond b (v ∷ vs) vs) ≡ cond b (1 + length vs) (length vs)
    one_more true v vs = omega arith
    one_more false v vs = refl

-- ── the line at place i of a walk ──

module _ (worth : ℕ → ℕ → ℕ → ℕ) (currency : Currency) (ps : List Price) (n total : ℕ) (ls : List Line) (i : ℕ) (w : Walk) (within : i < length ls) (r : Reached worth currency ps n total ls i w) where
  pub part_room : on_deal n (get_or ls i no_line) ≡ true → (w.before + line_worth worth currency ps (get_or ls i no_line) ≤ total) × (1 ≤ w.left)
  part_room own = (
    walk_room (on_deal n) (line_worth worth currency ps) total ls i no_line within w.before w.left r.rest r.count own,
    walk_some (on_deal n) (line_worth worth currency ps) total ls i no_line within w.before w.left r.rest r.count own,
  )

  module _ (cash : ℕ) where
    -- the walk goes on, with another line at i
    abbrev pub GoesOn : Line → Walk → Type 0
    GoesOn y w' = Reached worth currency ps n total (set ls i y) (i + 1) w' × (walked worth currency ps n cash total w'.before (i + 1) (set ls i y) ≡ walked worth currency ps n cash total w.before i ls)

    part_other : on_deal n (get_or ls i no_line) ≡ false → GoesOn (get_or ls i no_line) w
    part_other e =
        let on = walk_other (on_deal n) (line_worth worth currency ps) total ls i no_line within w.before w.left r.rest r.count e in
        subst (λ (zs : List Line). Reached worth currency ps n total zs (i + 1) w × (walked worth currency ps n cash total w.before (i + 1) zs ≡ walked worth currency ps n cash total w.before i ls)) (sym (set-get_or ls i no_line))
        (record { rest = on.0; count = on.1 }, shared_other (on_deal n) (line_worth worth currency ps) with_part cash total ls i no_line within w.before e)

    part_mine : on_deal n (get_or ls i no_line) ≡ true → GoesOn (with_part (get_or ls i no_line) (line_part cash total w.before (line_worth worth currency ps (get_or ls i no_line)) (eqb w.left 1))) (record { before = w.before + line_worth worth currency ps (get_or ls i no_line); left = w.left - 1 })
    part_mine t =
        let x = get_or ls i no_line in
        let mine = on_deal n in
        let value = line_worth worth currency ps in
        let y = with_part x (line_part cash total w.before (value x) (eqb w.left 1)) in
        let on = walk_mine mine value total ls i no_line within w.before w.left r.rest r.count t y in
        let last = walk_last mine value total ls i no_line within w.before w.left r.rest r.count t in
        (record { rest = on.0; count = on.1 }, shared_mine mine value with_part cash total ls i no_line within w.before t (eqb w.left 1) last y refl)

    pub part_step : (y : Line) (w' : Walk)
        → y ≡ cond (on_deal n (get_or ls i no_line)) (with_part (get_or ls i no_line) (line_part cash total w.before (line_worth worth currency ps (get_or ls i no_line)) (eqb w.left 1))) (get_or ls i no_line)
        → w' ≡ cond (on_deal n (get_or ls i no_line)) (record { before = w.before + line_worth worth currency ps (get_or ls i no_line); left = w.left - 1 }) w
        → GoesOn y w'
    part_step y w' put on =
        elim (cases_Bool (on_deal n (get_or ls i no_line))) [
          | inl t ↦ subst (λ (p : Line × Walk). GoesOn p.0 p.1) (λ k. (sym (put ∙ cond-true _ _ _ t) k, sym (on ∙ cond-true _ _ _ t) k)) (part_mine t)
          | inr e ↦ subst (λ (p : Line × Walk). GoesOn p.0 p.1) (λ k. (sym (put ∙ cond-false _ _ _ e) k, sym (on ∙ cond-false _ _ _ e) k)) (part_other e)
        ]

-- ── where a walk begins and ends ──

module _ (worth : ℕ → ℕ → ℕ → ℕ) (currency : Currency) (ps : List Price) (n : ℕ) (ls : List Line) (cash total left : ℕ) (s : Share) (sum : total ≡ deal_worth worth currency ps n ls) (made : Some (terms_of s) ≡ sharable cash total) where
  pub walk_starts : left ≡ count_by (on_deal n) ls → Reached worth currency ps n s.total ls 0 (record { before = 0; left = left })
  walk_starts count =
      record {
        rest = omega (arith, deal_total worth currency ps n ls, (made_of s cash total made).2);
        count = count ∙ counted_on (line_worth worth currency ps) n ls;
      }

  pub walk_ends : (after : List Line) → after ≡ walked worth currency ps n s.cash s.total 0 0 ls → (true ≡ leb cash most_cash) × (after ≡ cond (leb cash most_cash) (shared_out worth currency ps n cash ls) ls)
  walk_ends after is =
      let of = made_of s cash total made in
      let few = le-leb cash most_cash of.0 in
      (sym few, is ∙ (λ i. walked worth currency ps n (of.1 i) ((of.2 ∙ sum ∙ deal_total worth currency ps n ls) i) 0 0 ls) ∙ sym (cond-true (leb cash most_cash) _ ls few))

-- the used lines with their parts, before the others
pub shared_front : (worth : ℕ → ℕ → ℕ → ℕ) (currency : Currency) (ps : List Price) (n cash used : ℕ) (rows front : List Line) → fits 1024 used rows ≡ true
    → front ≡ cond (leb cash most_cash) (shared_out worth currency ps n cash (take used rows)) (take used rows)
    → front ++ drop used rows ≡ cond (fits 1024 used rows && leb cash most_cash) (shared_in worth currency ps n cash used rows) rows
shared_front worth currency ps n cash used rows front fit is =
    elim (cases_Bool (leb cash most_cash)) [
      | inl t ↦ ap (λ ls. ls ++ drop used rows) (is ∙ cond-true _ _ _ t) ∙ sym (cond-true _ _ _ (and_from _ _ fit t))
      | inr e ↦ ap (λ ls. ls ++ drop used rows) (is ∙ cond-false _ _ _ e) ∙ take-append-drop used rows ∙ sym (cond-false _ _ _ (and_right (fits 1024 used rows) _ e))
    ]
