-- Going over a list of values, line by line. Assumes nothing.
use Rattle.std.proofs.Common.{◌≡◌, ℕ, ◌+◌, ◌^◌, ◌<◌, ◌≤◌, Bool, true, false, cond, eqb, ltb, leb, List, [], ◌∷◌, ◌++◌, length, get_or, take, drop, set, Some, None, sym, refl, ap, ◌∙◌, arith}
use Rattle.std.proofs.lemmas.List.{at_drop_more, at_drop_all, drop_more, drop_all, take_more_set, take_all, append_assoc, append-nil, length-drop}
use Rattle.std.proofs.lemmas.Bool.{leb-true}
use Rattle.std.proofs.lemmas.Bool.Decides.{nat_tests}
use Rattle.sharing.specs.declared.share.Share.{Share}
use Rattle.sharing.specs.Limits.{most_cash}
use Rattle.sharing.specs.Parts.{total_of, line_part, parts_from, parts_of}
use Rattle.sharing.specs.Apportioned.{fitting}
use Rattle.sharing.specs.Shares.{terms_of, sharable}

module _ (vs : List ℕ) (i : ℕ) where
  pub total_more : i < length vs → total_of (drop i vs) ≡ get_or vs i 0 + total_of (drop (i + 1) vs)
  total_more h = at_drop_more total_of vs i 0 h

  pub total_all : length vs ≤ i → total_of (drop i vs) ≡ 0
  total_all h = at_drop_all total_of vs i h

-- a part that is written at its place
module _ (cash total : ℕ) (vs ps : List ℕ) (i before : ℕ) (within : i < length vs) (room : i < length ps) where
  last_is : eqb (i + 1) (length vs) ≡ eqb (length (drop (i + 1) vs)) 0
  last_is = let e = length-drop (i + 1) vs in grind (arith, nat_tests)

  pub part_more : (p : ℕ) → p ≡ line_part cash total before (get_or vs i 0) (eqb (i + 1) (length vs))
      → take (i + 1) (set ps i p) ++ parts_from cash total (before + get_or vs i 0) (drop (i + 1) vs) ≡ take i ps ++ parts_from cash total before (drop i vs)
  unfolding parts_from
  part_more p is =
      let rest = parts_from cash total (before + get_or vs i 0) (drop (i + 1) vs) in
      ap (λ t. t ++ rest) (take_more_set ps i p room)
      ∙ append_assoc (take i ps) (p ∷ []) rest
      ∙ ap (λ q. take i ps ++ (q ∷ rest)) (is ∙ ap (line_part cash total before (get_or vs i 0)) last_is)
      ∙ sym (ap (λ t. take i ps ++ parts_from cash total before t) (drop_more vs i 0 within))

-- every place is written
pub parts_all : (cash total : ℕ) (vs ps : List ℕ) (i before : ℕ) → length vs ≤ i → length ps ≡ length vs
    → take i ps ++ parts_from cash total before (drop i vs) ≡ ps
unfolding parts_from
parts_all cash total vs ps i before h same =
    ap (λ t. take i ps ++ parts_from cash total before t) (drop_all i vs h) ∙ append-nil (take i ps) ∙ take_all i ps (omega arith)

-- ── what the answers of the calls say ──

some_cond : {A : Type 0} (b : Bool) (x y : A) → Some x ≡ cond b (Some y) None → (b ≡ true) × (x ≡ y)
some_cond true x y h = (refl, (cc))
some_cond false x y h = absurd (let z : ◌≡◌ {A = ℕ} 0 1 = cc in omega arith)

-- what a share that was made is of
pub made_of : (s : Share) (cash total : ℕ) → Some (terms_of s) ≡ sharable cash total → (cash ≤ most_cash) × (s.cash ≡ cash) × (s.total ≡ total)
made_of s cash total h =
    let e = some_cond (leb cash most_cash) (terms_of s) (cash, total) h in
    (leb-true cash most_cash e.0, ap (λ (p : ℕ × ℕ). p.0) e.1, ap (λ (p : ℕ × ℕ). p.1) e.1)

-- what stands at the end of the walk over a list that is not refused
pub walk_ends : (s : Share) (cash t : ℕ) (vs qs : List ℕ) (i before : ℕ) → length vs ≤ i → length qs ≡ length vs
    → Some t ≡ fitting (total_of vs) → Some (terms_of s) ≡ sharable cash t
    → take i qs ++ parts_from s.cash s.total before (drop i vs) ≡ parts_from s.cash s.total 0 vs → qs ≡ parts_of cash vs
walk_ends s cash t vs qs i before end same sum made walked =
    let terms = made_of s cash t made in
    let total = some_cond (ltb (total_of vs) (2 ^ 64)) t (total_of vs) sum in
    sym (parts_all s.cash s.total vs qs i before end same) ∙ walked ∙ (λ k. parts_from (terms.1 k) ((terms.2 ∙ total.1) k) 0 vs)
