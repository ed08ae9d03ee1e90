-- Tables that stay filled. Assumes nothing.
use Rattle.std.proofs.Common.{◌≡◌, ℕ, ◌+◌, ◌-◌, ◌<◌, ◌≤◌, false, cond, ltb, ◌⊎◌, List, [], ◌∷◌, ◌++◌, map, length, get_or, take, drop, set, sym, refl, ap, ◌∙◌, subst, inl, inr, ⊎_elim, add-one, arith}
use Rattle.std.proofs.lemmas.List.Edits.{get_or-remove_below, get_or-remove_above}
use Rattle.std.proofs.ByRecursion.{All-append, All-drop, All-get_or, all-has, all_has_itself, All-push, All-set, All-take, All-weaker}
use Rattle.std.proofs.lemmas.List.{drop-map, get_or_default, get_or-map, get_or_append_left, get_or_push, get_or-take, length-map, length_push, length-set, length-take-le, map-append, map_push, map-set, set-get_or, take-map}
use Rattle.std.proofs.lemmas.Bool.{cases_lt, cond-true, cond-false, lt-ltb, le-ltb}
use Rattle.std.proofs.lemmas.Bool.Decides.{nat_tests}
use Rattle.std.specs.List.{ContainsAt as Has, AllByRecursion as Each}
use Rattle.memory.specs.declared.row.Line.{Line}
use Rattle.memory.specs.Places.{Rising}
use Rattle.memory.specs.Register.{Filled}
use Rattle.memory.specs.Rows.{no_line, padded}
use Rattle.memory.specs.Sound.{return_number}
use Rattle.memory.proofs.Filled.{filled_padded}
use Rattle.tables.specs.Rows.{removed, without, less_quantity, empties}
use Rattle.tables.specs.Stays.{StaysFilled, AddsFilled, RemovesFilled, LowersFilled}
use Rattle.valuation.specs.declared.currency.Currency.{Currency}
use Rattle.valuation.specs.declared.price.Price.{Price}
use Rattle.tables.specs.Values.{shared_out, shared_in}
use Rattle.tables.proofs.Padded.{length_removed, set_padded_end, set_padded, without_padded, shared_numbers, length_shared, shared_padded}

-- ── numbers that rise ──

pub rising_push : (ns : List ℕ) (n : ℕ) → Rising ns → ((k : ℕ) → k < length ns → get_or ns k 0 < n) → Rising (ns ++ (n ∷ []))
rising_push ns n up below j k l h =
    let long = length_push ns n in
    let first : get_or (ns ++ (n ∷ [])) j 0 ≡ get_or ns j 0 = get_or_append_left ns (n ∷ []) 0 j (omega arith) in
    elim (cases_lt k (length ns)) [
      | inl a ↦ omega (arith, first, get_or_append_left ns (n ∷ []) 0 k a, up j k l a)
      | inr a ↦
          let end : length ns ≡ k = omega arith in
          omega (arith, first, get_or_push ns n 0 k end, below j (omega arith))
    ]

-- the place that a row came from
abbrev from : ℕ → ℕ → ℕ
from i k = cond (ltb k i) k (k + 1)

get_d_removed : (ns : List ℕ) (i k : ℕ) → i < length ns → get_or (removed i ns) k 0 ≡ get_or ns (from i k) 0
get_d_removed ns i k h =
    ap (λ n. get_or (take i ns ++ drop n ns) k 0) (add-one i)
    ∙ elim (cases_lt k i) [
      | inl a ↦ get_or-remove_below ns i 0 k a h ∙ ap (λ n. get_or ns n 0) (sym (cond-true _ _ _ (lt-ltb k i a)))
      | inr a ↦ get_or-remove_above ns i 0 k a h ∙ ap (λ n. get_or ns n 0) (sym (cond-false _ _ _ (le-ltb k i a)))
    ]

pub rising_removed : (i : ℕ) (ns : List ℕ) → i < length ns → Rising ns → Rising (removed i ns)
rising_removed i ns within up j k l h =
    let long = length_removed i ns within in
    let apart : from i j < from i k = grind (arith, nat_tests) in
    let listed : from i k < length ns = grind (arith, nat_tests) in
    omega (arith, get_d_removed ns i j within, get_d_removed ns i k within, up (from i j) (from i k) apart listed)

-- a row of the same number
pub rising_set : {X : Type 0} (key : X → ℕ) (i : ℕ) (x : X) (us : List X) → i < length us → key x ≡ key (get_or us i x) → Rising (map key us) → Rising (map key (set us i x))
rising_set key i x us h same up =
    let stays : set (map key us) i (key x) ≡ map key us = ap (set (map key us) i) (same ∙ sym (get_or-map key us i x 0 h)) ∙ set-get_or (map key us) i 0 in
    subst Rising (sym (map-set key us i x ∙ stays)) up

-- ── tables ──

-- what a fact of a count and a table says of others that they are
along : {X : Type 0} (P : ℕ → List X → Type 0) {n n' : ℕ} {rows rows' : List X} → n ≡ n' → rows ≡ rows' → P n rows → P n' rows'
along {X} P same is p = subst (λ (q : ℕ × List X). P q.0 q.1) (λ i. (same i, is i)) p

-- another fact of each row
filled_by : {X : Type 0} {key : X → ℕ} {z : X} {most used : ℕ} {rows : List X} {P : X → Type 0} (Q : X → Type 0) → Each Q (take used rows) → Filled key P z most used rows → Filled key Q z most used rows
filled_by Q each f = record { some = f.some; few = f.few; within = f.within; rise = f.rise; each = each; spare = f.spare }

module _ {X : Type 0} {key : X → ℕ} {z : X} {most used : ℕ} {rows : List X} where
  pub filled_weaker : {P : X → Type 0} (Q : X → Type 0) → ((x : X) → P x → Q x) → Filled key P z most used rows → Filled key Q z most used rows
  filled_weaker {P} Q to f = filled_by Q (All-weaker P Q to (take used rows) f.each) f

  -- each used row is one of them
  pub filled_itself : (New : X → Type 0) → StaysFilled key z most New used rows used rows
  filled_itself New f =
      let us = take used rows in
      filled_by (λ x. Has us x ⊎ New x) (All-weaker (Has us) (λ x. Has us x ⊎ New x) (λ x h. inl h) us (all_has_itself us)) f

  -- what holds of each row before, and of the new ones, holds of each row after
  pub stays_holding : (New Holds : X → Type 0) (used' : ℕ) (rows' : List X) → StaysFilled key z most New used rows used' rows' → ((x : X) → New x → Holds x) → Filled key Holds z most used rows → Filled key Holds z most used' rows'
  stays_holding New Holds used' rows' stays new f =
      let either : (x : X) → Has (take used rows) x ⊎ New x → Holds x = λ x. ⊎_elim (all-has Holds (take used rows) x f.each) (new x) in
      let after = stays (filled_by (λ _. Unit {0}) (All-weaker Holds (λ _. Unit {0}) (λ _ _. tt) (take used rows) f.each) f) in
      filled_by Holds (All-weaker (λ x. Has (take used rows) x ⊎ New x) Holds either (take used' rows') after.each) after

  module _ {Holds : X → Type 0} (f : Filled key Holds z most used rows) where
    refill : (P : X → Type 0) (vs : List X) (used' : ℕ) (rows' : List X) → length vs ≡ used' → length vs ≤ length rows → padded z (length rows) vs ≡ rows' → Rising (map key vs) → Each P vs → Filled key P z most used' rows'
    refill P vs used' rows' long room is up each = along (Filled key P z most) long is (filled_padded z (length rows) vs key P most f.some f.few room up each)

    -- a row more
    pub add_filled : (x : X) → used < length rows → Each (λ y. key y < key x) (take used rows) → Holds x → Filled key Holds z most (used + 1) (set rows used x)
    add_filled x room above holds =
        let us = take used rows in
        let long = length-take-le used rows f.within in
        let below : (k : ℕ) → k < length (map key us) → get_or (map key us) k 0 < key x =
        λ k h. let h' : k < length us = omega (arith, length-map us key) in omega (arith, get_or-map key us k x 0 h', All-get_or (λ y. key y < key x) us k x h' above) in
        refill Holds (us ++ (x ∷ [])) (used + 1) (set rows used x) (length_push us x ∙ ap (λ n. n + 1) long) (omega (arith, length_push us x))
        (sym (set_padded_end z (length rows) us x (omega arith)) ∙ (λ i. set (sym f.spare i) (long i) x))
        (subst Rising (sym (map_push key us x)) (rising_push (map key us) (key x) f.rise below))
        (All-push Holds us x f.each holds)

    -- the row at i gone
    pub remove_filled : (i : ℕ) → i < used → Filled key Holds z most (used - 1) (without z used i rows)
    remove_filled i h =
        let us = take used rows in
        let long = length-take-le used rows f.within in
        let listed : i < length us = omega arith in
        let keys : map key (removed i us) ≡ removed i (map key us) = map-append key (take i us) (drop (i + 1) us) ∙ (λ k. sym (take-map key i us) k ++ sym (drop-map key (i + 1) us) k) in
        refill Holds (removed i us) (used - 1) (without z used i rows) (length_removed i us listed ∙ ap (λ n. n - 1) long) (omega (arith, f.within, length_removed i us listed))
        (sym (without_padded z (length rows) us i listed (omega (arith, f.within))) ∙ (λ k. without z (long k) i (sym f.spare k)))
        (subst Rising (sym keys) (rising_removed i (map key us) (omega (arith, length-map us key)) f.rise))
        (All-append Holds (take i us) (drop (i + 1) us) (All-take Holds i us f.each) (All-drop Holds (i + 1) us f.each))

    -- another row of the same number at i
    pub set_filled : (i : ℕ) (x : X) → i < used → key x ≡ key (get_or rows i x) → Holds x → Filled key Holds z most used (set rows i x)
    set_filled i x h same holds =
        let us = take used rows in
        let long = length-take-le used rows f.within in
        let listed : i < length us = omega arith in
        refill Holds (set us i x) used (set rows i x) (length-set us i x ∙ long) (omega (arith, f.within, length-set us i x))
        (sym (set_padded z (length rows) us i x listed) ∙ ap (λ rs. set rs i x) (sym f.spare))
        (rising_set key i x us listed (same ∙ ap key (sym (get_or-take used rows i x h))) f.rise)
        (All-set Holds us i x holds f.each)

-- ── what the calls leave ──

module _ {X : Type 0} {key : X → ℕ} {z : X} {most used : ℕ} {rows : List X} where
  pub adds_filled : (x : X) (n count : ℕ) → n ≡ used → count ≡ n + 1 → n < length rows → AddsFilled key z most x used rows count (set rows n x)
  adds_filled x n count is more room above f =
      let New : X → Type 0 = λ y. y ≡ x in
      let more' : used + 1 ≡ count = omega arith in
      along (Filled key (λ y. Has (take used rows) y ⊎ New y) z most) more' (ap (λ m. set rows m x) (sym is)) (add_filled (filled_itself New f) x (omega arith) above (inr refl))

  pub removes_filled : (i n count : ℕ) (rows' : List X) → n ≡ used → count ≡ n - 1 → i < n → rows' ≡ without z n i rows → RemovesFilled key z most used rows count rows'
  removes_filled i n count rows' is less h gone f =
      let New : X → Type 0 = λ _. ⊥ in
      let less' : used - 1 ≡ count = omega arith in
      along (Filled key (λ y. Has (take used rows) y ⊎ New y) z most) less' (ap (λ m. without z m i rows) (sym is) ∙ sym gone) (remove_filled (filled_itself New f) i (omega arith))

  -- with new rows or none
  pub stays_other : (New : X → Type 0) (used' : ℕ) (rows' : List X) → RemovesFilled key z most used rows used' rows' → StaysFilled key z most New used rows used' rows'
  stays_other New used' rows' gone f = filled_weaker (λ y. Has (take used rows) y ⊎ New y) (λ y. ⊎_elim (λ h. inl h) (λ h. absurd h)) (gone f)

-- a line that sends back less than it has
pub lowers_filled : (rows : List Line) (i q used : ℕ) (low : Line) → i < used → empties i q rows ≡ false → low ≡ less_quantity q (get_or rows i no_line) → LowersFilled i q used rows used (set rows i low)
lowers_filled rows i q used low h rest is f =
    let same : low.number ≡ (get_or rows i low).number = ap (λ (l : Line). l.number) (is ∙ ap (less_quantity q) (get_or_default rows i no_line low (omega (arith, f.within)))) in
    set_filled (filled_itself (λ (l : Line). (empties i q rows ≡ false) × (l ≡ less_quantity q (get_or rows i no_line))) f) i low h same (inr (rest, is))

-- cash shared out changes no number
pub shares_filled : {Holds : Line → Type 0} (Parted : Line → Type 0) (worth : ℕ → ℕ → ℕ → ℕ) (currency : Currency) (ps : List Price) (n cash most used : ℕ) (rows : List Line)
    → Filled return_number Holds no_line most used rows → Each Parted (shared_out worth currency ps n cash (take used rows)) → Filled return_number Parted no_line most used (shared_in worth currency ps n cash used rows)
shares_filled Parted worth currency ps n cash most used rows f each =
    let us = take used rows in
    let long = length-take-le used rows f.within in
    let same = length_shared worth currency ps n cash us in
    refill f Parted (shared_out worth currency ps n cash us) used (shared_in worth currency ps n cash used rows) (same ∙ long) (omega (arith, f.within))
    (sym (shared_padded (length rows) us worth currency ps n cash) ∙ (λ k. shared_in worth currency ps n cash (long k) (sym f.spare k)))
    (subst Rising (sym (shared_numbers worth currency ps n cash us)) f.rise)
    each
