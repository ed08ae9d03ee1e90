-- A table with no broken row, both ways. Assumes nothing.
use Rattle.std.proofs.Common.{◌≡◌, ℕ, zero, suc, ◌+◌, ◌-◌, ◌<◌, ◌≤◌, Bool, true, false, cond, ◌&&◌, leb, List, [], ◌∷◌, ◌++◌, map, length, get_or, take, drop, replicate, Some, None, Option, sym, refl, ap, ◌∙◌, subst, arith}
use Rattle.std.proofs.ByRecursion.{All-from_get_or, All-get_or}
use Rattle.std.proofs.lemmas.List.{length-take-le, length-drop, length-replicate, length-map, length-append, get_or-map, get_or-take, get_or_append_left, take-append-drop, take_all, take_at, drop_at}
use Rattle.std.proofs.lemmas.Bool.{le-leb, leb-true, and_from, and_parts, cond-true}
use Rattle.std.specs.Option.{option_or}
use Rattle.std.specs.List.{AllByRecursion as Each}
use Rattle.memory.specs.Places.{Rising}
use Rattle.memory.specs.Register.{Filled}
use Rattle.memory.specs.Rows.{padded}
use Rattle.memory.specs.Sound.{first_broken, first_set, table_fault}
use Rattle.memory.proofs.Firsts.{passing, passing_all, passing_each, passing_rising}

pub not_some : {Y : Type 0} {A : Type 0} (y : Y) → None ≡ Some y → A
not_some y e = let w : ◌≡◌ {A = ℕ} 0 1 = cc in absurd (omega arith)

-- nothing comes of a choice only where nothing comes of either
pub none_both : {Y : Type 0} (o p : Option Y) → None ≡ option_or o p → (None ≡ o) × (None ≡ p)
none_both None p e = (refl, e)
none_both (Some y) p e = not_some y e

pub none_if : {Y : Type 0} (b : Bool) (o : Option Y) (y : Y) → None ≡ cond b o (Some y) → (b ≡ true) × (None ≡ o)
none_if true o y e = (refl, e)
none_if false o y e = not_some y e

module _ {X : Type 0} (zeros : X → Bool) (z : X) where
  pub set_none : (to : (x : X) → zeros x ≡ true → x ≡ z) (i : ℕ) (xs : List X) → None ≡ first_set zeros i xs → xs ≡ replicate (length xs) z
  unfolding first_set
  set_none to i [] e = refl
  set_none to i (x ∷ xs) e =
      let is = none_if (zeros x) (first_set zeros (i + 1) xs) i e in
      λ t. to x is.0 t ∷ set_none to (i + 1) xs is.1 t

  pub none_set : zeros z ≡ true → (i n : ℕ) → None ≡ first_set zeros i (replicate n z)
  unfolding first_set
  none_set t i zero = refl
  none_set t i (suc n) = none_set t (i + 1) n ∙ sym (cond-true (zeros z) _ _ t)

module _ {X : Type 0} (key : X → ℕ) (rule : ℕ → X → Bool) (Holds : X → Type 0) where
  -- a row that holds passes after a smaller number
  pub none_broken : ((b : ℕ) (x : X) → b < key x → Holds x → rule b x ≡ true) → (i b : ℕ) (xs : List X) → Each Holds xs → Rising (map key xs) → ((k : ℕ) → k < length xs → b < get_or (map key xs) k 0) → None ≡ first_broken key rule i b xs
  unfolding first_broken
  none_broken back i b [] a up below = refl
  none_broken back i b (x ∷ xs) a up below =
      none_broken back (i + 1) (key x) xs a.1 (λ j k l h. up (suc j) (suc k) (omega arith) (omega arith)) (λ k h. let same = length-map xs key in up 0 (suc k) (omega arith) (omega arith))
      ∙ sym (cond-true (rule b x) _ _ (back b x (below 0 (omega arith)) a.0))

module _ {X : Type 0} (key : X → ℕ) (rule : ℕ → X → Bool) (Holds : X → Type 0) (zeros : X → Bool) (z : X) where
  pub filled_from : (to : (b : ℕ) (x : X) → rule b x ≡ true → (b < key x) × Holds x) (blank : (x : X) → zeros x ≡ true → x ≡ z) (most used : ℕ) (rows : List X) → used ≤ length rows → None ≡ table_fault key rule zeros most used rows → Filled key Holds z most used rows
  filled_from to blank most used rows within e =
      let sized = none_if (leb 1 (length rows) && leb (length rows) most) _ 0 e in
      let size = and_parts (leb 1 (length rows)) (leb (length rows) most) sized.0 in
      let parts = none_both (first_broken key rule 0 0 (take used rows)) (first_set zeros used (drop used rows)) sized.1 in
      let all = passing_all key rule (take used rows) parts.0 in
      let long = length-take-le used rows within in
      let whole : take (passing key rule 0 (take used rows)) (take used rows) ≡ take used rows = take_all (passing key rule 0 (take used rows)) (take used rows) (omega arith) in
      let rest : drop used rows ≡ replicate (length rows - length (take used rows)) z =
      set_none zeros z blank used (drop used rows) parts.1
      ∙ ap (λ n. replicate n z) (length-drop used rows ∙ ap (λ n. length rows - n) (sym long)) in
      record {
        some = leb-true 1 (length rows) size.0;
        few = leb-true (length rows) most size.1;
        within = within;
        rise = subst (λ (xs : List X). Rising (map key xs)) whole (passing_rising key rule (λ b x t. (to b x t).0) (take used rows) z);
        each = All-from_get_or Holds (take used rows) z (λ k l. let p = passing_each key rule 0 (take used rows) k z (omega arith) in (to p.0 (get_or (take used rows) k z) p.1).1);
        spare = sym (take-append-drop used rows) ∙ ap (λ (xs : List X). take used rows ++ xs) rest;
      }

  pub filled_none : (back : (b : ℕ) (x : X) → b < key x → Holds x → rule b x ≡ true) (some : (x : X) → Holds x → 0 < key x) → zeros z ≡ true → (most used : ℕ) (rows : List X) → Filled key Holds z most used rows → None ≡ table_fault key rule zeros most used rows
  filled_none back some blank most used rows f =
      let long = length-take-le used rows f.within in
      let first : (k : ℕ) → k < length (take used rows) → 0 < get_or (map key (take used rows)) k 0 =
      λ k l. rw (get_or-map key (take used rows) k z 0 l) (some (get_or (take used rows) k z) (All-get_or Holds (take used rows) k z l f.each)) in
      let broken = none_broken key rule Holds back 0 0 (take used rows) f.each f.rise first in
      let rest : drop used rows ≡ replicate (length rows - length (take used rows)) z =
      ap (drop used) f.spare ∙ drop_at (take used rows) (replicate (length rows - length (take used rows)) z) used long in
      let set = none_set zeros z blank used (length rows - length (take used rows)) ∙ sym (ap (first_set zeros used) rest) in
      let sized = and_from (leb 1 (length rows)) (leb (length rows) most) (le-leb 1 (length rows) f.some) (le-leb (length rows) most f.few) in
      (λ i. option_or (broken i) (set i)) ∙ sym (cond-true (leb 1 (length rows) && leb (length rows) most) _ _ sized)

-- ── tables whose used rows come first ──

pub filled_at : {X : Type 0} {key : X → ℕ} {Holds : X → Type 0} {z : X} {most used : ℕ} {rows : List X} → Filled key Holds z most used rows → (k : ℕ) (d : X) → k < used → Holds (get_or rows k d)
filled_at {X} {key} {Holds} {z} {most} {used} {rows} f k d h =
    let long = length-take-le used rows f.within in
    subst Holds (get_or-take used rows k d h) (All-get_or Holds (take used rows) k d (omega arith) f.each)

module _ {X : Type 0} (z : X) (n : ℕ) (rows : List X) where
  pub length_padded : length rows ≤ n → length (padded z n rows) ≡ n
  length_padded h = length-append rows (replicate (n - length rows) z) ∙ ap (λ m. length rows + m) (length-replicate (n - length rows) z) ∙ (omega arith)

  pub take_padded : take (length rows) (padded z n rows) ≡ rows
  take_padded = take_at rows (replicate (n - length rows) z) (length rows) refl

  pub drop_padded : drop (length rows) (padded z n rows) ≡ replicate (n - length rows) z
  drop_padded = drop_at rows (replicate (n - length rows) z) (length rows) refl

  pub get_d_padded : (k : ℕ) (d : X) → k < length rows → get_or (padded z n rows) k d ≡ get_or rows k d
  get_d_padded k d h = get_or_append_left rows (replicate (n - length rows) z) d k h

  -- rows that rise and hold fill a table
  pub filled_padded : (key : X → ℕ) (Holds : X → Type 0) (most : ℕ) → 1 ≤ n → n ≤ most → length rows ≤ n → Rising (map key rows) → Each Holds rows → Filled key Holds z most (length rows) (padded z n rows)
  filled_padded key Holds most low high fits up each =
      let long = length_padded fits in
      record {
        some = omega arith;
        few = omega arith;
        within = omega arith;
        rise = subst (λ (xs : List X). Rising (map key xs)) (sym take_padded) up;
        each = subst (Each Holds) (sym take_padded) each;
        spare = sym (λ i. padded z (long i) (take_padded i));
      }
