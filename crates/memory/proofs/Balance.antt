-- Cash against sums. Assumes nothing.
use Rattle.std.proofs.Common.{◌≡◌, ℕ, suc, ◌+◌, ◌<◌, ◌≤◌, Bool, cond, not, eqb, List, [], ◌∷◌, map, length, get_or, take, Some, Option, sym, refl, ap, ◌∙◌, inl, inr, arith}
use Rattle.std.proofs.lemmas.List.FromFn.{length-map-range_with_len, get_or-map-range_with_len, fill_by_all}
use Rattle.std.proofs.lemmas.List.{length-map, get_or-map, length-take, get_or-take, ext_get_or}
use Rattle.std.proofs.lemmas.Bool.{cases_lt, lt-ltb, le-ltb, cond-true, cond-false}
use Rattle.std.proofs.lemmas.Iterator.Adapters.{position_from-zero}
use Rattle.std.specs.List.{position_from, zip}
use Rattle.memory.specs.declared.row.Deal.{Deal}
use Rattle.memory.specs.Checks.{key_at, keys_of, uneven}
use Rattle.memory.specs.Places.{Rising}
use Rattle.memory.specs.Rows.{no_deal}
use Rattle.memory.specs.Sound.{number, first_set}
use Rattle.memory.proofs.Firsts.{set_from}

-- ── the numbers of the deals, and numbers above them ──

pub keys_from : (next : ℕ) (ds : List Deal) (keys : List ℕ) → length keys ≡ 64 → ((k : ℕ) → k < 64 → get_or keys k 0 ≡ key_at next ds k) → keys ≡ keys_of next ds
unfolding keys_of
keys_from next ds keys long is = fill_by_all (key_at next ds) keys 64 0 long is

module _ (next : ℕ) (ds : List Deal) where
  pub length_keys : length (keys_of next ds) ≡ 64
  unfolding keys_of
  length_keys = length-map-range_with_len (key_at next ds) 0 64

  key_is : (k : ℕ) → k < 64 → get_or (keys_of next ds) k 0 ≡ key_at next ds k
  unfolding keys_of
  key_is k h = get_or-map-range_with_len (key_at next ds) 0 64 k k 0 h (omega arith)

  pub key_of : (k : ℕ) → k < length ds → k < 64 → get_or (keys_of next ds) k 0 ≡ get_or (map number ds) k 0
  key_of k h g = key_is k g ∙ cond-true _ _ _ (lt-ltb k (length ds) h) ∙ sym (get_or-map number ds k no_deal 0 h)

  key_past : (k : ℕ) → length ds ≤ k → k < 64 → get_or (keys_of next ds) k 0 ≡ next + k
  key_past k h g = key_is k g ∙ cond-false _ _ _ (le-ltb k (length ds) h)

  module _ (few : length ds ≤ 64) where
    pub take_keys : take (length ds) (keys_of next ds) ≡ map number ds
    take_keys =
        let long = length-take (length ds) (keys_of next ds) in
        let all = length_keys in
        let same = length-map ds number in
        ext_get_or 0 _ _ (omega arith) (λ k h. get_or-take (length ds) (keys_of next ds) k 0 (omega arith) ∙ key_of k (omega arith) (omega arith))

    pub rising_keys : Rising (map number ds) → ((k : ℕ) → k < length ds → get_or (map number ds) k 0 < next) → Rising (keys_of next ds)
    rising_keys up below j k l h =
        let all = length_keys in
        let same = length-map ds number in
        elim (cases_lt k (length ds)) [
          | inl a ↦ let x = key_of j (omega arith) (omega arith) in let y = key_of k a (omega arith) in let z = up j k l (omega arith) in omega arith
          | inr a ↦
              let y = key_past k a (omega arith) in
              elim (cases_lt j (length ds)) [
                | inl b ↦ let x = key_of j b (omega arith) in let z = below j b in omega arith
                | inr b ↦ let x = key_past j b (omega arith) in omega arith
              ]
        ]

-- ── the first deal whose cash is not its sum ──

module _ (test : Deal → Bool) where
  uneven_from : (i : ℕ) (ds : List Deal) (ss : List ℕ) → length ds ≤ length ss → ((k : ℕ) → k < length ds → eqb (get_or ds k no_deal).cash (get_or ss k 0) ≡ test (get_or ds k no_deal))
      → position_from (λ (p : Deal × ℕ). not (eqb p.0.cash p.1)) i (zip ds ss) ≡ position_from (λ d. not (test d)) i ds
  uneven_from i [] ss h e = refl
  uneven_from i (d ∷ ds) [] h e = absurd (omega arith)
  uneven_from i (d ∷ ds) (s ∷ ss) h e =
      ap (λ b. cond (not b) (Some i) (position_from (λ (p : Deal × ℕ). not (eqb p.0.cash p.1)) (i + 1) (zip ds ss))) (e 0 (omega arith))
      ∙ ap (λ (o : Option ℕ). cond (not (test d)) (Some i) o) (uneven_from (i + 1) ds ss (omega arith) (λ k l. e (suc k) (omega arith)))

  -- each sum is met as the test says
  pub uneven_is : (ds : List Deal) (ss : List ℕ) → length ds ≤ length ss → ((k : ℕ) → k < length ds → eqb (get_or ds k no_deal).cash (get_or ss k 0) ≡ test (get_or ds k no_deal)) → uneven ds ss ≡ first_set test 0 ds
  uneven_is ds ss h e =
      position_from-zero (λ (p : Deal × ℕ). not (eqb p.0.cash p.1)) (zip ds ss)
      ∙ uneven_from 0 ds ss h e
      ∙ sym (set_from test (λ d. not (test d)) (λ d. refl) 0 ds)
