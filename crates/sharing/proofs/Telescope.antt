-- The parts come to the cash. Assumes nothing.
use Rattle.std.proofs.Common.{◌≡◌, ℕ, zero, suc, ◌+◌, ◌*◌, ◌<◌, ◌≤◌, Bool, true, false, cond, eqb, List, [], ◌∷◌, length, get_or, take, refl, ap, ◌∙◌, inl, inr, mul-le-mul_left, mul-zero, mul-div_cancel, arith}
use native.Mathlib.Nat.{zero-div}
use Rattle.std.proofs.lemmas.Bool.{cases_eq, ne_eqb}
use Rattle.std.proofs.lemmas.Bool.Decides.{nat_tests}
use Rattle.sharing.specs.Parts.{total_of, scale_from, scale_of, scaled, up_to, line_part, parts_from, parts_of}
use Rattle.sharing.specs.PartsLaw.{PartsLaw, PartsFigures}
use Rattle.sharing.proofs.Scales.{div_more, scale_pos, scaled_some, smallest, product_fits}

-- what the lines up to a running total have together, in every case; `done` where the last line is among them
abbrev pub handed : ℕ → ℕ → ℕ → Bool → ℕ
handed cash total running done = cond (eqb total 0) (cond done cash 0) (up_to cash total running)

module _ (cash total : ℕ) where
  -- ── what the lines up to a running total have ──

  pub up_none : up_to cash total 0 ≡ 0
  unfolding up_to
  up_none = rw (zero-div (scale_of total), mul-zero cash) (zero-div (scaled total total))

  pub up_more : 0 < total → (a b : ℕ) → a ≤ b → up_to cash total a ≤ up_to cash total b
  unfolding up_to
  up_more h a b le =
      div_more (cash * scaled total a) (cash * scaled total b) (scaled total total) (scaled_some total h) (mul-le-mul_left cash (div_more a b (scale_of total) (scale_pos total) le))

  pub up_all : 0 < total → up_to cash total total ≡ cash
  unfolding up_to
  up_all h = mul-div_cancel cash (scaled_some total h)

  -- ── line by line ──

  pub handed_none : handed cash total 0 false ≡ 0
  handed_none = let z = up_none in grind (arith, nat_tests)

  pub handed_more : (before value : ℕ) (last : Bool) → before + value ≤ total
      → handed cash total before false + line_part cash total before value last ≡ handed cash total (before + value) last
  handed_more before value last h =
      elim (cases_eq total 0) [
        | inl e ↦ grind (arith, nat_tests)
        | inr d ↦ let m = up_more (omega arith) before (before + value) (omega arith) in grind (arith, nat_tests)
      ]

  pub handed_all : handed cash total total true ≡ cash
  handed_all = elim (cases_eq total 0) [ inl e ↦ grind (arith, nat_tests) | inr d ↦ let u = up_all (omega arith) in grind (arith, nat_tests) ]

  pub parts_count : (before : ℕ) (vs : List ℕ) → length (parts_from cash total before vs) ≡ length vs
  unfolding parts_from
  parts_count before [] = refl
  parts_count before (v ∷ vs) = ap suc (parts_count (before + v) vs)

  -- all lines from some running total on
  telescope : (before v : ℕ) (vs : List ℕ) → before + total_of (v ∷ vs) ≤ total
      → handed cash total before false + total_of (parts_from cash total before (v ∷ vs)) ≡ handed cash total (before + total_of (v ∷ vs)) true
  unfolding parts_from
  telescope before v [] h =
      let e : before + v ≡ before + (v + 0) = omega arith in
      omega (arith, handed_more before v true (omega arith), ap (λ n. handed cash total n true) e)
  telescope before v (w ∷ ws) h =
      let e : before + v + total_of (w ∷ ws) ≡ before + total_of (v ∷ (w ∷ ws)) = omega arith in
      let more : eqb (length (w ∷ ws)) 0 ≡ false = ne_eqb (length (w ∷ ws)) 0 (λ z. omega arith) in
      omega (
        arith,
        handed_more before v false (omega arith),
        ap (line_part cash total before v) more,
        telescope (before + v) w ws (omega arith),
        ap (λ n. handed cash total n true) e,
      )

  -- the first k of them, where not all values are 0
  front_from : 0 < total → (k before : ℕ) (vs : List ℕ) → before + total_of vs ≤ total
      → up_to cash total before + total_of (take k (parts_from cash total before vs)) ≡ up_to cash total (before + total_of (take k vs))
  unfolding parts_from
  front_from some zero before vs h = let e : before ≡ before + 0 = omega arith in omega (arith, ap (up_to cash total) e)
  front_from some (suc k) before [] h = let e : before ≡ before + 0 = omega arith in omega (arith, ap (up_to cash total) e)
  front_from some (suc k) before (v ∷ vs) h =
      let e : before + v + total_of (take k vs) ≡ before + (v + total_of (take k vs)) = omega arith in
      let one : up_to cash total before + line_part cash total before v (eqb (length vs) 0) ≡ up_to cash total (before + v) =
      let m = up_more some before (before + v) (omega arith) in grind (arith, nat_tests) in
      omega (arith, one, front_from some k (before + v) vs (omega arith), ap (up_to cash total) e)

  -- each is the part of its line
  each_from : (before : ℕ) (vs : List ℕ) (k : ℕ) → k < length vs
      → get_or (parts_from cash total before vs) k 0 ≡ line_part cash total (before + total_of (take k vs)) (get_or vs k 0) (eqb (k + 1) (length vs))
  unfolding parts_from
  each_from before [] k h = absurd (omega arith)
  each_from before (v ∷ vs) zero h =
      let e : before ≡ before + 0 = omega arith in
      let last : eqb (length vs) 0 ≡ eqb (0 + 1) (suc (length vs)) = grind (arith, nat_tests) in
      λ i. line_part cash total (e i) v (last i)
  each_from before (v ∷ vs) (suc k) h =
      let e : before + v + total_of (take k vs) ≡ before + (v + total_of (take k vs)) = omega arith in
      let last : eqb (k + 1) (length vs) ≡ eqb (suc k + 1) (suc (length vs)) = grind (arith, nat_tests) in
      each_from (before + v) vs k (omega arith) ∙ (λ i. line_part cash total (e i) (get_or vs k 0) (last i))

-- ── the whole list ──

pub whole : (cash : ℕ) (vs : List ℕ) → 0 < length vs → total_of (parts_of cash vs) ≡ cash
whole cash [] h = absurd (omega arith)
whole cash (v ∷ vs) h =
    let t = total_of (v ∷ vs) in
    let e : 0 + t ≡ t = omega arith in
    omega (arith, telescope cash t 0 v vs (omega arith), handed_none cash t, handed_all cash t, ap (λ n. handed cash t n true) e)

get_d_le_total : (xs : List ℕ) (k : ℕ) → get_or xs k 0 ≤ total_of xs
get_d_le_total [] k = omega arith
get_d_le_total (x ∷ xs) zero = omega arith
get_d_le_total (x ∷ xs) (suc k) = omega (arith, get_d_le_total xs k)

pub within : (cash : ℕ) (vs : List ℕ) (k : ℕ) → get_or (parts_of cash vs) k 0 ≤ cash
unfolding parts_from
within cash [] k = omega arith
within cash (v ∷ vs) k = omega (arith, get_d_le_total (parts_of cash (v ∷ vs)) k, whole cash (v ∷ vs) (omega arith))

pub front : (cash : ℕ) (vs : List ℕ) (k : ℕ) → 0 < total_of vs → total_of (take k (parts_of cash vs)) ≡ up_to cash (total_of vs) (total_of (take k vs))
front cash vs k h =
    let t = total_of vs in
    let e : 0 + total_of (take k vs) ≡ total_of (take k vs) = omega arith in
    omega (arith, up_none cash t, front_from cash t h k 0 vs (omega arith), ap (up_to cash t) e)

pub each : (cash : ℕ) (vs : List ℕ) (k : ℕ) → k < length vs
    → get_or (parts_of cash vs) k 0 ≡ line_part cash (total_of vs) (total_of (take k vs)) (get_or vs k 0) (eqb (k + 1) (length vs))
each cash vs k h =
    let e : 0 + total_of (take k vs) ≡ total_of (take k vs) = omega arith in
    each_from cash (total_of vs) 0 vs k h ∙ ap (λ n. line_part cash (total_of vs) n (get_or vs k 0) (eqb (k + 1) (length vs))) e

take_le_total : (k : ℕ) (vs : List ℕ) → total_of (take k vs) + get_or vs k 0 ≤ total_of vs
take_le_total zero [] = omega arith
take_le_total zero (v ∷ vs) = omega arith
take_le_total (suc k) [] = omega arith
take_le_total (suc k) (v ∷ vs) = omega (arith, take_le_total k vs)

zeros : (cash : ℕ) (vs : List ℕ) (k : ℕ) → total_of vs ≡ 0 → k < length vs → get_or (parts_of cash vs) k 0 ≡ cond (eqb (k + 1) (length vs)) cash 0
zeros cash vs k z h = let e = each cash vs k h in let l = take_le_total k vs in grind (arith, nat_tests)

pub parts_law : PartsLaw
unfolding up_to
parts_law =
    record {
      smallest = smallest;
      fits = product_fits;
      whole = whole;
      within = within;
      front = front;
      zeros = zeros;
      count = λ cash vs. parts_count cash (total_of vs) 0 vs;
      each = each;
    }

pub parts_figures : PartsFigures
unfolding up_to scale_from parts_from
parts_figures =
    record {
      thirds = refl;
      tens = refl;
      quarters = refl;
      none = refl;
      rounded_alone = refl;
      penny_lost = λ h. omega arith;
      scale_left_out = refl;
      scale_counts = λ h. omega arith;
    }
