-- What is known of a scale, and of quotients. Assumes nothing.
use Rattle.std.proofs.Common.{◌≡◌, ℕ, zero, suc, ◌*◌, ◌/◌, ◌^◌, ◌<◌, ◌≤◌, leb, sym, refl, ap, ◌∙◌, inl, inr, pow-suc, le-div_iff_mul-le, div-mul-le_self, div-one, arith}
use native.Mathlib.Nat.{div-div-eq-div-mul}
use Rattle.std.proofs.lemmas.Nat.{le-div, mul-le}
use Rattle.std.proofs.lemmas.Bool.{cases_lt, cond-true, cond-false, cond_both, le-leb, lt-leb, leb-false}
use Rattle.sharing.specs.Limits.{most_cash}
use Rattle.sharing.specs.Parts.{scale_from, scale_of, scaled}

pub div_more : (a b k : ℕ) → 0 < k → a ≤ b → a / k ≤ b / k
div_more a b k p h = le-div (a / k) b k p (omega (arith, div-mul-le_self a k))

-- ── one step ──

-- a scale at which more than a million is left leaves room for ten times it
pub scale_room : (total s : ℕ) → 0 < s → 1_000_000 < total / s → s * 1_000_001 ≤ total
scale_room total s p h = omega (arith, (le-div_iff_mul-le {x = 1_000_001} {y = total} p).0 h)

pub scale_stop : (n total s : ℕ) → total / s ≤ 1_000_000 → scale_from n total s ≡ s
unfolding scale_from
scale_stop zero total s h = refl
scale_stop (suc n) total s h = cond-true (leb (total / s) 1_000_000) s (scale_from n total (s * 10)) (le-leb (total / s) 1_000_000 h)

pub scale_more : (n total s : ℕ) → 1_000_000 < total / s → scale_from (suc n) total s ≡ scale_from n total (s * 10)
unfolding scale_from
scale_more n total s h = cond-false (leb (total / s) 1_000_000) s (scale_from n total (s * 10)) (lt-leb (total / s) 1_000_000 h)

pub scale_end : (total s : ℕ) → scale_from 0 total s ≡ s
unfolding scale_from
scale_end total s = refl

-- ── the scale of a total ──

scale_pos_from : (n total s : ℕ) → 0 < s → 0 < scale_from n total s
unfolding scale_from
scale_pos_from zero total s p = p
scale_pos_from (suc n) total s p =
    cond_both (leb (total / s) 1_000_000) s (scale_from n total (s * 10)) (λ x. 0 < x) (λ _. p) (λ _. scale_pos_from n total (s * 10) (omega arith))

pub scale_pos : (total : ℕ) → 0 < scale_of total
scale_pos total = scale_pos_from 14 total 1 (omega arith)

scale_some_from : (n total s : ℕ) → 0 < total / s → 0 < total / scale_from n total s
unfolding scale_from
scale_some_from zero total s h = h
scale_some_from (suc n) total s h =
    cond_both (leb (total / s) 1_000_000) s (scale_from n total (s * 10)) (λ x. 0 < total / x) (λ _. h)
    (λ e. scale_some_from n total (s * 10) (omega (arith, leb-false (total / s) 1_000_000 e, div-div-eq-div-mul total s 10)))

-- a total above 0 has a scaled total above 0
pub scaled_some : (total : ℕ) → 0 < total → 0 < scaled total total
scaled_some total h = scale_some_from 14 total 1 (omega (arith, div-one total))

-- the power of ten at which the search stops, where all those before it leave more than a million
scale_power : (n total j : ℕ) → total / 10 ^ j ≤ 1_000_000 * 10 ^ n → ((i : ℕ) → i < j → 1_000_000 < total / 10 ^ i)
    → (k : ℕ) × (scale_from n total (10 ^ j) ≡ 10 ^ k) × (total / 10 ^ k ≤ 1_000_000) × ((i : ℕ) → i < k → 1_000_000 < total / 10 ^ i)
scale_power zero total j h f = (j, scale_end total (10 ^ j), h, f)
scale_power (suc n) total j h f =
    elim (cases_lt 1_000_000 (total / 10 ^ j)) [
      | inr le ↦ (j, scale_stop (suc n) total (10 ^ j) le, le, f)
      | inl lt ↦
          let tens : 10 ^ suc j ≡ 10 ^ j * 10 = pow-suc 10 j in
          let left : total / 10 ^ suc j ≤ 1_000_000 * 10 ^ n = omega (arith, ap (λ s. total / s) tens, div-div-eq-div-mul total (10 ^ j) 10, pow-suc 10 n) in
          let more : (i : ℕ) → i < suc j → 1_000_000 < total / 10 ^ i =
          λ i l. elim (cases_lt i j) [ inl b ↦ f i b | inr b ↦ let e : i ≡ j = omega arith in rw e lt ] in
          let next = scale_power n total (suc j) left more in
          (next.0, scale_more n total (10 ^ j) lt ∙ ap (scale_from n total) (sym tens) ∙ next.1, next.2, next.3)
    ]

pub smallest : (total : ℕ) → total < 2 ^ 64
    → (k : ℕ) × (scale_of total ≡ 10 ^ k) × (total / 10 ^ k ≤ 1_000_000) × ((j : ℕ) → j < k → 1_000_000 < total / 10 ^ j)
smallest total h = scale_power 14 total 0 (omega (arith, div-one total)) (λ i l. absurd (omega arith))

-- a power of ten that is reached: each smaller one leaves more than a million
pub record Tried (total scale : ℕ) : Type 0 where
  pub power : ℕ
  pub is : scale ≡ 10 ^ power
  pub some : 0 < scale
  pub before : (i : ℕ) → i < power → 1_000_000 < total / 10 ^ i

pub tried_one : (total : ℕ) → Tried total 1
tried_one total = record { power = 0; is = refl; some = omega arith; before = λ i l. absurd (omega arith) }

pub tried_more : (total scale : ℕ) → Tried total scale → 1_000_000 < total / scale → Tried total (scale * 10)
tried_more total scale t more =
    record {
      power = suc t.power;
      is = ap (λ s. s * 10) t.is ∙ sym (pow-suc 10 t.power);
      some = omega (arith, t.some);
      before = λ i l. elim (cases_lt i t.power) [ inl b ↦ t.before i b | inr b ↦ let e : 10 ^ i ≡ scale = ap (λ n. 10 ^ n) (omega arith) ∙ sym t.is in omega (arith, ap (λ s. total / s) e) ];
    }

pub tried_last : (total scale : ℕ) → total < 2 ^ 64 → Tried total scale → total / scale ≤ 1_000_000 → scale ≡ scale_of total
tried_last total scale h t few =
    let s = smallest total h in
    let here : total / 10 ^ t.power ≤ 1_000_000 = omega (arith, ap (λ n. total / n) t.is) in
    let same : t.power ≡ s.0 =
    elim (cases_lt t.power s.0) [
      | inl l ↦ absurd (omega (arith, s.3 t.power l))
      | inr l ↦ elim (cases_lt s.0 t.power) [ inl m ↦ absurd (omega (arith, t.before s.0 m, s.2)) | inr m ↦ omega arith ]
    ] in
    t.is ∙ ap (λ n. 10 ^ n) same ∙ sym s.1

-- a scaled total comes to a million at most
pub scaled_few : (total running : ℕ) → total < 2 ^ 64 → running ≤ total → scaled total running ≤ 1_000_000
scaled_few total running h le =
    let s = smallest total h in
    omega (arith, div_more running total (scale_of total) (scale_pos total) le, ap (λ n. total / n) s.1, s.2)

pub product_fits : (cash total running : ℕ) → cash ≤ most_cash → total < 2 ^ 64 → running ≤ total → cash * scaled total running ≤ 1_000_000_000_000_000_000
product_fits cash total running c h le = mul-le cash (scaled total running) most_cash 1_000_000 c (scaled_few total running h le)
