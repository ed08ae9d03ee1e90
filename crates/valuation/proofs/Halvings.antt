-- How often a span is halved. Assumes nothing.
use Rattle.std.proofs.Common.{◌≡◌, ℕ, suc, ◌+◌, ◌-◌, ◌*◌, ◌/◌, ◌^◌, ◌<◌, ◌≤◌, ap, ◌∙◌, pow-suc, arith}

pub gap_more : (gap next turn : ℕ) → turn < 30 → gap < 2 ^ (30 - turn) → next ≤ gap / 2 → next < 2 ^ (30 - (turn + 1))
gap_more gap next turn t g h =
    let e : 30 - turn ≡ suc (30 - (turn + 1)) = omega arith in
    let twice : 2 ^ (30 - turn) ≡ 2 ^ (30 - (turn + 1)) * 2 = ap (λ n. 2 ^ n) e ∙ pow-suc 2 (30 - (turn + 1)) in
    omega arith

pub gap_all : (gap turn : ℕ) → 30 ≤ turn → gap < 2 ^ (30 - turn) → gap ≡ 0
gap_all gap turn t g = let e : 30 - turn ≡ 0 = omega arith in omega (arith, ap (λ n. 2 ^ n) e)
