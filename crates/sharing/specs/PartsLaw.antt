-- What sharing keeps.
use Rattle.std.specs.Prelude.{◌≡◌, ℕ, ◌+◌, ◌*◌, ◌/◌, ◌^◌, ◌<◌, ◌≤◌, cond, List, [], ◌∷◌, map, length, take, ◌==◌, slice_index}
use Rattle.sharing.specs.Limits.{most_cash}
use Rattle.sharing.specs.Parts.{total_of, scale_of, scaled, line_part, parts_of}

pub record PartsLaw : Type 0 where
  -- the scale is the smallest power of ten at which the total comes to a million at most
  pub smallest : (total : ℕ) → total < 2 ^ 64
      → (k : ℕ) × (scale_of total ≡ 10 ^ k) × (total / 10 ^ k ≤ 1_000_000) × ((j : ℕ) → j < k → 1_000_000 < total / 10 ^ j)
  -- no product passes 10^18
  pub fits : (cash total running : ℕ) → cash ≤ most_cash → total < 2 ^ 64 → running ≤ total
      → cash * scaled total running ≤ 1_000_000_000_000_000_000
  -- nothing is lost and nothing made
  pub whole : (cash : ℕ) (vs : List ℕ) → 0 < length vs → total_of (parts_of cash vs) ≡ cash
  pub within : (cash : ℕ) (vs : List ℕ) (k : ℕ) → slice_index (parts_of cash vs) k ≤ cash
  -- where not all values are 0, the first k lines have the cash in the ratio of the scaled totals
  pub front : (cash : ℕ) (vs : List ℕ) (k : ℕ) → 0 < total_of vs
      → total_of (take k (parts_of cash vs)) ≡ cash * (total_of (take k vs) / scale_of (total_of vs)) / (total_of vs / scale_of (total_of vs))
  -- where all are 0, the last line has the whole cash
  pub zeros : (cash : ℕ) (vs : List ℕ) (k : ℕ) → total_of vs ≡ 0 → k < length vs
      → slice_index (parts_of cash vs) k ≡ cond (k + 1 == length vs) cash 0
  -- one part for each value: that of its line
  pub count : (cash : ℕ) (vs : List ℕ) → length (parts_of cash vs) ≡ length vs
  pub each : (cash : ℕ) (vs : List ℕ) (k : ℕ) → k < length vs
      → slice_index (parts_of cash vs) k ≡ line_part cash (total_of vs) (total_of (take k vs)) (slice_index vs k) (k + 1 == length vs)

-- two false readings: each part rounded by itself, and no scale
abbrev pub alone : ℕ → ℕ → ℕ → ℕ
alone cash total value = cash * (value / scale_of total) / (total / scale_of total)

abbrev pub unscaled : ℕ → ℕ → ℕ → ℕ
unscaled cash total value = cash * value / total

pub record PartsFigures : Type 0 where
  pub thirds : parts_of 100 (1 ∷ 1 ∷ 1 ∷ []) ≡ 33 ∷ 33 ∷ 34 ∷ []
  pub tens : scale_of 2_000_005 ≡ 10
  pub quarters : parts_of 100 (1_500_000 ∷ 500_005 ∷ []) ≡ 75 ∷ 25 ∷ []
  pub none : parts_of 100 (0 ∷ 0 ∷ []) ≡ 0 ∷ 100 ∷ []
  pub rounded_alone : total_of (map (alone 100 3) (1 ∷ 1 ∷ 1 ∷ [])) ≡ 99
  pub penny_lost : total_of (map (alone 100 3) (1 ∷ 1 ∷ 1 ∷ [])) ≡ total_of (parts_of 100 (1 ∷ 1 ∷ 1 ∷ [])) → ⊥
  pub scale_left_out : unscaled 100 2_000_005 1_500_000 ≡ 74
  pub scale_counts : unscaled 100 2_000_005 1_500_000 ≡ slice_index (parts_of 100 (1_500_000 ∷ 500_005 ∷ [])) 0 → ⊥
