-- Rows that are found by their numbers.
use Rattle.std.specs.Prelude.{◌≡◌, ℕ, ◌+◌, ◌<◌, cond, List, [], ◌∷◌, map, length, Some, None, Option, ◌==◌, slice_index, slice_index_or}
use Rattle.memory.specs.declared.row.Deal.{Deal}
use Rattle.memory.specs.declared.row.Head.{Head}
use Rattle.memory.specs.declared.row.Line.{Line}
use Rattle.memory.specs.Sound.{number, return_number, used_deals, used_lines}

-- each number is above those before it
abbrev pub Rising : List ℕ → Type 0
Rising ns = (j k : ℕ) → j < k → k < length ns → slice_index ns j < slice_index ns k

-- the place of the first that is n, where places count from i
unfoldable pub place_from : ℕ → ℕ → List ℕ → Option ℕ
place_from n i [] = None
place_from n i (x ∷ xs) = cond (x == n) (Some i) (place_from n (i + 1) xs)

abbrev pub place_of : ℕ → List ℕ → Option ℕ
place_of n ns = place_from n 0 ns

-- the numbers of the used rows
abbrev pub deal_numbers : Head → List Deal → List ℕ
deal_numbers h deals = map number (used_deals h deals)

abbrev pub line_numbers : Head → List Line → List ℕ
line_numbers h lines = map return_number (used_lines h lines)

-- the row at i is one of the so many that are used, and its number is n
pub record FoundAt {X : Type 0} (key : X → ℕ) (rows : List X) (count n i : ℕ) : Type 0 where
  pub used : i < count
  pub listed : i < length rows
  pub named : (d : X) → key (slice_index_or rows i d) ≡ n
