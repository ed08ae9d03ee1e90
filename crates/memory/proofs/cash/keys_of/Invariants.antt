use Rattle.std.proofs.Common.{◌≡◌, ℕ, ◌<◌, length, get_or}
use Rattle.memory.specs.Checks.{key_at}
use Rattle.memory.proofs.cash.keys_of.Given as goal

abbrev pub invariant-loop-place : goal.invariant-loop-place
invariant-loop-place l = record { long : length l.key-items ≡ 64; made : (k : ℕ) → k < l.place → get_or l.key-items k 0 ≡ key_at l.next l.deals k }
