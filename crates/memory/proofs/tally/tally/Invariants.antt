use Rattle.std.proofs.Common.{◌≡◌, drop}
use Rattle.std.specs.Option.{option_or}
use Rattle.memory.specs.Sound.{first_set}
use Rattle.memory.specs.Tally.{with_parts, names}
use Rattle.memory.proofs.tally.tally.Given as goal

abbrev pub invariant-loop-place : goal.invariant-loop-place
invariant-loop-place l = record {
  sums : with_parts l.keys l.sums (drop l.place l.lines) ≡ with_parts l.keys l.initial.sums l.lines;
  loose : option_or l.loose (first_set (names l.keys l.count) l.place (drop l.place l.lines)) ≡ first_set (names l.keys l.count) 0 l.lines;
}
