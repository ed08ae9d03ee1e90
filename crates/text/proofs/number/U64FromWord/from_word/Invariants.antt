use Rattle.std.proofs.Common.{◌≡◌, ◌^◌, ◌<◌, drop}
use Rattle.text.specs.Numbers.{number_from, number_of}
use Rattle.text.proofs.number.U64FromWord.from_word.Given as goal

abbrev pub invariant-loop-byte : goal.invariant-loop-byte
invariant-loop-byte l = record { so_far : number_from l.number (drop l.byte-index l.word) ≡ number_of l.word; low : l.number < 2 ^ 64 }
