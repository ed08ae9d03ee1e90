-- A fresh register. Assumes nothing.
use Rattle.std.proofs.Common.{◌≡◌, ℕ, ◌-◌, true, leb, [], length, replicate, ap, arith}
use Rattle.std.proofs.lemmas.List.{length-replicate}
use Rattle.std.proofs.lemmas.Bool.{and_parts, leb-true}
use Rattle.memory.specs.Begin.{sized, fresh_head, Faultless}
use Rattle.memory.specs.Register.{SoundDeal, SoundLine, Filled, Sound}
use Rattle.memory.specs.Rows.{no_deal, no_line}
use Rattle.memory.specs.Sound.{number, return_number}
use Rattle.memory.proofs.Sounds.{fault_none}

-- a table that is not used
filled_empty : {X : Type 0} (key : X → ℕ) (Holds : X → Type 0) (z : X) (most n : ℕ) → sized n most ≡ true → Filled key Holds z most 0 (replicate n z)
filled_empty key Holds z most n e =
    let size = and_parts (leb 1 n) (leb n most) e in
    let long = length-replicate n z in
    let low = leb-true 1 n size.0 in
    let high = leb-true n most size.1 in
    let all : n ≡ length (replicate n z) - 0 = omega arith in
    record { some = omega arith; few = omega arith; within = omega arith; rise = λ j k l h. absurd (omega arith); each = tt; spare = ap (λ m. replicate m z) all }

pub fresh_sound : (date d l accounts resources : ℕ) → sized d 64 ≡ true → sized l 1024 ≡ true → Sound accounts resources (fresh_head date) (replicate d no_deal) (replicate l no_line)
fresh_sound date d l accounts resources e f =
    record {
      next_deal_low = omega arith;
      next_deal_most = omega arith;
      next_line_low = omega arith;
      next_line_most = omega arith;
      deal_table = filled_empty number (SoundDeal accounts (fresh_head date) []) no_deal 64 d e;
      line_table = filled_empty return_number (SoundLine resources (fresh_head date) []) no_line 1024 l f;
    }

pub fresh_faultless : (date d l : ℕ) → sized d 64 ≡ true → sized l 1024 ≡ true → Faultless (fresh_head date) (replicate d no_deal) (replicate l no_line)
fresh_faultless date d l e f = record { none = λ accounts resources. fault_none accounts resources (fresh_head date) (replicate d no_deal) (replicate l no_line) (fresh_sound date d l accounts resources e f) }
