-- Cash that is to be shared over a list of values.
use Rattle.std.specs.Prelude.{ℕ, ◌^◌, cond, List, length, is_ok, Some, None, Ok, Err, Option, Result, ◌==◌, nat_le, nat_lt}
use Rattle.sharing.specs.declared.refusal.SharingRefusal.{SharingRefusal}
use Rattle.sharing.specs.declared.refusal.SharingRefusal.TheVariants.{Lengths, Total, Cash}
use Rattle.sharing.specs.Limits.{most_cash}
use Rattle.sharing.specs.Parts.{total_of, parts_of}

-- a total that 64 bits hold
abbrev pub fitting : ℕ → Option ℕ
fitting total = cond (nat_lt total (2 ^ 64)) (Some total) None

-- the answer where there are so many places for the parts
abbrev pub verdict : ℕ → List ℕ → ℕ → Result (Unit {0}) SharingRefusal
verdict cash vs places =
    cond (length vs == places)
    (cond (nat_lt (total_of vs) (2 ^ 64)) (cond (nat_le cash most_cash) (Ok tt) (Err Cash)) (Err Total))
    (Err Lengths)

-- what the places hold then: the parts, or what they held before
abbrev pub apportioned : ℕ → List ℕ → List ℕ → List ℕ
apportioned cash vs ps = cond (is_ok (verdict cash vs (length ps))) (parts_of cash vs) ps
