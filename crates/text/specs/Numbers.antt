-- Numbers in decimal digits.
use Rattle.std.specs.Prelude.{ℕ, ◌+◌, ◌-◌, ◌*◌, ◌^◌, Bool, true, false, cond, ◌&&◌, List, [], ◌∷◌, Some, None, Option, nat_le, nat_lt}
use Rattle.text.specs.Words.{next}

abbrev pub digit : ℕ → Bool
digit c = nat_le 48 c && nat_le c 57

unfoldable pub all_digits : List ℕ → Bool
all_digits [] = true
all_digits (c ∷ cs) = digit c && all_digits cs

-- the number that digits write behind n
unfoldable pub value_from : ℕ → List ℕ → ℕ
value_from n [] = n
value_from n (c ∷ cs) = value_from (10 * n + (c - 48)) cs

-- n and a digit behind it, where they write a number below 2^64
abbrev pub with_digit : ℕ → ℕ → Option ℕ
with_digit n c = cond (digit c && nat_lt (10 * n + (c - 48)) (2 ^ 64)) (Some (10 * n + (c - 48))) None

-- n and the digits behind it, where they write a number below 2^64
abbrev pub number_from : ℕ → List ℕ → Option ℕ
number_from n cs = cond (all_digits cs && nat_lt (value_from n cs) (2 ^ 64)) (Some (value_from n cs)) None

-- a word has a byte
abbrev pub some : List ℕ → Bool
some [] = false
some (c ∷ cs) = true

-- the number that a word writes: decimal digits, below 2^64
unfoldable pub number_of : List ℕ → Option ℕ
number_of w = cond (some w) (number_from 0 w) None

abbrev pub below : ℕ → Option ℕ → Option ℕ
below limit (Some n) = cond (nat_lt n limit) (Some n) None
below limit None = None

-- of 32, 16 and 8 bits
abbrev pub small_of : List ℕ → Option ℕ
small_of w = below (2 ^ 32) (number_of w)

abbrev pub short_of : List ℕ → Option ℕ
short_of w = below (2 ^ 16) (number_of w)

abbrev pub tiny_of : List ℕ → Option ℕ
tiny_of w = below (2 ^ 8) (number_of w)

-- the next word as a number, of 64, 32, 16 and 8 bits
abbrev pub wide : List ℕ → Option ℕ
wide s = number_of (next s)

abbrev pub small : List ℕ → Option ℕ
small s = small_of (next s)

abbrev pub short : List ℕ → Option ℕ
short s = short_of (next s)

abbrev pub tiny : List ℕ → Option ℕ
tiny s = tiny_of (next s)

-- something, where no word is left
abbrev pub wholly : {X : Type 0} → X → List ℕ → Option X
wholly x s = cond (some (next s)) None (Some x)
