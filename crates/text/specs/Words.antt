-- The words of a line.
use Rattle.std.specs.Prelude.{ℕ, Bool, not, ◌||◌, List, ◌==◌, length, take, drop, position}
use Rattle.std.specs.Option.{unwrap_or}

-- a space or a tab
abbrev pub blank : ℕ → Bool
blank c = c == 32 || c == 9

-- a blank, or the # of a comment
abbrev pub ending : ℕ → Bool
ending c = blank c || c == 35

-- where the first byte that passes a test stands, or else the end
abbrev pub place_or_end : (ℕ → Bool) → List ℕ → ℕ
place_or_end p s = unwrap_or (position p s) (length s)

-- what is left from the first byte on that is no blank
abbrev pub skipped : List ℕ → List ℕ
skipped s = drop (place_or_end (λ c. not (blank c)) s) s

-- the bytes before the next blank or comment
abbrev pub word_of : List ℕ → List ℕ
word_of s = take (place_or_end ending s) s

-- and what is left behind them
abbrev pub after_word : List ℕ → List ℕ
after_word s = drop (place_or_end ending s) s

-- the next word of what is left, and what is left then
abbrev pub next : List ℕ → List ℕ
next s = word_of (skipped s)

abbrev pub rest : List ℕ → List ℕ
rest s = after_word (skipped s)
