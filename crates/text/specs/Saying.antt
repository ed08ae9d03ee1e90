-- What the words of a line say.
use Rattle.std.specs.Prelude.{ℕ, zero, suc, cond, List, Some, None, Ok, Err, Option, Result}
use Rattle.text.specs.Numbers.{some}
use Rattle.text.specs.Words.{next, rest}
use Rattle.text.specs.declared.line.Unread.{Unread}

-- what comes of something, or nothing
abbrev pub with : {X Y : Type 0} → Option X → (X → Option Y) → Option Y
with (Some x) f = f x
with None f = None

-- what is left behind so many words
abbrev pub past : ℕ → List ℕ → List ℕ
past zero s = s
past (suc k) s = rest (past k s)

abbrev pub or_unread : {X : Type 0} → Option X → Result (Option X) Unread
or_unread (Some x) = Ok (Some x)
or_unread None = Err (record {})

-- nothing where no word stands on a line, and else what its first word says with those behind it
abbrev pub line_of : {X : Type 0} → (List ℕ → List ℕ → Option X) → List ℕ → Result (Option X) Unread
line_of said s = cond (some (next s)) (or_unread (said (next s) (rest s))) (Ok None)
