-- What the words behind `begin` state.
use Rattle.std.specs.Prelude.{ℕ, List, Option}
use Rattle.text.specs.Numbers.{below, small, short, wholly}
use Rattle.text.specs.Saying.{with, past}
use Rattle.register_script.specs.declared.command.Beginning.{Beginning}

-- a count of rows or places, at most 4,096
abbrev pub count : List ℕ → Option ℕ
count s = below 4_097 (small s)

-- a date, the rows of two tables and the places of a list, and no more
abbrev pub beginning_in : List ℕ → Option Beginning
beginning_in s =
    with (short s) (λ d. with (count (past 1 s)) (λ n. with (count (past 2 s)) (λ m. with (count (past 3 s)) (λ k.
    wholly (record { date = d; deals = n; lines = m; slips = k }) (past 4 s)))))
