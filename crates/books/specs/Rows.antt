-- The rows of the holdback layer.
use Rattle.std.specs.Prelude.{ℕ, Bool, true, cond, not, ◌&&◌, ◌||◌, List, [], ◌∷◌, ◌==◌, nat_lt}
use Rattle.std.specs.List.{list_any}
use Rattle.books.specs.declared.row.HoldRow.{HoldRow}

abbrev pub free_row : HoldRow
free_row = record { account = 0; resource = 0; quantity = 0 }

-- a row that holds back of account a in resource r
abbrev pub named : ℕ → ℕ → HoldRow → Bool
named a r row = nat_lt 0 row.quantity && (row.account == a && row.resource == r)

abbrev pub free : HoldRow → Bool
free row = row.quantity == 0

-- the row that a quantity is written as: 0 frees it
abbrev pub row_of : ℕ → ℕ → ℕ → HoldRow
row_of a r q = cond (q == 0) free_row (record { account = a; resource = r; quantity = q })

-- ── tables of rows ──

-- the first row that passes is replaced
unfoldable pub replaced : (HoldRow → Bool) → HoldRow → List HoldRow → List HoldRow
replaced p w [] = []
replaced p w (x ∷ xs) = cond (p x) (w ∷ xs) (x ∷ replaced p w xs)

-- the quantity of the row that names account a and resource r, else 0
unfoldable pub held : List HoldRow → ℕ → ℕ → ℕ
held [] a r = 0
held (x ∷ xs) a r = cond (named a r x) x.quantity (held xs a r)

-- no two rows name one account and resource
unfoldable pub distinct : List HoldRow → Bool
distinct [] = true
distinct (x ∷ xs) = (free x || not (list_any (named x.account x.resource) xs)) && distinct xs
