-- What the holdback layer makes of the book below.
use Rattle.std.specs.Prelude.{ℕ, ◌+◌, min, Bool, cond, not, ◌&&◌, List, [], ◌∷◌, is_ok, Result, ◌==◌, nat_lt}
use Rattle.std.specs.List.{list_any}
use Rattle.book.specs.declared.refusal.BookRefusal.{BookRefusal}
use Rattle.book.specs.declared.refusal.BookRefusal.TheVariants.{Outside, Quantity, NoRow}
use Rattle.book.specs.Refusals.{first_refusal}
use Rattle.book.specs.Meaning.{Meaning, within, limit}
use Rattle.books.specs.declared.row.HoldRow.{HoldRow}
use Rattle.books.specs.Rows.{named, free, row_of, replaced, held}

-- the book below with what the rows hold back on top, capped at the limit
abbrev pub layered : Meaning → List HoldRow → Meaning
layered m rows =
    record { accounts = m.accounts; resources = m.resources; amount = m.amount; holdback = λ a r. cond (within m a r) (min limit (m.holdback a r + held rows a r)) 0; left = m.left }

-- ── setting a row ──

-- a row would be needed, and none is free
abbrev pub crowded : List HoldRow → ℕ → ℕ → ℕ → Bool
crowded rows a r q = not (q == 0) && (not (list_any (named a r) rows) && not (list_any free rows))

-- the answer to holding back q of account a in resource r
abbrev pub hold_verdict : Meaning → List HoldRow → ℕ → ℕ → ℕ → Result (Unit {0}) BookRefusal
hold_verdict m rows a r q =
    first_refusal ((not (within m a r), Outside) ∷ ((nat_lt limit q, Quantity) ∷ ((crowded rows a r q, NoRow) ∷ [])))

-- the row that names them is replaced, or else, where something is to be held back, a free row is taken
abbrev pub rows_with : List HoldRow → ℕ → ℕ → ℕ → List HoldRow
rows_with rows a r q =
    cond (list_any (named a r) rows) (replaced (named a r) (row_of a r q) rows) (cond (q == 0) rows (replaced free (row_of a r q) rows))

abbrev pub rows_after : Meaning → List HoldRow → ℕ → ℕ → ℕ → List HoldRow
rows_after m rows a r q = cond (is_ok (hold_verdict m rows a r q)) (rows_with rows a r q) rows

-- a book that holds back h of account a in resource r, and else what it held back
abbrev pub holding_back : Meaning → ℕ → ℕ → ℕ → Meaning
holding_back m a r h =
    record { accounts = m.accounts; resources = m.resources; amount = m.amount; holdback = λ x y. cond (x == a && y == r) h (m.holdback x y); left = m.left }

-- the layer that holds back q more than the book below, capped
abbrev pub holding_more : Meaning → List HoldRow → ℕ → ℕ → ℕ → Meaning
holding_more m rows a r q = holding_back (layered m rows) a r (min limit (m.holdback a r + q))

abbrev pub held_after : Meaning → List HoldRow → ℕ → ℕ → ℕ → Meaning
held_after m rows a r q = cond (is_ok (hold_verdict m rows a r q)) (holding_more m rows a r q) (layered m rows)
