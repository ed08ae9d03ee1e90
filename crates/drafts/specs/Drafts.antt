-- What a draft holds, and what comes of it.
use Rattle.std.specs.Prelude.{ℕ, cond, List, length, is_ok, Ok, Err, Result, nat_lt}
use Rattle.book.specs.declared.movement.RefusedAt.{RefusedAt}
use Rattle.book.specs.Lists.{run, rehearsed}
use Rattle.book.specs.Meaning.{Meaning}
use Rattle.memory.specs.declared.row.Slip.{Slip}
use Rattle.sides.specs.declared.refusal.Refusal.{Refusal}
use Rattle.sides.specs.declared.refusal.Refusal.TheVariants.{NoSlips, Book}
use Rattle.law.specs.Outcomes.{listed}
use Rattle.law.specs.Slips.{movements_of}
use Rattle.drafts.specs.declared.draft.Draft.{Draft}
use Rattle.drafts.specs.declared.draft.DraftFull.{DraftFull}

abbrev pub most_slips : ℕ
most_slips = 1024

abbrev pub slips_of : Draft → List Slip
slips_of d = d.slips.items

-- a slip more is put where there are fewer than the most
abbrev pub put_answer : List Slip → Result (Unit {0}) DraftFull
put_answer xs = cond (nat_lt (length xs) most_slips) (Ok tt) (Err (record {}))

-- the book's refusal as the register's
abbrev pub by_book : Result (Unit {0}) RefusedAt → Result (Unit {0}) Refusal
by_book (Ok u) = Ok tt
by_book (Err at) = Err (Book at)

-- slips that have their places and that the book takes
abbrev pub movable : Meaning → List Slip → ℕ → Result (Unit {0}) Refusal
movable m xs places = cond (nat_lt places (length xs)) (Err NoSlips) (by_book (rehearsed m (movements_of xs)))

abbrev pub book_after : Meaning → List Slip → ℕ → Meaning
book_after m xs places = cond (is_ok (movable m xs places)) (run m (movements_of xs)) m

abbrev pub list_after : Meaning → List Slip → List Slip → List Slip
list_after m xs list = cond (is_ok (movable m xs (length list))) (listed xs list) list
