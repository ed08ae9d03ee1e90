-- The choice of a book and its opening amounts.
use Rattle.std.specs.Prelude.{ℕ, ◌+◌, ◌*◌, Bool, cond, ◌&&◌, List, length, is_ok, Some, None, Err, Option, Result, nat_le, slice_set}
use Rattle.book.specs.declared.refusal.BookRefusal.{BookRefusal}
use Rattle.book.specs.declared.refusal.BookRefusal.TheVariants.{Unfit}
use Rattle.books.specs.Laying.{sized, stated_verdict}
use Rattle.script.specs.declared.command.BookChoice.{BookChoice}
use Rattle.script.specs.declared.command.Command.{Command}
use Rattle.script.specs.declared.command.Command.TheVariants.{Choose, Amount, Hold, Move, Show}
use Rattle.script.specs.declared.command.Holding.{Holding}
use Rattle.booking.specs.Answers.{Answer, accepted, misplaced, of_book}

-- sizes in their ranges, and at most 65,535 movements or postings
abbrev pub modest : BookChoice → Bool
modest c = sized c.accounts c.resources && nat_le c.count 65_535

-- a book is chosen once
abbrev pub chosen_answer : Option BookChoice → BookChoice → Answer
chosen_answer (Some c) w = misplaced
chosen_answer None w = cond (modest w) accepted (of_book (Err Unfit))

abbrev pub chosen_after : Option BookChoice → BookChoice → Option BookChoice
chosen_after (Some c) w = Some c
chosen_after None w = cond (modest w) (Some w) None

-- what the book that is chosen says to an opening amount, in a memory of n amounts
abbrev pub stated : BookChoice → ℕ → Holding → Result (Unit {0}) BookRefusal
stated c n h = stated_verdict c.accounts c.resources n h.account h.resource h.quantity

abbrev pub stated_answer : Option BookChoice → ℕ → Holding → Answer
stated_answer None n h = misplaced
stated_answer (Some c) n h = of_book (stated c n h)

abbrev pub stated_after : Option BookChoice → List ℕ → Holding → List ℕ
stated_after None xs h = xs
stated_after (Some c) xs h = cond (is_ok (stated c (length xs) h)) (slice_set xs (h.account * c.resources + h.resource) h.quantity) xs

-- ── a command before the book is made ──

abbrev pub prepared_answer : Option BookChoice → ℕ → Command → Answer
prepared_answer o n (Choose w) = chosen_answer o w
prepared_answer o n (Amount h) = stated_answer o n h
prepared_answer o n (Hold h) = misplaced
prepared_answer o n (Move v) = misplaced
prepared_answer o n Show = misplaced

abbrev pub prepared_choice : Option BookChoice → Command → Option BookChoice
prepared_choice o (Choose w) = chosen_after o w
prepared_choice o (Amount h) = o
prepared_choice o (Hold h) = o
prepared_choice o (Move v) = o
prepared_choice o Show = o

abbrev pub prepared_amounts : Option BookChoice → List ℕ → Command → List ℕ
prepared_amounts o xs (Choose w) = xs
prepared_amounts o xs (Amount h) = stated_after o xs h
prepared_amounts o xs (Hold h) = xs
prepared_amounts o xs (Move v) = xs
prepared_amounts o xs Show = xs
