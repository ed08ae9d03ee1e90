-- What becomes of a command.
use Rattle.std.specs.Prelude.{Ok, Err, Result}
use Rattle.book.specs.declared.refusal.BookRefusal.{BookRefusal}
use Rattle.booking.specs.declared.unobeyed.Unobeyed.{Unobeyed}
use Rattle.booking.specs.declared.unobeyed.Unobeyed.TheVariants.{Refused, Misplaced}

abbrev pub Answer : Type 0
Answer = Result (Unit {0}) Unobeyed

-- it is carried out, or cannot stand where it stands
abbrev pub accepted : Answer
accepted = Ok tt

abbrev pub misplaced : Answer
misplaced = Err Misplaced

-- a book's answer
abbrev pub of_book : Result (Unit {0}) BookRefusal → Answer
of_book (Ok u) = Ok u
of_book (Err e) = Err (Refused e)
