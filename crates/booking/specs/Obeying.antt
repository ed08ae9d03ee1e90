-- What a command does to a book with the holdback layer over it.
use Rattle.std.specs.Prelude.{List}
use Rattle.book.specs.Meaning.{Meaning}
use Rattle.book.specs.Moving.{verdict, after}
use Rattle.books.specs.declared.row.HoldRow.{HoldRow}
use Rattle.books.specs.Holding.{layered, hold_verdict, held_after}
use Rattle.script.specs.declared.command.Command.{Command}
use Rattle.script.specs.declared.command.Command.TheVariants.{Choose, Amount, Hold, Move, Show}
use Rattle.booking.specs.Answers.{Answer, accepted, misplaced, of_book}

abbrev pub answer_to : Meaning → List HoldRow → Command → Answer
answer_to m rows (Choose w) = misplaced
answer_to m rows (Amount h) = misplaced
answer_to m rows (Hold h) = of_book (hold_verdict m rows h.account h.resource h.quantity)
answer_to m rows (Move v) = of_book (verdict (layered m rows) v)
answer_to m rows Show = accepted

abbrev pub meaning_after : Meaning → List HoldRow → Command → Meaning
meaning_after m rows (Choose w) = layered m rows
meaning_after m rows (Amount h) = layered m rows
meaning_after m rows (Hold h) = held_after m rows h.account h.resource h.quantity
meaning_after m rows (Move v) = after (layered m rows) v
meaning_after m rows Show = layered m rows
