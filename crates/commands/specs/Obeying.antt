-- What a command does to a book with the holdback layer over it.
use Rattle.std.specs.Prelude.{List}
use Rattle.book.specs.Meaning.{Meaning}
use Rattle.booking.specs.Obeying as booking
use Rattle.books.specs.declared.row.HoldRow.{HoldRow}
use Rattle.books.specs.Holding.{layered}
use Rattle.register_script.specs.declared.command.Command.{Command}
use Rattle.register_script.specs.declared.command.Command.TheVariants.{Book, Begin, Register}
use Rattle.commands.specs.Answers.{Answer, misplaced, of_book}

abbrev pub answer_to : Meaning → List HoldRow → Command → Answer
answer_to m rows (Book c) = of_book (booking.answer_to m rows c)
answer_to m rows (Begin b) = misplaced
answer_to m rows (Register c) = misplaced

abbrev pub meaning_after : Meaning → List HoldRow → Command → Meaning
meaning_after m rows (Book c) = booking.meaning_after m rows c
meaning_after m rows (Begin b) = layered m rows
meaning_after m rows (Register c) = layered m rows
