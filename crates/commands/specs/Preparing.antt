-- A command before the book is made.
use Rattle.std.specs.Prelude.{ℕ, List, Option}
use Rattle.booking.specs.Preparing as booking
use Rattle.register_script.specs.declared.command.Command.{Command}
use Rattle.register_script.specs.declared.command.Command.TheVariants.{Book, Begin, Register}
use Rattle.script.specs.declared.command.BookChoice.{BookChoice}
use Rattle.commands.specs.Answers.{Answer, misplaced, of_book}

abbrev pub prepared_answer : Option BookChoice → ℕ → Command → Answer
prepared_answer o n (Book c) = of_book (booking.prepared_answer o n c)
prepared_answer o n (Begin b) = misplaced
prepared_answer o n (Register c) = misplaced

abbrev pub prepared_choice : Option BookChoice → Command → Option BookChoice
prepared_choice o (Book c) = booking.prepared_choice o c
prepared_choice o (Begin b) = o
prepared_choice o (Register c) = o

abbrev pub prepared_amounts : Option BookChoice → List ℕ → Command → List ℕ
prepared_amounts o xs (Book c) = booking.prepared_amounts o xs c
prepared_amounts o xs (Begin b) = xs
prepared_amounts o xs (Register c) = xs
