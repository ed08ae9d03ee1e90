-- What becomes of a command.
use Rattle.std.specs.Prelude.{Ok, Err, Result}
use Rattle.book.specs.declared.refusal.BookRefusal.TheVariants.{Outside}
use Rattle.booking.specs.declared.unobeyed.Unobeyed.{Unobeyed as Unbooked}
use Rattle.booking.specs.declared.unobeyed.Unobeyed.TheVariants as booking
use Rattle.memory.specs.declared.place.Fault.{Fault}
use Rattle.panel.specs.declared.refusal.PanelRefusal.{PanelRefusal}
use Rattle.panel.specs.declared.refusal.PanelRefusal.TheVariants as panel
use Rattle.sides.specs.declared.refusal.Refusal.{Refusal}
use Rattle.sides.specs.declared.refusal.Refusal.TheVariants.{Broken}
use Rattle.commands.specs.declared.unobeyed.Unobeyed.{Unobeyed}
use Rattle.commands.specs.declared.unobeyed.Unobeyed.TheVariants.{ByBook, ByRegister, Misplaced}

abbrev pub Answer : Type 0
Answer = Result (Unit {0}) Unobeyed

-- it is carried out, is refused by the register, or cannot stand where it stands
abbrev pub accepted : Answer
accepted = Ok tt

abbrev pub refused : Refusal → Answer
refused r = Err (ByRegister r)

abbrev pub misplaced : Answer
misplaced = Err Misplaced

-- why the book, the register's rules and the front panel let it do nothing
abbrev pub by_book : Unbooked → Unobeyed
by_book (booking.Refused e) = ByBook e
by_book booking.Misplaced = Misplaced

abbrev pub by_fault : Fault → Unobeyed
by_fault f = ByRegister (Broken f)

abbrev pub by_panel : PanelRefusal → Unobeyed
by_panel (panel.Broken f) = by_fault f
by_panel panel.Outside = ByBook Outside

-- what becomes of a command to the book
abbrev pub of_book : Result (Unit {0}) Unbooked → Answer
of_book (Ok u) = Ok u
of_book (Err e) = Err (by_book e)
