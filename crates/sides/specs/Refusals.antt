-- The numbers of the register's refusals.
use Rattle.std.specs.Prelude.{ℕ}
use Rattle.sides.specs.declared.refusal.Refusal.{Refusal}
use Rattle.sides.specs.declared.refusal.Refusal.TheVariants.{Broken, WrongPhase, NotStanding, OutOfRange, SidesDiffer, OtherDay, NoAccount, ReturnDay, LinesStand, NoSecurities, NoRows, NoNumbers, NoSlips, Book}

abbrev pub number_of : Refusal → ℕ
number_of (Broken _) = 1
number_of WrongPhase = 2
number_of NotStanding = 3
number_of OutOfRange = 4
number_of SidesDiffer = 5
number_of OtherDay = 6
number_of NoAccount = 7
number_of ReturnDay = 8
number_of LinesStand = 9
number_of NoSecurities = 10
number_of NoRows = 11
number_of NoNumbers = 12
number_of NoSlips = 13
number_of (Book _) = 14
