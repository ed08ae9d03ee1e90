-- The number of each case.
use Rattle.std.specs.Prelude.{ℕ}
use Rattle.sharing.specs.declared.accrual.DayBase.{DayBase}
use Rattle.sharing.specs.declared.accrual.DayBase.TheVariants.{Actual365, Actual360}
use Rattle.valuation.specs.declared.currency.Currency.{Currency}
use Rattle.valuation.specs.declared.currency.Currency.TheVariants.{Gbp, Eur, Usd}
use Rattle.memory.specs.declared.place.Table.{Table}
use Rattle.memory.specs.declared.place.Table.TheVariants.{Head, Deals, Lines, Prices}
use Rattle.memory.specs.declared.row.Kind.{Kind}
use Rattle.memory.specs.declared.row.Kind.TheVariants.{Settle, Return, Substitute, Mark, Pay}
use Rattle.memory.specs.declared.row.Phase.{Phase}
use Rattle.memory.specs.declared.row.Phase.TheVariants.{Day, DayEnd}
use Rattle.memory.specs.declared.row.Sense.{Sense}
use Rattle.memory.specs.declared.row.Sense.TheVariants.{Out, Back, Cash}
use Rattle.memory.specs.declared.row.Weighing.{Weighing}
use Rattle.memory.specs.declared.row.Weighing.TheVariants.{Margin, Haircut}

abbrev pub phase_number : Phase → ℕ
phase_number Day = 0
phase_number DayEnd = 1

abbrev pub weighing_number : Weighing → ℕ
weighing_number Margin = 0
weighing_number Haircut = 1

abbrev pub kind_number : Kind → ℕ
kind_number Settle = 1
kind_number Return = 2
kind_number Substitute = 3
kind_number Mark = 4
kind_number Pay = 5

abbrev pub sense_number : Sense → ℕ
sense_number Out = 0
sense_number Back = 1
sense_number Cash = 2

abbrev pub table_number : Table → ℕ
table_number Head = 0
table_number Deals = 1
table_number Lines = 2
table_number Prices = 3

-- the year of a currency
abbrev pub base_of : Currency → DayBase
base_of Gbp = Actual365
base_of Eur = Actual360
base_of Usd = Actual360
