-- The numbers of the currencies, which are also their resources.
use Rattle.std.specs.Prelude.{ℕ}
use Rattle.valuation.specs.declared.currency.Currency.{Currency}
use Rattle.valuation.specs.declared.currency.Currency.TheVariants.{Gbp, Eur, Usd}

abbrev pub number_of : Currency → ℕ
number_of Gbp = 0
number_of Eur = 1
number_of Usd = 2
