-- Words that name a currency or a valuation.
use Rattle.std.specs.Prelude.{ℕ, List, [], ◌∷◌, codes, Option}
use Rattle.text.specs.Naming.{lookup}
use Rattle.memory.specs.declared.row.Weighing.{Weighing}
use Rattle.memory.specs.declared.row.Weighing.TheVariants.{Margin, Haircut}
use Rattle.valuation.specs.declared.currency.Currency.{Currency}
use Rattle.valuation.specs.declared.currency.Currency.TheVariants.{Gbp, Eur, Usd}

abbrev pub currency_of : List ℕ → Option Currency
currency_of w = lookup w ((codes "GBP", Gbp) ∷ ((codes "EUR", Eur) ∷ ((codes "USD", Usd) ∷ [])))

abbrev pub weighing_of : List ℕ → Option Weighing
weighing_of w = lookup w ((codes "margin", Margin) ∷ ((codes "haircut", Haircut) ∷ []))
