-- A row that equals the unused one is a row of zeros.
use Rattle.std.specs.Prelude.{◌≡◌, Bool, true, false, not, ◌&&◌, ◌==◌, refl}
use Rattle.std.proofs.Common.{ap, ◌∙◌}
use denote.Enum.Bare.{sameb}
use mathlib.Core.Bool.{beq}
use Rattle.valuation.specs.Currencies.{number_of}
use Rattle.valuation.specs.contracts.currency.Currency.{the_type as currency_type}
use Rattle.valuation.specs.declared.currency.Currency.{Currency}
use Rattle.valuation.specs.declared.currency.Currency.TheVariants.{Gbp, Eur, Usd}
use Rattle.memory.specs.contracts.row.Weighing.{the_type as weighing_type}
use Rattle.memory.specs.declared.row.Deal.{Deal}
use Rattle.memory.specs.declared.row.Weighing.{Weighing}
use Rattle.memory.specs.declared.row.Weighing.TheVariants.{Margin, Haircut}
use Rattle.memory.specs.Kinds.{weighing_number}
use Rattle.memory.specs.Sound.{zero_deal}

first_currency : (c : Currency) → sameb currency_type c Gbp ≡ (number_of c == 0)
first_currency Gbp = refl
first_currency Eur = refl
first_currency Usd = refl

first_weighing : (w : Weighing) → sameb weighing_type w Margin ≡ (weighing_number w == 0)
first_weighing Margin = refl
first_weighing Haircut = refl

not_set : (b : Bool) → beq b false ≡ not b
not_set true = refl
not_set false = refl

-- eight tests of a deal's terms, and those of its cash
grouped : (a b c d e f g h rest : Bool) → (a && (b && (c && (d && (e && (f && (g && (h && rest)))))))) ≡ ((a && (b && (c && (d && (e && (f && (g && h))))))) && rest)
grouped true b c d e f g h rest = tail b c d e f g h rest
  where
    tail : (b c d e f g h rest : Bool) → (b && (c && (d && (e && (f && (g && (h && rest))))))) ≡ ((b && (c && (d && (e && (f && (g && h)))))) && rest)
    tail true true true true true true h rest = refl
    tail false c d e f g h rest = refl
    tail true false d e f g h rest = refl
    tail true true false e f g h rest = refl
    tail true true true false f g h rest = refl
    tail true true true true false g h rest = refl
    tail true true true true true false h rest = refl
grouped false b c d e f g h rest = refl

pub blank_deal : (d : Deal) → (d.number == 0 && (d.giver == 0 && (d.taker == 0 && (sameb currency_type d.currency Gbp && (d.class == 0 && (sameb weighing_type d.weighing Margin && (d.margin == 0 && (d.sought == 0 && (d.rate == 0 && (d.due == 0 && (beq d.limit false && (d.cash == 0 && (d.whole == 0 && d.residue == 0))))))))))))) ≡ zero_deal d
blank_deal d =
    (λ i. d.number == 0 && (d.giver == 0 && (d.taker == 0 && (first_currency d.currency i && (d.class == 0 && (first_weighing d.weighing i && (d.margin == 0 && (d.sought == 0 && (d.rate == 0 && (d.due == 0 && (not_set d.limit i && (d.cash == 0 && (d.whole == 0 && d.residue == 0)))))))))))))
    ∙ ap (λ b. d.number == 0 && (d.giver == 0 && (d.taker == 0 && b))) (grouped (number_of d.currency == 0) (d.class == 0) (weighing_number d.weighing == 0) (d.margin == 0) (d.sought == 0) (d.rate == 0) (d.due == 0) (not d.limit) (d.cash == 0 && (d.whole == 0 && d.residue == 0)))
