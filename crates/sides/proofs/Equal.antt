-- Terms are equal just where every field of them is the same.
use Rattle.std.proofs.Common.{◌≡◌, Bool, true, false, not, ◌&&◌, eqb, refl, sym, ◌∙◌}
use Rattle.std.specs.Bool.{beq}
use denote.Enum.Bare.{sameb}
use Rattle.memory.specs.declared.row.Weighing.{Weighing}
use Rattle.memory.specs.declared.row.Weighing.TheVariants.{Margin, Haircut}
use Rattle.memory.specs.contracts.row.Weighing.{the_type as weighings}
use Rattle.memory.specs.Kinds.{weighing_number}
use Rattle.valuation.specs.declared.currency.Currency.{Currency}
use Rattle.valuation.specs.declared.currency.Currency.TheVariants.{Gbp, Eur, Usd}
use Rattle.valuation.specs.contracts.currency.Currency.{the_type as currencies}
use Rattle.valuation.specs.Currencies.{number_of}
use Rattle.sides.specs.declared.terms.Terms.{Terms}
use Rattle.sides.specs.Sameness.{same_bool, same_terms}
use Rattle.std.proofs.lemmas.Bool.{not-true}

currency : (a b : Currency) → sameb currencies a b ≡ eqb (number_of a) (number_of b)
currency Gbp Gbp = refl
currency Gbp Eur = refl
currency Gbp Usd = refl
currency Eur Gbp = refl
currency Eur Eur = refl
currency Eur Usd = refl
currency Usd Gbp = refl
currency Usd Eur = refl
currency Usd Usd = refl

weighing : (a b : Weighing) → sameb weighings a b ≡ eqb (weighing_number a) (weighing_number b)
weighing Margin Margin = refl
weighing Margin Haircut = refl
weighing Haircut Margin = refl
weighing Haircut Haircut = refl

bool : (a b : Bool) → beq a b ≡ same_bool a b
bool true true = refl
bool true false = refl
bool false true = refl
bool false false = refl

-- what `==` answers
abbrev equal : Terms → Terms → Bool
equal a b =
    eqb a.day b.day && (eqb a.giver b.giver && (eqb a.taker b.taker && (sameb currencies a.currency b.currency && (eqb a.class b.class && (sameb weighings a.weighing b.weighing
    && (eqb a.margin b.margin && (eqb a.sought b.sought && (eqb a.cash b.cash && (eqb a.rate b.rate && (eqb a.due b.due && beq a.limit b.limit))))))))))

equal_is_same : (a b : Terms) → equal a b ≡ same_terms a b
unfolding same_terms
equal_is_same a b = λ i.
    eqb a.day b.day && (eqb a.giver b.giver && (eqb a.taker b.taker && (currency a.currency b.currency i && (eqb a.class b.class && (weighing a.weighing b.weighing i
    && (eqb a.margin b.margin && (eqb a.sought b.sought && (eqb a.cash b.cash && (eqb a.rate b.rate && (eqb a.due b.due && bool a.limit b.limit i))))))))))

pub differ : (a b : Terms) → true ≡ not (equal a b) → same_terms a b ≡ false
differ a b h = sym (equal_is_same a b) ∙ not-true (equal a b) (sym h)

not_false : (t : Bool) → not t ≡ false → t ≡ true
not_false true h = refl
not_false false h = sym h

pub agree : (a b : Terms) → false ≡ not (equal a b) → same_terms a b ≡ true
agree a b h = sym (equal_is_same a b) ∙ not_false (equal a b) (sym h)
