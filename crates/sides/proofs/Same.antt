-- Terms that are the same in every field are equal, and only they.
use Rattle.std.proofs.Common.{◌≡◌, Bool, true, false, eqb, Decides, refl, subst, arith}
use Rattle.std.proofs.lemmas.Bool.{and_parts, eqb-true, false≢true}
use Rattle.std.proofs.lemmas.Bool.Decides.{nat_tests}
use Rattle.memory.specs.declared.row.Weighing.{Weighing}
use Rattle.memory.specs.declared.row.Weighing.TheVariants.{Margin, Haircut}
use Rattle.memory.specs.Kinds.{weighing_number}
use Rattle.valuation.specs.declared.currency.Currency.{Currency}
use Rattle.valuation.specs.declared.currency.Currency.TheVariants.{Gbp, Eur, Usd}
use Rattle.valuation.specs.Currencies.{number_of}
use Rattle.sides.specs.declared.terms.Terms.{Terms}
use Rattle.sides.specs.Sameness.{same_bool, same_terms}

currency : (a b : Currency) → eqb (number_of a) (number_of b) ≡ true → a ≡ b
currency Gbp Gbp h = refl
currency Gbp Eur h = absurd (false≢true h)
currency Gbp Usd h = absurd (false≢true h)
currency Eur Gbp h = absurd (false≢true h)
currency Eur Eur h = refl
currency Eur Usd h = absurd (false≢true h)
currency Usd Gbp h = absurd (false≢true h)
currency Usd Eur h = absurd (false≢true h)
currency Usd Usd h = refl

weighing : (a b : Weighing) → eqb (weighing_number a) (weighing_number b) ≡ true → a ≡ b
weighing Margin Margin h = refl
weighing Margin Haircut h = absurd (false≢true h)
weighing Haircut Margin h = absurd (false≢true h)
weighing Haircut Haircut h = refl

bool : (a b : Bool) → same_bool a b ≡ true → a ≡ b
bool true true h = refl
bool true false h = absurd (false≢true h)
bool false true h = absurd (false≢true h)
bool false false h = refl

bool_self : (a : Bool) → same_bool a a ≡ true
bool_self true = refl
bool_self false = refl

pub equal_terms : (a b : Terms) → same_terms a b ≡ true → a ≡ b
unfolding same_terms
equal_terms a b h =
    let day = and_parts (eqb a.day b.day) _ h in
    let giver = and_parts (eqb a.giver b.giver) _ day.1 in
    let taker = and_parts (eqb a.taker b.taker) _ giver.1 in
    let money = and_parts (eqb (number_of a.currency) (number_of b.currency)) _ taker.1 in
    let class = and_parts (eqb a.class b.class) _ money.1 in
    let weighed = and_parts (eqb (weighing_number a.weighing) (weighing_number b.weighing)) _ class.1 in
    let margin = and_parts (eqb a.margin b.margin) _ weighed.1 in
    let sought = and_parts (eqb a.sought b.sought) _ margin.1 in
    let cash = and_parts (eqb a.cash b.cash) _ sought.1 in
    let rate = and_parts (eqb a.rate b.rate) _ cash.1 in
    let due = and_parts (eqb a.due b.due) _ rate.1 in
    λ i. record { day = eqb-true _ _ day.0 i; giver = eqb-true _ _ giver.0 i; taker = eqb-true _ _ taker.0 i; currency = currency _ _ money.0 i; class = eqb-true _ _ class.0 i; weighing = weighing _ _ weighed.0 i; margin = eqb-true _ _ margin.0 i; sought = eqb-true _ _ sought.0 i; cash = eqb-true _ _ cash.0 i; rate = eqb-true _ _ rate.0 i; due = eqb-true _ _ due.0 i; limit = bool a.limit b.limit due.1 i }

pub same_self : (a : Terms) → same_terms a a ≡ true
unfolding same_terms
same_self a = let l = bool_self a.limit in grind (arith, nat_tests)

pub same_decides : (a b : Terms) → Decides (same_terms a b) (a ≡ b)
same_decides a b = (equal_terms a b, λ e. let P : Terms → Type 0 = λ t. same_terms a t ≡ true in subst P e (same_self a))
