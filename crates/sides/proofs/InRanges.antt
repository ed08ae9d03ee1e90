-- Terms that fit are in their ranges, and the other way round.
use Rattle.std.proofs.Common.{◌≡◌, ℕ, ◌≤◌, true, refl, arith}
use Rattle.memory.specs.declared.row.Weighing.{Weighing}
use Rattle.memory.specs.declared.row.Weighing.TheVariants.{Margin, Haircut}
use Rattle.std.proofs.lemmas.Bool.{and_parts, leb-true, le-leb, eqb-true, eq-eqb}
use Rattle.std.proofs.lemmas.Bool.Decides.{nat_tests}
use Rattle.valuation.specs.Most.{most_margin}
use Rattle.sides.specs.declared.terms.Terms.{Terms}
use Rattle.memory.specs.Sound.{margin_fits as admits_margin}
use Rattle.sides.specs.Ranges.{parties_fit, margin_fits, amounts_fit, terms_fit, InRange}

margin_most : (w : Weighing) (m : ℕ) → admits_margin w m ≡ true → m ≤ most_margin
margin_most Margin m h = leb-true _ _ h
margin_most Haircut m h = grind (arith, nat_tests)

margin_none : (w : Weighing) (m : ℕ) → admits_margin w m ≡ true → w ≡ Haircut → m ≡ 0
margin_none Margin m h e = let z : ◌≡◌ {A = ℕ} 0 1 = cc in absurd (omega arith)
margin_none Haircut m h e = eqb-true _ _ h

admits_margin_lem : (w : Weighing) (m : ℕ) → m ≤ most_margin → (w ≡ Haircut → m ≡ 0) → admits_margin w m ≡ true
admits_margin_lem Margin m h e = le-leb _ _ h
admits_margin_lem Haircut m h e = eq-eqb _ _ (e refl)

pub in_range : (t : Terms) → terms_fit t ≡ true → InRange t
unfolding terms_fit
in_range t h =
    let p = and_parts (parties_fit t) _ h in
    let q = and_parts (margin_fits t) _ p.1 in
    let r = and_parts (amounts_fit t) _ q.1 in
    record { giver_most = grind (arith, nat_tests); taker_most = grind (arith, nat_tests); different = grind (arith, nat_tests); margin_most = margin_most t.weighing t.margin q.0; margin_none = margin_none t.weighing t.margin q.0; sought_least = grind (arith, nat_tests); sought_most = grind (arith, nat_tests); cash_most = grind (arith, nat_tests); rate_most = grind (arith, nat_tests); due_least = grind (arith, nat_tests); due_most = grind (arith, nat_tests) }

pub fits : (t : Terms) → InRange t → terms_fit t ≡ true
unfolding terms_fit
fits t h = let m = admits_margin_lem t.weighing t.margin h.margin_most h.margin_none in grind (arith, nat_tests)
