-- A quantity of a line replaced by another security.
use Rattle.std.proofs.Common.{◌≡◌, ℕ, ◌<◌, min, true, false, eqb, ltb, leb, List, [], ◌∷◌, is_some, Some, None, Ok, Option, unwrap_or, sym, refl, ap, subst, arith, MatchOption}
use Rattle.std.proofs.lemmas.Bool.{eq-eqb, both_ways, and_parts, leb-true, ltb-true}
use Rattle.book.specs.Meaning.{free}
use Rattle.memory.specs.declared.row.Deal.{Deal}
use Rattle.memory.specs.declared.row.Kind.TheVariants.{Substitute}
use Rattle.memory.specs.declared.row.Line.{Line}
use Rattle.memory.specs.declared.row.Slip.{Slip}
use Rattle.memory.specs.Rows.{no_deal, no_line}
use Rattle.memory.specs.Sound.{number, return_number}
use Rattle.valuation.specs.declared.price.Price.{Price}
use Rattle.valuation.specs.Best.{at_least}
use Rattle.valuation.specs.Most.{most_units}
use Rattle.valuation.specs.Stands.{IsSmallest}
use Rattle.valuation.proofs.Bests.{smallest_is}
use Rattle.law.specs.Sums.{only}
use Rattle.law.specs.World.{State}
use Rattle.law.specs.Finding.{replaced, has_deal, deal_of, has_line}
use Rattle.law.specs.Slips.{out_slip, new_line, lessened, lines_by}
use Rattle.law.specs.Plans.{Plan, over, carried}
use Rattle.law.specs.Calls.{substitute, the_line, its_deal, units_worth, quantity_worth, replacement, substitute_slips, substitutes, substitute_plan}
use Rattle.law.specs.Past.{Opening, Entry}
use Rattle.law.proofs.Totals.{total_append, found_all, found_key}
use Rattle.law.proofs.Rows.{Placed}
use Rattle.law.proofs.Parting.{lines_on}
use Rattle.law.proofs.Fitting.{Fitting}
use Rattle.law.proofs.Kept.{Kept}
use Rattle.law.proofs.Verdicts.{plan_ok, Passes}
use Rattle.law.proofs.Stepping.{entry_for, stock_only, even_over}

-- what there is
pub some_is : (o : Option ℕ) (N : Type 0) (S : ℕ → Type 0) → MatchOption o N S → is_some o ≡ true → S (unwrap_or o 0)
some_is (Some x) N S c e = c
some_is None N S c e = absurd (both_ways false refl e)

module _ (o : Opening) (s : State) (h : List Entry) (k : Kept o s h) (n : ℕ) (ps : List Price) (out security : ℕ)
    (there : has_line n s.lines ≡ true) (stated : substitutes s n ps out security ≡ true) (Has-one : is_some (replacement s n ps out security) ≡ true) where
  abbrev l : Line
  l = the_line s n

  abbrev d : Deal
  d = its_deal s n

  abbrev xs : List Slip
  xs = substitute_slips s n ps out security

  placed : Placed s.book.resources s.deals s.next_line l
  placed = found_all return_number (Placed s.book.resources s.deals s.next_line) no_line n s.lines there k.lines.placed

  deal_number : d.number ≡ l.deal
  deal_number = found_key number no_deal l.deal s.deals placed.stands

  same : deal_of d.number s.deals ≡ d
  same = ap (λ i. deal_of i s.deals) deal_number

  -- the smallest quantity that is worth enough
  pub quantity_in_lem : IsSmallest (at_least (units_worth ps d security) (quantity_worth ps d l.security out)) (min most_units (free s.book d.giver security)) (unwrap_or (replacement s n ps out security) 0)
  quantity_in_lem = some_is (replacement s n ps out security) _ _ (smallest_is _ (min most_units (free s.book d.giver security))) Has-one

  fits : Fitting s.book.resources s.deals s.next_line xs s.lines
  fits =
      let a = and_parts (leb 1 out) _ stated in
      let b = and_parts (leb out l.quantity) _ a.1 in
      let c = and_parts (leb 3 security) _ b.1 in
      let e = and_parts (ltb security s.book.resources) _ c.1 in (
        record {
          listed = there;
          on = sym deal_number;
          of = refl;
          stands = subst (λ i. has_deal i s.deals ≡ true) (sym deal_number) placed.stands;
          from = ap (λ x. x.taker) (sym same);
          to = ap (λ x. x.giver) (sym same);
          low = placed.low;
          some = leb-true _ _ a.0;
          enough = leb-true _ _ b.0;
        },
        (
          record {
            numbered = omega arith;
            stands = subst (λ i. has_deal i s.deals ≡ true) (sym deal_number) placed.stands;
            from = ap (λ x. x.giver) (sym same);
            to = ap (λ x. x.taker) (sym same);
            low = leb-true _ _ c.0;
            high = ltb-true _ _ e.0;
            some = quantity_in_lem.some;
            most = omega (arith, quantity_in_lem.bounded);
          },
          tt,
        ),
      )

  -- the new line is of the deal
  some_line : 0 < lines_on l.deal (lines_by xs s.lines)
  unfolding lines_by
  some_line =
      let new : Line = new_line (out_slip Substitute d s.next_line security (unwrap_or (replacement s n ps out security) 0)) in
      let t : eqb d.number l.deal ≡ true = eq-eqb _ _ deal_number in
      let f : Line → ℕ = λ x. only (eqb x.deal l.deal) 1 in
      omega (arith, total_append f (replaced return_number n (lessened out) s.lines) (new ∷ []), ap (λ b. only b 1) t)

  pub substitute_kept : (p : Plan) (places : ℕ) → Passes s p places → substitute_plan s n ps out security ≡ Ok p
      → Kept o (carried s p) (entry_for (substitute ps places n out security) s p ∷ h)
  unfolding substitute_plan
  substitute_kept p places ok e =
      let q = plan_ok _ _ p e in
      subst (λ x. Passes s x places → Kept o (carried s x) (entry_for (substitute ps places n out security) s x ∷ h)) q.1
      (λ ok'. stock_only o s h (substitute ps places n out security) places s.phase xs (over ps l.deal) false k ok' refl fits
      (record { no_cash = refl; no_interest = refl }, (record { no_cash = refl; no_interest = refl }, tt))
      (even_over o s h k ps l.deal xs fits (deal_number, (deal_number, tt)) some_line)) ok
