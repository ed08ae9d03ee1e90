-- A register with no fault is sound, and a sound one has none. Assumes nothing.
use Rattle.std.proofs.Common.{◌≡◌, ℕ, zero, suc, ◌*◌, ◌<◌, ◌≤◌, Bool, true, not, ◌&&◌, eqb, ltb, leb, List, [], ◌∷◌, length, get_or, Some, None, Option, IsNone, Result, Ok, Err, sym, refl, ◌∙◌, inl, inr, arith}
use Rattle.std.proofs.lemmas.Bool.{and_parts, and_from, lt-ltb, ltb-true, le-leb, leb-true, eq-eqb, eqb-true, ne_eqb, not-true, not_from_false, cases_Bool, cond-true, false≢true}
use Rattle.std.proofs.lemmas.Bool.Decides.{nat_tests}
use Rattle.std.specs.Result.{result_err, IsErrAnd}
use Rattle.sharing.specs.Accrual.{unit_of}
use Rattle.sharing.specs.Limits.{most_cash, most_rate, most_daily}
use Rattle.valuation.specs.Currencies.{number_of}
use Rattle.valuation.specs.Most.{most_margin, most_sought}
use Rattle.valuation.specs.declared.currency.Currency.{Currency}
use Rattle.valuation.specs.declared.currency.Currency.TheVariants.{Gbp, Eur, Usd}
use Rattle.memory.specs.declared.place.Fault.{Fault}
use Rattle.memory.specs.declared.place.Table.{Table}
use Rattle.memory.specs.declared.place.Table.TheVariants as table
use Rattle.memory.specs.declared.row.Deal.{Deal}
use Rattle.memory.specs.declared.row.Head.{Head}
use Rattle.memory.specs.declared.row.Line.{Line}
use Rattle.memory.specs.declared.row.Weighing.{Weighing}
use Rattle.memory.specs.declared.row.Weighing.TheVariants.{Margin, Haircut}
use Rattle.memory.specs.Kinds.{weighing_number, base_of}
use Rattle.memory.specs.Places.{Rising, deal_numbers, line_numbers}
use Rattle.memory.specs.Register.{MarginHolds, SoundDeal, Stands, SoundLine, Sound, Told, checked}
use Rattle.memory.specs.Rows.{no_deal, no_line}
use Rattle.memory.specs.Sound.{most_number, margin_fits, parties_fit, terms_fit, interest_fits, numbered, parts_on, deal_fits, deal_sound, stands, ranges_fit, line_fits, line_sound, zero_terms, zero_cash, zero_deal, zero_line, used_deals, used_lines, number, return_number, deals_fault, lines_fault, head_sound, at, first_found, fault_of}
use Rattle.memory.proofs.Filled.{not_some, none_if, filled_from, filled_none, filled_at}

-- ── a deal ──

margin_to : (w : Weighing) (m : ℕ) → margin_fits w m ≡ true → MarginHolds w m
margin_to Margin m e = leb-true m most_margin e
margin_to Haircut m e = eqb-true m 0 e

margin_back : (w : Weighing) (m : ℕ) → MarginHolds w m → margin_fits w m ≡ true
margin_back Margin m h = le-leb m most_margin h
margin_back Haircut m h = eq-eqb m 0 h

module _ (accounts : ℕ) (h : Head) (lines : List Line) (b : ℕ) (d : Deal) where
  deal_to : deal_sound accounts h lines b d ≡ true → (b < d.number) × SoundDeal accounts h lines d
  deal_to e =
      let whole = and_parts (deal_fits accounts h b d) (eqb d.cash (parts_on d.number lines)) e in
      let n = and_parts (numbered h.next.deal b d.number) (parties_fit accounts d && (terms_fit d && interest_fits h.date d)) whole.0 in
      let p = and_parts (parties_fit accounts d) (terms_fit d && interest_fits h.date d) n.1 in
      let t = and_parts (terms_fit d) (interest_fits h.date d) p.1 in
      let turn = n.0 in
      let parties = p.0 in
      let margin = and_parts (margin_fits d.weighing d.margin) (leb 1 d.sought && (leb d.sought most_sought && (leb d.rate most_rate && leb d.cash most_cash))) t.0 in
      let terms = margin.1 in
      let interest = t.1 in
      let above : b < d.number = ltb-true b d.number (and_parts (ltb b d.number) (ltb d.number h.next.deal) turn).0 in (
        above,
        record {
          number_some = omega arith;
          number_below = ltb-true d.number h.next.deal (and_parts (ltb b d.number) (ltb d.number h.next.deal) turn).1;
          giver = grind (arith, nat_tests);
          taker = grind (arith, nat_tests);
          differ = λ same. grind (arith, nat_tests);
          margin = margin_to d.weighing d.margin margin.0;
          sought_some = grind (arith, nat_tests);
          sought_most = grind (arith, nat_tests);
          rate = grind (arith, nat_tests);
          cash_most = grind (arith, nat_tests);
          cash_parts = eqb-true d.cash (parts_on d.number lines) whole.1;
          whole = leb-true d.whole (most_daily * h.date) (and_parts (leb d.whole (most_daily * h.date)) (ltb d.residue (unit_of (base_of d.currency))) interest).0;
          residue = ltb-true d.residue (unit_of (base_of d.currency)) (and_parts (leb d.whole (most_daily * h.date)) (ltb d.residue (unit_of (base_of d.currency))) interest).1;
        },
      )

  deal_back : b < d.number → SoundDeal accounts h lines d → deal_sound accounts h lines b d ≡ true
  deal_back above s =
      and_from (deal_fits accounts h b d) (eqb d.cash (parts_on d.number lines))
      (and_from (numbered h.next.deal b d.number) (parties_fit accounts d && (terms_fit d && interest_fits h.date d))
      (and_from (ltb b d.number) (ltb d.number h.next.deal) (lt-ltb b d.number above) (lt-ltb d.number h.next.deal s.number_below))
      (and_from (parties_fit accounts d) (terms_fit d && interest_fits h.date d)
      (and_from (ltb d.giver accounts) (ltb d.taker accounts && not (eqb d.giver d.taker)) (lt-ltb d.giver accounts s.giver)
      (and_from (ltb d.taker accounts) (not (eqb d.giver d.taker)) (lt-ltb d.taker accounts s.taker) (not_from_false (eqb d.giver d.taker) (ne_eqb d.giver d.taker s.differ))))
      (and_from (terms_fit d) (interest_fits h.date d)
      (and_from (margin_fits d.weighing d.margin) (leb 1 d.sought && (leb d.sought most_sought && (leb d.rate most_rate && leb d.cash most_cash)))
      (margin_back d.weighing d.margin s.margin)
      (let a = s.sought_some in let c = s.sought_most in let r = s.rate in let m = s.cash_most in grind (arith, nat_tests)))
      (and_from (leb d.whole (most_daily * h.date)) (ltb d.residue (unit_of (base_of d.currency))) (le-leb d.whole (most_daily * h.date) s.whole) (lt-ltb d.residue (unit_of (base_of d.currency)) s.residue)))))
      (eq-eqb d.cash (parts_on d.number lines) s.cash_parts)

-- ── a line ──

stands_to : (n : ℕ) (ds : List Deal) → stands n ds ≡ true → Stands n ds
unfolding stands
stands_to n [] e = absurd (false≢true e)
stands_to n (d ∷ ds) e =
    elim (cases_Bool (eqb d.number n)) [
      | inl t ↦ (0, omega arith, eqb-true d.number n t)
      | inr f ↦ let z : stands n ds ≡ true = rw f at e in let s = stands_to n ds z in (suc s.0, omega (arith, s.1), s.2)
    ]

stands_at : (n k : ℕ) (ds : List Deal) → k < length ds → (get_or ds k no_deal).number ≡ n → stands n ds ≡ true
unfolding stands
stands_at n k [] h e = absurd (omega arith)
stands_at n zero (d ∷ ds) h e = cond-true _ _ _ (eq-eqb d.number n e)
stands_at n (suc k) (d ∷ ds) h e = elim (cases_Bool (eqb d.number n)) [ inl t ↦ rw t refl | inr f ↦ rw f (stands_at n k ds (omega arith) e) ]

module _ (resources : ℕ) (h : Head) (deals : List Deal) (b : ℕ) (l : Line) where
  line_to : line_sound resources h deals b l ≡ true → (b < l.number) × SoundLine resources h deals l
  line_to e =
      let whole = and_parts (line_fits resources h b l) (stands l.deal deals) e in
      let n = and_parts (numbered h.next.line b l.number) (ranges_fit resources l) whole.0 in
      let turn = and_parts (ltb b l.number) (ltb l.number h.next.line) n.0 in
      let ranges = n.1 in
      let above : b < l.number = ltb-true b l.number turn.0 in (
        above,
        record {
          number_some = omega arith;
          number_below = ltb-true l.number h.next.line turn.1;
          deal = stands_to l.deal deals whole.1;
          security_some = grind (arith, nat_tests);
          security_below = grind (arith, nat_tests);
          quantity_some = grind (arith, nat_tests);
          quantity_most = grind (arith, nat_tests);
          part = grind (arith, nat_tests);
        },
      )

  line_back : b < l.number → SoundLine resources h deals l → line_sound resources h deals b l ≡ true
  line_back above s =
      and_from (line_fits resources h b l) (stands l.deal deals)
      (and_from (numbered h.next.line b l.number) (ranges_fit resources l)
      (and_from (ltb b l.number) (ltb l.number h.next.line) (lt-ltb b l.number above) (lt-ltb l.number h.next.line s.number_below))
      (let a = s.security_some in let c = s.security_below in let q = s.quantity_some in let m = s.quantity_most in let p = s.part in grind (arith, nat_tests)))
      (stands_at l.deal s.deal.0 deals s.deal.1 s.deal.2)

-- ── rows of zeros ──

gbp : (c : Currency) → number_of c ≡ 0 → c ≡ Gbp
gbp Gbp e = refl
gbp Eur e = absurd (omega arith)
gbp Usd e = absurd (omega arith)

by_margin : (w : Weighing) → weighing_number w ≡ 0 → w ≡ Margin
by_margin Margin e = refl
by_margin Haircut e = absurd (omega arith)

pub zero_deal_lem : (d : Deal) → zero_deal d ≡ true → d ≡ no_deal
zero_deal_lem d e =
    let n = eq_of d.number _ e in
    let g = eq_of d.giver _ n.1 in
    let t = eq_of d.taker _ g.1 in
    let two = and_parts (zero_terms d) (zero_cash d) t.1 in
    let c = eq_of (number_of d.currency) _ two.0 in
    let k = eq_of d.class _ c.1 in
    let w = eq_of (weighing_number d.weighing) _ k.1 in
    let m = eq_of d.margin _ w.1 in
    let s = eq_of d.sought _ m.1 in
    let r = eq_of d.rate _ s.1 in
    let u = eq_of d.due _ r.1 in
    let a = eq_of d.cash _ two.1 in
    let o = eq_of d.whole _ a.1 in
    let money = gbp d.currency c.0 in
    let by = by_margin d.weighing w.0 in
    let free = not-true d.limit u.1 in
    let rest = eqb-true d.residue 0 o.1 in
    λ i. record {
      number = n.0 i;
      giver = g.0 i;
      taker = t.0 i;
      currency = money i;
      class = k.0 i;
      weighing = by i;
      margin = m.0 i;
      sought = s.0 i;
      rate = r.0 i;
      due = u.0 i;
      limit = free i;
      cash = a.0 i;
      whole = o.0 i;
      residue = rest i;
    }
  where
    eq_of : (x : ℕ) (y : Bool) → (eqb x 0 && y) ≡ true → (x ≡ 0) × (y ≡ true)
    eq_of x y e' = let p = and_parts (eqb x 0) y e' in (eqb-true x 0 p.0, p.1)

pub zero_line_lem : (l : Line) → zero_line l ≡ true → l ≡ no_line
zero_line_lem l e =
    let n : l.number ≡ 0 = grind (arith, nat_tests) in
    let d : l.deal ≡ 0 = grind (arith, nat_tests) in
    let s : l.security ≡ 0 = grind (arith, nat_tests) in
    let q : l.quantity ≡ 0 = grind (arith, nat_tests) in
    let p : l.part ≡ 0 = grind (arith, nat_tests) in
    λ i. record { number = n i; deal = d i; security = s i; quantity = q i; part = p i }

-- ── the register ──

none_at : (t : Table) (o : Option ℕ) (f : Option Fault) → None ≡ first_found (at t o) f → (None ≡ o) × (None ≡ f)
none_at t None f e = (refl, e)
none_at t (Some i) f e = not_some _ e

none_last : (t : Table) (o : Option ℕ) → None ≡ at t o → None ≡ o
none_last t None e = refl
none_last t (Some i) e = not_some _ e

module _ (accounts resources : ℕ) (h : Head) (deals : List Deal) (lines : List Line) where
  head_parts : head_sound h (length deals) (length lines) ≡ true → (1 ≤ h.next.deal) × (h.next.deal ≤ most_number) × (1 ≤ h.next.line) × (h.next.line ≤ most_number) × (h.used.deals ≤ length deals) × (h.used.lines ≤ length lines)
  head_parts e = (grind (arith, nat_tests), grind (arith, nat_tests), grind (arith, nat_tests), grind (arith, nat_tests), grind (arith, nat_tests), grind (arith, nat_tests))

  pub sound_from : None ≡ fault_of accounts resources h deals lines → Sound accounts resources h deals lines
  sound_from e =
      let head = none_if (head_sound h (length deals) (length lines)) _ _ e in
      let parts = head_parts head.0 in
      let first = none_at table.Deals (deals_fault accounts h deals lines) (at table.Lines (lines_fault resources h deals lines)) head.1 in
      record {
        next_deal_low = parts.0;
        next_deal_most = parts.1;
        next_line_low = parts.2;
        next_line_most = parts.3;
        deal_table = filled_from number (deal_sound accounts h (used_lines h lines)) (SoundDeal accounts h (used_lines h lines)) zero_deal no_deal (deal_to accounts h (used_lines h lines)) zero_deal_lem 64 h.used.deals deals parts.4 first.0;
        line_table = filled_from return_number (line_sound resources h (used_deals h deals)) (SoundLine resources h (used_deals h deals)) zero_line no_line (line_to resources h (used_deals h deals)) zero_line_lem 1024 h.used.lines lines parts.5 (none_last table.Lines (lines_fault resources h deals lines) first.1);
      }

  pub fault_none : Sound accounts resources h deals lines → None ≡ fault_of accounts resources h deals lines
  fault_none s =
      let a = s.next_deal_low in
      let b = s.next_line_low in
      let a' = s.next_deal_most in
      let b' = s.next_line_most in
      let c = s.deal_table.within in
      let d = s.line_table.within in
      let head : head_sound h (length deals) (length lines) ≡ true = grind (arith, nat_tests) in
      let ds = filled_none number (deal_sound accounts h (used_lines h lines)) (SoundDeal accounts h (used_lines h lines)) zero_deal no_deal (deal_back accounts h (used_lines h lines)) (λ x p. omega (arith, p.number_some)) refl 64 h.used.deals deals s.deal_table in
      let ls = filled_none return_number (line_sound resources h (used_deals h deals)) (SoundLine resources h (used_deals h deals)) zero_line no_line (line_back resources h (used_deals h deals)) (λ x p. omega (arith, p.number_some)) refl 1024 h.used.lines lines s.line_table in
      (λ i. first_found (at table.Deals (ds i)) (at table.Lines (ls i))) ∙ sym (cond-true (head_sound h (length deals) (length lines)) _ _ head)

  pub fault_told : (o : Option Fault) → o ≡ fault_of accounts resources h deals lines → Told o accounts resources h deals lines
  fault_told None e = sound_from e
  fault_told (Some f) e = λ s. not_some f (fault_none s ∙ sym e)

-- a check that passes, and one that does not
pub checked_none : (o : Option Fault) → Ok tt ≡ checked o → None ≡ o
checked_none None e = refl
checked_none (Some f) e = cc

pub checked_some : {X : Type 0} (o : Option Fault) (f : Fault) (r : Result X Fault) → Err f ≡ checked o → IsErrAnd r (λ e. e ≡ f) → result_err r ≡ o
checked_some None f r e is = cc
checked_some (Some g) f (Ok x) e is = absurd is
checked_some (Some g) f (Err h) e is = cc

pub none_is : (o : Option Fault) → IsNone o → None ≡ o
none_is None e = refl
none_is (Some f) e = cc

-- ── the used rows of a sound register ──

module _ (accounts resources : ℕ) (h : Head) (deals : List Deal) (lines : List Line) (s : Sound accounts resources h deals lines) where
  pub deal_at : (k : ℕ) → k < h.used.deals → SoundDeal accounts h (used_lines h lines) (get_or deals k no_deal)
  deal_at k l = filled_at s.deal_table k no_deal l

  pub line_at : (k : ℕ) → k < h.used.lines → SoundLine resources h (used_deals h deals) (get_or lines k no_line)
  line_at k l = filled_at s.line_table k no_line l

  pub deals_rise : Rising (deal_numbers h deals)
  deals_rise = s.deal_table.rise

  pub lines_rise : Rising (line_numbers h lines)
  lines_rise = s.line_table.rise
