-- Deals of which an entry says nothing, and a plan that moves nothing but stock.
use Rattle.std.proofs.Common.{◌≡◌, ℕ, ◌+◌, ◌/◌, ◌<◌, ◌≤◌, true, false, eqb, List, [], ◌∷◌, Ok, sym, refl, ap, ◌∙◌, subst, arith}
use Rattle.std.specs.List.{AllByRecursion as Each}
use Rattle.std.proofs.lemmas.Bool.{both_ways}
use Rattle.std.proofs.lemmas.Bool.Decides.{nat_tests}
use Rattle.book.specs.Lists.{run, rehearsed}
use Rattle.book.specs.Meaning.{Meaning}
use Rattle.book.proofs.Runs.{run_accounts}
use Rattle.memory.specs.declared.row.Deal.{Deal}
use Rattle.memory.specs.declared.row.Line.{Line}
use Rattle.memory.specs.declared.row.Sense.{Sense}
use Rattle.memory.specs.declared.row.Sense.TheVariants.{Out, Back, Cash}
use Rattle.memory.specs.declared.row.Slip.{Slip}
use Rattle.law.specs.Sums.{only, total}
use Rattle.law.specs.Finding.{has_deal}
use Rattle.law.specs.Slips.{movements_of, line_by_sense, issuing}
use Rattle.law.specs.Past.{Opening, Entry, other, stated, is_cash, is_interest, comes_to, goes_from, settled_numbers, deal_numbers, interest_on, pair_of, rate_of, stood, accrued_on, added_by, date_by, date_of}
use Rattle.law.specs.Agree.{unit_in}
use Rattle.law.proofs.Totals.{total_append, total_zero, all_to}
use Rattle.law.proofs.Histories.{Quiet, Still, Stock, stock_back, stock_interest, quiet_other, accrued_still, accrued_out, unseen_quiet}
use Rattle.law.proofs.Fitting.{Fit, Fitting}
use Rattle.law.proofs.Moves.{run_amount}
use Rattle.law.proofs.Kept.{parts_for, Ranged, Says, DealsKept}

-- ── slips of stock move no cash ──

low_step : (resources : ℕ) (ds : List Deal) (next : ℕ) (ls : List Line) (σ : Sense) (x : Slip) → x.sense ≡ σ → Fit resources ds next ls σ x → Stock x → 3 ≤ x.resource
low_step resources ds next ls Out x e k s = k.low
low_step resources ds next ls Back x e k s = k.low
low_step resources ds next ls Cash x e k s =
    let c : is_cash x ≡ true = rw e in
    absurd (both_ways (is_cash x) s.no_cash c)

pub stock_low : (resources : ℕ) (ds : List Deal) (next : ℕ) (xs : List Slip) (ls : List Line) → Fitting resources ds next xs ls → Each Stock xs → Each (λ x. 3 ≤ x.resource) xs
stock_low resources ds next [] ls k s = tt
stock_low resources ds next (x ∷ xs) ls k s =
    (low_step resources ds next ls x.sense x refl k.0 s.0, stock_low resources ds (next + issuing x.sense) xs (line_by_sense x.sense x ls) k.1 s.1)

module _ (a c : ℕ) (money : c < 3) (xs : List Slip) (low : Each (λ x. 3 ≤ x.resource) xs) where
  pub no_cash_in : total (comes_to a c) xs ≡ 0
  no_cash_in = total_zero _ (comes_to a c) (λ x l. grind (arith, nat_tests, l, money)) xs low

  pub no_cash_out : total (goes_from a c) xs ≡ 0
  no_cash_out = total_zero _ (goes_from a c) (λ x l. grind (arith, nat_tests, l, money)) xs low

  pub no_interest_in : total (λ x. only (is_interest x) (comes_to a c x)) xs ≡ 0
  no_interest_in = total_zero _ (λ x. only (is_interest x) (comes_to a c x)) (λ x l. grind (arith, nat_tests, l, money)) xs low

  pub no_interest_out : total (λ x. only (is_interest x) (goes_from a c x)) xs ≡ 0
  no_interest_out = total_zero _ (λ x. only (is_interest x) (goes_from a c x)) (λ x l. grind (arith, nat_tests, l, money)) xs low

-- ── a deal of which an entry says nothing ──

module _ (o : Opening) (h : List Entry) (e : Entry) where
  pub says_quiet : (ls after : List Line) (d : Deal) → Quiet d.number e → Still e → parts_for d.number after ≡ parts_for d.number ls
      → Says o h ls d → Says o (e ∷ h) after d
  says_quiet ls after d q t p s =
      let pair = q.pair (pair_of d.number h) in
      record {
        giver = s.giver ∙ ap (λ u. u.giver) (sym pair);
        taker = s.taker ∙ ap (λ u. u.taker) (sym pair);
        currency = s.currency ∙ ap (λ u. u.currency) (sym pair);
        rate = s.rate ∙ sym (q.rate (rate_of d.number h));
        cash = omega (arith, s.cash, q.back, ap (λ u. u.cash) pair);
        parts = p ∙ s.parts;
        interest = s.interest ∙ sym (accrued_still o d.number e h t);
        up = q.stands (stood d.number h) ∙ s.up;
        unpaid = omega (arith, s.unpaid, q.interest);
      }

  pub went_quiet : (n : ℕ) → Quiet n e → (stood n h ≡ false → interest_on n h ≡ accrued_on o n h / unit_in (pair_of n h).currency)
      → stood n (e ∷ h) ≡ false → interest_on n (e ∷ h) ≡ accrued_on o n (e ∷ h) / unit_in (pair_of n (e ∷ h)).currency
  went_quiet n q w out =
      let was : stood n h ≡ false = sym (q.stands (stood n h)) ∙ out in
      let i : interest_on n (e ∷ h) ≡ interest_on n h = omega (arith, q.interest) in
      i ∙ w was ∙ ap (λ v. v / unit_in (pair_of n h).currency) (sym (accrued_out o n e h was)) ∙ ap (λ u. accrued_on o n (e ∷ h) / unit_in u.currency) (sym (q.pair (pair_of n h)))

-- ── nothing but stock moves, and every deal stays ──

module _ (o : Opening) (m : Meaning) (date next : ℕ) (ds : List Deal) (ls after : List Line) (h : List Entry) (e : Entry)
    (k : DealsKept o m date next ds ls h) (takes_all : Ok tt ≡ rehearsed m (movements_of e.slips))
    (Says-other : stated e ≡ other) (stocks : Each Stock e.slips) (low : Each (λ x. 3 ≤ x.resource) e.slips)
    (even : (n : ℕ) → has_deal n ds ≡ true → parts_for n after ≡ parts_for n ls) where
  quiet : (n : ℕ) → Quiet n e
  quiet n = quiet_other n e (stock_back n e.slips stocks) (stock_interest n e.slips stocks) Says-other

  still : Still e
  still = record { nothing = λ daily date'. ap (λ z. added_by z daily date') Says-other }

  pub none_step : DealsKept o (run m (movements_of e.slips)) date next ds after (e ∷ h)
  none_step =
      record {
        dated = k.dated ∙ ap (λ z. date_by z (date_of o h)) (sym Says-other);
        date_most = k.date_most;
        next_some = k.next_some;
        rise = k.rise;
        ranged = subst (λ n. Each (Ranged n next date) ds) (sym (run_accounts m (movements_of e.slips))) k.ranged;
        says = all_to _ _ (λ d s. says_quiet o h e ls after d (quiet d.number) still (even d.number (k.stand d.number ∙ s.up)) s) ds k.says;
        once = λ n. omega (arith, total_append (λ x. only (eqb x n) 1) (settled_numbers (stated e)) (deal_numbers h), (quiet n).numbers, k.once n);
        fresh = λ n l. unseen_quiet o n e h (quiet n) (k.fresh n l);
        stand = λ n. k.stand n ∙ sym ((quiet n).stands (stood n h));
        went = λ n. went_quiet o h e n (quiet n) (k.went n);
        cash = λ a c money. omega (
          arith,
          k.cash a c money,
          run_amount 0 m e.slips a c takes_all,
          no_cash_in a c money e.slips low,
          no_cash_out a c money e.slips low,
          no_interest_in a c money e.slips low,
          no_interest_out a c money e.slips low,
        );
      }
