-- The lines' half of the law, over slips that fit: one argument for every call.
use Rattle.std.proofs.Common.{◌≡◌, ℕ, ◌+◌, Bool, true, cond, ◌&&◌, eqb, List, [], ◌∷◌, Ok, sym, refl, ap, subst, inl, inr, arith}
use Rattle.std.specs.List.{AllByRecursion as Each}
use Rattle.std.proofs.lemmas.Bool.{cases_lt}
use Rattle.book.specs.Lists.{run, rehearsed}
use Rattle.book.specs.Meaning.{Meaning}
use Rattle.book.proofs.Runs.{run_resources}
use Rattle.memory.specs.declared.row.Deal.{Deal}
use Rattle.memory.specs.declared.row.Line.{Line}
use Rattle.memory.specs.declared.row.Slip.{Slip}
use Rattle.law.specs.Sums.{only, total}
use Rattle.law.specs.Finding.{has_deal, deal_of}
use Rattle.law.specs.Slips.{movements_of, lines_by, issues}
use Rattle.law.specs.Plans.{Sharing, parted}
use Rattle.law.specs.Past.{Opening, Entry, is_out, out_numbers, return_numbers}
use Rattle.law.specs.Agree.{over, gives, takes, quantity_in, quantity_of}
use Rattle.law.proofs.Totals.{by_test, total_append, total_same, all_to}
use Rattle.law.proofs.Histories.{count}
use Rattle.law.proofs.Fitting.{Fitting}
use Rattle.law.proofs.Effects.{under, stock, nominal, outs, outs_below, outs_above, outs_once}
use Rattle.law.proofs.Rows.{Placed, placed, rise}
use Rattle.law.proofs.Parting.{parted_total, parted_placed, parted_rise}
use Rattle.law.proofs.Moves.{run_amount}
use Rattle.law.proofs.Kept.{LinesKept}

-- two deals of the same parties, in the same currency
pub record Alike (d e : Deal) : Type 0 where
  pub giver : d.giver ≡ e.giver
  pub taker : d.taker ≡ e.taker
  pub currency : d.currency ≡ e.currency

-- the deals of standing lines stand on, with their parties
abbrev pub Carried : List Deal → List Deal → List Line → Type 0
Carried ds es ls = Each (λ l. (has_deal l.deal es ≡ true) × Alike (deal_of l.deal es) (deal_of l.deal ds)) ls

outs_count : (n : ℕ) (resources : ℕ) (ds : List Deal) (xs : List Slip) → count n (out_numbers xs) ≡ total (outs resources ds n) xs
outs_count n resources ds [] = refl
outs_count n resources ds (x ∷ xs) =
    by_test (is_out x) (λ b. count n (cond b (x.number ∷ out_numbers xs) (out_numbers xs)) ≡ only (b && eqb x.number n) 1 + total (outs resources ds n) xs)
    (λ e. omega (arith, outs_count n resources ds xs))
    (λ e. omega (arith, outs_count n resources ds xs))

module _ (o : Opening) (m : Meaning) (ds es : List Deal) (next : ℕ) (ls : List Line) (h : List Entry) (e : Entry) (sh : Sharing)
    (k : LinesKept o m ds next ls h) (on : Carried ds es ls) (fits : Fitting m.resources es next e.slips ls)
    (takes_all : Ok tt ≡ rehearsed m (movements_of e.slips)) where
  over_alike : (test : Deal → Bool) → ((x y : Deal) → Alike x y → test x ≡ test y) → (f : Line → ℕ) → over es test f ls ≡ over ds test f ls
  over_alike test same f = total_same _ _ _ (λ l c. ap (λ b. only b (f l)) (same _ _ c.1)) ls on

  old : Each (Placed m.resources es next) ls
  old = all_to _ _ (λ l p. record { some = p.0.some; below = p.0.below; stands = p.1.0; low = p.0.low; high = p.0.high; quantity_some = p.0.quantity_some; quantity_most = p.0.quantity_most }) ls
      (Rattle.law.proofs.Totals.all_both _ _ ls k.placed on)

  pub lines_step : LinesKept o (run m (movements_of e.slips)) es (next + issues e.slips) (parted sh es (lines_by e.slips ls)) (e ∷ h)
  lines_step =
      record {
        next_some = omega (arith, k.next_some);
        rise = parted_rise sh es _ (rise m.resources es next e.slips ls k.next_some fits old k.rise);
        placed = subst (λ R. Each (Placed R es (next + issues e.slips)) (parted sh es (lines_by e.slips ls))) (sym (run_resources m (movements_of e.slips)))
            (parted_placed m.resources es _ sh es _ (placed m.resources es next e.slips ls k.next_some fits old));
        balance = λ n. omega (
          arith,
          k.balance n,
          under m.resources es n next e.slips ls fits,
          parted_total sh es (lines_by e.slips ls) (λ l. only (eqb l.number n) l.quantity) (λ l. refl),
        );
        once = λ n. elim (cases_lt n next) [
          | inl l ↦ omega (arith, total_append (λ x. only (eqb x n) 1) (out_numbers e.slips) (return_numbers h), outs_count n m.resources es e.slips, outs_below m.resources es n next e.slips ls fits l, k.once n)
          | inr l ↦ omega (arith, total_append (λ x. only (eqb x n) 1) (out_numbers e.slips) (return_numbers h), outs_count n m.resources es e.slips, outs_once m.resources es n next e.slips ls fits, k.fresh n l)
        ];
        fresh = λ n l. omega (arith, total_append (λ x. only (eqb x n) 1) (out_numbers e.slips) (return_numbers h), outs_count n m.resources es e.slips, outs_above m.resources es n next e.slips ls fits l, k.fresh n (omega (arith, l)));
        stock = λ a r low. omega (
          arith,
          k.stock a r low,
          run_amount 0 m e.slips a r takes_all,
          stock m.resources es a r next low e.slips ls fits,
          over_alike (gives a) (λ x y s. ap (λ v. eqb v a) s.giver) (quantity_in r),
          over_alike (takes a) (λ x y s. ap (λ v. eqb v a) s.taker) (quantity_in r),
          parted_total sh es (lines_by e.slips ls) (λ l. only (gives a (deal_of l.deal es)) (quantity_in r l)) (λ l. refl),
          parted_total sh es (lines_by e.slips ls) (λ l. only (takes a (deal_of l.deal es)) (quantity_in r l)) (λ l. refl),
        );
        nominal = λ a test. omega (
          arith,
          k.nominal a test,
          nominal m.resources es a test next e.slips ls fits,
          over_alike (gives a) (λ x y s. ap (λ v. eqb v a) s.giver) (quantity_of test),
          parted_total sh es (lines_by e.slips ls) (λ l. only (gives a (deal_of l.deal es)) (quantity_of test l)) (λ l. refl),
        );
      }
