-- The law, from what the induction carries.
use Rattle.std.proofs.Common.{◌≡◌, ℕ, ◌+◌, ◌*◌, ◌/◌, ◌%◌, ◌<◌, ◌≤◌, Bool, true, false, cond, ◌&&◌, eqb, List, [], ◌∷◌, sym, refl, ap, ◌∙◌, subst, arith}
use Rattle.std.specs.List.{AllByRecursion as Each}
use Rattle.std.proofs.lemmas.Bool.{eq-eqb, ne_eqb, eqb-true, both_ways}
use Rattle.memory.specs.declared.row.Deal.{Deal}
use Rattle.memory.specs.declared.row.Line.{Line}
use Rattle.memory.specs.Sound.{number}
use Rattle.valuation.specs.declared.currency.Currency.{Currency}
use Rattle.valuation.specs.declared.currency.Currency.TheVariants.{Gbp, Eur, Usd}
use Rattle.law.specs.Sums.{only, total}
use Rattle.law.specs.World.{State}
use Rattle.law.specs.Finding.{has_deal, deal_of}
use Rattle.law.specs.Past.{Opening, Entry, return_numbers, deal_numbers, accrued_on}
use Rattle.law.specs.Agree.{Apart, over, takes_in, gives_in, part_of, unit_in, AgreeBy}
use Rattle.law.proofs.Totals.{by_test, only_none, total_same, all_to, all_both, has_none}
use Rattle.law.proofs.Histories.{count}
use Rattle.law.proofs.Ordered.{Ordered}
use Rattle.law.proofs.Parting.{parts_on_lem}
use Rattle.law.proofs.Kept.{parts_for, cash_over, Kept}

-- ── no number twice ──

absent : (n : ℕ) (xs : List ℕ) → count n xs ≡ 0 → Each (λ y. n ≡ y → ⊥) xs
absent n [] h = tt
absent n (x ∷ xs) h =
    ((λ e. let z : eqb x n ≡ true = eq-eqb x n (sym e) in let w : ⊥ = omega (arith, h, ap (λ b. only b 1) z) in w), absent n xs (omega (arith, h)))

pub apart : (xs : List ℕ) → ((n : ℕ) → count n xs ≤ 1) → Apart xs
apart [] h = tt
apart (x ∷ xs) h =
    (absent x xs (omega (arith, h x, ap (λ b. only b 1) (eq-eqb x x refl))), apart xs (λ n. omega (arith, h n)))

-- ── cash by the lines is cash by the deals ──

module _ (test : Deal → Bool) where
  -- a line counts where its deal stands and passes
  abbrev standing_part : List Deal → Line → ℕ
  standing_part ds l = only (has_deal l.deal ds && test (deal_of l.deal ds)) l.part

  one_deal : (d : Deal) (ds : List Deal) → has_deal d.number ds ≡ false → (ls : List Line)
      → total (standing_part (d ∷ ds)) ls ≡ only (test d) (parts_for d.number ls) + total (standing_part ds) ls
  one_deal d ds alone [] = omega (arith, only_none (test d))
  one_deal d ds alone (l ∷ ls) =
      let i = one_deal d ds alone ls in
      by_test (eqb d.number l.deal) (λ b. eqb d.number l.deal ≡ b
      → only (cond b true (has_deal l.deal ds) && test (cond b d (deal_of l.deal ds))) l.part + total (standing_part (d ∷ ds)) ls
      ≡ only (test d) (only (eqb l.deal d.number) l.part + parts_for d.number ls) + (only (has_deal l.deal ds && test (deal_of l.deal ds)) l.part + total (standing_part ds) ls))
      (λ e _.
      let is : d.number ≡ l.deal = eqb-true _ _ e in
      let back : eqb l.deal d.number ≡ true = eq-eqb _ _ (sym is) in
      let out : has_deal l.deal ds ≡ false = subst (λ n. has_deal n ds ≡ false) is alone in
      let o1 = ap (λ b. only (b && test (deal_of l.deal ds)) l.part) out in
      let o2 = ap (λ b. only (test d) (only b l.part + parts_for d.number ls)) back in
      by_test (test d) (λ b. only b (only (eqb l.deal d.number) l.part + parts_for d.number ls) ≡ only b (l.part + parts_for d.number ls) → total (standing_part (d ∷ ds)) ls ≡ only b (parts_for d.number ls) + total (standing_part ds) ls
      → only b l.part + total (standing_part (d ∷ ds)) ls ≡ only b (only (eqb l.deal d.number) l.part + parts_for d.number ls) + (only (has_deal l.deal ds && test (deal_of l.deal ds)) l.part + total (standing_part ds) ls))
      (λ t p q. omega (arith, p, q, o1)) (λ t p q. omega (arith, p, q, o1)) o2 i)
      (λ e _.
      let back : eqb l.deal d.number ≡ false = ne_eqb _ _ (λ w. both_ways (eqb d.number l.deal) e (eq-eqb _ _ (sym w))) in
      let o2 : only (test d) (only (eqb l.deal d.number) l.part + parts_for d.number ls) ≡ only (test d) (parts_for d.number ls) =
      ap (λ b. only (test d) (only b l.part + parts_for d.number ls)) back ∙ ap (only (test d)) (omega arith) in
      omega (arith, o2, i)) refl

  by_deals : (ds : List Deal) → Ordered number ds → (ls : List Line) → total (standing_part ds) ls ≡ total (λ d. only (test d) (parts_for d.number ls)) ds
  by_deals [] h ls = none ls
    where
      none : (xs : List Line) → total (standing_part []) xs ≡ 0
      none [] = refl
      none (x ∷ xs) = omega (arith, none xs)
  by_deals (d ∷ ds) h ls =
      let alone = has_none number d.number ds (all_to _ _ (λ x l e. let z : ⊥ = omega (arith, l, e) in z) ds h.0) in
      omega (arith, one_deal d ds alone ls, by_deals ds h.1 ls)

  pub over_deals : (ds : List Deal) (ls : List Line) → Ordered number ds → Each (λ l. has_deal l.deal ds ≡ true) ls
      → Each (λ d. parts_for d.number ls ≡ d.cash) ds → over ds test part_of ls ≡ cash_over test ds
  over_deals ds ls h on parts =
      total_same _ (λ l. only (test (deal_of l.deal ds)) l.part) (standing_part ds) (λ l t. ap (λ b. only (b && test (deal_of l.deal ds)) l.part) (sym t)) ls on
      ∙ by_deals ds h ls
      ∙ total_same _ (λ d. only (test d) (parts_for d.number ls)) (λ d. only (test d) d.cash) (λ d p. ap (only (test d)) p) ds parts

-- ── quotient and remainder ──

pub quotient : (c : Currency) (whole residue all : ℕ) → whole * unit_in c + residue ≡ all → residue < unit_in c → (whole ≡ all / unit_in c) × (residue ≡ all % unit_in c)
quotient Gbp whole residue all e l = (omega arith, omega arith)
quotient Eur whole residue all e l = (omega arith, omega arith)
quotient Usd whole residue all e l = (omega arith, omega arith)

pub agrees : (o : Opening) (s : State) (h : List Entry) → Kept o s h → AgreeBy o s h
agrees o s h k =
    let on : Each (λ l. has_deal l.deal s.deals ≡ true) s.lines = all_to _ _ (λ l p. p.stands) s.lines k.lines.placed in
    let parts : Each (λ d. parts_for d.number s.lines ≡ d.cash) s.deals = all_to _ _ (λ d p. p.parts) s.deals k.deals.says in
    record {
      lines = k.lines.balance;
      return_numbers_apart = apart (return_numbers h) k.lines.once;
      deal_numbers_apart = apart (deal_numbers h) k.deals.once;
      stock = k.lines.stock;
      cash = λ a c money. omega (
        arith,
        k.deals.cash a c money,
        over_deals (takes_in a c) s.deals s.lines k.deals.rise on parts,
        over_deals (gives_in a c) s.deals s.lines k.deals.rise on parts,
      );
      stand = k.deals.stand;
      told = all_to _ _ (λ d p.
          let q = quotient d.currency d.whole d.residue (accrued_on o d.number h) p.0.interest p.1.residue in
          record {
            giver = p.0.giver;
            taker = p.0.taker;
            currency = p.0.currency;
            rate = p.0.rate;
            cash = p.0.cash;
            parts = parts_on_lem d.number s.lines ∙ p.0.parts;
            whole = q.0;
            residue = q.1;
          }) s.deals (all_both _ _ s.deals k.deals.says k.deals.ranged);
      went = k.deals.went;
    }
