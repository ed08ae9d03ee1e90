-- Quantities of lines: that they fit, and over the securities. Assumes nothing.
use Rattle.std.proofs.Common.{◌≡◌, ℕ, zero, suc, ◌+◌, ◌-◌, ◌^◌, ◌<◌, ◌≤◌, Bool, not, sum_by, filter, List, [], ◌∷◌, Some, None, Option, sym, refl, arith}
use Rattle.book.proofs.Totals.{sum_below_same, sum_below_one}
use Rattle.book.specs.Totals.{sum_below}
use Rattle.std.proofs.ByRecursion.{All-weaker as weaker, all_kept_by}
use Rattle.std.proofs.lemmas.List.Elements.{All-weaker, All-from_recursion}
use Rattle.std.proofs.lemmas.List.Filters.{sum_by-filter_both}
use Rattle.std.proofs.lemmas.List.{length-take}
use Rattle.std.proofs.lemmas.List.Sums.{sum_by-le, sum_by-cons}
use Rattle.std.proofs.lemmas.Bool.Decides.{nat_tests}
use Rattle.std.specs.List.{AllByRecursion as Each}
use Rattle.memory.specs.declared.row.Deal.{Deal}
use Rattle.memory.specs.declared.row.Head.{Head}
use Rattle.memory.specs.declared.row.Line.{Line}
use Rattle.memory.specs.Register.{Sound}
use Rattle.memory.specs.Sound.{used_deals, used_lines}
use Rattle.valuation.specs.Most.{most_units}
use Rattle.panel.specs.Standing.{on_side, lines_of, quantity_of, quantity_on, Orderly, Whole}

-- ── what fits ──

quantity_low : (o : Option ℕ) (l : Line) → l.quantity ≤ most_units → quantity_of o l ≤ most_units
quantity_low (Some s) l h = grind (arith, nat_tests)
quantity_low None l h = h

-- what stands on any of the used lines is within 1024 times the most of a line
pub quantity_fits : (o : Option ℕ) (f : Line → Bool) (h : Head) (deals : List Deal) (lines : List Line) → Orderly h deals lines → sum_by (quantity_of o) (filter f (used_lines h lines)) < 2 ^ 64
quantity_fits o f h deals lines ok =
    let ls = used_lines h lines in
    let parts = sum_by-filter_both f (λ l. not (f l)) (λ l. refl) (quantity_of o) ls in
    let all = sum_by-le (quantity_of o) most_units ls (All-weaker _ _ (quantity_low o) ls ok.each) in
    let long = length-take h.used.lines lines in
    omega (arith, parts, all, long, ok.few)

-- ── over the securities ──

sum_zero : (n : ℕ) → sum_below (λ _. 0) n ≡ 0
sum_zero zero = refl
sum_zero (suc n) = omega (arith, sum_zero n)

sum_plus : (f g : ℕ → ℕ) (n : ℕ) → sum_below (λ k. f k + g k) n ≡ sum_below f n + sum_below g n
sum_plus f g zero = refl
sum_plus f g (suc n) = omega (arith, sum_plus f g n)

module _ (resources : ℕ) where
  -- a line is in one security
  line_total : (l : Line) → 3 ≤ l.security → l.security < resources → sum_below (λ k. quantity_of (Some (3 + k)) l) (resources - 3) ≡ l.quantity
  line_total l low high =
      let f : ℕ → ℕ = λ k. quantity_of (Some (3 + k)) l in
      let at = sum_below_one f (λ _. 0) (resources - 3) (l.security - 3) (omega arith) (λ k ne. other k ne) in
      let here : f (l.security - 3) ≡ l.quantity = grind (arith, nat_tests) in
      omega (arith, at, here, sum_zero (resources - 3))
    where
      other : (k : ℕ) → (k ≡ l.security - 3 → ⊥) → quantity_of (Some (3 + k)) l ≡ 0
      other k ne = grind (arith, nat_tests)

  abbrev Listed : Line → Type 0
  Listed l = (3 ≤ l.security) × (l.security < resources)

  lines_total : (ls : List Line) → Each Listed ls → quantity_on None ls ≡ sum_below (λ k. quantity_on (Some (3 + k)) ls) (resources - 3)
  lines_total [] ok = sym (sum_zero (resources - 3))
  lines_total (l ∷ ls) ok =
      let split : sum_below (λ k. quantity_on (Some (3 + k)) (l ∷ ls)) (resources - 3) ≡ sum_below (λ k. quantity_of (Some (3 + k)) l + quantity_on (Some (3 + k)) ls) (resources - 3) =
      sum_below_same _ _ (resources - 3) (λ k _. sum_by-cons (quantity_of (Some (3 + k))) l ls) in
      let parts = sum_plus (λ k. quantity_of (Some (3 + k)) l) (λ k. quantity_on (Some (3 + k)) ls) (resources - 3) in
      let first = line_total l ok.0.0 ok.0.1 in
      let rest = lines_total ls ok.1 in
      omega (arith, split, parts, first, rest, sum_by-cons (quantity_of None) l ls)

  module _ (accounts : ℕ) (h : Head) (deals : List Deal) (lines : List Line) (s : Sound accounts resources h deals lines) where
    pub sound_orderly : Orderly h deals lines
    sound_orderly =
        record {
          rise = s.deal_table.rise;
          few = omega (arith, s.line_table.within, s.line_table.few);
          within = s.line_table.within;
          each = All-from_recursion _ (used_lines h lines) (weaker _ _ (λ l ok. ok.quantity_most) (used_lines h lines) s.line_table.each);
        }

    pub sound_whole : Whole resources h deals lines
    sound_whole =
        record {
          total = λ p account.
              lines_total (lines_of p account (used_deals h deals) (used_lines h lines))
              (all_kept_by (on_side p account (used_deals h deals)) Listed (used_lines h lines)
              (weaker _ _ (λ l ok. (ok.security_some, ok.security_below)) (used_lines h lines) s.line_table.each));
        }
