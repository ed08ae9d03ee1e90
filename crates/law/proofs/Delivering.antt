-- The slips of a basket.
use Rattle.std.proofs.Common.{◌≡◌, ℕ, ◌+◌, ◌<◌, ◌≤◌, true, false, eqb, List, [], ◌∷◌, ◌++◌, sym, refl, ap, arith}
use Rattle.std.specs.List.{AllByRecursion as Each}
use Rattle.gathering.specs.declared.order.Pick.{Pick}
use Rattle.memory.specs.declared.row.Deal.{Deal}
use Rattle.memory.specs.declared.row.Kind.{Kind}
use Rattle.memory.specs.declared.row.Line.{Line}
use Rattle.memory.specs.Kinds.{kind_number}
use Rattle.valuation.specs.Most.{most_units}
use Rattle.law.specs.Sums.{total}
use Rattle.law.specs.Finding.{has_deal, deal_of}
use Rattle.law.specs.Slips.{out_slip, deliveries, new_line, lines_by}
use Rattle.law.proofs.Totals.{total_append}
use Rattle.law.proofs.Histories.{Stock}
use Rattle.law.proofs.Fitting.{Fitting}

-- a pick that may stand on a line
pub record Picked (resources : ℕ) (x : Pick) : Type 0 where
  pub low : 3 ≤ x.security
  pub high : x.security < resources
  pub some : 1 ≤ x.quantity
  pub most : x.quantity ≤ most_units

module _ (kind : Kind) (d : Deal) where
  pub deliveries_fit : (resources : ℕ) (ds : List Deal) → has_deal d.number ds ≡ true → deal_of d.number ds ≡ d
      → (next : ℕ) (picks : List Pick) (ls : List Line) → Each (Picked resources) picks → Fitting resources ds next (deliveries kind d next picks) ls
  unfolding deliveries
  deliveries_fit resources ds there is next [] ls a = tt
  deliveries_fit resources ds there is next (x ∷ xs) ls a = (
    record { numbered = refl; stands = there; from = ap (λ u. u.giver) (sym is); to = ap (λ u. u.taker) (sym is); low = a.0.low; high = a.0.high; some = a.0.some; most = a.0.most },
    deliveries_fit resources ds there is (next + 1) xs _ a.1,
  )

  pub deliveries_stock : eqb (kind_number kind) 5 ≡ false → (next : ℕ) (picks : List Pick) → Each Stock (deliveries kind d next picks)
  unfolding deliveries
  deliveries_stock t next [] = tt
  deliveries_stock t next (x ∷ xs) = (record { no_cash = refl; no_interest = t }, deliveries_stock t (next + 1) xs)

  pub deliveries_deal : (next : ℕ) (picks : List Pick) → Each (λ x. x.deal ≡ d.number) (deliveries kind d next picks)
  unfolding deliveries
  deliveries_deal next [] = tt
  deliveries_deal next (x ∷ xs) = (refl, deliveries_deal (next + 1) xs)

  -- a sum over the lines grows by what the new ones come to
  pub deliveries_total : (f : Line → ℕ) (next : ℕ) (picks : List Pick) (ls : List Line) (g : Pick → ℕ)
      → ((n : ℕ) (x : Pick) → f (new_line (out_slip kind d n x.security x.quantity)) ≡ g x)
      → total f (lines_by (deliveries kind d next picks) ls) ≡ total f ls + total g picks
  unfolding deliveries lines_by
  deliveries_total f next [] ls g e = omega arith
  deliveries_total f next (x ∷ xs) ls g e =
      let l : Line = new_line (out_slip kind d next x.security x.quantity) in
      omega (arith, deliveries_total f (next + 1) xs (ls ++ (l ∷ [])) g e, total_append f ls (l ∷ []), e next x)
