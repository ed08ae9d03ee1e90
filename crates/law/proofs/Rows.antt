-- The lines after slips that fit: each as it should be, by rising number, and their parts.
use Rattle.std.proofs.Common.{◌≡◌, ℕ, ◌+◌, ◌<◌, ◌≤◌, true, false, cond, eqb, List, [], ◌∷◌, refl, ◌∙◌, arith}
use Rattle.std.specs.List.{AllByRecursion as Each}
use Rattle.std.proofs.lemmas.Bool.Decides.{nat_tests}
use Rattle.memory.specs.declared.row.Deal.{Deal}
use Rattle.memory.specs.declared.row.Line.{Line}
use Rattle.memory.specs.declared.row.Sense.{Sense}
use Rattle.memory.specs.declared.row.Sense.TheVariants.{Out, Back, Cash}
use Rattle.memory.specs.declared.row.Slip.{Slip}
use Rattle.memory.specs.Rows.{no_line}
use Rattle.memory.specs.Sound.{return_number}
use Rattle.tables.specs.Rows.{less_quantity}
use Rattle.valuation.specs.Most.{most_units}
use Rattle.law.specs.Sums.{only, total}
use Rattle.law.specs.Finding.{has_deal, line_of}
use Rattle.law.specs.Slips.{new_line, lessened, line_by_sense, lines_by, issuing, issues}
use Rattle.law.proofs.Totals.{by_test, total_append, total_replaced, found_all, all_to, all_append, all_replaced}
use Rattle.law.proofs.Ordered.{Ordered, Inside, ordered_push, ordered_replaced}
use Rattle.law.proofs.Fitting.{Fit, Fitting}

-- a line that stands: below the next number, on a deal that stands, of a security and a quantity in their ranges
pub record Placed (resources : ℕ) (ds : List Deal) (next : ℕ) (l : Line) : Type 0 where
  pub some : 1 ≤ l.number
  pub below : l.number < next
  pub stands : has_deal l.deal ds ≡ true
  pub low : 3 ≤ l.security
  pub high : l.security < resources
  pub quantity_some : 1 ≤ l.quantity
  pub quantity_most : l.quantity ≤ most_units

pub placed_later : (resources : ℕ) (ds : List Deal) (next more : ℕ) (l : Line) → next ≤ more → Placed resources ds next l → Placed resources ds more l
placed_later resources ds next more l e p =
    record { some = p.some; below = omega (arith, p.below, e); stands = p.stands; low = p.low; high = p.high; quantity_some = p.quantity_some; quantity_most = p.quantity_most }

module _ (resources : ℕ) (ds : List Deal) where
  placed_step : (next : ℕ) (ls : List Line) (σ : Sense) (x : Slip) → 1 ≤ next → Fit resources ds next ls σ x
      → Each (Placed resources ds next) ls → Each (Placed resources ds (next + issuing σ)) (line_by_sense σ x ls)
  placed_step next ls Out x o k a =
      all_append _ ls (new_line x ∷ [])
      (all_to _ _ (λ l p. placed_later resources ds next (next + 1) l (omega arith) p) ls a)
      (record { some = omega (arith, o, k.numbered); below = omega (arith, k.numbered); stands = k.stands; low = k.low; high = k.high; quantity_some = k.some; quantity_most = k.most }, tt)
  placed_step next ls Back x o k a =
      let l : Line = line_of x.number ls in
      let b : Each (Placed resources ds (next + 0)) ls = all_to _ _ (λ l p. placed_later resources ds next (next + 0) l (omega arith) p) ls a in
      let p : Placed resources ds (next + 0) l = found_all return_number _ no_line x.number ls k.listed b in
      all_replaced return_number x.number (lessened x.amount) _ no_line ls k.listed b
      (by_test (eqb l.quantity x.amount) (λ t. Each (Placed resources ds (next + 0)) (cond t [] (less_quantity x.amount l ∷ [])))
      (λ t. tt)
      (λ t. (record { some = p.some; below = p.below; stands = p.stands; low = p.low; high = p.high; quantity_some = grind (arith, nat_tests, t, k.enough); quantity_most = omega (arith, p.quantity_most) }, tt)))
  placed_step next ls Cash x o k a = all_to _ _ (λ l p. placed_later resources ds next (next + 0) l (omega arith) p) ls a

  pub placed : (next : ℕ) (xs : List Slip) (ls : List Line) → 1 ≤ next → Fitting resources ds next xs ls
      → Each (Placed resources ds next) ls → Each (Placed resources ds (next + issues xs)) (lines_by xs ls)
  unfolding lines_by issues
  placed next [] ls o k a = all_to _ _ (λ l p. placed_later resources ds next (next + 0) l (omega arith) p) ls a
  placed next (x ∷ xs) ls o k a =
      let i = placed (next + issuing x.sense) xs (line_by_sense x.sense x ls) (omega arith) k.1 (placed_step next ls x.sense x o k.0 a) in
      all_to _ _ (λ l p. placed_later resources ds ((next + issuing x.sense) + issues xs) (next + issues (x ∷ xs)) l (omega arith) p) _ i

  -- ── by rising number ──

  lessened_inside : (q : ℕ) (l : Line) → Inside return_number l (lessened q l)
  lessened_inside q l =
      by_test (eqb l.quantity q) (λ t. Inside return_number l (cond t [] (less_quantity q l ∷ [])))
      (λ t. record { rise = tt; same = tt })
      (λ t. record { rise = (tt, tt); same = (refl, tt) })

  rise_step : (next : ℕ) (ls : List Line) (σ : Sense) (x : Slip) → Fit resources ds next ls σ x
      → Each (Placed resources ds next) ls → Ordered return_number ls → Ordered return_number (line_by_sense σ x ls)
  rise_step next ls Out x k a h = ordered_push return_number ls (new_line x) h (all_to _ _ (λ l p. omega (arith, p.below, k.numbered)) ls a)
  rise_step next ls Back x k a h = ordered_replaced return_number x.number (lessened x.amount) (lessened_inside x.amount) ls h
  rise_step next ls Cash x k a h = h

  pub rise : (next : ℕ) (xs : List Slip) (ls : List Line) → 1 ≤ next → Fitting resources ds next xs ls
      → Each (Placed resources ds next) ls → Ordered return_number ls → Ordered return_number (lines_by xs ls)
  unfolding lines_by
  rise next [] ls o k a h = h
  rise next (x ∷ xs) ls o k a h =
      rise (next + issuing x.sense) xs (line_by_sense x.sense x ls) (omega arith) k.1 (placed_step next ls x.sense x o k.0 a) (rise_step next ls x.sense x k.0 a h)

  -- ── parts of deals that the slips do not name ──

  abbrev parts_for : ℕ → List Line → ℕ
  parts_for n ls = total (λ l. only (eqb l.deal n) l.part) ls

  parts_step : (m next : ℕ) (ls : List Line) (σ : Sense) (x : Slip) → Fit resources ds next ls σ x → (x.deal ≡ m → ⊥)
      → parts_for m (line_by_sense σ x ls) ≡ parts_for m ls
  parts_step m next ls Out x k ne =
      grind (arith, nat_tests, total_append (λ l. only (eqb l.deal m) l.part) ls (new_line x ∷ []))
  parts_step m next ls Back x k ne =
      let f : Line → ℕ = λ l. only (eqb l.deal m) l.part in
      let l : Line = line_of x.number ls in
      let z : eqb l.deal m ≡ false = grind (arith, nat_tests, ne, k.on) in
      let t = total_replaced return_number x.number (lessened x.amount) f no_line ls k.listed in
      let u : total f (lessened x.amount l) ≡ 0 =
      by_test (eqb l.quantity x.amount) (λ b. total f (cond b [] (less_quantity x.amount l ∷ [])) ≡ 0) (λ b. refl) (λ b. rw z) in
      let v : f l ≡ 0 = rw z in
      omega (arith, t, u, v)
  parts_step m next ls Cash x k ne = refl

  pub parts_others : (m next : ℕ) (xs : List Slip) (ls : List Line) → Fitting resources ds next xs ls → Each (λ x. x.deal ≡ m → ⊥) xs
      → total (λ l. only (eqb l.deal m) l.part) (lines_by xs ls) ≡ total (λ l. only (eqb l.deal m) l.part) ls
  unfolding lines_by
  parts_others m next [] ls k a = refl
  parts_others m next (x ∷ xs) ls k a =
      parts_others m (next + issuing x.sense) xs (line_by_sense x.sense x ls) k.1 a.1 ∙ parts_step m next ls x.sense x k.0 a.0
