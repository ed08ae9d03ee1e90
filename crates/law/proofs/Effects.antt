-- What slips that fit do to the quantities, the stocks and the numbers.
use Rattle.std.proofs.Common.{◌≡◌, ℕ, ◌+◌, ◌<◌, ◌≤◌, Bool, false, cond, ◌&&◌, eqb, List, [], ◌∷◌, sym, refl, ap, arith}
use Rattle.std.proofs.lemmas.Bool.Decides.{nat_tests}
use Rattle.memory.specs.declared.row.Deal.{Deal}
use Rattle.memory.specs.declared.row.Line.{Line}
use Rattle.memory.specs.declared.row.Sense.{Sense}
use Rattle.memory.specs.declared.row.Sense.TheVariants.{Out, Back, Cash}
use Rattle.memory.specs.declared.row.Slip.{Slip}
use Rattle.memory.specs.Rows.{no_line}
use Rattle.memory.specs.Sound.{return_number}
use Rattle.tables.specs.Rows.{less_quantity}
use Rattle.law.specs.Sums.{only, total}
use Rattle.law.specs.Finding.{deal_of, line_of}
use Rattle.law.specs.Slips.{new_line, lessened, line_by_sense, lines_by, issuing, issues}
use Rattle.law.specs.Past.{is_out, out_under, back_under, comes_to, goes_from, out_from, back_to}
use Rattle.law.specs.Agree.{standing, over, gives, takes, quantity_in, quantity_of}
use Rattle.law.proofs.Totals.{by_test, total_append, total_replaced, found_key}
use Rattle.law.proofs.Fitting.{Fit, Fitting}

-- the sum over a line with a quantity gone, where a line without quantity counts nothing
lessened_total : (f : Line → ℕ) (q : ℕ) (l : Line) → f (less_quantity l.quantity l) ≡ 0 → total f (lessened q l) ≡ f (less_quantity q l)
lessened_total f q l e =
    by_test (eqb l.quantity q) (λ b. total f (cond b [] (less_quantity q l ∷ [])) ≡ f (less_quantity q l))
    (λ t. let k : l.quantity ≡ q = Rattle.std.proofs.lemmas.Bool.eqb-true _ _ t in rw (← k) (sym e))
    (λ t. omega arith)

-- ── quantities under a return number ──

module _ (resources : ℕ) (ds : List Deal) where
  under_step : (n next : ℕ) (ls : List Line) (σ : Sense) (x : Slip) → x.sense ≡ σ → Fit resources ds next ls σ x
      → out_under n x + standing n ls ≡ back_under n x + standing n (line_by_sense σ x ls)
  under_step n next ls Out x e k =
      let t = total_append (λ l. only (eqb l.number n) l.quantity) ls (new_line x ∷ []) in
      rw e (omega (arith, t))
  under_step n next ls Back x e k =
      let f : Line → ℕ = λ l. only (eqb l.number n) l.quantity in
      let l : Line = line_of x.number ls in
      let t = total_replaced return_number x.number (lessened x.amount) f no_line ls k.listed in
      let u = lessened_total f x.amount l (grind (arith, nat_tests)) in
      let v : l.number ≡ x.number = found_key return_number no_line x.number ls k.listed in
      rw e (grind (arith, nat_tests, t, u, v, k.enough))
  under_step n next ls Cash x e k = rw e (omega arith)

  pub under : (n next : ℕ) (xs : List Slip) (ls : List Line) → Fitting resources ds next xs ls
      → total (out_under n) xs + standing n ls ≡ total (back_under n) xs + standing n (lines_by xs ls)
  unfolding lines_by
  under n next [] ls k = omega arith
  under n next (x ∷ xs) ls k =
      omega (arith, under_step n next ls x.sense x refl k.0, under n (next + issuing x.sense) xs (line_by_sense x.sense x ls) k.1)

  -- ── stock of an account ──

  stock_step : (a r next : ℕ) → 3 ≤ r → (ls : List Line) (σ : Sense) (x : Slip) → x.sense ≡ σ → Fit resources ds next ls σ x
      → goes_from a r x + over ds (gives a) (quantity_in r) ls + over ds (takes a) (quantity_in r) (line_by_sense σ x ls)
      ≡ comes_to a r x + over ds (gives a) (quantity_in r) (line_by_sense σ x ls) + over ds (takes a) (quantity_in r) ls
  stock_step a r next low ls Out x e k =
      let g = total_append (λ l. only (gives a (deal_of l.deal ds)) (quantity_in r l)) ls (new_line x ∷ []) in
      let t = total_append (λ l. only (takes a (deal_of l.deal ds)) (quantity_in r l)) ls (new_line x ∷ []) in
      grind (arith, nat_tests, g, t, k.from, k.to)
  stock_step a r next low ls Back x e k =
      let f : Line → ℕ = λ l. only (gives a (deal_of l.deal ds)) (quantity_in r l) in
      let h : Line → ℕ = λ l. only (takes a (deal_of l.deal ds)) (quantity_in r l) in
      let l : Line = line_of x.number ls in
      let t = total_replaced return_number x.number (lessened x.amount) f no_line ls k.listed in
      let s = total_replaced return_number x.number (lessened x.amount) h no_line ls k.listed in
      let u = lessened_total f x.amount l (grind (arith, nat_tests)) in
      let v = lessened_total h x.amount l (grind (arith, nat_tests)) in
      grind (arith, nat_tests, t, s, u, v, k.on, k.of, k.from, k.to, k.enough)
  stock_step a r next low ls Cash x e k =
      let z : eqb x.resource r ≡ false = grind (arith, nat_tests, k, low) in
      grind (arith, nat_tests, z)

  pub stock : (a r next : ℕ) → 3 ≤ r → (xs : List Slip) (ls : List Line) → Fitting resources ds next xs ls
      → total (goes_from a r) xs + over ds (gives a) (quantity_in r) ls + over ds (takes a) (quantity_in r) (lines_by xs ls)
      ≡ total (comes_to a r) xs + over ds (gives a) (quantity_in r) (lines_by xs ls) + over ds (takes a) (quantity_in r) ls
  unfolding lines_by
  stock a r next low [] ls k = omega arith
  stock a r next low (x ∷ xs) ls k =
      omega (arith, stock_step a r next low ls x.sense x refl k.0, stock a r (next + issuing x.sense) low xs (line_by_sense x.sense x ls) k.1)

  -- ── what an account gives ──

  nominal_step : (a : ℕ) (test : ℕ → Bool) (next : ℕ) (ls : List Line) (σ : Sense) (x : Slip) → x.sense ≡ σ → Fit resources ds next ls σ x
      → out_from a test x + over ds (gives a) (quantity_of test) ls ≡ back_to a test x + over ds (gives a) (quantity_of test) (line_by_sense σ x ls)
  nominal_step a test next ls Out x e k =
      let g = total_append (λ l. only (gives a (deal_of l.deal ds)) (quantity_of test l)) ls (new_line x ∷ []) in
      rw e (grind (arith, nat_tests, g, k.from))
  nominal_step a test next ls Back x e k =
      let f : Line → ℕ = λ l. only (gives a (deal_of l.deal ds)) (quantity_of test l) in
      let l : Line = line_of x.number ls in
      let t = total_replaced return_number x.number (lessened x.amount) f no_line ls k.listed in
      let u = lessened_total f x.amount l (grind (arith, nat_tests)) in
      let s : test l.security ≡ test x.resource = ap test k.of in
      rw e (grind (arith, nat_tests, t, u, s, k.on, k.to, k.enough))
  nominal_step a test next ls Cash x e k = rw e (omega arith)

  pub nominal : (a : ℕ) (test : ℕ → Bool) (next : ℕ) (xs : List Slip) (ls : List Line) → Fitting resources ds next xs ls
      → total (out_from a test) xs + over ds (gives a) (quantity_of test) ls ≡ total (back_to a test) xs + over ds (gives a) (quantity_of test) (lines_by xs ls)
  unfolding lines_by
  nominal a test next [] ls k = omega arith
  nominal a test next (x ∷ xs) ls k =
      omega (arith, nominal_step a test next ls x.sense x refl k.0, nominal a test (next + issuing x.sense) xs (line_by_sense x.sense x ls) k.1)

  -- ── numbers ──

  abbrev pub outs : ℕ → Slip → ℕ
  outs m x = only (is_out x && eqb x.number m) 1

  outs_step : (m next : ℕ) (ls : List Line) (σ : Sense) (x : Slip) → x.sense ≡ σ → Fit resources ds next ls σ x
      → outs m x ≡ only (eqb (issuing σ) 1 && eqb next m) 1
  outs_step m next ls Out x e k = rw e (grind (arith, nat_tests, k.numbered))
  outs_step m next ls Back x e k = rw e (omega arith)
  outs_step m next ls Cash x e k = rw e (omega arith)

  pub outs_below : (m next : ℕ) (xs : List Slip) (ls : List Line) → Fitting resources ds next xs ls → m < next → total (outs m) xs ≡ 0
  outs_below m next [] ls k l = refl
  outs_below m next (x ∷ xs) ls k l =
      let i = outs_below m (next + issuing x.sense) xs (line_by_sense x.sense x ls) k.1 (omega arith) in
      grind (arith, nat_tests, i, outs_step m next ls x.sense x refl k.0)

  pub outs_above : (m next : ℕ) (xs : List Slip) (ls : List Line) → Fitting resources ds next xs ls → next + issues xs ≤ m → total (outs m) xs ≡ 0
  unfolding issues
  outs_above m next [] ls k l = refl
  outs_above m next (x ∷ xs) ls k l =
      let i = outs_above m (next + issuing x.sense) xs (line_by_sense x.sense x ls) k.1 (omega arith) in
      grind (arith, nat_tests, i, outs_step m next ls x.sense x refl k.0)

  pub outs_once : (m next : ℕ) (xs : List Slip) (ls : List Line) → Fitting resources ds next xs ls → total (outs m) xs ≤ 1
  outs_once m next [] ls k = omega arith
  outs_once m next (x ∷ xs) ls k =
      let i = outs_once m (next + issuing x.sense) xs (line_by_sense x.sense x ls) k.1 in
      let b = outs_below m (next + issuing x.sense) xs (line_by_sense x.sense x ls) k.1 in
      grind (arith, nat_tests, i, b, outs_step m next ls x.sense x refl k.0)
