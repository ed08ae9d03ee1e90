-- After the cuts of a mark no line can send back one unit more.
use Rattle.std.proofs.Common.{◌≡◌, ℕ, ◌+◌, ◌-◌, ◌<◌, ◌≤◌, min, Bool, true, false, cond, eqb, ltb, ◌⊎◌, List, [], ◌∷◌, reverse, sym, refl, ap, ◌∙◌, subst, inl, inr, arith}
use mathlib.Core.List.{reverse-cons}
use Rattle.std.specs.List.{AllByRecursion as Each}
use Rattle.std.proofs.lemmas.Bool.{and_parts, and_cases, ltb-false, leb-false, eqb-true, eq-eqb, ne_eqb, both_ways, cases_eq, cases_Bool, cases_lt, lt-ltb}
use Rattle.std.proofs.lemmas.Bool.Decides.{nat_tests}
use Rattle.book.specs.Lists.{run}
use Rattle.book.specs.Meaning.{Meaning, free}
use Rattle.book.specs.Moving.{moved}
use Rattle.memory.specs.declared.row.Deal.{Deal}
use Rattle.memory.specs.declared.row.Line.{Line}
use Rattle.memory.specs.Deals.{target_of}
use Rattle.memory.specs.Rows.{no_line}
use Rattle.memory.specs.Sound.{return_number}
use Rattle.tables.specs.Rows.{less_quantity}
use Rattle.tables.specs.Values.{on_deal}
use Rattle.valuation.specs.Best.{largest_up_to, leaves}
use Rattle.valuation.specs.Stands.{IsLargest}
use Rattle.valuation.specs.declared.price.Price.{Price}
use Rattle.valuation.proofs.Bests.{largest_is}
use Rattle.law.specs.Finding.{has, replaced, has_line, line_of}
use Rattle.law.specs.Slips.{movement_of, movements_of, lessened, lines_by}
use Rattle.law.specs.Calls.{units_worth, worth_on_line, worth_on, cut_of, cuts, cut_slip, value_cut, cuts_from}
use Rattle.law.specs.Sparing.{Spent}
use Rattle.law.proofs.Totals.{by_test, all_to, all_both, has_push}
use Rattle.law.proofs.Ordered.{Ordered, Inside, ordered_replaced, all_changed}
use Rattle.law.proofs.Worths.{units_more, priced_some, quantity_priced}
use Rattle.law.proofs.Cutting.{Distinct, Cut, cut_is, Met, line_part_lem, rest_worth, cut_worth, met_after, found_each}

-- each row is found in the list the other way round
pub has_reverse : {X : Type 0} (key : X → ℕ) (xs : List X) → Each (λ x. has key (key x) (reverse xs) ≡ true) xs
has_reverse key [] = tt
has_reverse key (x ∷ xs) =
    (last, all_to _ _ (λ y t. subst (λ zs. has key (key y) zs ≡ true) (sym (reverse-cons x xs)) (has_push key (key y) (reverse xs) x ∙ ap (λ b. cond b true (eqb (key x) (key y))) t)) xs (has_reverse key xs))
  where
    last : has key (key x) (reverse (x ∷ xs)) ≡ true
    last =
        subst (λ zs. has key (key x) zs ≡ true) (sym (reverse-cons x xs))
        (has_push key (key x) (reverse xs) x ∙ ap (λ b. cond (has key (key x) (reverse xs)) true b) (eq-eqb (key x) (key x) refl) ∙ by_test (has key (key x) (reverse xs)) (λ b. cond b true true ≡ true) (λ _. refl) (λ _. refl))

module _ (ps : List Price) (d : Deal) where
  -- less free, and a deal worth less, spare nothing either
  spent_later : (m m' : Meaning) (value value' : ℕ) (l : Line) → free m' d.taker l.security ≤ free m d.taker l.security → value' ≤ value
      → Spent ps d m value l → Spent ps d m' value' l
  spent_later m m' value value' l f v k on w =
      elim (k on w) [
        | inl z ↦ inl (omega (arith, z, f))
        | inr z ↦ inr (omega (arith, z, v))
      ]

  moved_free : (m : Meaning) (value s : ℕ) (l : Line) → free (moved m (movement_of (cut_slip ps d m value l))) d.taker s ≤ free m d.taker s
  moved_free m value s l = grind (arith, nat_tests)

  moved_free_here : (m : Meaning) (value : ℕ) (l : Line) → free (moved m (movement_of (cut_slip ps d m value l))) d.taker l.security ≡ free m d.taker l.security - cut_of ps d m value l
  moved_free_here m value l = grind (arith, nat_tests)

  -- what is left of a line that was cut
  spent_cut : (m : Meaning) (value : ℕ) (l : Line) → Cut ps d m value l → worth_on_line ps d l ≤ value → (eqb l.quantity (cut_of ps d m value l) ≡ false)
      → Spent ps d (moved m (movement_of (cut_slip ps d m value l))) (value_cut ps d m value l) (less_quantity (cut_of ps d m value l) l)
  spent_cut m value l c part left on w =
      let q : ℕ = cut_of ps d m value l in
      let bound : ℕ = min (free m d.taker l.security) l.quantity in
      let test : ℕ → Bool = leaves (units_worth ps d l.security) l.quantity (target_of d - (value - worth_on_line ps d l)) in
      let is : IsLargest test bound (largest_up_to test bound) = largest_is test bound in
      let rest = rest_worth ps d q l c.worth in
      elim (cases_lt q (free m d.taker l.security)) [
        | inr all ↦ inl (omega (arith, moved_free_here m value l, all, c.free_within))
        | inl less ↦
            let some : q < l.quantity = grind (arith, nat_tests, left, c.within) in
            let next : q + 1 ≤ bound = omega (arith, less, some) in
            let fails : test (q + 1) ≡ false = elim (cases_Bool (test (q + 1))) [
              | inl t ↦ (let z : ⊥ = omega (arith, is.largest (q + 1) next t) in absurd z)
              | inr t ↦ t
            ] in
            let short : units_worth ps d l.security (l.quantity - (q + 1)) < target_of d - (value - worth_on_line ps d l) = leb-false _ _ fails in
            let same : l.quantity - q - 1 ≡ l.quantity - (q + 1) = omega arith in
            inr (omega (arith, short, rest, ap (units_worth ps d l.security) same))
      ]

  -- a line that could not be cut
  spent_kept : (m : Meaning) (value : ℕ) (l : Line) → cuts ps d m value l ≡ false → worth_on_line ps d l ≤ value → 1 ≤ l.quantity → Spent ps d m value l
  spent_kept m value l out part some on w =
      let bound : ℕ = min (free m d.taker l.security) l.quantity in
      let test : ℕ → Bool = leaves (units_worth ps d l.security) l.quantity (target_of d - (value - worth_on_line ps d l)) in
      let is : IsLargest test bound (largest_up_to test bound) = largest_is test bound in
      let none : cut_of ps d m value l ≡ 0 =
      elim (and_cases (on_deal d.number l) _ out) [
        | inl f ↦ absurd (both_ways _ f (eq-eqb _ _ on))
        | inr f ↦ elim (and_cases (ltb 0 (worth_on_line ps d l)) _ f) [
          | inl g ↦ absurd (both_ways _ g (lt-ltb _ _ w))
          | inr g ↦ omega (arith, ltb-false 0 (cut_of ps d m value l) g)
        ]
      ] in
      elim (cases_lt 0 (free m d.taker l.security)) [
        | inr z ↦ inl (omega (arith, z))
        | inl more ↦
            let next : 1 ≤ bound = omega (arith, more, some) in
            let fails : test 1 ≡ false = elim (cases_Bool (test 1)) [
              | inl t ↦ (let z : ⊥ = omega (arith, is.largest 1 next t, none) in absurd z)
              | inr t ↦ t
            ] in
            let short : units_worth ps d l.security (l.quantity - 1) < target_of d - (value - worth_on_line ps d l) = leb-false _ _ fails in
            inr (omega (arith, short, part))
      ]

  lessened_inside : (q : ℕ) (l : Line) → Inside return_number l (lessened q l)
  lessened_inside q l =
      by_test (eqb l.quantity q) (λ t. Inside return_number l (cond t [] (less_quantity q l ∷ []))) (λ t. record { rise = tt; same = tt }) (λ t. record { rise = (tt, tt); same = (refl, tt) })

  -- a line that is still to be visited, or is spent
  abbrev Waits : List Line → Meaning → ℕ → Line → Type 0
  Waits rest m value x = (has_line x.number rest ≡ true) ⊎ Spent ps d m value x

  waits_next : (l : Line) (rest : List Line) (m : Meaning) (value : ℕ) (x : Line) → (x.number ≡ l.number → ⊥) → Waits (l ∷ rest) m value x → Waits rest m value x
  waits_next l rest m value x ne (inl t) = inl (ap (λ b. cond b true (has_line x.number rest)) (sym (ne_eqb _ _ (λ e. ne (sym e)))) ∙ t)
  waits_next l rest m value x ne (inr k) = inr k

  pub cuts_spent : (m : Meaning) (value : ℕ) (rest cur : List Line) → Distinct return_number rest → Each (Met ps d cur) rest → Each (λ l. 1 ≤ l.quantity) rest → Ordered return_number cur
      → worth_on ps d cur ≡ value → target_of d ≤ value → Each (Waits rest m value) cur
      → Each (Spent ps d (run m (movements_of (cuts_from ps d m value rest))) (worth_on ps d (lines_by (cuts_from ps d m value rest) cur))) (lines_by (cuts_from ps d m value rest) cur)
  unfolding cuts_from lines_by run
  cuts_spent m value [] cur apart met some rise e enough waits =
      all_to _ _ (λ x k. subst (λ v. Spent ps d m v x) (sym e) (elim k [ inl t ↦ absurd (both_ways false refl t) | inr s ↦ s ])) cur waits
  cuts_spent m value (l ∷ rest) cur apart met some rise e enough waits =
      let each = found_each return_number no_line cur rise in
      -- a line of the number is the line
      let same : (x : Line) → line_of x.number cur ≡ x → x.number ≡ l.number → x ≡ l = λ x is n. sym is ∙ ap (λ i. line_of i cur) n ∙ met.0.is in
      elim (cases_Bool (cuts ps d m value l)) [
        | inr out ↦
            subst (λ b. Each (Spent ps d (run m (movements_of (cond b (cut_slip ps d m value l ∷ cuts_from ps d (moved m (movement_of (cut_slip ps d m value l))) (value_cut ps d m value l) rest) (cuts_from ps d m value rest)))) (worth_on ps d (lines_by (cond b (cut_slip ps d m value l ∷ cuts_from ps d (moved m (movement_of (cut_slip ps d m value l))) (value_cut ps d m value l) rest) (cuts_from ps d m value rest)) cur))) (lines_by (cond b (cut_slip ps d m value l ∷ cuts_from ps d (moved m (movement_of (cut_slip ps d m value l))) (value_cut ps d m value l) rest) (cuts_from ps d m value rest)) cur)) (sym out)
            (cuts_spent m value rest cur apart.1 met.1 some.1 rise e enough
            (all_to (λ x. Waits (l ∷ rest) m value x × ((has_line x.number cur ≡ true) × (line_of x.number cur ≡ x))) (Waits rest m value) (λ x k. elim (cases_eq x.number l.number) [
              | inl n ↦ inr (subst (Spent ps d m value) (sym (same x k.1.1 n)) (λ on w. spent_kept m value l out (omega (arith, line_part_lem ps d cur l met.0 on, e)) some.0 on w))
              | inr ne ↦ waits_next l rest m value x ne k.0
            ]) cur (all_both _ _ cur waits each)))
        | inl cut ↦
            let on : l.deal ≡ d.number = eqb-true _ _ (and_parts (on_deal d.number l) _ cut).0 in
            let part : worth_on_line ps d l ≤ value = omega (arith, line_part_lem ps d cur l met.0 on, e) in
            let c : Cut ps d m value l = cut_is ps d m value l cut enough part in
            let q : ℕ = cut_of ps d m value l in
            let m1 : Meaning = moved m (movement_of (cut_slip ps d m value l)) in
            let v1 : ℕ = value_cut ps d m value l in
            let full : worth_on_line ps d l ≡ units_worth ps d l.security l.quantity = quantity_priced ps d l.security l.quantity (priced_some ps d l.security l.quantity c.worth) in
            let less : v1 ≤ value = omega (arith, part, full, units_more ps d l.security (l.quantity - q) l.quantity (omega arith)) in
            let next : List Line = replaced return_number l.number (lessened q) cur in
            subst (λ b. Each (Spent ps d (run m (movements_of (cond b (cut_slip ps d m value l ∷ cuts_from ps d m1 v1 rest) (cuts_from ps d m value rest)))) (worth_on ps d (lines_by (cond b (cut_slip ps d m value l ∷ cuts_from ps d m1 v1 rest) (cuts_from ps d m value rest)) cur))) (lines_by (cond b (cut_slip ps d m value l ∷ cuts_from ps d m1 v1 rest) (cuts_from ps d m value rest)) cur)) (sym cut)
            (cuts_spent m1 v1 rest next apart.1
            (all_to _ _ (λ x p. met_after ps d q l.number cur x p.0 p.1) rest (all_both _ _ rest apart.0 met.1))
            some.1
            (ordered_replaced return_number l.number (lessened q) (lessened_inside q) cur rise)
            (cut_worth ps d m value cur l met.0 c e) c.keeps
            (all_changed return_number (λ x. Waits (l ∷ rest) m value x × ((has_line x.number cur ≡ true) × (line_of x.number cur ≡ x))) (Waits rest m1 v1) no_line l.number (lessened q) cur met.0.listed rise (all_both _ _ cur waits each)
            (λ x k ne. elim (waits_next l rest m value x ne k.0) [
              | inl t ↦ inl t
              | inr s ↦ inr (spent_later m m1 value v1 x (moved_free m value x.security l) less s)
            ])
            (λ x k n. subst (λ y. Each (Waits rest m1 v1) (lessened q y)) (sym (same x k.1.1 n))
            (by_test (eqb l.quantity q) (λ b. eqb l.quantity q ≡ b → Each (Waits rest m1 v1) (cond b [] (less_quantity q l ∷ [])))
            (λ t _. tt)
            (λ t _. (inr (spent_cut m value l c part t), tt)) refl))))
      ]
