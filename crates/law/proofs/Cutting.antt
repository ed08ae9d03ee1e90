-- The slips of a mark that sends stock back: they fit, and the deal stays worth its target.
use Rattle.std.proofs.Common.{◌≡◌, ℕ, ◌+◌, ◌-◌, ◌<◌, ◌≤◌, min, Bool, true, false, cond, eqb, ltb, List, [], ◌∷◌, ◌++◌, reverse, sym, refl, ap, ◌∙◌, subst, inl, inr, arith}
use mathlib.Core.List.{reverse-cons}
use Rattle.std.specs.List.{AllByRecursion as Each}
use Rattle.std.proofs.lemmas.Bool.{and_parts, ltb-true, leb-true, eqb-true, eq-eqb, ne_eqb, cases_Bool, le-leb}
use Rattle.book.specs.Meaning.{Meaning, free}
use Rattle.book.specs.Moving.{moved}
use Rattle.memory.specs.declared.row.Deal.{Deal}
use Rattle.memory.specs.declared.row.Line.{Line}
use Rattle.memory.specs.declared.row.Slip.{Slip}
use Rattle.memory.specs.Deals.{target_of}
use Rattle.memory.specs.Rows.{no_line}
use Rattle.memory.specs.Sound.{return_number}
use Rattle.tables.specs.Rows.{less_quantity}
use Rattle.tables.specs.Values.{on_deal}
use Rattle.valuation.specs.Best.{largest_up_to, leaves}
use Rattle.valuation.specs.Stands.{IsLargest}
use Rattle.valuation.specs.declared.price.Price.{Price}
use Rattle.valuation.proofs.Bests.{largest_is}
use Rattle.law.specs.Sums.{only, total}
use Rattle.law.specs.Finding.{has, found, replaced, has_deal, deal_of, has_line, line_of}
use Rattle.law.specs.Slips.{movement_of, lessened, lines_by}
use Rattle.law.specs.Calls.{units_worth, worth_on_line, worth_on, cut_of, cuts, cut_slip, value_cut, cuts_from}
use Rattle.law.proofs.Totals.{by_test, total_replaced, total_each, found_all, all_to, all_append, all_both}
use Rattle.law.proofs.Ordered.{Ordered}
use Rattle.law.proofs.Worths.{worth_total, quantity_priced, quantity_none, priced_some, priced_less}
use Rattle.law.proofs.Histories.{Stock}
use Rattle.law.proofs.Fitting.{Fitting}

-- ── rows of other numbers ──

module _ {X : Type 0} (key : X → ℕ) where
  -- no number twice
  abbrev pub Distinct : List X → Type 0
  Distinct [] = Unit {0}
  Distinct (x ∷ xs) = Each (λ y. key x ≡ key y → ⊥) xs × Distinct xs

  distinct_push : (xs : List X) (x : X) → Distinct xs → Each (λ y. key y ≡ key x → ⊥) xs → Distinct (xs ++ (x ∷ []))
  distinct_push [] x d a = (tt, tt)
  distinct_push (y ∷ xs) x d a = (all_append _ xs (x ∷ []) d.0 (a.0, tt), distinct_push xs x d.1 a.1)

  pub all_reverse : (P : X → Type 0) (xs : List X) → Each P xs → Each P (reverse xs)
  all_reverse P [] a = tt
  all_reverse P (x ∷ xs) a = subst (Each P) (sym (reverse-cons x xs)) (all_append P (reverse xs) (x ∷ []) (all_reverse P xs a.1) (a.0, tt))

  pub distinct_reverse : (xs : List X) → Ordered key xs → Distinct (reverse xs)
  distinct_reverse [] h = tt
  distinct_reverse (x ∷ xs) h =
      subst Distinct (sym (reverse-cons x xs))
      (distinct_push (reverse xs) x (distinct_reverse xs h.1) (all_reverse _ xs (all_to _ _ (λ y l e. let z : ⊥ = omega (arith, l, e) in z) xs h.0)))

  -- each row of the list is found by its number
  pub found_each : (z : X) (xs : List X) → Ordered key xs → Each (λ x. (has key (key x) xs ≡ true) × (found key z (key x) xs ≡ x)) xs
  found_each z [] h = tt
  found_each z (x ∷ xs) h =
      let t : eqb (key x) (key x) ≡ true = eq-eqb (key x) (key x) refl in (
        (ap (λ b. cond b true (has key (key x) xs)) t, ap (λ b. cond b x (found key z (key x) xs)) t),
        all_to _ _ (λ y p.
            let f : eqb (key x) (key y) ≡ false = ne_eqb _ _ (λ e. let w : ⊥ = omega (arith, p.0, e) in w) in
            (ap (λ b. cond b true (has key (key y) xs)) f ∙ p.1.0, ap (λ b. cond b x (found key z (key y) xs)) f ∙ p.1.1)) xs (all_both _ _ xs h.0 (found_each z xs h.1)),
      )

  -- rows of the same number in the place of a row leave the others where they are
  module _ (g : X → List X) (same : (x : X) → Each (λ y. key y ≡ key x) (g x)) (m n : ℕ) (ne : m ≡ n → ⊥) where
    past : (ys xs : List X) → Each (λ y. key y ≡ m) ys → (has key n (ys ++ xs) ≡ has key n xs) × ((z : X) → found key z n (ys ++ xs) ≡ found key z n xs)
    past [] xs a = (refl, λ z. refl)
    past (y ∷ ys) xs a =
        let f : eqb (key y) n ≡ false = ne_eqb _ _ (λ e. ne (sym a.0 ∙ e)) in
        let p = past ys xs a.1 in
        (ap (λ b. cond b true (has key n (ys ++ xs))) f ∙ p.0, λ z. ap (λ b. cond b y (found key z n (ys ++ xs))) f ∙ p.1 z)

    pub other_rows : (xs : List X) → (has key n (replaced key m g xs) ≡ has key n xs) × ((z : X) → found key z n (replaced key m g xs) ≡ found key z n xs)
    other_rows [] = (refl, λ z. refl)
    other_rows (x ∷ xs) =
        by_test (eqb (key x) m) (λ b. (has key n (cond b (g x ++ xs) (x ∷ replaced key m g xs)) ≡ cond (eqb (key x) n) true (has key n xs)) × ((z : X) → found key z n (cond b (g x ++ xs) (x ∷ replaced key m g xs)) ≡ cond (eqb (key x) n) x (found key z n xs)))
        (λ e.
        let is : key x ≡ m = eqb-true _ _ e in
        let f : eqb (key x) n ≡ false = ne_eqb _ _ (λ k. ne (sym is ∙ k)) in
        let p = past (g x) xs (all_to _ _ (λ y k. k ∙ is) (g x) (same x)) in
        (p.0 ∙ ap (λ b. cond b true (has key n xs)) (sym f), λ z. p.1 z ∙ ap (λ b. cond b x (found key z n xs)) (sym f)))
        (λ e. let p = other_rows xs in (ap (λ b. cond (eqb (key x) n) true b) p.0, λ z. ap (λ b. cond (eqb (key x) n) x b) (p.1 z)))

lessened_same : (q : ℕ) (l : Line) → Each (λ y. y.number ≡ l.number) (lessened q l)
lessened_same q l =
    by_test (eqb l.quantity q) (λ b. Each (λ y. y.number ≡ l.number) (cond b [] (less_quantity q l ∷ []))) (λ e. tt) (λ e. (refl, tt))

-- ── one cut ──

module _ (ps : List Price) (d : Deal) where
  -- a line that is cut
  pub record Cut (m : Meaning) (value : ℕ) (l : Line) : Type 0 where
    pub on : l.deal ≡ d.number
    pub worth : 0 < worth_on_line ps d l
    pub some : 1 ≤ cut_of ps d m value l
    pub within : cut_of ps d m value l ≤ l.quantity
    pub free_within : cut_of ps d m value l ≤ free m d.taker l.security
    pub keeps : target_of d ≤ value_cut ps d m value l

  pub cut_is : (m : Meaning) (value : ℕ) (l : Line) → cuts ps d m value l ≡ true → target_of d ≤ value → worth_on_line ps d l ≤ value → Cut m value l
  cut_is m value l t enough part =
      let a = and_parts (on_deal d.number l) _ t in
      let b = and_parts (ltb 0 (worth_on_line ps d l)) _ a.1 in
      let bound : ℕ = min (free m d.taker l.security) l.quantity in
      let test : ℕ → Bool = leaves (units_worth ps d l.security) l.quantity (target_of d - (value - worth_on_line ps d l)) in
      let is : IsLargest test bound (largest_up_to test bound) = largest_is test bound in
      let w : 0 < worth_on_line ps d l = ltb-true _ _ b.0 in
      let pr = priced_some ps d l.security l.quantity w in
      let full : worth_on_line ps d l ≡ units_worth ps d l.security l.quantity = quantity_priced ps d l.security l.quantity pr in
      let whole : l.quantity - 0 ≡ l.quantity = omega arith in
      let zero-passes : test 0 ≡ true = le-leb _ _ (omega (arith, full, enough, part, ap (units_worth ps d l.security) whole)) in
      let passes : test (largest_up_to test bound) ≡ true = is.passes 0 (omega arith) zero-passes in
      let left : target_of d - (value - worth_on_line ps d l) ≤ units_worth ps d l.security (l.quantity - cut_of ps d m value l) = leb-true _ _ passes in
      record {
        on = eqb-true _ _ a.0;
        worth = w;
        some = ltb-true _ _ b.1;
        within = omega (arith, is.bounded);
        free_within = omega (arith, is.bounded);
        keeps = omega (arith, left);
      }

  -- a line as it stands among the lines
  pub record Met (cur : List Line) (l : Line) : Type 0 where
    pub listed : has_line l.number cur ≡ true
    pub is : line_of l.number cur ≡ l
    pub low : 3 ≤ l.security

  abbrev of_deal : Line → ℕ
  of_deal l = only (eqb l.deal d.number) (worth_on_line ps d l)

  -- a line of the deal is worth no more than the deal
  pub line_part_lem : (cur : List Line) (l : Line) → Met cur l → l.deal ≡ d.number → worth_on_line ps d l ≤ worth_on ps d cur
  line_part_lem cur l k on =
      let e = found_all return_number (λ x. of_deal x ≤ total of_deal cur) no_line l.number cur k.listed (total_each of_deal cur) in
      let f : of_deal l ≤ total of_deal cur = subst (λ x. of_deal x ≤ total of_deal cur) k.is e in
      let t : eqb l.deal d.number ≡ true = eq-eqb _ _ on in
      omega (arith, f, ap (λ b. only b (worth_on_line ps d l)) t, worth_total ps d cur)

  -- what is left of it
  pub rest_worth : (q : ℕ) (l : Line) → 0 < worth_on_line ps d l → worth_on_line ps d (less_quantity q l) ≡ units_worth ps d l.security (l.quantity - q)
  rest_worth q l w =
      quantity_priced ps d l.security (l.quantity - q) (priced_less ps d l.security l.quantity (l.quantity - q) (omega arith) (priced_some ps d l.security l.quantity w))

  lessened_worth : (q : ℕ) (l : Line) → total of_deal (lessened q l) ≡ of_deal (less_quantity q l)
  lessened_worth q l =
      by_test (eqb l.quantity q) (λ b. total of_deal (cond b [] (less_quantity q l ∷ [])) ≡ of_deal (less_quantity q l))
      (λ t.
      let k : l.quantity ≡ q = eqb-true _ _ t in
      let z : l.quantity - q ≡ 0 = omega (arith, k) in
      let n : worth_on_line ps d (less_quantity q l) ≡ 0 = rw z (quantity_none ps d l.security) in
      sym (ap (only (eqb l.deal d.number)) n ∙ Rattle.law.proofs.Totals.only_none (eqb l.deal d.number)))
      (λ t. omega arith)

  -- the deal after one cut
  pub cut_worth : (m : Meaning) (value : ℕ) (cur : List Line) (l : Line) → Met cur l → Cut m value l → worth_on ps d cur ≡ value
      → worth_on ps d (replaced return_number l.number (lessened (cut_of ps d m value l)) cur) ≡ value_cut ps d m value l
  cut_worth m value cur l k c e =
      let q : ℕ = cut_of ps d m value l in
      let after : List Line = replaced return_number l.number (lessened q) cur in
      let t = total_replaced return_number l.number (lessened q) of_deal no_line cur k.listed in
      let u : total of_deal after + of_deal l ≡ total of_deal cur + total of_deal (lessened q l) = subst (λ x. total of_deal after + of_deal x ≡ total of_deal cur + total of_deal (lessened q x)) k.is t in
      let on : eqb l.deal d.number ≡ true = eq-eqb _ _ c.on in
      omega (
        arith,
        u,
        lessened_worth q l,
        worth_total ps d cur,
        worth_total ps d after,
        ap (λ b. only b (worth_on_line ps d l)) on,
        ap (λ b. only b (worth_on_line ps d (less_quantity q l))) on,
        rest_worth q l c.worth,
        line_part_lem cur l k c.on,
        e,
      )

  pub met_after : (q n : ℕ) (cur : List Line) (x : Line) → (n ≡ x.number → ⊥) → Met cur x → Met (replaced return_number n (lessened q) cur) x
  met_after q n cur x ne k =
      let p = other_rows return_number (lessened q) (lessened_same q) n x.number ne cur in
      record { listed = p.0 ∙ k.listed; is = p.1 no_line ∙ k.is; low = k.low }

  -- the lines in turn
  pub record Fair (resources : ℕ) (ds : List Deal) (next : ℕ) (cur : List Line) (xs : List Slip) : Type 0 where
    pub fits : Fitting resources ds next xs cur
    pub stocks : Each Stock xs
    pub one_deal : Each (λ x. x.deal ≡ d.number) xs
    pub worth : target_of d ≤ worth_on ps d (lines_by xs cur)

  module _ (resources : ℕ) (ds : List Deal) (there : has_deal d.number ds ≡ true) (same : deal_of d.number ds ≡ d) where
    pub cuts_fair : (m : Meaning) (value next : ℕ) (rest cur : List Line) → Distinct return_number rest → Each (Met cur) rest
        → worth_on ps d cur ≡ value → target_of d ≤ value → Fair resources ds next cur (cuts_from ps d m value rest)
    unfolding cuts_from lines_by
    cuts_fair m value next [] cur apart met e enough = record { fits = tt; stocks = tt; one_deal = tt; worth = omega (arith, e, enough) }
    cuts_fair m value next (l ∷ rest) cur apart met e enough =
        elim (cases_Bool (cuts ps d m value l)) [
          | inr out ↦
              subst (λ b. Fair resources ds next cur (cond b (cut_slip ps d m value l ∷ cuts_from ps d (moved m (movement_of (cut_slip ps d m value l))) (value_cut ps d m value l) rest) (cuts_from ps d m value rest))) (sym out)
              (cuts_fair m value next rest cur apart.1 met.1 e enough)
          | inl cut ↦
              let on : l.deal ≡ d.number = eqb-true _ _ (and_parts (on_deal d.number l) _ cut).0 in
              let c : Cut m value l = cut_is m value l cut enough (omega (arith, line_part_lem cur l met.0 on, e)) in
              let q : ℕ = cut_of ps d m value l in
              let i = cuts_fair (moved m (movement_of (cut_slip ps d m value l))) (value_cut ps d m value l) (next + 0) rest (replaced return_number l.number (lessened q) cur) apart.1
              (all_to _ _ (λ x p. met_after q l.number cur x p.0 p.1) rest (all_both _ _ rest apart.0 met.1))
              (cut_worth m value cur l met.0 c e) c.keeps in
              subst (λ b. Fair resources ds next cur (cond b (cut_slip ps d m value l ∷ cuts_from ps d (moved m (movement_of (cut_slip ps d m value l))) (value_cut ps d m value l) rest) (cuts_from ps d m value rest))) (sym cut)
              (record {
                fits = (
                  record {
                    listed = met.0.listed;
                    on = ap (λ x. x.deal) met.0.is ∙ c.on;
                    of = ap (λ x. x.security) met.0.is;
                    stands = there;
                    from = ap (λ x. x.taker) (sym same);
                    to = ap (λ x. x.giver) (sym same);
                    low = met.0.low;
                    some = c.some;
                    enough = subst (λ x. q ≤ x.quantity) (sym met.0.is) c.within;
                  },
                  i.fits,
                );
                stocks = (record { no_cash = refl; no_interest = refl }, i.stocks);
                one_deal = (refl, i.one_deal);
                worth = i.worth;
              })
        ]
