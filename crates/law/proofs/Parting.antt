-- Lines over which cash is shared out: only their parts change, and they come to the cash.
use Rattle.std.proofs.Common.{◌≡◌, ℕ, ◌+◌, ◌<◌, cond, eqb, List, [], ◌∷◌, map, length, sym, refl, ap, ◌∙◌, subst, arith}
use Rattle.std.specs.List.{AllByRecursion as Each}
use Rattle.std.proofs.lemmas.List.{length-map}
use Rattle.std.proofs.lemmas.Bool.Decides.{nat_tests}
use Rattle.memory.specs.declared.row.Deal.{Deal}
use Rattle.memory.specs.declared.row.Line.{Line}
use Rattle.memory.specs.Deals.{worth_by}
use Rattle.memory.specs.Sound.{return_number, parts_on}
use Rattle.sharing.specs.Parts.{total_of}
use Rattle.sharing.specs.Tables.{picked}
use Rattle.sharing.proofs.Scattered.{shared_keeps, shared_others, shared_whole}
use Rattle.tables.specs.Values.{line_worth, on_deal, with_part}
use Rattle.valuation.specs.declared.price.Price.{Price}
use Rattle.law.specs.Sums.{only, total}
use Rattle.law.specs.Finding.{deal_of}
use Rattle.law.specs.Plans.{Sharing, asis, over, parted}
use Rattle.law.proofs.Totals.{by_test, all_over}
use Rattle.law.proofs.Ordered.{Ordered, ordered_like}
use Rattle.law.proofs.Rows.{Placed}

-- ── sums of parts in two other forms ──

pub parts_on_lem : (n : ℕ) (ls : List Line) → parts_on n ls ≡ total (λ l. only (eqb l.deal n) l.part) ls
unfolding parts_on
parts_on_lem n [] = refl
parts_on_lem n (l ∷ ls) = by_test (eqb l.deal n) (λ b. cond b l.part 0 + parts_on n ls ≡ only b l.part + total (λ l. only (eqb l.deal n) l.part) ls)
    (λ e. omega (arith, parts_on_lem n ls)) (λ e. omega (arith, parts_on_lem n ls))

picked_total : (f : Line → ℕ) (n : ℕ) (ls : List Line) → total_of (picked (on_deal n) f ls) ≡ total (λ l. only (eqb l.deal n) (f l)) ls
picked_total f n [] = refl
picked_total f n (l ∷ ls) =
    by_test (eqb l.deal n) (λ b. total_of (cond b (f l ∷ picked (on_deal n) f ls) (picked (on_deal n) f ls)) ≡ only b (f l) + total (λ l. only (eqb l.deal n) (f l)) ls)
    (λ e. omega (arith, picked_total f n ls)) (λ e. omega (arith, picked_total f n ls))

picked_some : (f : Line → ℕ) (n : ℕ) (ls : List Line) → 0 < total (λ l. only (eqb l.deal n) 1) ls → 0 < length (picked (on_deal n) f ls)
picked_some f n [] h = h
picked_some f n (l ∷ ls) h =
    by_test (eqb l.deal n) (λ b. 0 < only b 1 + total (λ l. only (eqb l.deal n) 1) ls → 0 < length (cond b (f l ∷ picked (on_deal n) f ls) (picked (on_deal n) f ls)))
    (λ e k. omega arith) (λ e k. picked_some f n ls (omega (arith, k))) h

-- how many lines a deal has
abbrev pub lines_on : ℕ → List Line → ℕ
lines_on n ls = total (λ l. only (eqb l.deal n) 1) ls

-- ── parted lines ──

-- a line but for its part
abbrev pub bare : Line → Line
bare l = with_part l 0

pub parted_bare : (sh : Sharing) (ds : List Deal) (ls : List Line) → map bare (parted sh ds ls) ≡ map bare ls
parted_bare asis ds ls = refl
parted_bare (over ps n) ds ls =
    shared_keeps (on_deal n) (line_worth (worth_by (deal_of n ds).weighing) (deal_of n ds).currency ps) with_part (deal_of n ds).cash ls bare (λ x p. refl)

module _ (sh : Sharing) (ds : List Deal) (ls : List Line) where
  -- a sum that looks at no part
  pub parted_total : (f : Line → ℕ) → ((l : Line) → f (bare l) ≡ f l) → total f (parted sh ds ls) ≡ total f ls
  parted_total f e =
      same (parted sh ds ls) ∙ ap (total f) (parted_bare sh ds ls) ∙ sym (same ls)
    where
      same : (xs : List Line) → total f xs ≡ total f (map bare xs)
      same [] = refl
      same (x ∷ xs) = omega (arith, e x, same xs)

  pub parted_all : (P : Line → Type 0) → ((l : Line) → P (bare l) → P l) → ((l : Line) → P l → P (bare l)) → Each P ls → Each P (parted sh ds ls)
  parted_all P back to a = from (parted sh ds ls) (subst (Each P) (sym (parted_bare sh ds ls)) (all_over P P bare to ls a))
    where
      from : (xs : List Line) → Each P (map bare xs) → Each P xs
      from [] h = tt
      from (x ∷ xs) h = (back x h.0, from xs h.1)

  pub parted_rise : Ordered return_number ls → Ordered return_number (parted sh ds ls)
  parted_rise = ordered_like return_number ls (parted sh ds ls) (sym (numbers ls) ∙ ap (map return_number) (sym (parted_bare sh ds ls)) ∙ numbers (parted sh ds ls))
    where
      numbers : (xs : List Line) → map return_number (map bare xs) ≡ map return_number xs
      numbers [] = refl
      numbers (x ∷ xs) = ap (λ t. x.number ∷ t) (numbers xs)

  pub parted_length : length (parted sh ds ls) ≡ length ls
  parted_length = sym (length-map (parted sh ds ls) bare) ∙ ap length (parted_bare sh ds ls) ∙ length-map ls bare

pub parted_placed : (resources : ℕ) (ds : List Deal) (next : ℕ) (sh : Sharing) (es : List Deal) (ls : List Line)
    → Each (Placed resources ds next) ls → Each (Placed resources ds next) (parted sh es ls)
parted_placed resources ds next sh es ls =
    parted_all sh es ls (Placed resources ds next)
    (λ l p. record { some = p.some; below = p.below; stands = p.stands; low = p.low; high = p.high; quantity_some = p.quantity_some; quantity_most = p.quantity_most })
    (λ l p. record { some = p.some; below = p.below; stands = p.stands; low = p.low; high = p.high; quantity_some = p.quantity_some; quantity_most = p.quantity_most })

-- the deal that it is shared over has all of its cash on its lines, and the others what they had
module _ (ps : List Price) (n : ℕ) (ds : List Deal) (ls : List Line) where
  pub parted_whole : 0 < lines_on n ls → total (λ l. only (eqb l.deal n) l.part) (parted (over ps n) ds ls) ≡ (deal_of n ds).cash
  parted_whole h =
      sym (picked_total (λ l. l.part) n (parted (over ps n) ds ls))
      ∙ shared_whole (on_deal n) (line_worth (worth_by (deal_of n ds).weighing) (deal_of n ds).currency ps) with_part (deal_of n ds).cash ls (λ l. l.part) (λ l p. refl) (λ l p. refl) (picked_some _ n ls h)

  pub parted_others : (m : ℕ) → (m ≡ n → ⊥) → total (λ l. only (eqb l.deal m) l.part) (parted (over ps n) ds ls) ≡ total (λ l. only (eqb l.deal m) l.part) ls
  parted_others m ne =
      sym (picked_total (λ l. l.part) m (parted (over ps n) ds ls))
      ∙ ap total_of (shared_others (on_deal n) (line_worth (worth_by (deal_of n ds).weighing) (deal_of n ds).currency ps) with_part (deal_of n ds).cash ls (on_deal m) (λ l. l.part) (λ l p. refl) (λ l e. grind (arith, nat_tests, ne, e)))
      ∙ picked_total (λ l. l.part) m ls
