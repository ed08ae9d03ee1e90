-- Sums of parts for all deals at once. Assumes nothing.
use Rattle.std.proofs.Common.{◌≡◌, ℕ, zero, suc, ◌+◌, ◌<◌, ◌≤◌, Bool, true, false, cond, eqb, List, [], ◌∷◌, length, get_or, drop, set, Some, None, Option, sym, refl, ap, ◌∙◌, inl, inr, arith}
use Rattle.std.proofs.lemmas.List.{at_drop_more, at_drop_all, ext_get_or, get_or-set_same, get_or-set_other, length-set}
use Rattle.std.proofs.lemmas.Bool.{cases_eq, eq-eqb, ne_eqb, cond-true, cond-false}
use Rattle.std.specs.Option.{option_or}
use Rattle.memory.specs.declared.row.Line.{Line}
use Rattle.memory.specs.Places.{Rising}
use Rattle.memory.specs.Rows.{no_line}
use Rattle.memory.specs.Sound.{first_set, parts_on}
use Rattle.memory.specs.Tally.{capped, with_part, with_parts}
use Rattle.memory.proofs.Halves.{Before, rising_other}

-- ── one line ──

pub length_with_part : (ns : List ℕ) (l : Line) (sums : List ℕ) → length (with_part ns l sums) ≡ length sums
unfolding with_part
length_with_part [] l sums = refl
length_with_part (n ∷ ns) l [] = refl
length_with_part (n ∷ ns) l (s ∷ ss) = ap suc (length_with_part ns l ss)

pub with_part_at : (ns : List ℕ) (l : Line) (sums : List ℕ) (k : ℕ) → k < length ns → k < length sums → get_or (with_part ns l sums) k 0 ≡ cond (eqb l.deal (get_or ns k 0)) (capped (get_or sums k 0 + l.part)) (get_or sums k 0)
unfolding with_part
with_part_at [] l sums k h g = absurd (omega arith)
with_part_at (n ∷ ns) l [] k h g = absurd (omega arith)
with_part_at (n ∷ ns) l (s ∷ ss) zero h g = refl
with_part_at (n ∷ ns) l (s ∷ ss) (suc k) h g = with_part_at ns l ss k (omega arith) (omega arith)

module _ (ns : List ℕ) (l : Line) (sums : List ℕ) (long : length sums ≡ length ns) where
  pub with_part_none : Before l.deal ns (length ns) → with_part ns l sums ≡ sums
  with_part_none b =
      ext_get_or 0 _ _ (length_with_part ns l sums) (λ k h.
      let h' : k < length ns = omega (arith, length_with_part ns l sums) in
      with_part_at ns l sums k h' (omega arith) ∙ cond-false _ _ _ (ne_eqb l.deal (get_or ns k 0) (λ e. b k h' (sym e))))

  pub with_part_found : (r v : ℕ) → Rising ns → r < length ns → get_or ns r 0 ≡ l.deal → v ≡ capped (get_or sums r 0 + l.part) → with_part ns l sums ≡ set sums r v
  with_part_found r v up in' e is =
      ext_get_or 0 _ _ (length_with_part ns l sums ∙ sym (length-set sums r v)) (λ k h.
      let h' : k < length ns = omega (arith, length_with_part ns l sums) in
      with_part_at ns l sums k h' (omega arith)
      ∙ elim (cases_eq k r) [
        | inl same ↦
            rw same (
            cond-true _ _ _ (eq-eqb l.deal (get_or ns r 0) (sym e)) ∙ sym is ∙ sym (get_or-set_same sums r v 0 (omega arith)))
        | inr ne ↦
            cond-false _ _ _ (ne_eqb l.deal (get_or ns k 0) (λ z. rising_other k r ns up h' in' ne (sym z ∙ sym e)))
            ∙ sym (get_or-set_other sums r k v 0 ne)
      ])

-- ── all lines ──

pub parts_more : (ns sums after : List ℕ) (ls : List Line) (i : ℕ) → i < length ls → after ≡ with_part ns (get_or ls i no_line) sums → with_parts ns after (drop (i + 1) ls) ≡ with_parts ns sums (drop i ls)
unfolding with_parts
parts_more ns sums after ls i h e = ap (λ ss. with_parts ns ss (drop (i + 1) ls)) e ∙ sym (at_drop_more (with_parts ns sums) ls i no_line h)

pub parts_all : (ns sums : List ℕ) (ls : List Line) (i : ℕ) → length ls ≤ i → with_parts ns sums (drop i ls) ≡ sums
unfolding with_parts
parts_all ns sums ls i h = at_drop_all (with_parts ns sums) ls i h

capped_twice : (a b : ℕ) → capped (capped a + b) ≡ capped (a + b)
capped_twice a b = omega arith

pub length_with_parts : (ns sums : List ℕ) (ls : List Line) → length (with_parts ns sums ls) ≡ length sums
unfolding with_parts
length_with_parts ns sums [] = refl
length_with_parts ns sums (l ∷ ls) = length_with_parts ns (with_part ns l sums) ls ∙ length_with_part ns l sums

pub with_parts_at : (ns sums : List ℕ) (ls : List Line) (k a : ℕ) → k < length ns → k < length sums → get_or sums k 0 ≡ capped a → get_or (with_parts ns sums ls) k 0 ≡ capped (a + parts_on (get_or ns k 0) ls)
unfolding with_parts parts_on
with_parts_at ns sums [] k a h g e = let z : a ≡ a + 0 = omega arith in e ∙ ap capped z
with_parts_at ns sums (l ∷ ls) k a h g e =
    let n = get_or ns k 0 in
    let here = with_part_at ns l sums k h g in
    let long = length_with_part ns l sums in
    elim (cases_eq l.deal n) [
      | inl y ↦
          let now : get_or (with_part ns l sums) k 0 ≡ capped (a + l.part) = here ∙ cond-true _ _ _ (eq-eqb l.deal n y) ∙ ap (λ s. capped (s + l.part)) e ∙ capped_twice a l.part in
          let z : a + l.part + parts_on n ls ≡ a + (l.part + parts_on n ls) = omega arith in
          rw (eq-eqb l.deal n y) (with_parts_at ns (with_part ns l sums) ls k (a + l.part) h (omega arith) now ∙ ap capped z)
      | inr x ↦
          let now : get_or (with_part ns l sums) k 0 ≡ capped a = here ∙ cond-false _ _ _ (ne_eqb l.deal n x) ∙ e in
          let z : a + parts_on n ls ≡ a + (0 + parts_on n ls) = omega arith in
          rw (ne_eqb l.deal n x) (with_parts_at ns (with_part ns l sums) ls k a h (omega arith) now ∙ ap capped z)
    ]

-- ── the first line that names none of the deals ──

or_some : (o p : Option ℕ) (i : ℕ) → option_or (option_or o (Some i)) p ≡ option_or o (Some i)
or_some None p i = refl
or_some (Some x) p i = refl

module _ (pass : Line → Bool) (ls : List Line) (i : ℕ) (o : Option ℕ) (h : i < length ls) where
  step : first_set pass i (drop i ls) ≡ cond (pass (get_or ls i no_line)) (first_set pass (i + 1) (drop (i + 1) ls)) (Some i)
  unfolding first_set
  step = at_drop_more (first_set pass i) ls i no_line h

  pub loose_more : pass (get_or ls i no_line) ≡ true → option_or o (first_set pass (i + 1) (drop (i + 1) ls)) ≡ option_or o (first_set pass i (drop i ls))
  loose_more t = ap (option_or o) (sym (step ∙ cond-true _ _ _ t))

  pub loose_here : (r : Option ℕ) → pass (get_or ls i no_line) ≡ false → r ≡ option_or o (Some i) → option_or r (first_set pass (i + 1) (drop (i + 1) ls)) ≡ option_or o (first_set pass i (drop i ls))
  loose_here r f e =
      ap (λ (q : Option ℕ). option_or q (first_set pass (i + 1) (drop (i + 1) ls))) e
      ∙ or_some o (first_set pass (i + 1) (drop (i + 1) ls)) i
      ∙ ap (option_or o) (sym (step ∙ cond-false _ _ _ f))

pub loose_all : (pass : Line → Bool) (ls : List Line) (i : ℕ) (o : Option ℕ) → length ls ≤ i → option_or o (first_set pass i (drop i ls)) ≡ o
unfolding first_set
loose_all pass ls i None h = at_drop_all (first_set pass i) ls i h
loose_all pass ls i (Some x) h = refl
