-- A word by its bytes. Assumes nothing.
use Rattle.std.proofs.Common.{◌≡◌, ℕ, ◌+◌, ◌≤◌, List, [], ◌∷◌, length, get_or, drop, ap, ◌∙◌, arith}
use Rattle.std.proofs.lemmas.List.{drop_more, drop_all}

-- from i on, a word has just the bytes cs
abbrev pub Spells : List ℕ → ℕ → List ℕ → Type 0
Spells w i [] = length w ≡ i
Spells w i (c ∷ cs) = (get_or w i 0 ≡ c) × Spells w (i + 1) cs

length_spelled : (w : List ℕ) (i : ℕ) (cs : List ℕ) → Spells w i cs → i ≤ length w
length_spelled w i [] h = omega arith
length_spelled w i (c ∷ cs) h = omega (arith, length_spelled w (i + 1) cs h.1)

spelled_from : (w : List ℕ) (i : ℕ) (cs : List ℕ) → Spells w i cs → drop i w ≡ cs
spelled_from w i [] h = drop_all i w (omega arith)
spelled_from w i (c ∷ cs) h =
    drop_more w i 0 (omega (arith, length_spelled w (i + 1) cs h.1))
    ∙ (ap (λ x. x ∷ drop (i + 1) w) h.0 ∙ ap (λ xs. c ∷ xs) (spelled_from w (i + 1) cs h.1))

pub spelled : (w : List ℕ) (cs : List ℕ) → Spells w 0 cs → w ≡ cs
spelled w cs h = spelled_from w 0 cs h
