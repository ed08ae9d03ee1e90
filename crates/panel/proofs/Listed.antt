-- Lines that are listed one by one. Assumes nothing.
use Rattle.std.proofs.Common.{◌≡◌, ℕ, ◌+◌, ◌<◌, ◌≤◌, true, false, cond, List, [], ◌∷◌, ◌++◌, length, get_or, take, set, sym, refl, ap, ◌∙◌}
use lib.Seq.{take-nil}
use Rattle.std.proofs.lemmas.List.Elements.{filter_more}
use Rattle.std.proofs.lemmas.List.{append-nil, set_past}
use Rattle.memory.specs.declared.row.Deal.{Deal}
use Rattle.memory.specs.declared.row.Line.{Line}
use Rattle.memory.specs.Rows.{no_line}
use Rattle.panel.specs.declared.party.Party.{Party}
use Rattle.panel.specs.Standing.{on_side, lines_of, listed}

pub listed_none : (places : List Line) → listed [] places ≡ places
listed_none places = ap (λ (ls : List Line). ls ++ places) (take-nil (length places))

pub listed_push : (rows places : List Line) (l : Line) → listed (rows ++ l ∷ []) places ≡ set (listed rows places) (length rows) l
listed_push [] [] l = refl
listed_push [] (x ∷ places) l = ap (λ (ls : List Line). l ∷ ls) (listed_none places)
listed_push (r ∷ rows) [] l = refl
listed_push (r ∷ rows) (x ∷ places) l = ap (λ (ls : List Line). r ∷ ls) (listed_push rows places l)

pub past_the_end : (places : List Line) (place : ℕ) (line : Line) → length places ≤ place → set places place line ≡ places
past_the_end = set_past

module _ (p : Party) (account : ℕ) (ds : List Deal) (ls : List Line) (i : ℕ) (h : i < length ls) where
  pub one_more : (l : Line) → l ≡ get_or ls i no_line → on_side p account ds l ≡ true → lines_of p account ds (take (i + 1) ls) ≡ lines_of p account ds (take i ls) ++ (l ∷ [])
  one_more l e t =
      filter_more (on_side p account ds) ls i no_line h
      ∙ ap (λ x. lines_of p account ds (take i ls) ++ cond (on_side p account ds x) (x ∷ []) []) (sym e)
      ∙ ap (λ b. lines_of p account ds (take i ls) ++ cond b (l ∷ []) []) t

  pub no_more : (l : Line) → l ≡ get_or ls i no_line → on_side p account ds l ≡ false → lines_of p account ds (take (i + 1) ls) ≡ lines_of p account ds (take i ls)
  no_more l e t =
      filter_more (on_side p account ds) ls i no_line h
      ∙ ap (λ x. lines_of p account ds (take i ls) ++ cond (on_side p account ds x) (x ∷ []) []) (sym e)
      ∙ ap (λ b. lines_of p account ds (take i ls) ++ cond b (l ∷ []) []) t
      ∙ append-nil (lines_of p account ds (take i ls))
