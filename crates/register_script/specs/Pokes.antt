-- Writing into the lent memory, by the words behind `poke`.
use Rattle.std.specs.Prelude.{ℕ, cond, List, [], ◌∷◌, Some, None, codes, Option}
use Rattle.std.specs.Str.{bytes_eq}
use Rattle.text.specs.Numbers.{wide, wholly}
use Rattle.text.specs.Naming.{lookup}
use Rattle.text.specs.Saying.{with, past}
use Rattle.text.specs.Words.{next, rest}
use Rattle.register_script.specs.declared.poke.HeadField.{HeadField}
use Rattle.register_script.specs.declared.poke.HeadField.TheVariants as head
use Rattle.register_script.specs.declared.poke.DealField.{DealField}
use Rattle.register_script.specs.declared.poke.DealField.TheVariants as deal
use Rattle.register_script.specs.declared.poke.LineField.{LineField}
use Rattle.register_script.specs.declared.poke.LineField.TheVariants as line
use Rattle.register_script.specs.declared.poke.Poke.{Poke}
use Rattle.register_script.specs.declared.poke.Target.{Target}
use Rattle.register_script.specs.declared.poke.Target.TheVariants.{Head, Deal, Line}

abbrev pub head_field : List ℕ → Option HeadField
head_field w =
    lookup w (
    (codes "date", head.Date)
    ∷ ((codes "next_deal", head.NextDeal)
    ∷ ((codes "next_return", head.NextReturn)
    ∷ ((codes "deals", head.Deals)
    ∷ ((codes "lines", head.Lines)
    ∷ [])))))

abbrev pub deal_field : List ℕ → Option DealField
deal_field w =
    lookup w (
    (codes "number", deal.Number)
    ∷ ((codes "giver", deal.Giver)
    ∷ ((codes "taker", deal.Taker)
    ∷ ((codes "class", deal.Class)
    ∷ ((codes "margin", deal.Margin)
    ∷ ((codes "sought", deal.Sought)
    ∷ ((codes "rate", deal.Rate)
    ∷ ((codes "return", deal.Return)
    ∷ ((codes "cash", deal.Cash)
    ∷ ((codes "whole", deal.Whole)
    ∷ ((codes "residue", deal.Residue)
    ∷ [])))))))))))

abbrev pub line_field : List ℕ → Option LineField
line_field w =
    lookup w (
    (codes "number", line.Number)
    ∷ ((codes "deal", line.Deal)
    ∷ ((codes "security", line.Security)
    ∷ ((codes "quantity", line.Quantity)
    ∷ ((codes "part", line.Part)
    ∷ [])))))

-- a field of the head, or a row of a table and a field of it
abbrev pub target_in : List ℕ → Option Target
target_in s =
    cond (bytes_eq (next s) (codes "head")) (with (head_field (next (past 1 s))) (λ f. Some (Head f)))
    (cond (bytes_eq (next s) (codes "deal")) (with (wide (past 1 s)) (λ row. with (deal_field (next (past 2 s))) (λ f. Some (Deal row f))))
    (cond (bytes_eq (next s) (codes "line")) (with (wide (past 1 s)) (λ row. with (line_field (next (past 2 s))) (λ f. Some (Line row f)))) None))

-- how many words name it
abbrev pub words_to : Target → ℕ
words_to (Head f) = 2
words_to (Deal row f) = 3
words_to (Line row f) = 3

-- a field and its value, and no more
abbrev pub poke_in : List ℕ → Option Poke
poke_in s = with (target_in s) (λ t. with (wide (past (words_to t) s)) (λ v. wholly (record { target = t; value = v }) (rest (past (words_to t) s))))
