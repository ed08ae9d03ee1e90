-- Whether a deal has lines, asked of each of them.
use Rattle.std.proofs.Common.{◌≡◌, ℕ, Bool, true, false, ◌||◌, cond, eqb, List, [], ◌∷◌, refl, ap, ◌∙◌}
use Rattle.std.specs.List.{list_any}
use Rattle.memory.specs.declared.row.Line.{Line}
use Rattle.law.specs.Calls.{has_lines}

either : (b c : Bool) → (b || c) ≡ cond b true c
either true c = refl
either false c = refl

pub any_line : (n : ℕ) (ls : List Line) → list_any (λ l. eqb l.deal n) ls ≡ has_lines n ls
any_line n [] = refl
any_line n (l ∷ ls) = either (eqb l.deal n) (list_any (λ l. eqb l.deal n) ls) ∙ ap (cond (eqb l.deal n) true) (any_line n ls)
