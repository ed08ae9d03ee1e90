-- The numbers of a book's refusals, and the order in which conditions are looked at.
use Rattle.std.specs.Prelude.{ℕ, Bool, cond, List, [], ◌∷◌, Ok, Err, Result}
use Rattle.book.specs.declared.refusal.BookRefusal.{BookRefusal}
use Rattle.book.specs.declared.refusal.BookRefusal.TheVariants.{Outside, Quantity, NotFree, NoRoom, NoMovements, NoRow, Unfit}

abbrev pub number_of : BookRefusal → ℕ
number_of Outside = 41
number_of Quantity = 42
number_of NotFree = 43
number_of NoRoom = 44
number_of NoMovements = 45
number_of NoRow = 46
number_of Unfit = 47

-- a refusal and the condition under which it is answered
abbrev pub Condition : Type 0 → Type 0
Condition E = Bool × E

-- the refusal of the first condition that holds, or none
abbrev pub first_refusal : {E : Type 0} → List (Condition E) → Result (Unit {0}) E
first_refusal [] = Ok tt
first_refusal (c ∷ cs) = cond c.0 (Err c.1) (first_refusal cs)
