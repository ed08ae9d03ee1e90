-- The latest posting. Assumes nothing.
use Rattle.std.proofs.Common.{◌≡◌, ℕ, List, [], ◌∷◌, ◌++◌, Some, None, Option, sym, refl, ap, ◌∙◌}
use Rattle.std.specs.Option.{option_or}
use Rattle.books.specs.declared.posting.Posting.{Posting}
use Rattle.books.specs.Postings.{posted, latest}

option_or_assoc : (x y z : Option ℕ) → option_or (option_or x y) z ≡ option_or x (option_or y z)
option_or_assoc (Some v) y z = refl
option_or_assoc None y z = refl

option_or-None : (x : Option ℕ) → option_or x None ≡ x
option_or-None (Some v) = refl
option_or-None None = refl

-- one posting more
pub latest_push : (ps : List Posting) (p : Posting) (a r : ℕ) → latest (ps ++ p ∷ []) a r ≡ option_or (posted p a r) (latest ps a r)
latest_push [] p a r = sym (option_or-None (posted p a r))
latest_push (q ∷ ps) p a r = ap (λ o. option_or o (posted q a r)) (latest_push ps p a r) ∙ option_or_assoc (posted p a r) (latest ps a r) (posted q a r)
