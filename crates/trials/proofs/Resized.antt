-- What a grid's memory means, by the sizes that the grid was made with.
use Rattle.std.proofs.Common.{◌≡◌, ℕ, List, sym, ap, ◌∙◌}
use Rattle.book.specs.Meaning.{Meaning}
use Rattle.books.specs.Laying.{opened}

pub resized : (A R n B S k : ℕ) (xs ys : List ℕ) (m : Meaning) → opened B S k ys ≡ m → m.accounts ≡ A → m.resources ≡ R → n ≡ k → xs ≡ ys → opened A R n xs ≡ m
resized A R n B S k xs ys m e a r l x =
    let p : A ≡ B = sym (ap (λ w. w.accounts) e ∙ a) in
    let q : R ≡ S = sym (ap (λ w. w.resources) e ∙ r) in
    (λ i. opened (p i) (q i) (l i) (x i)) ∙ e
