-- A movement that is written as a posting. Assumes nothing.
use Rattle.std.proofs.Common.{◌≡◌, ℕ, ◌+◌, ◌-◌, ◌<◌, ◌≢◌, List, [], ◌∷◌, ◌++◌, length, get_or, set, Ok, unwrap_or, ap, ◌∙◌, inl, inr, arith, below_more}
use mathlib.Core.Path.{fun_ext}
use Rattle.std.proofs.lemmas.List.{get_or-set_same, get_or-set_other}
use Rattle.std.proofs.lemmas.Bool.{cases_eq}
use Rattle.std.proofs.lemmas.Bool.Decides.{nat_tests}
use Rattle.book.specs.declared.movement.Movement.{Movement}
use Rattle.book.specs.Meaning.{Lawful}
use Rattle.book.specs.Moving.{verdict, moved, shifted}
use Rattle.book.proofs.Moves.{allowed}
use Rattle.books.specs.declared.posting.Posting.{Posting}
use Rattle.books.specs.Laying.{cell}
use Rattle.books.specs.Postings.{blank, posted, latest, standing, journalled, Sound}
use Rattle.books.specs.InRange.{unwrap_or-option_or}
use Rattle.books.proofs.Latest.{latest_push}

-- ── one posting more ──

module _ (v : Movement) (f : ℕ → ℕ → ℕ) (apart : v.from ≡ v.to → ⊥) where
  abbrev new : Posting
  new = record { from = v.from; to = v.to; resource = v.resource; sender = f v.from v.resource - v.quantity; receiver = f v.to v.resource + v.quantity }

  -- what it says is what the movement makes of the amount
  posted_shifts : (a r : ℕ) → unwrap_or (posted new a r) (f a r) ≡ shifted v a r (f a r)
  posted_shifts a r =
      elim (cases_eq r v.resource) [
        | inr d ↦ grind (arith, nat_tests)
        | inl p ↦ elim (cases_eq a v.from) [
          | inl q ↦ grind (arith, nat_tests)
          | inr d ↦ elim (cases_eq a v.to) [ inl q ↦ grind (arith, nat_tests) | inr z ↦ grind (arith, nat_tests) ]
        ]
      ]

module _ (A R n : ℕ) (xs : List ℕ) (ps : List Posting) (v : Movement) (ok : Ok tt ≡ verdict (journalled A R n xs ps) v) where
  abbrev f : ℕ → ℕ → ℕ
  f = standing A R xs ps

  at : (a r : ℕ) → standing A R xs (ps ++ new v f (allowed (journalled A R n xs ps) v ok).apart ∷ []) a r ≡ shifted v a r (f a r)
  at a r =
      let h = allowed (journalled A R n xs ps) v ok in
      let p = new v f h.apart in
      let more : unwrap_or (latest (ps ++ p ∷ []) a r) (cell A R xs a r) ≡ unwrap_or (posted p a r) (unwrap_or (latest ps a r) (cell A R xs a r)) =
      ap (λ o. unwrap_or o (cell A R xs a r)) (latest_push ps p a r) ∙ unwrap_or-option_or (posted p a r) (latest ps a r) (cell A R xs a r) in
      more ∙ posted_shifts v f h.apart a r

  pub journalled_moved : (sender receiver : ℕ) → sender ≡ f v.from v.resource - v.quantity → receiver ≡ f v.to v.resource + v.quantity → journalled A R (n - 1) xs (ps ++ record { from = v.from; to = v.to; resource = v.resource; sender = sender; receiver = receiver } ∷ []) ≡ moved (journalled A R n xs ps) v
  journalled_moved sender receiver p q =
      (λ i. journalled A R (n - 1) xs (ps ++ record { from = v.from; to = v.to; resource = v.resource; sender = p i; receiver = q i } ∷ []))
      ∙ ap (λ g. record { accounts = A; resources = R; amount = g; holdback = λ _ _. 0; left = n - 1 }) (fun_ext (λ a. fun_ext (at a)))

  -- it is sound
  pub new_sound : (sender receiver : ℕ) → Lawful (journalled A R n xs ps) → sender ≡ f v.from v.resource - v.quantity → receiver ≡ f v.to v.resource + v.quantity → Sound A R (record { from = v.from; to = v.to; resource = v.resource; sender = sender; receiver = receiver })
  new_sound sender receiver l p q =
      let h = allowed (journalled A R n xs ps) v ok in
      record { from_in = h.from_in; to_in = h.to_in; resource_in = h.resource_in; sender_low = omega (arith, l.amounts v.from v.resource); receiver_low = omega (arith, h.room) }

-- the postings stay sound
pub sound_more : (A R : ℕ) (ps : List Posting) (used : ℕ) (p : Posting) → used < length ps → ((k : ℕ) → k < used → Sound A R (get_or ps k blank)) → Sound A R p → (k : ℕ) → k < used + 1 → Sound A R (get_or (set ps used p) k blank)
sound_more A R ps used p h sound new =
    below_more (λ k. Sound A R (get_or (set ps used p) k blank)) used
    (λ k l. let ne : k ≢ used = omega arith in rw (get_or-set_other ps used k p blank ne) (sound k l))
    (rw (get_or-set_same ps used p blank h) new)
