-- Movements that are tried one by one. Assumes nothing.
use Rattle.std.proofs.Common.{◌≡◌, ℕ, ◌+◌, ◌<◌, ◌≤◌, cond, List, length, get_or, drop, is_ok}
use Rattle.std.proofs.lemmas.List.{at_drop_more, at_drop_all}
use Rattle.book.specs.declared.movement.Movement.{Movement}
use Rattle.book.specs.Meaning.{Meaning}
use Rattle.book.specs.Moving.{verdict, after}
use Rattle.book.specs.Lists.{none, attempted, accepted}

module _ (m : Meaning) (vs : List Movement) (i : ℕ) where
  pub attempted_more : i < length vs → attempted m (drop i vs) ≡ attempted (after m (get_or vs i none)) (drop (i + 1) vs)
  unfolding attempted
  attempted_more h = at_drop_more (attempted m) vs i none h

  pub accepted_more : i < length vs → accepted m (drop i vs) ≡ cond (is_ok (verdict m (get_or vs i none))) 1 0 + accepted (after m (get_or vs i none)) (drop (i + 1) vs)
  unfolding accepted
  accepted_more h = at_drop_more (accepted m) vs i none h

  pub attempted_all : length vs ≤ i → attempted m (drop i vs) ≡ m
  unfolding attempted
  attempted_all h = at_drop_all (attempted m) vs i h

  pub accepted_all : length vs ≤ i → accepted m (drop i vs) ≡ 0
  unfolding accepted
  accepted_all h = at_drop_all (accepted m) vs i h
