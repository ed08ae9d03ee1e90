-- Movements that are made one after another. Assumes nothing.
use Rattle.std.proofs.Common.{◌≡◌, ℕ, ◌+◌, ◌-◌, ◌<◌, ◌≤◌, List, [], ◌∷◌, ◌++◌, length, get_or, take, drop, Ok, Err, Result, sym, refl, ap, ◌∙◌, add-zero, arith}
use Rattle.std.proofs.lemmas.List.{take_more, drop_more, drop_all, at_drop_more, take-append-drop, length-take-le}
use Rattle.book.specs.declared.movement.Movement.{Movement}
use Rattle.book.specs.declared.movement.RefusedAt.{RefusedAt}
use Rattle.book.specs.declared.refusal.BookRefusal.{BookRefusal}
use Rattle.book.specs.Meaning.{Meaning, Lawful, limit}
use Rattle.book.specs.Moving.{judged, verdict, moved, after}
use Rattle.book.specs.Lists.{run, none, or_next, refusal_from, rehearsed}
use Rattle.book.proofs.Moves.{allowed, after_made, moved_lawful}

-- ── what a run leaves ──

pub run_append : (m : Meaning) (us vs : List Movement) → run m (us ++ vs) ≡ run (run m us) vs
unfolding run
run_append m [] vs = refl
run_append m (u ∷ us) vs = run_append (moved m u) us vs

pub run_more : (m : Meaning) (vs : List Movement) (i : ℕ) → i < length vs → run m (take (i + 1) vs) ≡ moved (run m (take i vs)) (get_or vs i none)
unfolding run
run_more m vs i h = ap (run m) (take_more vs i none h) ∙ run_append m (take i vs) (get_or vs i none ∷ [])

pub run_drop : (m : Meaning) (vs : List Movement) (i : ℕ) → i < length vs → run m (drop i vs) ≡ run (moved m (get_or vs i none)) (drop (i + 1) vs)
unfolding run
run_drop m vs i h = at_drop_more (run m) vs i none h

pub run_all : (m : Meaning) (vs : List Movement) (i : ℕ) → length vs ≤ i → run m (drop i vs) ≡ m
unfolding run
run_all m vs i h = ap (run m) (drop_all i vs h)

pub run_accounts : (m : Meaning) (vs : List Movement) → (run m vs).accounts ≡ m.accounts
unfolding run
run_accounts m [] = refl
run_accounts m (v ∷ vs) = run_accounts (moved m v) vs

pub run_resources : (m : Meaning) (vs : List Movement) → (run m vs).resources ≡ m.resources
unfolding run
run_resources m [] = refl
run_resources m (v ∷ vs) = run_resources (moved m v) vs

pub run_holdback : (m : Meaning) (vs : List Movement) → (run m vs).holdback ≡ m.holdback
unfolding run
run_holdback m [] = refl
run_holdback m (v ∷ vs) = run_holdback (moved m v) vs

pub run_left : (m : Meaning) (vs : List Movement) → (run m vs).left ≡ m.left - length vs
unfolding run
run_left m [] = omega arith
run_left m (v ∷ vs) = omega (arith, run_left (moved m v) vs)

-- after a run a book answers by what the run leaves of the two amounts, and of the movements left
pub verdict_run : (m : Meaning) (us : List Movement) (v : Movement) → verdict (run m us) v ≡ judged m.accounts m.resources ((run m us).amount v.from v.resource) (m.holdback v.from v.resource) ((run m us).amount v.to v.resource) (m.left - length us) v
verdict_run m us v =
    λ i. judged (run_accounts m us i) (run_resources m us i) ((run m us).amount v.from v.resource) (run_holdback m us i v.from v.resource) ((run m us).amount v.to v.resource) (run_left m us i) v

-- ── the first refusal ──

pub both_ok : (i : ℕ) (a : Result (Unit {0}) BookRefusal) (b : Result (Unit {0}) RefusedAt) → Ok tt ≡ or_next i a b → (Ok tt ≡ a) × (Ok tt ≡ b)
both_ok i (Ok tt) b e = (refl, e)
both_ok i (Err x) b e = absurd (let z : ◌≡◌ {A = ℕ} 0 1 = cc in omega arith)

-- an accepted front decides nothing
pub refusal_append : (i : ℕ) (m : Meaning) (us vs : List Movement) → Ok tt ≡ refusal_from i m us → refusal_from i m (us ++ vs) ≡ refusal_from (i + length us) (run m us) vs
unfolding run refusal_from
refusal_append i m [] vs e = rw (add-zero i)
refusal_append i m (u ∷ us) vs e =
    let b = both_ok i (verdict m u) (refusal_from (i + 1) (moved m u) us) e in
    let n : i + 1 + length us ≡ i + length (u ∷ us) = omega arith in
    ap (λ a. or_next i a (refusal_from (i + 1) (moved m u) (us ++ vs))) (sym b.0)
    ∙ (refusal_append (i + 1) (moved m u) us vs b.1 ∙ ap (λ k. refusal_from k (run (moved m u) us) vs) n)

-- a front of an accepted list is accepted
front_accepted : (i : ℕ) (m : Meaning) (us vs : List Movement) → Ok tt ≡ refusal_from i m (us ++ vs) → Ok tt ≡ refusal_from i m us
unfolding refusal_from
front_accepted i m [] vs e = refl
front_accepted i m (u ∷ us) vs e =
    let b = both_ok i (verdict m u) (refusal_from (i + 1) (moved m u) (us ++ vs)) e in
    front_accepted (i + 1) (moved m u) us vs b.1 ∙ ap (λ a. or_next i a (refusal_from (i + 1) (moved m u) us)) b.0

-- a meaning in its ranges stays so over an accepted list
pub run_lawful : (i : ℕ) (m : Meaning) (vs : List Movement) → Lawful m → Ok tt ≡ refusal_from i m vs → Lawful (run m vs)
unfolding run refusal_from
run_lawful i m [] l e = l
run_lawful i m (v ∷ vs) l e =
    let b = both_ok i (verdict m v) (refusal_from (i + 1) (moved m v) vs) e in
    run_lawful (i + 1) (moved m v) vs (moved_lawful m v l b.0) b.1

-- ── the movement at i ──

-- where the list from i on is accepted, so are the movement at i and the list after it
pub refusal_more : (m : Meaning) (vs : List Movement) (i : ℕ) → i < length vs → Ok tt ≡ refusal_from i m (drop i vs) → (Ok tt ≡ verdict m (get_or vs i none)) × (Ok tt ≡ refusal_from (i + 1) (moved m (get_or vs i none)) (drop (i + 1) vs))
unfolding refusal_from
refusal_more m vs i h e = both_ok i (verdict m (get_or vs i none)) _ (e ∙ ap (refusal_from i m) (drop_more vs i none h))

module _ (m : Meaning) (vs : List Movement) (i : ℕ) where
  pub take_accepted : Ok tt ≡ rehearsed m vs → Ok tt ≡ rehearsed m (take i vs)
  take_accepted e = front_accepted 0 m (take i vs) (drop i vs) (e ∙ ap (rehearsed m) (sym (take-append-drop i vs)))

  module _ (h : i < length vs) where
    n : length (take i vs) ≡ i
    n = length-take-le i vs (omega arith)

    -- where the first i movements are accepted, the others decide
    rest_decides : Ok tt ≡ rehearsed m (take i vs) → rehearsed m vs ≡ refusal_from i (run m (take i vs)) (drop i vs)
    rest_decides e =
        ap (rehearsed m) (sym (take-append-drop i vs))
        ∙ (refusal_append 0 m (take i vs) (drop i vs) e ∙ ap (λ k. refusal_from k (run m (take i vs)) (drop i vs)) (let k = n in omega arith))

    -- each movement of an accepted list is accepted in its turn
    pub accepted_at : Ok tt ≡ rehearsed m vs → Ok tt ≡ verdict (run m (take i vs)) (get_or vs i none)
    accepted_at e = (refusal_more (run m (take i vs)) vs i h (e ∙ rest_decides (take_accepted e))).0

-- the first refusal
pub refused_at : (m : Meaning) (vs : List Movement) (i : ℕ) (e : BookRefusal) → i < length vs → Ok tt ≡ rehearsed m (take i vs) → Err e ≡ verdict (run m (take i vs)) (get_or vs i none) → Err (record { place = i; refusal = e }) ≡ rehearsed m vs
unfolding refusal_from
refused_at m vs i e h before is =
    sym (rest_decides m vs i h before ∙ ap (refusal_from i (run m (take i vs))) (drop_more vs i none h)
    ∙ ap (λ a. or_next i a (refusal_from (i + 1) (moved (run m (take i vs)) (get_or vs i none)) (drop (i + 1) vs))) (sym is))

-- one movement more is accepted
pub accepted_more : (m : Meaning) (vs : List Movement) (i : ℕ) → i < length vs → Ok tt ≡ rehearsed m (take i vs) → Ok tt ≡ verdict (run m (take i vs)) (get_or vs i none) → Ok tt ≡ rehearsed m (take (i + 1) vs)
unfolding refusal_from
accepted_more m vs i h before is =
    sym (ap (rehearsed m) (take_more vs i none h)
    ∙ refusal_append 0 m (take i vs) (get_or vs i none ∷ []) before
    ∙ ap (λ a. or_next (0 + length (take i vs)) a (Ok tt)) (sym is))

-- the movement at i is made, where it and those after it are accepted
module _ (m n : Meaning) (vs : List Movement) (i : ℕ) (h : i < length vs) (e : Ok tt ≡ refusal_from i m (drop i vs)) (is : n ≡ after m (get_or vs i none)) where
  made : n ≡ moved m (get_or vs i none)
  made = is ∙ after_made m (get_or vs i none) (refusal_more m vs i h e).0

  pub run_step : run n (drop (i + 1) vs) ≡ run m (drop i vs)
  run_step = ap (λ (k : Meaning). run k (drop (i + 1) vs)) made ∙ sym (run_drop m vs i h)

  pub accepted_step : Ok tt ≡ refusal_from (i + 1) n (drop (i + 1) vs)
  accepted_step = (refusal_more m vs i h e).1 ∙ sym (ap (λ (k : Meaning). refusal_from (i + 1) k (drop (i + 1) vs)) made)

-- ── bounds on the way ──

module _ (m : Meaning) (vs : List Movement) (e : Ok tt ≡ rehearsed m vs) where
  pub amount_low : (i : ℕ) → Lawful m → (a r : ℕ) → (run m (take i vs)).amount a r ≤ limit
  amount_low i lawful = (run_lawful 0 m (take i vs) lawful (take_accepted m vs i e)).amounts

  pub quantity_low : (i : ℕ) → i < length vs → (get_or vs i none).quantity ≤ limit
  quantity_low i h = omega (arith, (allowed (run m (take i vs)) (get_or vs i none) (accepted_at m vs i h e)).room)
