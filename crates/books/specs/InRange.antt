-- That what the books mean is in its ranges. Assumes nothing.
use Rattle.std.specs.Prelude.{◌≡◌, ℕ, suc, ◌+◌, ◌*◌, ◌<◌, ◌≤◌, min, false, List, [], ◌∷◌, length, take, Some, None, Option, slice_index, slice_index_or, refl}
use Rattle.std.proofs.Common.{ap, ◌∙◌, arith}
use Rattle.std.proofs.lemmas.Nat.{mul-add-lt}
use Rattle.std.proofs.lemmas.List.{get_or-take, length-take-le}
use Rattle.std.proofs.lemmas.Bool.Decides.{nat_tests}
use Rattle.std.proofs.lemmas.Bool.{cond_both, cond-false}
use Rattle.std.specs.Option.{option_or, unwrap_or}
use Rattle.book.specs.Meaning.{Meaning, Lawful, within, limit}
use Rattle.books.specs.declared.posting.Posting.{Posting}
use Rattle.books.specs.declared.row.HoldRow.{HoldRow}
use Rattle.books.specs.Laying.{Fit, inside, cell, opened}
use Rattle.books.specs.Postings.{blank, posted, Sound, latest, journalled}
use Rattle.books.specs.Rows.{held}
use Rattle.books.specs.Holding.{layered}

-- ── a book that is opened ──

cell_low : (A R : ℕ) (xs : List ℕ) → Fit A R xs → (a r : ℕ) → cell A R xs a r ≤ limit
cell_low A R xs fit a r =
    cond_both (inside A R a r) (slice_index xs (a * R + r)) 0 (λ x. x ≤ limit)
    (λ e. fit.low (a * R + r) (let place = mul-add-lt a R r A in grind (arith, nat_tests)))
    (λ _. omega arith)

pub opened_lawful : (A R n : ℕ) (xs : List ℕ) → Fit A R xs → Lawful (opened A R n xs)
opened_lawful A R n xs fit =
    record {
      accounts_low = fit.accounts_low;
      accounts_high = fit.accounts_high;
      resources_low = fit.resources_low;
      resources_high = fit.resources_high;
      amounts = cell_low A R xs fit;
      holdbacks = λ a r. omega arith;
      no_amounts = λ a r e. cond-false (inside A R a r) (slice_index xs (a * R + r)) 0 e;
      no_holdbacks = λ a r e. refl;
    }

-- ── a journal ──

pub unwrap_or-option_or : (x y : Option ℕ) (d : ℕ) → unwrap_or (option_or x y) d ≡ unwrap_or x (unwrap_or y d)
unwrap_or-option_or (Some v) y d = refl
unwrap_or-option_or None y d = refl

module _ (A R : ℕ) where
  posted_low : (p : Posting) → Sound A R p → (d a r : ℕ) → d ≤ limit → unwrap_or (posted p a r) d ≤ limit
  posted_low p sound d a r le =
      let sender = sound.sender_low in
      let receiver = sound.receiver_low in
      grind (arith, nat_tests)

  posted_outside : (p : Posting) → Sound A R p → (a r : ℕ) → inside A R a r ≡ false → posted p a r ≡ None
  posted_outside p sound a r out =
      let from = sound.from_in in
      let to = sound.to_in in
      let resource = sound.resource_in in
      grind (arith, nat_tests)

  latest_low : (ps : List Posting) → ((k : ℕ) → k < length ps → Sound A R (slice_index_or ps k blank)) → (d a r : ℕ) → d ≤ limit → unwrap_or (latest ps a r) d ≤ limit
  latest_low [] sound d a r le = le
  latest_low (p ∷ ps) sound d a r le =
      rw (unwrap_or-option_or (latest ps a r) (posted p a r) d)
      (latest_low ps (λ k l. sound (suc k) (omega arith)) (unwrap_or (posted p a r) d) a r (posted_low p (sound 0 (omega arith)) d a r le))

  latest_outside : (ps : List Posting) → ((k : ℕ) → k < length ps → Sound A R (slice_index_or ps k blank)) → (a r : ℕ) → inside A R a r ≡ false → latest ps a r ≡ None
  latest_outside [] sound a r out = refl
  latest_outside (p ∷ ps) sound a r out =
      ap (λ o. option_or o (posted p a r)) (latest_outside ps (λ k l. sound (suc k) (omega arith)) a r out) ∙ posted_outside p (sound 0 (omega arith)) a r out

  pub journalled_lawful : (n used : ℕ) (xs : List ℕ) (ps : List Posting) → Fit A R xs → used ≤ length ps → ((k : ℕ) → k < used → Sound A R (slice_index_or ps k blank)) → Lawful (journalled A R n xs (take used ps))
  journalled_lawful n used xs ps fit room sound =
      let opening = opened_lawful A R n xs fit in
      let short = length-take-le used ps room in
      let each : (k : ℕ) → k < length (take used ps) → Sound A R (slice_index_or (take used ps) k blank) =
      λ k l. let b : k < used = omega arith in rw (get_or-take used ps k blank b) (sound k b) in
      record {
        accounts_low = fit.accounts_low;
        accounts_high = fit.accounts_high;
        resources_low = fit.resources_low;
        resources_high = fit.resources_high;
        amounts = λ a r. latest_low (take used ps) each (cell A R xs a r) a r (opening.amounts a r);
        holdbacks = λ a r. omega arith;
        no_amounts = λ a r e. ap (λ o. unwrap_or o (cell A R xs a r)) (latest_outside (take used ps) each a r e) ∙ opening.no_amounts a r e;
        no_holdbacks = λ a r e. refl;
      }

-- ── the holdback layer ──

pub layered_lawful : (m : Meaning) (rows : List HoldRow) → Lawful m → Lawful (layered m rows)
layered_lawful m rows l =
    record {
      accounts_low = l.accounts_low;
      accounts_high = l.accounts_high;
      resources_low = l.resources_low;
      resources_high = l.resources_high;
      amounts = l.amounts;
      holdbacks = λ a r. cond_both (within m a r) (min limit (m.holdback a r + held rows a r)) 0 (λ x. x ≤ limit) (λ _. omega arith) (λ _. omega arith);
      no_amounts = l.no_amounts;
      no_holdbacks = λ a r e. cond-false (within m a r) (min limit (m.holdback a r + held rows a r)) 0 e;
    }
