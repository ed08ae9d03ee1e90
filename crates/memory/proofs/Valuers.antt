-- The valuation of a deal. Assumes nothing.
use Rattle.std.proofs.Common.{◌≡◌, ℕ, Bool, true, false, cond, Some, None, ap, ◌∙◌, arith}
use Rattle.memory.specs.declared.row.Deal.{Deal}
use Rattle.memory.specs.declared.valuer.Valuer.{Valuer}
use Rattle.memory.specs.Deals.{worth_by, target_by, target_of, valuation_of}
use Rattle.memory.specs.Sound.{margin_fits}
use Rattle.memory.specs.Valuers.{valuer_worth, valuer_target, meaning_of}

inside : {X : Type 0} (b : Bool) (x y : X) → Some x ≡ cond b (Some y) None → x ≡ y
inside true x y e = cc
inside false x y e = let z : ◌≡◌ {A = ℕ} 0 1 = cc in absurd (omega arith)

-- a valuer that a deal has given
module _ (d : Deal) (v : Valuer) (given : Some (meaning_of v) ≡ valuation_of d) where
  meaning_given : meaning_of v ≡ (worth_by d.weighing, target_by d.weighing d.margin)
  meaning_given = inside (margin_fits d.weighing d.margin) _ _ given

  pub worth_given : valuer_worth v ≡ worth_by d.weighing
  worth_given = ap (λ (m : (ℕ → ℕ → ℕ → ℕ) × (ℕ → ℕ)). m.0) meaning_given

  pub target_given : valuer_target v ≡ target_by d.weighing d.margin
  target_given = ap (λ (m : (ℕ → ℕ → ℕ → ℕ) × (ℕ → ℕ)). m.1) meaning_given

  pub target_met : (sought target : ℕ) → sought ≡ d.sought → target ≡ valuer_target v sought → target ≡ target_of d
  target_met sought target e is = is ∙ (λ i. target_given i (e i))
