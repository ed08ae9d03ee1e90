-- Slips of cash: they fit, they move no line, and what they come to.
use Rattle.std.proofs.Common.{◌≡◌, ℕ, ◌<◌, Bool, cond, ltb, List, [], ◌∷◌, ◌++◌, sym, refl, ap, ◌∙◌, subst, arith}
use Rattle.std.specs.List.{AllByRecursion as Each}
use Rattle.std.proofs.lemmas.Bool.{ltb-false}
use Rattle.memory.specs.declared.row.Deal.{Deal}
use Rattle.memory.specs.declared.row.Kind.{Kind}
use Rattle.memory.specs.declared.row.Line.{Line}
use Rattle.memory.specs.declared.row.Sense.TheVariants.{Cash}
use Rattle.memory.specs.declared.row.Slip.{Slip}
use Rattle.valuation.specs.declared.currency.Currency.{Currency}
use Rattle.valuation.specs.declared.currency.Currency.TheVariants.{Gbp, Eur, Usd}
use Rattle.valuation.specs.Currencies.{number_of}
use Rattle.law.specs.Sums.{only, total}
use Rattle.law.specs.Slips.{cash_slips, lines_by}
use Rattle.law.proofs.Totals.{by_test, only_none}
use Rattle.law.proofs.Fitting.{Fitting}

pub currency_low : (c : Currency) → number_of c < 3
currency_low Gbp = omega arith
currency_low Eur = omega arith
currency_low Usd = omega arith

module _ (kind : Kind) (d : Deal) (n from to amount : ℕ) where
  abbrev pub cash_slip : Slip
  cash_slip = record { kind = kind; sense = Cash; deal = d.number; number = n; resource = number_of d.currency; from = from; to = to; amount = amount }

  -- before other slips
  pub cash_fits : (resources : ℕ) (ds : List Deal) (next : ℕ) (xs : List Slip) (ls : List Line) → Fitting resources ds next xs ls
      → Fitting resources ds next (cash_slips kind d n from to amount ++ xs) ls
  cash_fits resources ds next xs ls k =
      by_test (ltb 0 amount) (λ b. Fitting resources ds next (cond b (cash_slip ∷ []) [] ++ xs) ls)
      (λ e. (currency_low d.currency, subst (λ m. Fitting resources ds m xs ls) (omega arith) k)) (λ e. k)

  pub cash_lines : (xs : List Slip) (ls : List Line) → lines_by (cash_slips kind d n from to amount ++ xs) ls ≡ lines_by xs ls
  unfolding lines_by
  cash_lines xs ls =
      by_test (ltb 0 amount) (λ b. lines_by (cond b (cash_slip ∷ []) [] ++ xs) ls ≡ lines_by xs ls) (λ e. refl) (λ e. refl)

  -- a sum in which the slip counts in full, or not at all
  pub cash_total : (f : Slip → ℕ) (b : Bool) → f cash_slip ≡ only b amount → total f (cash_slips kind d n from to amount) ≡ only b amount
  cash_total f b e =
      by_test (ltb 0 amount) (λ t. ltb 0 amount ≡ t → total f (cond t (cash_slip ∷ []) []) ≡ only b amount)
      (λ t _. omega (arith, e))
      (λ t _. let z : amount ≡ 0 = omega (arith, ltb-false 0 amount t) in sym (ap (only b) z ∙ only_none b)) refl

  -- two sums to which it counts alike
  pub cash_alike : (f g : Slip → ℕ) → f cash_slip ≡ g cash_slip → total f (cash_slips kind d n from to amount) ≡ total g (cash_slips kind d n from to amount)
  cash_alike f g e =
      by_test (ltb 0 amount) (λ t. total f (cond t (cash_slip ∷ []) []) ≡ total g (cond t (cash_slip ∷ []) []))
      (λ t. omega (arith, e)) (λ t. refl)

  pub cash_all : (P : Slip → Type 0) → P cash_slip → Each P (cash_slips kind d n from to amount)
  cash_all P k = by_test (ltb 0 amount) (λ b. Each P (cond b (cash_slip ∷ []) [])) (λ e. (k, tt)) (λ e. tt)
