-- What one entry more does to what a history says of a deal.
use Rattle.std.proofs.Common.{◌≡◌, ℕ, ◌+◌, ◌*◌, Bool, true, false, cond, eqb, List, ◌∷◌, ap, ◌∙◌, arith}
use Rattle.std.specs.List.{AllByRecursion as Each}
use Rattle.std.proofs.lemmas.Bool.{ne_eqb}
use Rattle.std.proofs.lemmas.Bool.Decides.{nat_tests}
use Rattle.memory.specs.declared.row.Slip.{Slip}
use Rattle.sides.specs.declared.terms.Terms.{Terms}
use Rattle.law.specs.Sums.{only, total}
use Rattle.law.specs.Past.{Opening, Entry, settled, amended, paid, closed, other, stated, is_cash, is_interest, back_on, interest_of, cash_back, interest_on, pair_by, rate_by, rate_of, stood_by, stood, added_by, accrued_on, settled_numbers, deal_numbers, cash_of, date_of}
use Rattle.law.proofs.Totals.{only_none, total_zero, total_append}

-- how often a number stands in a list
abbrev pub count : ℕ → List ℕ → ℕ
count n xs = total (λ x. only (eqb x n) 1) xs

-- an entry that says nothing of deal n
pub record Quiet (n : ℕ) (e : Entry) : Type 0 where
  pub pair : (t : Terms) → pair_by n (stated e) t ≡ t
  pub rate : (r : ℕ) → rate_by n (stated e) r ≡ r
  pub stands : (b : Bool) → stood_by n (stated e) b ≡ b
  pub numbers : count n (settled_numbers (stated e)) ≡ 0
  pub back : total (back_on n) e.slips ≡ 0
  pub interest : total (interest_of n) e.slips ≡ 0

-- neither cash nor interest
pub record Stock (x : Slip) : Type 0 where
  pub no_cash : is_cash x ≡ false
  pub no_interest : is_interest x ≡ false

pub stock_back : (n : ℕ) (xs : List Slip) → Each Stock xs → total (back_on n) xs ≡ 0
stock_back n xs = total_zero Stock (back_on n) (λ x k. let c = k.no_cash in grind (arith, nat_tests, c)) xs

pub stock_interest : (n : ℕ) (xs : List Slip) → Each Stock xs → total (interest_of n) xs ≡ 0
stock_interest n xs = total_zero Stock (interest_of n) (λ x k. let c = k.no_interest in grind (arith, nat_tests, c)) xs

module _ (n : ℕ) (e : Entry) (back : total (back_on n) e.slips ≡ 0) (interest : total (interest_of n) e.slips ≡ 0) where
  pub quiet_other : stated e ≡ other → Quiet n e
  quiet_other st =
      record {
        pair = λ t. ap (λ z. pair_by n z t) st;
        rate = λ r. ap (λ z. rate_by n z r) st;
        stands = λ b. ap (λ z. stood_by n z b) st;
        numbers = ap (λ z. count n (settled_numbers z)) st;
        back = back;
        interest = interest;
      }

  pub quiet_closed : (date : ℕ) → stated e ≡ closed date → Quiet n e
  quiet_closed date st =
      record {
        pair = λ t. ap (λ z. pair_by n z t) st;
        rate = λ r. ap (λ z. rate_by n z r) st;
        stands = λ b. ap (λ z. stood_by n z b) st;
        numbers = ap (λ z. count n (settled_numbers z)) st;
        back = back;
        interest = interest;
      }

  pub quiet_settled : (m : ℕ) (t : Terms) → stated e ≡ settled m t → (m ≡ n → ⊥) → Quiet n e
  quiet_settled m t st ne =
      let z : eqb m n ≡ false = ne_eqb m n ne in
      record {
        pair = λ u. ap (λ y. pair_by n y u) st ∙ ap (λ b. cond b t u) z;
        rate = λ r. ap (λ y. rate_by n y r) st ∙ ap (λ b. cond b t.rate r) z;
        stands = λ b. ap (λ y. stood_by n y b) st ∙ ap (λ c. cond c true b) z;
        numbers = ap (λ y. count n (settled_numbers y)) st ∙ ap (λ b. only b 1 + 0) z;
        back = back;
        interest = interest;
      }

  pub quiet_amended : (m r : ℕ) → stated e ≡ amended m r → (m ≡ n → ⊥) → Quiet n e
  quiet_amended m r st ne =
      let z : eqb m n ≡ false = ne_eqb m n ne in
      record {
        pair = λ u. ap (λ y. pair_by n y u) st;
        rate = λ v. ap (λ y. rate_by n y v) st ∙ ap (λ b. cond b r v) z;
        stands = λ b. ap (λ y. stood_by n y b) st;
        numbers = ap (λ y. count n (settled_numbers y)) st;
        back = back;
        interest = interest;
      }

  pub quiet_paid : (m : ℕ) → stated e ≡ paid m → (m ≡ n → ⊥) → Quiet n e
  quiet_paid m st ne =
      let z : eqb m n ≡ false = ne_eqb m n ne in
      record {
        pair = λ u. ap (λ y. pair_by n y u) st;
        rate = λ v. ap (λ y. rate_by n y v) st;
        stands = λ b. ap (λ y. stood_by n y b) st ∙ ap (λ c. cond c false b) z;
        numbers = ap (λ y. count n (settled_numbers y)) st;
        back = back;
        interest = interest;
      }

-- ── what accrues ──

-- an entry that is no close
pub record Still (e : Entry) : Type 0 where
  pub nothing : (daily date : ℕ) → added_by (stated e) daily date ≡ 0

pub accrued_still : (o : Opening) (n : ℕ) (e : Entry) (h : List Entry) → Still e → accrued_on o n (e ∷ h) ≡ accrued_on o n h
accrued_still o n e h k =
    let z = ap (only (stood n h)) (k.nothing (cash_of n h * rate_of n h) (date_of o h)) ∙ only_none (stood n h) in
    omega (arith, z)

pub accrued_out : (o : Opening) (n : ℕ) (e : Entry) (h : List Entry) → stood n h ≡ false → accrued_on o n (e ∷ h) ≡ accrued_on o n h
accrued_out o n e h k =
    let z = ap (λ b. only b (added_by (stated e) (cash_of n h * rate_of n h) (date_of o h))) k in
    omega (arith, z)

-- a deal number that no entry names
pub record Unseen (o : Opening) (n : ℕ) (h : List Entry) : Type 0 where
  pub never : count n (deal_numbers h) ≡ 0
  pub out : stood n h ≡ false
  pub back : cash_back n h ≡ 0
  pub nothing : accrued_on o n h ≡ 0
  pub unpaid : interest_on n h ≡ 0

pub unseen_quiet : (o : Opening) (n : ℕ) (e : Entry) (h : List Entry) → Quiet n e → Unseen o n h → Unseen o n (e ∷ h)
unseen_quiet o n e h q u =
    record {
      never = omega (arith, total_append (λ x. only (eqb x n) 1) (settled_numbers (stated e)) (deal_numbers h), q.numbers, u.never);
      out = q.stands (stood n h) ∙ u.out;
      back = omega (arith, q.back, u.back);
      nothing = accrued_out o n e h u.out ∙ u.nothing;
      unpaid = omega (arith, q.interest, u.unpaid);
    }
