-- What the front panel answers.
use Rattle.std.specs.Prelude.{ℕ, Bool, cond, ◌&&◌, List, length, Some, None, Ok, Err, Option, Result, nat_le, nat_lt}
use Rattle.book.specs.Meaning.{Meaning}
use Rattle.memory.specs.declared.place.Fault.{Fault}
use Rattle.memory.specs.declared.row.Deal.{Deal}
use Rattle.memory.specs.declared.row.Head.{Head}
use Rattle.memory.specs.declared.row.Line.{Line}
use Rattle.memory.specs.Sound.{fault_of}
use Rattle.panel.specs.declared.asking.Position.{Position}
use Rattle.panel.specs.declared.party.Party.TheVariants.{Giver, Taker}
use Rattle.panel.specs.declared.refusal.PanelRefusal.{PanelRefusal}
use Rattle.panel.specs.declared.refusal.PanelRefusal.TheVariants.{Broken, Outside}
use Rattle.panel.specs.Standing.{standing, standing_in_all, open_returns, listed}

abbrev pub number_of : PanelRefusal → ℕ
number_of (Broken _) = 1
number_of Outside = 41

-- an account, and a security, of the book
abbrev pub has_account : Meaning → ℕ → Bool
has_account m a = nat_lt a m.accounts

abbrev pub has_security : Meaning → ℕ → Bool
has_security m s = nat_le 3 s && nat_lt s m.resources

-- the first rule that the register breaks, and then what is asked about outside the book
abbrev pub refusal_by : Option Fault → Bool → Option PanelRefusal
refusal_by (Some f) inside = Some (Broken f)
refusal_by None inside = cond inside None (Some Outside)

abbrev pub refusal_of : Meaning → Head → List Deal → List Line → Bool → Option PanelRefusal
refusal_of m h deals lines inside = refusal_by (fault_of m.accounts m.resources h deals lines) inside

abbrev pub answer : {X : Type 0} → Option PanelRefusal → X → Result X PanelRefusal
answer (Some e) x = Err e
answer None x = Ok x

-- what is lent stays as it was where the panel does not answer
abbrev pub unless_refused : {X : Type 0} → Option PanelRefusal → X → X → X
unless_refused (Some e) x old = old
unless_refused None x old = x

module _ (m : Meaning) (h : Head) (deals : List Deal) (lines : List Line) (account : ℕ) where
  -- what stands of a security for the account
  abbrev pub position_in : ℕ → Result Position PanelRefusal
  position_in s =
      answer (refusal_of m h deals lines (has_account m account && has_security m s))
      (record { given = standing Giver account s h deals lines; taken = standing Taker account s h deals lines })

  -- what of all securities is still to come back to it
  abbrev pub owed_to : Result ℕ PanelRefusal
  owed_to = answer (refusal_of m h deals lines (has_account m account)) (standing_in_all Giver account m.resources h deals lines)

  -- how many returns are open, and the list of them
  abbrev pub open_count : Result ℕ PanelRefusal
  open_count = answer (refusal_of m h deals lines (has_account m account)) (length (open_returns account h deals lines))

  abbrev pub open_listed : List Line → List Line
  open_listed places = unless_refused (refusal_of m h deals lines (has_account m account)) (listed (open_returns account h deals lines) places) places
