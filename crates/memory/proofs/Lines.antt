-- The used lines, judged where the first that names no deal is known. Assumes nothing.
use Rattle.std.proofs.Common.{◌≡◌, ℕ, true, cond, ◌&&◌, leb, List, length, drop, Some, None, Option, Result, Ok, Err, sym, refl, ap, ◌∙◌}
use Rattle.std.proofs.lemmas.Bool.{cond-true}
use Rattle.std.specs.Option.{option_or}
use Rattle.std.specs.Result.{IsErrAnd, MatchResult}
use Rattle.memory.specs.declared.place.Fault.{Fault}
use Rattle.memory.specs.declared.place.Table.{Table}
use Rattle.memory.specs.declared.place.Table.TheVariants as table
use Rattle.memory.specs.Register.{checked}
use Rattle.memory.specs.declared.row.Deal.{Deal}
use Rattle.memory.specs.declared.row.Head.{Head}
use Rattle.memory.specs.declared.row.Line.{Line}
use Rattle.memory.specs.Checks.{on_deal, first_loose, earlier, lines_judged}
use Rattle.memory.specs.Sound.{return_number, line_fits, line_sound, first_broken, first_set, zero_line, used_deals, used_lines, deals_fault, lines_fault, head_sound, at, first_found, fault_of}
use Rattle.memory.proofs.Firsts.{earlier_broken}

module _ (resources : ℕ) (h : Head) (deals : List Deal) (lines : List Line) where
  lines_broken : earlier (first_broken return_number (line_fits resources h) 0 0 (used_lines h lines)) (first_loose (used_deals h deals) (used_lines h lines)) ≡ first_broken return_number (line_sound resources h (used_deals h deals)) 0 0 (used_lines h lines)
  unfolding first_loose
  lines_broken = sym (earlier_broken return_number (line_fits resources h) (on_deal (used_deals h deals)) 0 0 (used_lines h lines))

  lines_judged_lem : (loose : Option ℕ) → loose ≡ first_loose (used_deals h deals) (used_lines h lines) → lines_judged resources h loose lines ≡ lines_fault resources h deals lines
  lines_judged_lem loose e =
      let broken = ap (earlier (first_broken return_number (line_fits resources h) 0 0 (used_lines h lines))) e ∙ lines_broken in
      ap (λ (o : Option ℕ). cond (leb 1 (length lines) && leb (length lines) 1024) (option_or o (first_set zero_line h.used.lines (drop h.used.lines lines))) (Some 0)) broken

  -- where head and deals are sound, the fault is that of the lines
  pub fault_of_lines : (accounts : ℕ) (loose o : Option ℕ) → true ≡ head_sound h (length deals) (length lines) → None ≡ deals_fault accounts h deals lines → loose ≡ first_loose (used_deals h deals) (used_lines h lines) → o ≡ lines_judged resources h loose lines → at table.Lines o ≡ fault_of accounts resources h deals lines
  fault_of_lines accounts loose o sound none free is =
      (λ i. first_found (at table.Deals (none i)) (at table.Lines ((is ∙ lines_judged_lem loose free) i)))
      ∙ sym (cond-true (head_sound h (length deals) (length lines)) _ _ (sym sound))

-- a check of a table that passes, and one that does not
pub passed : (t : Table) (o : Option ℕ) → Ok tt ≡ checked (at t o) → None ≡ o
passed t None e = refl
passed t (Some i) e = cc

pub refused : {X : Type 0} (P : X → Type 0) (t : Table) (o first : Option ℕ) (f : Fault) (r : Result X Fault) → Err f ≡ checked (at t o) → o ≡ first → IsErrAnd r (λ e. e ≡ f) → MatchResult r P (λ e. Some e ≡ at t first)
refused P t None first f r e is out = cc
refused P t (Some i) first f (Ok x) e is out = absurd out
refused P t (Some i) first f (Err g) e is out = cc
