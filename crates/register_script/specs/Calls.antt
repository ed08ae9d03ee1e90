-- What the words behind a call state.
use Rattle.std.specs.Prelude.{ℕ, List, Some, Option}
use Rattle.text.specs.Numbers.{wide, small, short, wholly}
use Rattle.register_script.specs.declared.call.Call.{Call}
use Rattle.register_script.specs.declared.call.Call.TheVariants.{Settle, Return, Substitute, Amend, Open, Mark, Close, Lift, Pay}
use Rattle.register_script.specs.declared.verb.CallVerb.{CallVerb}
use Rattle.register_script.specs.declared.verb.CallVerb.TheVariants as verb
use Rattle.register_script.specs.declared.call.Amendment.{Amendment}
use Rattle.register_script.specs.declared.call.Substitution.{Substitution}
use Rattle.text.specs.Saying.{with, past}

-- a return number, a quantity and a security, and no more
abbrev pub substitution_in : List ℕ → Option Substitution
substitution_in s =
    with (small s) (λ n. with (wide (past 1 s)) (λ q. with (small (past 2 s)) (λ c.
    wholly (record { number = n; quantity = q; security = c }) (past 3 s))))

-- a deal, a rate and a return day, and no more
abbrev pub amendment_in : List ℕ → Option Amendment
amendment_in s =
    with (small s) (λ n. with (small (past 1 s)) (λ r. with (short (past 2 s)) (λ d.
    wholly (record { deal = n; rate = r; due = d }) (past 3 s))))

abbrev pub call_in : CallVerb → List ℕ → Option Call
call_in verb.Settle s = wholly Settle s
call_in verb.Return s = with (small s) (λ n. wholly (Return n) (past 1 s))
call_in verb.Substitute s = with (substitution_in s) (λ x. Some (Substitute x))
call_in verb.Amend s = with (amendment_in s) (λ x. Some (Amend x))
call_in verb.Open s = wholly Open s
call_in verb.Mark s = with (small s) (λ n. wholly (Mark n) (past 1 s))
call_in verb.Close s = with (short s) (λ d. wholly (Close d) (past 1 s))
call_in verb.Lift s = wholly Lift s
call_in verb.Pay s = with (small s) (λ n. wholly (Pay n) (past 1 s))
