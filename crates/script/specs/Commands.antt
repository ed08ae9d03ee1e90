-- What the words of a line say to a book.
use Rattle.std.specs.Prelude.{ℕ, List, Some, Option}
use Rattle.book.specs.declared.movement.Movement.{Movement}
use Rattle.script.specs.declared.command.Command.{Command}
use Rattle.script.specs.declared.command.Command.TheVariants.{Choose, Amount, Hold, Move, Show}
use Rattle.script.specs.declared.command.BookKind.{BookKind}
use Rattle.script.specs.declared.command.BookKind.TheVariants.{Grid, Journal}
use Rattle.script.specs.declared.command.BookChoice.{BookChoice}
use Rattle.script.specs.declared.command.Holding.{Holding}
use Rattle.script.specs.declared.verb.Verb.{Verb}
use Rattle.script.specs.declared.verb.Verb.TheVariants as verb
use Rattle.text.specs.Numbers.{wide, small, wholly}
use Rattle.text.specs.Saying.{with, past}
use Rattle.script.specs.Verbs.{verb_of}

-- accounts and resources, a count, and no more
abbrev pub choice_in : BookKind → List ℕ → Option BookChoice
choice_in k s =
    with (small s) (λ a. with (small (past 1 s)) (λ r. with (wide (past 2 s)) (λ n.
    wholly (record { kind = k; accounts = a; resources = r; count = n }) (past 3 s))))

-- an account and a resource, a quantity, and no more
abbrev pub holding_in : List ℕ → Option Holding
holding_in s =
    with (small s) (λ a. with (small (past 1 s)) (λ r. with (wide (past 2 s)) (λ q.
    wholly (record { account = a; resource = r; quantity = q }) (past 3 s))))

-- sender, receiver and resource, a quantity, and no more
abbrev pub movement_in : List ℕ → Option Movement
movement_in s =
    with (small s) (λ f. with (small (past 1 s)) (λ t. with (small (past 2 s)) (λ r. with (wide (past 3 s)) (λ q.
    wholly (record { from = f; to = t; resource = r; quantity = q }) (past 4 s)))))

-- what follows the first word
abbrev pub fields_in : Verb → List ℕ → Option Command
fields_in verb.Grid s = with (choice_in Grid s) (λ c. Some (Choose c))
fields_in verb.Journal s = with (choice_in Journal s) (λ c. Some (Choose c))
fields_in verb.Amount s = with (holding_in s) (λ h. Some (Amount h))
fields_in verb.Hold s = with (holding_in s) (λ h. Some (Hold h))
fields_in verb.Move s = with (movement_in s) (λ v. Some (Move v))
fields_in verb.Show s = wholly Show s

-- what a first word says with those behind it
abbrev pub command_in : List ℕ → List ℕ → Option Command
command_in w s = with (verb_of w) (λ v. fields_in v s)
