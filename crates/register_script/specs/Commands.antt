-- What the words of a line say.
use Rattle.std.specs.Prelude.{ℕ, cond, List, Some, None, codes, Option}
use Rattle.std.specs.Str.{bytes_eq}
use Rattle.script.specs.Commands.{fields_in}
use Rattle.script.specs.Verbs.{verb_of}
use Rattle.script.specs.declared.verb.Verb.{Verb as BookVerb}
use Rattle.text.specs.Numbers.{small, wholly}
use Rattle.text.specs.Saying.{with, past}
use Rattle.register_script.specs.declared.command.Command.{Command}
use Rattle.register_script.specs.declared.command.Command.TheVariants.{Book, Begin, Register}
use Rattle.register_script.specs.declared.command.RegisterCommand.{RegisterCommand}
use Rattle.register_script.specs.declared.command.RegisterCommand.TheVariants.{Price, Giver, Taker, Match, Withdraw, Panel, Poke, Call}
use Rattle.register_script.specs.declared.verb.CallVerb.{CallVerb}
use Rattle.register_script.specs.declared.verb.RegisterVerb.{RegisterVerb}
use Rattle.register_script.specs.declared.verb.RegisterVerb.TheVariants as verb
use Rattle.register_script.specs.Beginnings.{beginning_in}
use Rattle.register_script.specs.Calls.{call_in}
use Rattle.register_script.specs.Pokes.{poke_in}
use Rattle.register_script.specs.Stating.{terms_in, quotation_in}
use Rattle.register_script.specs.Verbs.{register_verb, call_verb}

-- what follows the first word of a command to a register
abbrev pub register_in : RegisterVerb → List ℕ → Option RegisterCommand
register_in verb.Price s = with (quotation_in s) (λ q. Some (Price q))
register_in verb.Giver s = with (terms_in s) (λ t. Some (Giver t))
register_in verb.Taker s = with (terms_in s) (λ t. Some (Taker t))
register_in verb.Match s = wholly Match s
register_in verb.Withdraw s = wholly Withdraw s
register_in verb.Panel s = with (small s) (λ a. wholly (Panel a) (past 1 s))
register_in verb.Poke s = with (poke_in s) (λ p. Some (Poke p))

-- what follows the first word, by the kind of command that it begins
abbrev pub command_by : Option BookVerb → Option RegisterVerb → Option CallVerb → List ℕ → Option Command
command_by (Some v) r c s = with (fields_in v s) (λ x. Some (Book x))
command_by None (Some v) c s = with (register_in v s) (λ x. Some (Register x))
command_by None None (Some v) s = with (call_in v s) (λ x. Some (Register (Call x)))
command_by None None None s = None

-- what a first word says with those behind it
abbrev pub command_in : List ℕ → List ℕ → Option Command
command_in w s = cond (bytes_eq w (codes "begin")) (with (beginning_in s) (λ b. Some (Begin b))) (command_by (verb_of w) (register_verb w) (call_verb w) s)
