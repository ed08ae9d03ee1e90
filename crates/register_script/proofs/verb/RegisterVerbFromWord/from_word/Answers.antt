use Rattle.std.proofs.Common.{ap, sym, rules}
use Rattle.std.specs.Prelude.{codes}
use Rattle.text.proofs.Spelling.{spelled}
use Rattle.register_script.specs.Verbs.{register_verb}
use Rattle.register_script.proofs.verb.RegisterVerbFromWord.from_word.Goals as goal

pub returns-in-withdraw : goal.returns-in-withdraw
returns-in-withdraw c = sym (ap register_verb (spelled c.args.word.now (codes "withdraw") (search rules)))
