use Rattle.std.proofs.Common.{ap, sym, rules}
use Rattle.std.specs.Prelude.{codes}
use Rattle.text.proofs.Spelling.{spelled}
use Rattle.script.specs.Verbs.{verb_of}
use Rattle.script.proofs.verb.VerbFromWord.from_word.Goals as goal

pub returns-in-amount : goal.returns-in-amount
returns-in-amount c = sym (ap verb_of (spelled c.args.word.now (codes "amount") (search rules)))

pub returns-in-journal : goal.returns-in-journal
returns-in-journal c = sym (ap verb_of (spelled c.args.word.now (codes "journal") (search rules)))
