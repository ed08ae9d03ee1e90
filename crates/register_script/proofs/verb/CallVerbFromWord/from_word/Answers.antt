use Rattle.std.proofs.Common.{ap, sym, rules}
use Rattle.std.specs.Prelude.{codes}
use Rattle.text.proofs.Spelling.{spelled}
use Rattle.register_script.specs.Verbs.{call_verb}
use Rattle.register_script.proofs.verb.CallVerbFromWord.from_word.Goals as goal

pub returns-in-settle : goal.returns-in-settle
returns-in-settle c = sym (ap call_verb (spelled c.args.word.now (codes "settle") (search rules)))

pub returns-in-return : goal.returns-in-return
returns-in-return c = sym (ap call_verb (spelled c.args.word.now (codes "return") (search rules)))

pub returns-in-substitute : goal.returns-in-substitute
returns-in-substitute c = sym (ap call_verb (spelled c.args.word.now (codes "substitute") (search rules)))
