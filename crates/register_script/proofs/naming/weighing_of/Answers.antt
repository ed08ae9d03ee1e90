use Rattle.std.proofs.Common.{ap, sym, rules}
use Rattle.std.specs.Prelude.{codes}
use Rattle.text.proofs.Spelling.{spelled}
use Rattle.register_script.specs.Naming.{weighing_of}
use Rattle.register_script.proofs.naming.weighing_of.Goals as goal

pub returns-in-margin : goal.returns-in-margin
returns-in-margin c = sym (ap weighing_of (spelled c.args.word.now (codes "margin") (search rules)))

pub returns-in-haircut : goal.returns-in-haircut
returns-in-haircut c = sym (ap weighing_of (spelled c.args.word.now (codes "haircut") (search rules)))
