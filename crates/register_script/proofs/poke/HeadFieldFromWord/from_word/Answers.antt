use Rattle.std.proofs.Common.{ap, sym, rules}
use Rattle.std.specs.Prelude.{codes}
use Rattle.text.proofs.Spelling.{spelled}
use Rattle.register_script.specs.Pokes.{head_field}
use Rattle.register_script.proofs.poke.HeadFieldFromWord.from_word.Goals as goal

pub returns-in-110 : goal.returns-in-110
returns-in-110 c = sym (ap head_field (spelled c.args.word.now (codes "next_deal") (search rules)))

pub returns-in-110-2 : goal.returns-in-110-2
returns-in-110-2 c = sym (ap head_field (spelled c.args.word.now (codes "next_return") (search rules)))
