use Rattle.std.proofs.Common.{ap, sym, rules}
use Rattle.std.specs.Prelude.{codes}
use Rattle.text.proofs.Spelling.{spelled}
use Rattle.register_script.specs.Pokes.{line_field}
use Rattle.register_script.proofs.poke.LineFieldFromWord.from_word.Goals as goal

pub returns-in-number : goal.returns-in-number
returns-in-number c = sym (ap line_field (spelled c.args.word.now (codes "number") (search rules)))

pub returns-in-security : goal.returns-in-security
returns-in-security c = sym (ap line_field (spelled c.args.word.now (codes "security") (search rules)))

pub returns-in-quantity : goal.returns-in-quantity
returns-in-quantity c = sym (ap line_field (spelled c.args.word.now (codes "quantity") (search rules)))
