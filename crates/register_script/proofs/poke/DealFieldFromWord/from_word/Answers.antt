use Rattle.std.proofs.Common.{ap, sym, rules}
use Rattle.std.specs.Prelude.{codes}
use Rattle.text.proofs.Spelling.{spelled}
use Rattle.register_script.specs.Pokes.{deal_field}
use Rattle.register_script.proofs.poke.DealFieldFromWord.from_word.Goals as goal

pub returns-in-number : goal.returns-in-number
returns-in-number c = sym (ap deal_field (spelled c.args.word.now (codes "number") (search rules)))

pub returns-in-margin : goal.returns-in-margin
returns-in-margin c = sym (ap deal_field (spelled c.args.word.now (codes "margin") (search rules)))

pub returns-in-sought : goal.returns-in-sought
returns-in-sought c = sym (ap deal_field (spelled c.args.word.now (codes "sought") (search rules)))

pub returns-in-return : goal.returns-in-return
returns-in-return c = sym (ap deal_field (spelled c.args.word.now (codes "return") (search rules)))

pub returns-in-residue : goal.returns-in-residue
returns-in-residue c = sym (ap deal_field (spelled c.args.word.now (codes "residue") (search rules)))
