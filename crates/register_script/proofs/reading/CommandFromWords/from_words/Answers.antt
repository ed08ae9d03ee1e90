use Rattle.std.proofs.Common.{◌≡◌, ap, sym, ◌∙◌, rules}
use Rattle.std.specs.Prelude.{codes}
use Rattle.text.proofs.Spelling.{spelled}
use Rattle.text.specs.Readers.{left_of}
use Rattle.register_script.specs.Commands.{command_in}
use Rattle.register_script.proofs.reading.CommandFromWords.from_words.Goals as goal

pub returns-in-begin : goal.returns-in-begin
returns-in-begin c =
    let read : c.map.result ≡ command_in (codes "begin") (left_of c.args.reader.now) = search rules in
    read ∙ sym (ap (λ w. command_in w (left_of c.args.reader.now)) (spelled c.args.word.now (codes "begin") (search rules)))
