use Rattle.memory.proofs.Sounds.{sound_from, none_is, lines_rise}
use Rattle.memory.proofs.register.Checked.find_line.Goals as goal

pub returns-clause-place : goal.returns-clause-place
returns-clause-place c =
    let r = c.args.self.register in
    c.find.ensures.place
    (lines_rise c.args.self.accounts c.args.self.resources r.head.now r.deals.now r.lines.now (sound_from c.args.self.accounts c.args.self.resources r.head.now r.deals.now r.lines.now (none_is _ c.args.self.sound)))
