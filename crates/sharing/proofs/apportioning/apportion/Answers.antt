use Rattle.std.proofs.Common.{◌≡◌, ap, ◌∙◌, rules}
use Rattle.sharing.specs.Parts.{total_of, parts_of}
use Rattle.sharing.proofs.Telescope.{whole}
use Rattle.sharing.proofs.Walks.{walk_ends}
use Rattle.sharing.proofs.apportioning.apportion.Goals as goal

pub returns-clause-whole : goal.returns-clause-whole
returns-clause-whole c _ some =
    let written : c.loop-i.parts ≡ parts_of c.args.cash c.args.values.now = search (rules, walk_ends) in
    ap total_of written ∙ whole _ _ some
