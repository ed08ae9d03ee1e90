use Rattle.std.proofs.Common.{◌∙◌}
use Rattle.memory.specs.Sound.{used_lines}
use Rattle.calls.proofs.Standing.{any_line}
use Rattle.calls.proofs.paying.has_lines.Goals as goal

pub returns : goal.returns
returns c = c.any_on.ensures ∙ any_line c.args.number (used_lines c.args.head.now c.args.lines.now)
