use Rattle.std.proofs.Common.{◌≡◌, ◌≤◌, length, take}
use Rattle.memory.specs.Sound.{used_deals, used_lines}
use Rattle.panel.specs.Standing.{lines_of, listed}
use Rattle.panel.proofs.standing.StandingRows.list.Given as goal

abbrev pub invariant-loop-line : goal.invariant-loop-line
invariant-loop-line l =
    (l.count ≡ length (lines_of l.holder.party l.holder.account (used_deals l.self.checked.register.head.now l.self.checked.register.deals.now) (take l.line-index (used_lines l.self.checked.register.head.now l.self.checked.register.lines.now))))
    × (l.count ≤ l.line-index)
    × (l.places ≡ listed (lines_of l.holder.party l.holder.account (used_deals l.self.checked.register.head.now l.self.checked.register.deals.now) (take l.line-index (used_lines l.self.checked.register.head.now l.self.checked.register.lines.now))) l.initial.places)
