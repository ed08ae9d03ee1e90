use Rattle.gathering.proofs.Steps.{covered_all, open_all}
use Rattle.gathering.proofs.Courses.{gathered_covers, gathered_fails}
use Rattle.gathering.proofs.course.Course.outcome.Goals as goal

pub returns-then-need-eq0-clause-stands : goal.returns-then-need-eq0-clause-stands
returns-then-need-eq0-clause-stands g c =
    let v = c.args.self.now.valuation.now in
    gathered_covers _ _ _ _ _ (g.met.V.Valuation.none v) (g.met.V.Valuation.more v) _ (covered_all _ _ _ _ _ _ _ c.requires c.if-need-eq0.true)

pub returns-else-need-eq0-clause-stands : goal.returns-else-need-eq0-clause-stands
returns-else-need-eq0-clause-stands g c =
    let v = c.args.self.now.valuation.now in
    gathered_fails _ _ _ _ _ (g.met.V.Valuation.none v) (g.met.V.Valuation.more v) (open_all _ _ _ _ _ _ _ c.requires c.if-need-eq0.false)
