use Rattle.std.proofs.Common.{sym, arith}
use Rattle.valuation.proofs.Bests.{between_passed, between_failed}
use Rattle.valuation.proofs.seeking.Span.halved.Goals as goal

pub returns-then-passes-clause-held : goal.returns-then-passes-clause-held
returns-then-passes-clause-held g c p n tests falls b = between_passed _ _ _ _ _ b (omega arith) (sym (tests _ _ c.if-passes.ensures))

pub returns-else-passes-clause-held : goal.returns-else-passes-clause-held
returns-else-passes-clause-held g c p n tests falls b = between_failed _ falls _ _ _ _ b (omega arith) (omega arith) (sym (tests _ _ c.if-passes.ensures))
