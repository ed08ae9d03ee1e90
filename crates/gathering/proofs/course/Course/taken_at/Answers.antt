use Rattle.std.proofs.Common.{rules}
use Rattle.gathering.proofs.Limits.{beyond_book}
use Rattle.gathering.proofs.course.Course.taken_at.Goals as goal

pub returns-in_err-security : goal.returns-in_err-security
returns-in_err-security g c = let lawful = g.met.B.Book.lawful c.args.self.now.book.now in search (rules, beyond_book)
