use Rattle.std.proofs.Common.{◌≡◌, length}
use Rattle.books.specs.Postings.{latest}
use Rattle.books.proofs.posting.newest.Given as goal

abbrev pub invariant-loop-last : goal.invariant-loop-last
invariant-loop-last l = latest l.rest l.account l.resource ≡ latest l.postings l.account l.resource

abbrev pub decreases-loop-last : goal.decreases-loop-last
decreases-loop-last l = length l.rest
