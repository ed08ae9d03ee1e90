-- What a journal means.
use Rattle.std.specs.Prelude.{ℕ, ◌+◌, ◌-◌, cond, List, length, take, is_ok, slice_set}
use Rattle.book.specs.declared.movement.Movement.{Movement}
use Rattle.book.specs.Meaning.{Meaning}
use Rattle.book.specs.Moving.{verdict}
use Rattle.books.specs.declared.journal.Journal.{Journal}
use Rattle.books.specs.declared.posting.Posting.{Posting}
use Rattle.books.specs.Postings.{standing, journalled}

-- the postings that were made, the oldest first
abbrev pub made : Journal → List Posting
made j = take j.used j.postings.now

abbrev pub journal_meaning : Journal → Meaning
journal_meaning j = journalled j.accounts j.resources (length j.postings.now - j.used) j.opening.now (made j)

-- the amount of an account in a resource, 0 outside
abbrev pub journal_amount : Journal → ℕ → ℕ → ℕ
journal_amount j = standing j.accounts j.resources j.opening.now (made j)

-- the posting that a movement is written as
abbrev pub posting_of : Journal → Movement → Posting
posting_of j v =
    record { from = v.from; to = v.to; resource = v.resource; sender = journal_amount j v.from v.resource - v.quantity; receiver = journal_amount j v.to v.resource + v.quantity }

-- the lent postings after a movement: the first unused one is written where it is accepted
abbrev pub journal_memory : Journal → Movement → List Posting
journal_memory j v = cond (is_ok (verdict (journal_meaning j) v)) (slice_set j.postings.now j.used (posting_of j v)) j.postings.now
