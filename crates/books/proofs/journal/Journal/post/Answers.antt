use Rattle.std.proofs.Common.{◌≡◌, ◌+◌, ◌-◌, ◌<◌, ◌≤◌, length, take, set, refl, ◌∙◌, arith}
use Rattle.std.proofs.lemmas.List.{length-set, take_more_set}
use Rattle.book.proofs.Moves.{allowed}
use Rattle.books.specs.declared.posting.Posting.{Posting}
use Rattle.books.specs.InRange.{journalled_lawful}
use Rattle.books.specs.Postings.{journalled}
use Rattle.books.specs.Journals.{journal_meaning}
use Rattle.books.proofs.Posted.{journalled_moved, new_sound, sound_more}
use Rattle.books.proofs.journal.Journal.post.Goals as goal

pub invariant_of-self : goal.invariant_of-self
invariant_of-self c =
    let j = c.args.self.now in
    let v = c.args.movement in
    let ps = j.postings.now in
    let n = length ps - j.used in
    let p : Posting = record { from = v.from; to = v.to; resource = v.resource; sender = c.args.sender; receiver = c.args.receiver } in
    let one : 0 < n = (allowed (journal_meaning j) v c.requires.accepted).one_left in
    let room : j.used + 1 ≤ length (set ps j.used p) = simp length-set (omega arith) in
    let lawful = journalled_lawful j.accounts j.resources n j.used j.opening.now ps j.fit j.room j.sound in
    let sound = new_sound j.accounts j.resources n j.opening.now (take j.used ps) v c.requires.accepted c.args.sender c.args.receiver lawful c.requires.sender c.requires.receiver in
    record { fit = j.fit; room = room; sound = sound_more j.accounts j.resources ps j.used p (omega arith) j.sound sound }

pub returns : goal.returns
returns c =
    let j = c.args.self.now in
    let v = c.args.movement in
    let ps = j.postings.now in
    let n = length ps - j.used in
    let p : Posting = record { from = v.from; to = v.to; resource = v.resource; sender = c.args.sender; receiver = c.args.receiver } in
    let one : 0 < n = (allowed (journal_meaning j) v c.requires.accepted).one_left in
    let left : length (set ps j.used p) - (j.used + 1) ≡ n - 1 = simp length-set (omega arith) in
    record {
      change =
          (λ i. journalled j.accounts j.resources (left i) j.opening.now (take_more_set ps j.used p (omega arith) i))
          ∙ journalled_moved j.accounts j.resources n j.opening.now (take j.used ps) v c.requires.accepted c.args.sender c.args.receiver c.requires.sender c.requires.receiver;
      memory = λ i. set ps j.used (record { from = v.from; to = v.to; resource = v.resource; sender = c.requires.sender i; receiver = c.requires.receiver i });
      stays = refl;
    }
