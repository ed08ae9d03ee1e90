use Rattle.std.proofs.Common.{◌≡◌, ◌+◌, ◌++◌, take, drop}
use Rattle.sharing.specs.Parts.{total_of, parts_from}
use Rattle.sharing.proofs.apportioning.apportion.Given as goal

abbrev pub invariant-loop-i : goal.invariant-loop-i
invariant-loop-i l =
    record {
      written : take l.i l.parts ++ parts_from l.share.cash l.share.total l.before (drop l.i l.values) ≡ parts_from l.share.cash l.share.total 0 l.values;
      left : l.before + total_of (drop l.i l.values) ≡ l.share.total;
    }
