use Rattle.std.proofs.Common.{length, sym, ap, ◌∙◌, inl, inr, arith}
use Rattle.std.proofs.lemmas.Bool.{cases_lt, lt-ltb, le-ltb}
use Rattle.std.specs.Result.{result_ok}
use Rattle.memory.proofs.Halves.{place_searched, place_some, place_none, among, not_among}
use Rattle.memory.proofs.Tallies.{with_part_none, with_part_found}
use Rattle.memory.proofs.tally.add_part.Goals as goal

pub returns-in_default : goal.returns-in_default
returns-in_default c =
    let keys = c.args.keys.now in
    let deal = c.args.line.now.deal in
    let at = place_searched keys deal c.binary_search.result c.binary_search.ensures.bound c.binary_search.ensures.position c.requires in
    let none = place_none deal keys (sym at ∙ ap result_ok c.in_default.is) in
    record {
      sums = sym (with_part_none keys c.args.line.now c.args.sums.now (omega arith) none);
      stands = sym (not_among deal c.args.count (length keys) keys none (inr (omega arith)));
    }

pub returns : goal.returns
returns c =
    let keys = c.args.keys.now in
    let deal = c.args.line.now.deal in
    let row = c.in-Ok.row in
    let at = place_searched keys deal c.binary_search.result c.binary_search.ensures.bound c.binary_search.ensures.position c.requires in
    let here = place_some deal row keys (sym at ∙ ap result_ok c.in-Ok.is) in
    record {
      sums = sym (with_part_found keys c.args.line.now c.args.sums.now (omega arith) row _ c.requires here.0 here.1 c.saturating_add.ensures);
      stands =
          elim (cases_lt row c.args.count) [
            | inl a ↦ lt-ltb row c.args.count a ∙ sym (among deal c.args.count row keys here.0 here.1 a)
            | inr a ↦ le-ltb row c.args.count a ∙ sym (not_among deal c.args.count row keys here.2 (inl a))
          ];
    }
