use Rattle.std.proofs.Common.{◌≡◌, List, map, take, min, length, sym, ap, ◌∙◌, subst, rules}
use Rattle.std.proofs.lemmas.List.Sorted.{answers_always}
use Rattle.memory.specs.Places.{Rising, place_of}
use Rattle.memory.proofs.Halves.{searched_in, searched_place, take_min, found_used}
use Rattle.memory.proofs.finding.find.Goals as goal

pub returns : goal.returns
returns g c =
    let key = g.R.Row.key in
    let rows = c.args.rows.now in
    let used = g.R.Row.used c.args.head.now in
    let front = take c.min-count.result rows in
    let is : front ≡ take used rows = (λ i. take ((c.min-count.ensures ∙ ap (min (length rows)) c.used.ensures) i) rows) ∙ take_min rows used in
    let bound = c.binary_search_by_key.ensures.bound in
    let position = c.binary_search_by_key.ensures.position key (answers_always _ _ _ (λ f a r h called. search rules)) in
    record {
      found = rw c.ok.ensures.value (found_used rows key front used c.args.number _ is (searched_in key front c.args.number _ bound position));
      place = λ up.
          c.ok.ensures.value
          ∙ searched_place key front c.args.number _ bound position (subst (λ (xs : List g.row.R.Denot). Rising (map key xs)) (sym is) up)
          ∙ ap (λ (xs : List g.row.R.Denot). place_of c.args.number (map key xs)) is;
    }
