use Rattle.std.proofs.Common.{◌-◌, ap, not, drop, length, None, Some, position, ◌∙◌, sym, arith}
use Rattle.std.proofs.lemmas.List.{length-drop, take_all}
use Rattle.memory.proofs.Firsts.{set_place}
use Rattle.memory.proofs.judging.first_set.Goals as goal

pub returns-in_err-place : goal.returns-in_err-place
returns-in_err-place g c =
    let rows = c.args.rows.now in
    let written = λ (x : g.row.R.Denot). not (g.R.PartialEq.eq x g.R.Row.NONE) in
    let rest = take_all (length rows - c.args.from) (drop c.args.from rows) (omega (arith, length-drop c.args.from rows)) in
    c.from_residual.ensures
    ∙ set_place g.R.Row.blank written (λ x. ap not (g.met.R.Row.blanks x)) c.args.from (drop c.args.from rows) None (sym c.in_err-place.was ∙ c.first_written.ensures.place ∙ ap (position written) rest)

pub returns : goal.returns
returns g c =
    let rows = c.args.rows.now in
    let written = λ (x : g.row.R.Denot). not (g.R.PartialEq.eq x g.R.Row.NONE) in
    let rest = take_all (length rows - c.args.from) (drop c.args.from rows) (omega (arith, length-drop c.args.from rows)) in
    set_place g.R.Row.blank written (λ x. ap not (g.met.R.Row.blanks x)) c.args.from (drop c.args.from rows) (Some c.in_ok-place.place) (sym c.in_ok-place.was ∙ c.first_written.ensures.place ∙ ap (position written) rest)
