use Rattle.std.proofs.Common.{rules}
use borrow.Author.Tests.{tests}
use Rattle.std.proofs.lemmas.Iterator.{YieldsList-from_slice}
use Rattle.std.proofs.lemmas.Iterator.Search.{find_from_yields_List}
use Rattle.books.specs.Rows.{named}
use Rattle.books.proofs.Held.{held_found}
use Rattle.books.proofs.row.held_in.Goals as goal

pub returns : goal.returns
returns c =
    let a = c.args in
    let first = find_from_yields_List (named a.account a.resource) _ _ c.find.result c.find.ensures.ran (YieldsList-from_slice a.rows.now cc) (λ x b q k. search (rules, tests)) in
    rw (held_found a.rows.now a.account a.resource, ← first) (search rules)
