-- What is stated of a security and of a deal.
use Rattle.std.specs.Prelude.{ℕ, List, Option}
use Rattle.sides.specs.declared.terms.Terms.{Terms}
use Rattle.text.specs.Numbers.{wide, small, short, tiny, wholly}
use Rattle.text.specs.Words.{next}
use Rattle.text.specs.Flags.{flag_of}
use Rattle.text.specs.Saying.{with, past}
use Rattle.register_script.specs.declared.command.Quotation.{Quotation}
use Rattle.register_script.specs.Naming.{currency_of, weighing_of}

-- the twelve fields of a side, and no more
abbrev pub terms_in : List ℕ → Option Terms
terms_in s =
    with (short s) (λ day.
    with (small (past 1 s)) (λ giver.
    with (small (past 2 s)) (λ taker.
    with (currency_of (next (past 3 s))) (λ currency.
    with (short (past 4 s)) (λ class.
    with (weighing_of (next (past 5 s))) (λ weighing.
    with (short (past 6 s)) (λ margin.
    with (wide (past 7 s)) (λ sought.
    with (wide (past 8 s)) (λ cash.
    with (small (past 9 s)) (λ rate.
    with (short (past 10 s)) (λ due.
    with (flag_of (next (past 11 s))) (λ limit.
    wholly (record { day = day; giver = giver; taker = taker; currency = currency; class = class; weighing = weighing; margin = margin; sought = sought; cash = cash; rate = rate; due = due; limit = limit }) (past 12 s)))))))))))))

-- a security and its record, and no more
abbrev pub quotation_in : List ℕ → Option Quotation
quotation_in s =
    with (small s) (λ security.
    with (tiny (past 1 s)) (λ category.
    with (flag_of (next (past 2 s))) (λ excluded.
    with (short (past 3 s)) (λ haircut.
    with (small (past 4 s)) (λ gbp.
    with (small (past 5 s)) (λ eur.
    with (small (past 6 s)) (λ usd.
    wholly (record { security = security; price = record { category = category; excluded = excluded; haircut = haircut; gbp = gbp; eur = eur; usd = usd } }) (past 7 s))))))))
