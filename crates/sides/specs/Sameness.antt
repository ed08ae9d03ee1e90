-- When two sides state the same.
use Rattle.std.specs.Prelude.{Bool, true, false, not, ◌&&◌, ◌==◌}
use Rattle.memory.specs.Kinds.{weighing_number}
use Rattle.valuation.specs.Currencies.{number_of}
use Rattle.sides.specs.declared.terms.Terms.{Terms}

abbrev pub same_bool : Bool → Bool → Bool
same_bool true b = b
same_bool false b = not b

-- every field is the same
unfoldable pub same_terms : Terms → Terms → Bool
same_terms a b =
    (a.day == b.day)
    && (a.giver == b.giver
    && (a.taker == b.taker
    && (number_of a.currency == number_of b.currency
    && (a.class == b.class
    && (weighing_number a.weighing == weighing_number b.weighing
    && (a.margin == b.margin
    && (a.sought == b.sought && (a.cash == b.cash && (a.rate == b.rate && (a.due == b.due && same_bool a.limit b.limit))))))))))
