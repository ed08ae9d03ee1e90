-- What a mark leaves no room for.
use Rattle.std.specs.Prelude.{◌≡◌, ℕ, ◌+◌, ◌-◌, ◌<◌, ◌⊎◌, List}
use Rattle.book.specs.Meaning.{Meaning, free}
use Rattle.memory.specs.declared.row.Deal.{Deal}
use Rattle.memory.specs.declared.row.Line.{Line}
use Rattle.memory.specs.Deals.{target_of}
use Rattle.valuation.specs.declared.price.Price.{Price}
use Rattle.law.specs.Calls.{units_worth, worth_on_line}

-- a line can send back no unit more: the taker has none free, or the deal, which is worth so much, would fall below its target
abbrev pub CannotSpare : List Price → Deal → Meaning → ℕ → Line → Type 0
CannotSpare ps d m value l =
    (free m d.taker l.security ≡ 0) ⊎ (value + units_worth ps d l.security (l.quantity - 1) < target_of d + worth_on_line ps d l)

-- so it is with each line of the deal that is worth something
abbrev pub Spent : List Price → Deal → Meaning → ℕ → Line → Type 0
Spent ps d m value l = l.deal ≡ d.number → 0 < worth_on_line ps d l → CannotSpare ps d m value l
