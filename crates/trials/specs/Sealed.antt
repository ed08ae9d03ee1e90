-- A book that takes no movements.
use Rattle.book.specs.Meaning.{Meaning, Lawful}

-- the book below with no movements left
abbrev pub sealed : Meaning → Meaning
sealed m = record { accounts = m.accounts; resources = m.resources; amount = m.amount; holdback = m.holdback; left = 0 }

pub sealed_lawful : (m : Meaning) → Lawful m → Lawful (sealed m)
sealed_lawful m l =
    record {
      accounts_low = l.accounts_low;
      accounts_high = l.accounts_high;
      resources_low = l.resources_low;
      resources_high = l.resources_high;
      amounts = l.amounts;
      holdbacks = l.holdbacks;
      no_amounts = l.no_amounts;
      no_holdbacks = l.no_holdbacks;
    }
