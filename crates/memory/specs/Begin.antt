-- A register at its start.
use Rattle.std.specs.Prelude.{◌≡◌, ℕ, Bool, cond, ◌&&◌, List, Some, None, Option, nat_le}
use Rattle.memory.specs.declared.place.Fault.{Fault}
use Rattle.memory.specs.declared.place.Table.TheVariants as table
use Rattle.memory.specs.declared.row.Deal.{Deal}
use Rattle.memory.specs.declared.row.Head.{Head}
use Rattle.memory.specs.declared.row.Line.{Line}
use Rattle.memory.specs.declared.row.Phase.TheVariants.{Day}
use Rattle.memory.specs.Sound.{fault_of}

-- a length from 1 to the most
abbrev pub sized : ℕ → ℕ → Bool
sized n most = nat_le 1 n && nat_le n most

-- the table of a wrong length
abbrev pub sizes_fault : ℕ → ℕ → Option Fault
sizes_fault deals lines =
    cond (sized deals 64)
    (cond (sized lines 1024) None (Some (record { table = table.Lines; row = 0 })))
    (Some (record { table = table.Deals; row = 0 }))

-- what is fresh, and after a fault what was
abbrev pub begun : {X : Type 0} → Option Fault → X → X → X
begun None fresh old = fresh
begun (Some f) fresh old = old

abbrev pub fresh_head : ℕ → Head
fresh_head date = record { date = date; phase = Day; next = record { deal = 1; line = 1 }; used = record { deals = 0; lines = 0 } }

-- no rule is broken over any book
pub record Faultless (h : Head) (deals : List Deal) (lines : List Line) : Type 0 where
  pub none : (accounts resources : ℕ) → None ≡ fault_of accounts resources h deals lines
