-- What the contracts of the calls cite.
use Rattle.std.specs.Prelude.{ℕ, List, length, Ok, Err, Result}
use Rattle.book.specs.Meaning.{Meaning}
use Rattle.memory.specs.declared.place.Fault.{Fault}
use Rattle.memory.specs.declared.row.Deal.{Deal}
use Rattle.memory.specs.declared.row.Head.{Head}
use Rattle.memory.specs.declared.row.Line.{Line}
use Rattle.sides.specs.declared.day_end.DaySheet.{DaySheet}
use Rattle.sides.specs.declared.day_end.NotClosed.{NotClosed}
use Rattle.sides.specs.declared.refusal.Refusal.{Refusal}
use Rattle.sides.specs.declared.refusal.Refusal.TheVariants.{Broken}
use Rattle.sides.specs.DayEnd.{owed}
use Rattle.law.specs.World.{World}
use Rattle.law.specs.Plans.{Plan}
use Rattle.law.specs.Calls.{Call}
use Rattle.law.specs.Past.{Opening, Entry, Past, recorded}
use Rattle.law.specs.Agree.{Agree}

-- the register's memory and the book as they are lent
abbrev pub lent : Head → List Deal → List Line → Meaning → World
lent h deals lines m = record { head = h; deals = deals; lines = lines; book = m }

-- ── answers ──

-- a refusal, or that it was accepted
abbrev pub verdict_by : Result Plan Refusal → Result (Unit {0}) Refusal
verdict_by (Ok p) = Ok tt
verdict_by (Err e) = Err e

-- a refusal, or a sheet
abbrev pub sheet_by : Result Plan Refusal → Result DaySheet Refusal
sheet_by (Ok p) = Ok owed
sheet_by (Err e) = Err e

-- a refusal with the sheet, or that the day end was closed
abbrev pub closed_by : DaySheet → Result Plan Refusal → Result (Unit {0}) NotClosed
closed_by sheet (Ok p) = Ok tt
closed_by sheet (Err e) = Err (record { refusal = e; sheet = sheet })

-- a refusal, or how many slips were written
abbrev pub count_by : Result Plan Refusal → Result ℕ Refusal
count_by (Ok p) = Ok (length p.slips)
count_by (Err e) = Err e

-- ── where a rule is broken ──

abbrev pub or_broken_fault : {X : Type 0} → Result (Unit {0}) Fault → Result X Refusal → Result X Refusal
or_broken_fault (Err f) r = Err (Broken f)
or_broken_fault (Ok u) r = r

-- all stays as it was
abbrev pub unless_broken : {X : Type 0} → Result (Unit {0}) Fault → X → X → X
unless_broken (Err f) x old = old
unless_broken (Ok u) x old = x

-- ── the law ──

-- any past of the world before goes on to the world after, and the law holds there
pub record GoesOn (c : Call) (w v : World) : Type 0 where
  pub goes : (o : Opening) (h : List Entry) → Past o w h → Past o v (recorded c w h) × Agree o v (recorded c w h)
