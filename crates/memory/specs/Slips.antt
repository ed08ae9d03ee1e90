-- What a slip records.
use Rattle.book.specs.declared.movement.Movement.{Movement}
use Rattle.memory.specs.declared.row.Slip.{Slip}

abbrev pub movement_of : Slip → Movement
movement_of x = record { from = x.from; to = x.to; resource = x.resource; quantity = x.amount }
