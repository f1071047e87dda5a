-- What a master's fields stand for.
use Rattle.gr_vector.specs.declared.master.VecMaster.TheInside.{Inside}
use Rattle.gr_vector.specs.Turns.{Turns}

abbrev pub turns_of : Inside → Turns
turns_of master = record { head = master.head; tail = master.tail; cores = master.cores.items }
