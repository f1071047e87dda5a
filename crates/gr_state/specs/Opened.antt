-- A core before its first event.
use Rattle.std.specs.Prelude.{ℕ, []}
use Rattle.gr_lang.specs.Objects.{Heap}
use Rattle.gr_machine.specs.Machines.{Machine}
use Rattle.gr_machine.specs.States.{Core}
use Rattle.gr_machine.specs.Counting.{nothing_done}
use Rattle.gr_courses.specs.Seen.{Seen}

-- It has left no marks, and has done nothing.
abbrev pub before_all : Machine → ℕ → Heap → Core → Seen
before_all machine me heap core = record { machine = machine; me = me; heap = heap; core = core; marks = []; counts = nothing_done }
