-- The laws of the objects of accepted programs.
use Rattle.std.specs.Prelude.{◌≡◌, ◌≤◌, length, None}
use Rattle.gr_syntax.specs.declared.limits.TheConstants.{HEAP, MAX_OBJECTS}
use Rattle.gr_syntax.specs.declared.syntax.Program.{Program}
use Rattle.gr_accept.specs.Accepted.{IsAccepted}
use Rattle.gr_lang.specs.Openings.{opening}
use Rattle.gr_machine.specs.Machines.{thing}
use Rattle.gr_stands.specs.Worlds.{Given, machine_in}

-- There are no more arrays, sets, maps and vectors than there may be.
abbrev pub ObjectsAreFew : Type 0
ObjectsAreFew = (program : Program) → IsAccepted program → length (opening program).things ≤ MAX_OBJECTS

-- So the heap's number is that of no other object.
abbrev pub HeapsAreApart : Type 0
HeapsAreApart = (given : Given) → IsAccepted given.program → thing (machine_in given) HEAP ≡ None
