-- The laws of the heaps of accepted programs.
use Rattle.std.specs.Prelude.{◌≡◌, ◌+◌, ◌≤◌, ◌^◌, true}
use Rattle.gr_syntax.specs.declared.syntax.Program.{Program}
use Rattle.gr_accept.specs.Accepted.{IsAccepted}
use Rattle.gr_lang.specs.Openings.{heap_of}
use Rattle.gr_fits_words.specs.Literals.{items_fit, LiteralsFit}

-- The heap lies below 2^64.
abbrev pub AcceptedHeapsFit : Type 0
AcceptedHeapsFit = (program : Program) → IsAccepted program → (heap_of program).from + (heap_of program).count ≤ 2 ^ 64

-- So the literals of an accepted program fit, where the numbers in its text are words.
abbrev pub AcceptedLiteralsFit : Type 0
AcceptedLiteralsFit = (program : Program) → IsAccepted program → items_fit program.items ≡ true → LiteralsFit program
