-- When a range of addresses is that of a program's heap.
use Rattle.std.specs.Prelude.{◌≡◌}
use Rattle.gr_steps.specs.declared.table.HeapRange.{HeapRange}
use Rattle.gr_syntax.specs.declared.syntax.Program.{Program}
use Rattle.gr_lang.specs.Openings.{heap_of}

-- The range is that of the program's heap.
pub record IsHeap (range : HeapRange) (program : Program) : Type 0 where
  pub from : range.from ≡ (heap_of program).from
  pub count : range.count ≡ (heap_of program).count
