-- The memory as the definitions see it, and what always holds of it.
use Rattle.std.specs.Prelude.{◌+◌, ◌≤◌, length, All}
use Rattle.gr_lang.specs.Objects.{Objects}
use Rattle.gr_memory.specs.declared.memory.Memory.TheInside.{Inside}
use Rattle.gr_memory.specs.Ranges.{LiesIn}

-- The words, the objects, and the heap with its live blocks.
abbrev pub objects_of : Inside → Objects
objects_of m = record { words = m.words.items; things = m.things.items; heap = m.blocks.heap; live = m.blocks.live }

-- The arrays and the heap lie in the words.
pub record IsMemory (m : Inside) : Type 0 where
  pub arrays : All (LiesIn (length m.words.items)) m.things.items
  pub heap : m.blocks.heap.from + m.blocks.heap.count ≤ length m.words.items
