-- Where the words of the heap are, as the core knows it that keeps the heap's blocks.
use Rattle.std.specs.Prelude.{◌≡◌}
use Rattle.gr_courses.specs.Seen.{Seen}

-- Core 0 keeps the blocks of the heap that the program has.
pub record KnowsHeap (s : Seen) : Type 0 where
  pub is : s.me ≡ 0 → s.heap ≡ s.machine.code.objects.heap
