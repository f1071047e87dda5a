-- The law of ends.
use Rattle.std.specs.Prelude.{List, map}
use Rattle.gr_merge.specs.Merges.{merge}
use Rattle.gr_machine.specs.declared.core_end.CoreEnd.{CoreEnd}
use Rattle.gr_machine.specs.Histories.{history_of}
use Rattle.gr_machine.specs.Machines.{Machine}
use Rattle.gr_world.specs.Worlds.{AreEnds, IsHistoryOf}

-- The ends of one run are those of a global run, the merge of their journals; and the merge of their marks tells its history.
abbrev pub EndsAreRuns : Type 0
EndsAreRuns = (machine : Machine) (ends : List CoreEnd) → AreEnds machine ends
    → IsHistoryOf machine ends (history_of (merge (λ mark. mark.clock) (map (λ end. end.marks) ends)))
