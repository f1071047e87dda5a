use Rattle.std.proofs.Common.{◌≡◌, ℕ, drop}
use Rattle.std.specs.Prelude.{map}
use Rattle.std.specs.Option.{option_or}
use Rattle.gr_vector.specs.Parts.{part_of}
use Rattle.gr_report.specs.Gathered.{first_held, held_of}
use Rattle.gr_report.proofs.gathering.note_cores.Given as goal

abbrev pub invariant-loop-core : goal.invariant-loop-core
invariant-loop-core l = (at : ℕ) → option_or (part_of l.words.entries at) (first_held (map (held_of l.object) (drop l.core-index l.cores)) at)
    ≡ option_or (part_of l.fn.words.entries at) (first_held (map (held_of l.object) l.cores) at)
