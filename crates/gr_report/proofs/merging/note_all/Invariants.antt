use Rattle.std.proofs.Common.{◌≡◌, ℕ, drop}
use Rattle.std.specs.Option.{option_or}
use Rattle.gr_vector.specs.Parts.{part_of}
use Rattle.gr_report.proofs.merging.note_all.Given as goal

abbrev pub invariant-loop-key : goal.invariant-loop-key
invariant-loop-key l = (at : ℕ) → option_or (part_of l.words.entries at) (part_of (drop l.key-index l.pairs) at) ≡ option_or (part_of l.fn.words.entries at) (part_of l.pairs at)
