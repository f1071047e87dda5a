use Rattle.std.proofs.Common.{◌≡◌, drop}
use Rattle.std.specs.Prelude.{map}
use Rattle.gr_report.specs.Gathered.{first_held, word_of}
use Rattle.gr_report.proofs.gathering.word_at.Given as goal

abbrev pub invariant-loop-core : goal.invariant-loop-core
invariant-loop-core l = first_held (map word_of (drop l.core-index l.cores)) l.at ≡ first_held (map word_of l.cores) l.at
