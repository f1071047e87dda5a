use Rattle.std.proofs.Common.{List, ◌++◌, drop}
use Rattle.gr_memory.specs.declared.contents.Content.{Content}
use Rattle.gr_report.specs.Gathered.{AreGathered}
use Rattle.gr_report.proofs.gathering.gather_all.Given as goal

abbrev pub invariant-loop-object : goal.invariant-loop-object
invariant-loop-object l = (rest : List Content) → AreGathered l.cores l.object (drop l.object l.shapes) rest → AreGathered l.cores 0 l.shapes (l.contents ++ rest)
