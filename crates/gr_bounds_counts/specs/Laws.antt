-- The law of counts.
use Rattle.std.specs.Prelude.{ℕ}
use Rattle.gr_msg.specs.declared.message.ScopeId.{ScopeId}
use Rattle.gr_bounds_numbers.specs.Bounds.{weightless}
use Rattle.gr_bounds_counts.specs.Counts.{LoopsFit, CountAtMost, GrowsWhere}

-- The tasks of a scope that a core counts, where no loop has more indices than this.
abbrev pub CountsGrow : Type 0
CountsGrow = (scope : ScopeId) (loop : ℕ) → GrowsWhere (LoopsFit loop) (CountAtMost scope loop) weightless
