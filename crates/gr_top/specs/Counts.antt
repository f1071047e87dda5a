-- That each fault of a source or a sink is told by the refusal, and counted once.
use Rattle.std.specs.Prelude.{◌≡◌, ℕ, Result, Ok, Err}
use Rattle.gr_io.specs.Faults.{next_count}
use Rattle.gr_top.specs.declared.answer.Answer.{Answer}
use Rattle.gr_top.specs.declared.call.Stop.{Stop}
use Rattle.gr_top.specs.declared.call.Stop.TheVariants as stop

-- The same of the source where there is no answer to write.
abbrev pub CountsStop : ℕ → ℕ → Result Answer Stop → Type 0
CountsStop before now (Ok answer) = now ≡ before
CountsStop before now (Err stop.ReadFault) = now ≡ next_count before
CountsStop before now (Err stop.Memory) = now ≡ before
