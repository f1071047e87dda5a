-- What the code's values are to the definitions.
use Rattle.std.specs.Prelude.{ℕ, List, [], ◌++◌, is_some}
use Rattle.gr_syntax.specs.declared.syntax.Program.{Program}
use Rattle.gr_report.specs.Showing.{shown_text}
use Rattle.gr_lang.specs.declared.action.Entry.{Entry}
use Rattle.gr_report.specs.Ends.{limit_text}
use Rattle.gr_report.specs.Texts.{prints, trap_text}
use Rattle.gr_engine.specs.declared.ending.Ending.{Ending}
use Rattle.gr_engine.specs.declared.ending.Ending.TheVariants as ending
use Rattle.gr_top.specs.Due.{Reading, accepted, refused, Due}
use Rattle.gr_top.specs.Texts.{stalled_text}
use Rattle.gr_top.specs.declared.reading.TextRead.{TextRead}
use Rattle.gr_top.specs.declared.reading.TextRead.TheVariants as read
use Rattle.gr_top.specs.declared.answer.Answer.{Answer}
use Rattle.gr_top.specs.declared.answer.Refusal.{Refusal}
use Rattle.gr_top.specs.declared.answer.Refusal.TheVariants.{EventLimit, Nothing, Stalled, Trap}

-- The answer that was made.
abbrev pub made : Answer → Due
made a = record { refusal = a.refusal; text = a.text.items; ran = is_some a.world }

-- What was read.
abbrev pub reading_of : TextRead → Reading
reading_of (read.Accepted program) = accepted program
reading_of (read.Refused fault) = refused fault

-- Why a run ended as it did, and the lines that say so.
abbrev pub refusal_at : Ending → Refusal
refusal_at (ending.Complete contents) = Nothing
refusal_at (ending.Trapped trap) = Trap trap.kind trap.task
refusal_at (ending.Limited at) = EventLimit at.core at.clock
refusal_at ending.Stalled = Stalled

abbrev pub lines_at : Program → Ending → List ℕ
lines_at program (ending.Complete contents) = shown_text program contents
lines_at program (ending.Trapped trap) = trap_text trap
lines_at program (ending.Limited at) = limit_text at
lines_at program ending.Stalled = []

-- The text of a run, where this is asked for besides.
abbrev pub text_at : Program → List Entry → Ending → List ℕ → List ℕ
text_at program history ending.Stalled more = stalled_text
text_at program history how more = (prints history ++ lines_at program how) ++ more
