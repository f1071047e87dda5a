-- Each stage keeps the calls that wait on vectors, whose turn it is, where their words are, and that a history leads to the plain state.
use Rattle.std.proofs.Common.{ℕ, List, sym, ap, subst}
use Rattle.gr_lang.specs.States.{State}
use Rattle.gr_machine.specs.Openings.{is_vector}
use Rattle.gr_machine.specs.Outcomes.{Outcome}
use Rattle.gr_machine.specs.States.{Letter}
use Rattle.gr_machine.specs.Histories.{Sent}
use Rattle.gr_stands.specs.Worlds.{Given, World}
use Rattle.gr_stands_outcomes.specs.Marks.{entries_from}
use Rattle.gr_stands_steps.specs.Entries.{StandsAmongCores}
use Rattle.gr_stands_made.specs.Pieces.{Piece}
use Rattle.gr_stands_made.specs.Keeping.{KeptByPieces}
use Rattle.gr_lines.specs.Waiting.{LinesStand}
use Rattle.gr_lines_others.specs.Others.{HeapIsNoVector}
use Rattle.gr_lines_turns.proofs.Kept.{turns_moved}
use Rattle.gr_lines_steps.proofs.Lines.{pieces_keep_lines}
use Rattle.gr_lines_steps.proofs.Turns.{runs_keep, serves_keep, settles_keep, gives_keep, close_keeps, asks_keep}
use Rattle.gr_elements_steps.proofs.Steps as rows
use Rattle.gr_fits.specs.Reached.{IsReached, RunsAccepted}
use Rattle.gr_fits.proofs.Reached.{entries_reach}
use Rattle.gr_fits_objects.proofs.Few.{heap_apart}
use Rattle.gr_stands_parts.specs.Stages.{Stage, ran, served, ended, gave, closed, asked, moved, IsMade}
use Rattle.gr_stands_parts.specs.Keeping.{StagesKeepLines, StagesKeepTurns, StagesKeepElements}

pub heap_is_no_vector : (given : Given) → RunsAccepted given → HeapIsNoVector given
heap_is_no_vector given ok = ap is_vector (heap_apart given ok.accepted)

module _ (given : Given) (sent : Sent) (w v : World) (S N : State) (me : ℕ) where
  abbrev Made : Stage → Type 0
  Made stage = IsMade given sent w v S N me stage

  -- ---- what each stage has

  pub stood : (stage : Stage) → Made stage → StandsAmongCores given w S
  stood (ran slots) m = m.1.stood
  stood (served from message) m = m.2.stood
  stood (ended message) m = m.1.stood
  stood gave m = m.1.stood
  stood (closed object) m = m.1.stood
  stood (asked victim) m = m.2.stood
  stood moved m = m.2

  by_piece : (got : List Letter) (e : Outcome) → IsReached given S → Piece given sent w v S N me got e → IsReached given N
  by_piece got e r p = entries_reach given S N (entries_from sent me e.marks) r p.leads

  pub reached : (stage : Stage) → Made stage → IsReached given S → IsReached given N
  reached (ran slots) m r = by_piece _ _ r m.1
  reached (served from message) m r = by_piece _ _ r m.2
  reached (ended message) m r = by_piece _ _ r m.1
  reached gave m r = subst (IsReached given) (sym m.0) r
  reached (closed object) m r = by_piece _ _ r m.1
  reached (asked victim) m r = subst (IsReached given) (sym m.0) r
  reached moved m r = subst (IsReached given) (sym m.0) r

module _ (given : Given) (accepted : RunsAccepted given) where
  abbrev Lines : Sent → World → State → Type 0
  Lines sent world state = LinesStand given world

  kept : KeptByPieces given Lines (λ me. Lines) Lines
  kept = pieces_keep_lines given (heap_is_no_vector given accepted)

  pub lines : StagesKeepLines given
  lines sent w v S N me (ran slots) at = kept.runs sent w v S N me slots at.made.0 at.made.1 at.parts.lines
  lines sent w v S N me (served from message) at = kept.serves sent w v S N me from message at.made.0 at.made.1 at.made.2 at.parts.lines
  lines sent w v S N me (ended message) at = kept.ends sent w v S N me message at.made.0 at.made.1 at.parts.lines
  lines sent w v S N me gave at = kept.gives sent w v S me at.made.1 at.parts.lines
  lines sent w v S N me (closed object) at = kept.closes sent w v S N me object at.made.0 at.made.1 at.parts.lines
  lines sent w v S N me (asked victim) at = kept.steals sent w v S me victim at.made.1 at.made.2 at.parts.lines
  lines sent w v S N me moved at = kept.moves sent w v S at.made.1 at.made.2 at.parts.lines

  pub turns : StagesKeepTurns given
  turns sent w v S N me (ran slots) at = runs_keep given w v me slots at.parts.ends at.made.1.acts at.parts.turns
  turns sent w v S N me (served from message) at =
      serves_keep given w v me from message at.parts.ends at.made.2.acts at.parts.lines (at.room.grants me from message at.made.1) at.parts.turns
  turns sent w v S N me (ended message) at = settles_keep given w v me message at.parts.ends at.made.1.acts at.parts.lines at.parts.turns
  turns sent w v S N me gave at = gives_keep given w v me at.parts.ends at.made.1.acts at.parts.turns
  turns sent w v S N me (closed object) at = close_keeps given w v me object at.parts.ends at.made.1.acts at.parts.lines at.parts.turns
  turns sent w v S N me (asked victim) at = asks_keep given w v me victim at.parts.ends at.made.2.acts at.parts.turns
  turns sent w v S N me moved at = turns_moved given w v at.parts.ends at.made.1 at.parts.turns

  pub elements : StagesKeepElements given
  elements sent w v S N me (ran slots) at = rows.runs_keep given w v me slots at.parts.ends at.parts.words at.made.1.acts at.parts.elements
  elements sent w v S N me (served from message) at =
      rows.serves_keep given w v me from message at.parts.ends at.parts.words at.made.2.acts at.parts.lines at.parts.turns at.parts.elements
  elements sent w v S N me (ended message) at =
      rows.settles_keep given w v me message at.parts.ends at.parts.words at.made.1.acts at.parts.turns at.parts.elements
  elements sent w v S N me gave at = rows.gives_keep given w v me at.parts.ends at.parts.words at.made.1.acts at.parts.elements
  elements sent w v S N me (closed object) at = rows.close_keeps given w v me object at.parts.ends at.parts.words at.made.1.acts at.parts.elements
  elements sent w v S N me (asked victim) at = rows.asks_keep given w v me victim at.parts.ends at.parts.words at.made.2.acts at.parts.elements
  elements sent w v S N me moved at = rows.moves_keep given w v at.parts.ends at.parts.words at.made.1 at.parts.elements
