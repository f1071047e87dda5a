-- What each piece keeps, each step keeps.
use Rattle.std.proofs.Common.{◌≡◌, ℕ, List, [], sym, subst}
use Rattle.gr_lang.specs.States.{State}
use Rattle.gr_machine.specs.declared.event.Event.{Event}
use Rattle.gr_machine.specs.declared.event.Event.TheVariants as event
use Rattle.gr_machine.specs.declared.mark.Mark.{Mark}
use Rattle.gr_machine.specs.Histories.{Sent}
use Rattle.gr_machine.specs.Nets.{world_in}
use Rattle.gr_machine.specs.Closes.{closes}
use Rattle.gr_stands.specs.Worlds.{Given, machine_in, World, bodies}
use Rattle.gr_stands_outcomes.specs.Marks.{sent_from}
use Rattle.gr_stands_steps.specs.Telling.{message_outcome}
use Rattle.gr_stands_made.specs.Pieces.{ran_at, ended_at, StepMade}
use Rattle.gr_stands_made.specs.Keeping.{KeptByPieces}
use Rattle.gr_stands_made.specs.Laws as laws
use Rattle.gr_stands_made.proofs.Steps.{steps_are_made}

module _ (given : Given) (Before : Sent → World → State → Type 0) (Between : ℕ → Sent → World → State → Type 0) (After : Sent → World → State → Type 0)
    (kept : KeptByPieces given Before Between After)
    (sent : Sent) (w v : World) (S N : State) (me : ℕ) (slots : List ℕ) (marks : List Mark) (held : Before sent w S) where
  abbrev Now : List Mark → Type 0
  Now ms = After (sent_from sent me ms) v N

  moved : marks ≡ [] → N ≡ S → After sent v S → Now marks
  moved left same h = subst Now (sym left) (subst (After sent v) (sym same) h)

  pub kept_by : (what : Event) → StepMade given sent w v S N me slots marks what → Now marks
  kept_by event.Run m = subst Now (sym m.left)
      (kept.gives (sent_from sent me (ran_at given w me slots).marks) m.between v N me m.gave (kept.runs sent w m.between S N me slots m.start m.ran held))
  kept_by event.Serve m = kept.gives (sent_from sent me marks) m.ended v N me m.gave
      (subst (λ (s : Sent). Between me s m.ended N) (sym m.left)
      (kept.ends (sent_from sent me (message_outcome given w me m.from m.message).marks) m.between m.ended m.middle N me m.message m.told m.settled
      (kept.serves sent w m.between S m.middle me m.from m.message m.start m.first m.served held)))
  kept_by (event.Close object) m = subst Now (sym m.left) (kept.closes sent w v S N me object m.start m.closed held)
  kept_by (event.Steal victim) m = moved m.left m.same (kept.steals sent w v S me victim m.start m.asked held)
  kept_by (event.Ship dest) m = moved m.left m.same (kept.moves sent w v S m.moved m.stood held)
  kept_by (event.Take from) m = moved m.left m.same (kept.moves sent w v S m.moved m.stood held)

pub pieces_keep : laws.PiecesKeep
pieces_keep given Before Between After kept sent before later S me entry sound all tells fit h made held =
    kept_by given Before Between After kept sent (world_in before) (world_in later) S made.next me entry.slots made.marks held entry.event
    (steps_are_made given sent before later S me entry sound all tells fit h made)
