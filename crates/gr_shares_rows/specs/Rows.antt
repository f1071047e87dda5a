-- Outcomes that leave the chunks and the questions of a core, and the marks that go with them.
use Rattle.std.specs.Prelude.{◌≡◌}
use Rattle.gr_lang.specs.declared.action.Action.{Action}
use Rattle.gr_lang.specs.declared.action.Action.TheVariants as action
use Rattle.gr_lang.specs.declared.action.Entry.{Entry}
use Rattle.gr_lang.specs.declared.action.Entry.TheVariants as entry
use Rattle.gr_work.specs.Queues.{Queues}
use Rattle.gr_net.specs.Sums.{Each}
use Rattle.gr_machine.specs.declared.mark.Mark.{Mark}
use Rattle.gr_machine.specs.declared.mark.Mark.TheVariants as mark
use Rattle.gr_machine.specs.States.{Steals}
use Rattle.gr_machine.specs.Outcomes.{Outcome}
use Rattle.gr_shares_units.specs.Leaving.{IsOfNoShare, chunks_in}

-- An action by which no loop is opened.
abbrev pub IsNoLoop : Action → Type 0
IsNoLoop (action.Loop lo hi grain target args) = ⊥
IsNoLoop _ = Unit

-- An entry by which no loop is opened and no index begins. By it one may be passed.
abbrev pub IsOfNoIndex : Entry → Type 0
IsOfNoIndex (entry.Loop id lo hi grain target args) = ⊥
IsOfNoIndex (entry.Begin owner index kid) = ⊥
IsOfNoIndex _ = Unit

-- A mark with such entries alone: a batch is one of calls.
abbrev pub MarksNoIndex : Mark → Type 0
MarksNoIndex (mark.Entry what) = IsOfNoIndex what
MarksNoIndex _ = Unit

-- At a core with these units and these questions: it has the same chunks, has asked the same cores and lets the same wait, no message is about that, and the
-- marks are such.
pub record LeavesWork (units : Queues) (questions : Steals) (outcome : Outcome) : Type 0 where
  pub private : chunks_in outcome.body.work.private ≡ chunks_in units.private
  pub public : chunks_in outcome.body.work.public ≡ chunks_in units.public
  pub steals : outcome.body.steals ≡ questions
  pub sends : Each (λ send. IsOfNoShare send.message) outcome.sends
  pub marks : Each MarksNoIndex outcome.marks
