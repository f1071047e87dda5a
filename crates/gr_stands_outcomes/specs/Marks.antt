-- The entries of the marks that a core leaves, and the batches that have gone off once it has left them.
use Rattle.std.specs.Prelude.{◌≡◌, ℕ, List, [], ◌∷◌, ◌++◌, Some}
use Rattle.gr_lang.specs.declared.action.Entry.{Entry}
use Rattle.gr_lang.specs.States.{State}
use Rattle.gr_lang.specs.Histories.{after}
use Rattle.gr_machine.specs.declared.mark.Mark.{Mark}
use Rattle.gr_machine.specs.Histories.{Sent, entries_of, sent_after}
use Rattle.gr_stands.specs.Worlds.{Given}

-- The batches that have gone off once these marks of a core are left.
abbrev pub sent_from : Sent → ℕ → List Mark → Sent
sent_from sent me [] = sent
sent_from sent me (mark ∷ marks) = sent_from (sent_after sent me mark) me marks

-- The entries of these marks of a core, where these batches have gone off.
abbrev pub entries_from : Sent → ℕ → List Mark → List Entry
entries_from sent me [] = []
entries_from sent me (mark ∷ marks) = entries_of sent mark ++ entries_from (sent_after sent me mark) me marks

-- Entries, and more of them, lead from one plain state to the other, with a state between.
pub record LeadsBetween (given : Given) (state next : State) (entries more : List Entry) : Type 0 where
  pub middle : State
  pub first : after given.program given.setup.cores given.setup.steps state entries ≡ Some middle
  pub second : after given.program given.setup.cores given.setup.steps middle more ≡ Some next
