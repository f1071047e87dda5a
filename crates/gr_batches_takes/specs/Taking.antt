-- What comes of an event whose marks may stand for several entries, those of a batch that has gone off before.
use Rattle.std.specs.Prelude.{◌≡◌, ℕ, ◌<◌, List, Option, Some, None}
use Rattle.gr_syntax.specs.declared.limits.TheConstants.{HEAP}
use Rattle.gr_lang.specs.States.{State}
use Rattle.gr_lang.specs.Histories.{after}
use Rattle.gr_net.specs.Sums.{Each}
use Rattle.gr_machine.specs.Machines.{thing}
use Rattle.gr_machine.specs.States.{Letter}
use Rattle.gr_machine.specs.Outcomes.{Outcome}
use Rattle.gr_machine.specs.Histories.{Sent}
use Rattle.gr_stands.specs.Worlds.{Given, machine_in, World, Acts}
use Rattle.gr_stands_calls.specs.Acting.{Keeps}
use Rattle.gr_stands_outcomes.specs.Marks.{sent_from, entries_from}
use Rattle.gr_batches.specs.Batches.{BatchesStand}

-- The heap has no place among the objects.
abbrev pub HeapIsApart : Given → Type 0
HeapIsApart given = thing (machine_in given) HEAP ≡ None

-- The outcome at the core, which has taken up these letters, keeps the part; from then on it is that of this plain state and of the batches that it sends off.
abbrev pub KeepsBatches : Given → Sent → World → ℕ → List Letter → Outcome → State → Type 0
KeepsBatches given sent world me got outcome after =
    (next : World) → Acts given.setup.cores world next me got outcome → BatchesStand given (sent_from sent me outcome.marks) next after

-- What is made acts; it sends to cores that there are, and the entries for which its marks stand lead to the plain state for which the world stands then, with
-- its words, calls and batches.
pub record TakesEffect (given : Given) (sent : Sent) (world : World) (state : State) (me : ℕ) (got : List Letter) (made : Option Outcome) : Type 0 where
  pub outcome : Outcome
  pub acts : made ≡ Some outcome
  pub sends : Each (λ send. send.to < given.setup.cores) outcome.sends
  pub next : State
  pub leads : after given.program given.setup.cores given.setup.steps state (entries_from sent me outcome.marks) ≡ Some next
  pub keeps : Keeps given world me got outcome next
  pub batches : KeepsBatches given sent world me got outcome next
