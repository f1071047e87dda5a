-- The laws of single events: what a Run and a Serve of the machine are, outcome by outcome.
use Rattle.std.specs.Prelude.{◌≡◌, ℕ, ◌<◌, List, [], ◌∷◌, ◌++◌, Some, None}
use Rattle.gr_merge.specs.Machines.{inner}
use Rattle.gr_merge.specs.GlobalRuns.{goes_at, of_core}
use Rattle.gr_net.specs.Sums.{Each}
use Rattle.gr_machine.specs.declared.event.Event.{Event}
use Rattle.gr_machine.specs.declared.event.Event.TheVariants as event
use Rattle.gr_machine.specs.declared.journal.Stamped.{Stamped}
use Rattle.gr_machine.specs.Machines.{Machine}
use Rattle.gr_machine.specs.States.{Letter, Suspended, Body}
use Rattle.gr_machine.specs.Outcomes.{Outcome}
use Rattle.gr_machine.specs.Runs.{acts, without_ready, first_unit, without_unit, run_unit}
use Rattle.gr_machine.specs.Serves.{serves, settles}
use Rattle.gr_machine.specs.Events.{gives, slot_of}
use Rattle.gr_machine.specs.Steppers.{stepper, stamped}
use Rattle.gr_machine.specs.GlobalRuns as runs
use Rattle.gr_machine.specs.Nets.{world_in}
use Rattle.gr_lang.specs.declared.action.Entry.{Entry}
use Rattle.gr_lang.specs.States.{State}
use Rattle.gr_lang.specs.Steps.{step}
use Rattle.gr_machine.specs.Outcomes.{marked}
use Rattle.gr_stands.specs.Worlds.{Given, machine_in, World, bodies, Acts}
use Rattle.gr_stands.specs.Stands.{Stands}
use Rattle.gr_stands_calls.specs.Acting.{ActsQuietly, ActsWithEntry}

abbrev pub entry_of : Event → ℕ → List ℕ → Stamped
entry_of what clock slots = record { clock = clock; event = what; slots = slots }

-- An outcome at a core that has taken up these letters, and then the gifts of the core; the marks of the outcome are the new ones of the run.
pub record ActsThenGives (machine : Machine) (before after : runs.World) (me clock : ℕ) (got : List Letter) (outcome : Outcome) : Type 0 where
  pub here : me < machine.setup.cores
  pub middle : World
  pub acts : Each (λ send. send.to < machine.setup.cores) outcome.sends → Acts machine.setup.cores (world_in before) middle me got outcome
  pub gives : Each (λ send. send.to < machine.setup.cores) (gives (bodies middle me)).sends → Acts machine.setup.cores middle (world_in after) me [] (gives (bodies middle me))
  pub marks : after.marks ≡ before.marks ++ of_core me (stamped clock outcome.marks)

-- A Run, where a slot is ready: the action of its task, and then gifts.
abbrev pub TasksRun : Type 0
TasksRun =
    (machine : Machine) (before after : runs.World) (me clock slot : ℕ) (more slots : List ℕ) (task : Suspended)
    → goes_at (stepper machine) inner me before (entry_of event.Run clock slots) ≡ Some after
    → (bodies (world_in before) me).tasks.ready ≡ slot ∷ more → (bodies (world_in before) me).tasks.slots slot ≡ Some task
    → ActsThenGives machine before after me clock [] (acts machine me (without_ready (bodies (world_in before) me)) slot task task.action)

-- A Run, where none is: a unit is taken up, and then gifts.
abbrev pub UnitsRun : Type 0
UnitsRun =
    (machine : Machine) (before after : runs.World) (me clock : ℕ) (slots : List ℕ) (outcome : Outcome)
    → goes_at (stepper machine) inner me before (entry_of event.Run clock slots) ≡ Some after
    → (bodies (world_in before) me).tasks.ready ≡ []
    → run_unit machine me (without_unit (bodies (world_in before) me)) (slot_of slots) (first_unit (bodies (world_in before) me)) ≡ Some outcome
    → ActsThenGives machine before after me clock [] outcome

-- A Serve of a message that acts and finishes no turn: its outcome, and then gifts.
abbrev pub MessagesServe : Type 0
MessagesServe =
    (machine : Machine) (before after : runs.World) (me clock : ℕ) (slots : List ℕ) (letter : Letter) (letters : List Letter) (outcome : Outcome)
    → goes_at (stepper machine) inner me before (entry_of event.Serve clock slots) ≡ Some after
    → ((world_in before).cores me).inbox ≡ letter ∷ letters
    → serves machine me (bodies (world_in before) me) letter.from letter.message ≡ Some outcome
    → ((body : Body) → settles machine body letter.message ≡ None)
    → ActsThenGives machine before after me clock (letter ∷ []) outcome

-- From rows to events

-- The cores that wait for units in a body are cores that there are.
abbrev pub WaitersAreCores : Given → Body → Type 0
WaitersAreCores given body = Each (λ core. core < given.setup.cores) body.steals.waiting

-- An event that leaves one entry: it leads from the plain state for which the world stood to the one for which it stands then.
pub record StandsOn (given : Given) (before after : runs.World) (me clock : ℕ) (state : State) : Type 0 where
  pub entry : Entry
  pub marks : after.marks ≡ before.marks ++ of_core me (stamped clock (marked entry))
  pub next : State
  pub leads : step given.program given.setup.cores given.setup.steps state entry ≡ Some next
  pub stands : Stands given (world_in after) next

-- Where the row of an event acts with an entry, so does the event, with the gifts after it.
abbrev pub EntriesStandOn : Type 0
EntriesStandOn =
    (given : Given) (before after : runs.World) (state : State) (me clock : ℕ) (got : List Letter) (outcome : Outcome)
    → ActsThenGives (machine_in given) before after me clock got outcome → ActsWithEntry given (world_in before) state me got (Some outcome)
    → WaitersAreCores given outcome.body → StandsOn given before after me clock state

-- Where it acts with no mark, the world stands for the same plain state after the event.
abbrev pub QuietEventsStand : Type 0
QuietEventsStand =
    (given : Given) (before after : runs.World) (state : State) (me clock : ℕ) (got : List Letter) (outcome : Outcome)
    → ActsThenGives (machine_in given) before after me clock got outcome → ActsQuietly given (world_in before) state me got (Some outcome)
    → WaitersAreCores given outcome.body → Stands given (world_in after) state
