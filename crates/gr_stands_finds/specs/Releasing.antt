-- Whoever waits for the end of a scope is released in the event in which the last core leaves it.
use Rattle.std.specs.Prelude.{◌≡◌, ℕ, true, List, [], ◌∷◌, ◌++◌, Some}
use Rattle.gr_lang.specs.declared.action.Entry.{Entry}
use Rattle.gr_lang.specs.declared.action.Entry.TheVariants as entry
use Rattle.gr_merge.specs.GlobalRuns.{of_core}
use Rattle.gr_event.specs.declared.masters.Master.{Master}
use Rattle.gr_event.specs.declared.masters.Waiter.{Waiter}
use Rattle.gr_event.specs.declared.masters.Waiter.TheVariants as waiter
use Rattle.gr_machine.specs.declared.waits.Waits.TheVariants as wait
use Rattle.gr_machine.specs.States.{Suspended, Body}
use Rattle.gr_machine.specs.Outcomes.{marked}
use Rattle.gr_machine.specs.Steppers.{stamped}
use Rattle.gr_machine.specs.GlobalRuns as runs
use Rattle.gr_machine.specs.Nets.{world_in}
use Rattle.gr_stands.specs.Worlds.{bodies}

-- The body of a core.
abbrev pub body_at : runs.World → ℕ → Body
body_at world core = bodies (world_in world) core

-- An event of a core, at this clock, has left the mark of this entry and no other.
abbrev pub LeavesMark : runs.World → runs.World → ℕ → ℕ → Entry → Type 0
LeavesMark before after core clock what = after.marks ≡ before.marks ++ of_core core (stamped clock (marked what))

-- The task in a slot has passed its scope in an event: that is marked, and after the event it stands ready in the slot, the last, and goes on.
pub record HasPassed (before after : runs.World) (core slot clock : ℕ) (task : Suspended) : Type 0 where
  pub marks : LeavesMark before after core clock (entry.Pass task.id)
  pub next : Suspended
  pub there : (body_at after core).tasks.slots slot ≡ Some next
  pub named : next.id ≡ task.id
  pub goes : next.waits ≡ wait.Going
  pub ready : (more : List ℕ) × ((body_at after core).tasks.ready ≡ more ++ slot ∷ [])

-- A task that waited in a slot has passed.
pub record WaiterPasses (before after : runs.World) (core slot clock : ℕ) : Type 0 where
  pub task : Suspended
  pub waited : (body_at before core).tasks.slots slot ≡ Some task
  pub passed : HasPassed before after core slot clock task

-- The root is passed, which is marked, and the core is halted by that.
pub record RunEnds (before after : runs.World) (core clock : ℕ) : Type 0 where
  pub marks : LeavesMark before after core clock entry.Over
  pub halted : (body_at after core).stops.passed ≡ true

-- Who waited is released in the event.
abbrev pub IsReleased : runs.World → runs.World → ℕ → ℕ → Waiter → Type 0
IsReleased before after core clock (waiter.Task slot) = WaiterPasses before after core slot clock
IsReleased before after core clock waiter.Root = RunEnds before after core clock

-- Somebody waits at the master, and is released in the event.
pub record Releases (before after : runs.World) (core clock : ℕ) (master : Master) : Type 0 where
  pub who : Waiter
  pub waits : master.waiter ≡ Some who
  pub released : IsReleased before after core clock who
