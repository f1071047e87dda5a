-- What the marks of a core make of its stops; and what the stops of all cores say of the history of a run.
use Rattle.std.specs.Prelude.{◌≡◌, ℕ, ◌<◌, ◌==◌, true, false, if◌then◌else◌, List, [], ◌∷◌, None, is_some}
use Rattle.gr_lang.specs.declared.action.Entry.{Entry}
use Rattle.gr_lang.specs.declared.action.Entry.TheVariants as entry
use Rattle.gr_lang.specs.States.{State}
use Rattle.gr_machine.specs.declared.mark.Mark.{Mark}
use Rattle.gr_machine.specs.declared.mark.Mark.TheVariants as mark
use Rattle.gr_machine.specs.declared.journal.StampedMark.{StampedMark}
use Rattle.gr_machine.specs.States.{Stops}
use Rattle.gr_report.specs.Texts.{first_trap}
use Rattle.gr_stands.specs.Worlds.{Given, World, bodies}
use Rattle.gr_scopes.specs.Trees.{Names, tree_of}
use Rattle.gr_scopes.specs.Scopes.{ScopesStand}

-- Before the first event no task is trapped, and the root isn't passed.
abbrev pub unstopped : Stops
unstopped = record { trapped = false; passed = false }

-- A mark of a trap says that a task of the core is trapped, one of the program's end that the core has passed the root, and every other mark nothing.
abbrev pub stop_by : Stops → Mark → Stops
stop_by stops (mark.Entry (entry.Trap task kind)) = record stops { trapped = true }
stop_by stops (mark.Entry entry.Over) = record stops { passed = true }
stop_by stops _ = stops

-- After some marks of a core, in order.
abbrev pub stops_after : Stops → List Mark → Stops
stops_after stops [] = stops
stops_after stops (first ∷ marks) = stops_after (stop_by stops first) marks

-- The marks of one core among those of a run, in order.
abbrev pub marks_at : ℕ → List (ℕ × StampedMark) → List Mark
marks_at core [] = []
marks_at core (first ∷ marks) = if first.0 == core then first.1.mark ∷ marks_at core marks else marks_at core marks

-- Of a world: its scopes are those of some plain state.
pub record HasScopes (given : Given) (world : World) : Type 0 where
  pub names : Names
  pub state : State
  pub stands : ScopesStand given names world (tree_of state)

-- No core but core 0 passes the root, and a task is trapped at some core exactly where the history has a trap.
pub record StopsTell (given : Given) (world : World) (entries : List Entry) : Type 0 where
  pub zero : (core : ℕ) → core < given.setup.cores → (bodies world core).stops.passed ≡ true → core ≡ 0
  pub trapped : (core : ℕ) → core < given.setup.cores → (bodies world core).stops.trapped ≡ true → is_some (first_trap entries) ≡ true
  pub untrapped : ((core : ℕ) → core < given.setup.cores → (bodies world core).stops.trapped ≡ false) → first_trap entries ≡ None
