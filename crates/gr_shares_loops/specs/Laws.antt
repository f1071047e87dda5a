-- The laws of loops in plain states.
use Rattle.std.specs.Prelude.{◌≡◌, ℕ, List, Some}
use Rattle.std.specs.FinMap as fin
use Rattle.gr_syntax.specs.declared.syntax.Program.{Program}
use Rattle.gr_lang.specs.declared.action.Action.TheVariants as action
use Rattle.gr_lang.specs.declared.action.Entry.{Entry}
use Rattle.gr_lang.specs.declared.action.Entry.TheVariants as entry
use Rattle.gr_lang.specs.declared.action.TaskId.{TaskId}
use Rattle.gr_lang.specs.States.{Task, State}
use Rattle.gr_lang.specs.Steps.{step}
use Rattle.gr_shares.specs.Loops.{Loop, LoopsStand, loops_of}
use Rattle.gr_shares_loops.specs.Changes.{WaitsAtLoop, IsOfNoLoop, ScopesAreThere, OpensLoop, BeginsIndex, PassesLoop}

abbrev pub LoopsAreWaitedAt : Type 0
LoopsAreWaitedAt = (state : State) (owner : TaskId) (loop : Loop) → loops_of state owner ≡ Some loop → WaitsAtLoop state owner loop

abbrev pub EntriesLeaveLoops : Type 0
EntriesLeaveLoops =
    (program : Program) (cores limit : ℕ) (before after : State) (what : Entry) → IsOfNoLoop what → step program cores limit before what ≡ Some after
    → (owner : TaskId) → loops_of after owner ≡ loops_of before owner

abbrev pub LoopsAreOpened : Type 0
LoopsAreOpened =
    (program : Program) (cores limit : ℕ) (before after : State) (id : TaskId) (task : Task) (lo hi grain target : ℕ) (args : List ℕ)
    → fin.get before.tasks id ≡ Some task → task.action ≡ action.Loop lo hi grain target args → ScopesAreThere before
    → step program cores limit before (entry.Loop id lo hi grain target args) ≡ Some after → OpensLoop before after id lo hi target args

abbrev pub IndicesAreBegun : Type 0
IndicesAreBegun =
    (program : Program) (cores limit : ℕ) (before after : State) (owner : TaskId) (index : ℕ) (kid : TaskId) → LoopsStand (loops_of before)
    → step program cores limit before (entry.Begin owner index kid) ≡ Some after → BeginsIndex before after owner index

abbrev pub LoopsArePassed : Type 0
LoopsArePassed =
    (program : Program) (cores limit : ℕ) (before after : State) (id : TaskId) → LoopsStand (loops_of before)
    → step program cores limit before (entry.Pass id) ≡ Some after → PassesLoop before after id
