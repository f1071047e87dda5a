-- The laws of events, and of the merge of the journals of a run.
use Rattle.std.specs.Prelude.{◌≡◌, ℕ, List, map, slice_index_or, [], Some}
use Rattle.gr_merge.specs.Laws.{IsClocked, IsMatched}
use Rattle.gr_merge.specs.Merges.{merge}
use Rattle.gr_machine.specs.Machines.{Machine}
use Rattle.gr_machine.specs.States.{Core}
use Rattle.gr_machine.specs.Events.{Packet, ran, served}
use Rattle.gr_machine.specs.Counting.{nothing_done}
use Rattle.gr_machine.specs.Steppers.{stepper}
use Rattle.gr_machine.specs.LocalRuns.{End, IsLocalRun}
use Rattle.gr_machine.specs.GlobalRuns.{global_run}

-- A Run leaves the words of its core: no call is made by a task.
abbrev pub RunsLeaveWords : Type 0
RunsLeaveWords = (machine : Machine) (me : ℕ) (core : Core) (slot : ℕ) → (ran machine me core slot).core.body.words ≡ core.body.words

-- A Serve takes no number for a scope: scopes are opened by tasks.
abbrev pub ServesOpenNothing : Type 0
ServesOpenNothing = (machine : Machine) (me : ℕ) (core : Core) → (served machine me core).core.body.scopes.next ≡ core.body.scopes.next

-- Each entry raises its core's clock to its own; so a packet is taken at a later clock than it was shipped, and marks have the clock of their event.
abbrev pub EntriesTick : Type 0
EntriesTick = (machine : Machine) → IsClocked (stepper machine) (λ counted. counted.core.clock) (λ mark. mark.clock)

-- The end of a core that made no event.
abbrev pub unused_end : ℕ → End
unused_end core =
    record { core = core; clock = 0; first = 0; journal = []; received = λ other. []; sent = λ other. []; marks = []; counts = nothing_done }

-- The end of the core of this number, of those of the cores from 0 on. A core that isn't among them made no event.
abbrev pub end_of : List End → ℕ → End
end_of ends core = slice_index_or ends core (unused_end core)

-- A core that made no event has had a local run.
abbrev pub UnusedCoresRun : Type 0
UnusedCoresRun = (machine : Machine) (core : ℕ) → IsLocalRun machine (unused_end core)

-- Where each core's end is a local run, and what each has received from another is the front of what that has sent, the merge of their journals is a
-- global run to these ends, with the rest of the packets under way, and its marks are the merge of theirs.
abbrev pub RunsMerge : Type 0
RunsMerge =
    (machine : Machine) (ends : List End) (left : ℕ → ℕ → List Packet)
    → ((core : ℕ) → (end_of ends core).core ≡ core)
    → (runs : (core : ℕ) → IsLocalRun machine (end_of ends core))
    → IsMatched (λ core. (end_of ends core).sent) (λ core. (end_of ends core).received) left
    → global_run machine (end_of ends 0).first (merge (λ entry. entry.clock) (map (λ end. end.journal) ends))
    ≡ Some (record {
      states = λ core. record { core = (runs core).last; counts = (end_of ends core).counts };
      transit = left;
      marks = merge (λ mark. mark.clock) (map (λ end. end.marks) ends);
    })
