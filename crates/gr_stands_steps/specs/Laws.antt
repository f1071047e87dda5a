-- The laws of what a core does in an event, and of steps.
use Rattle.std.specs.Prelude.{◌≡◌, ℕ, ◌<◌, true, if◌then◌else◌, List, [], ◌∷◌, Some}
use Rattle.gr_lang.specs.States.{State}
use Rattle.gr_merge.specs.GlobalRuns.{goes_at}
use Rattle.gr_msg.specs.declared.message.Msg.{Msg}
use Rattle.gr_work.specs.Queues.{is_empty}
use Rattle.gr_machine.specs.declared.journal.Stamped.{Stamped}
use Rattle.gr_machine.specs.States.{Letter, Body}
use Rattle.gr_machine.specs.Outcomes.{Outcome}
use Rattle.gr_machine.specs.Histories.{Sent}
use Rattle.gr_machine.specs.Runs.{first_unit, slots_for}
use Rattle.gr_machine.specs.Serves.{serves}
use Rattle.gr_machine.specs.Closes.{closes}
use Rattle.gr_machine.specs.Events.{slot_of, are_free}
use Rattle.gr_machine.specs.Steppers.{kind_of, stepper}
use Rattle.gr_machine.specs.GlobalRuns as runs
use Rattle.gr_machine.specs.Nets.{world_in}
use Rattle.gr_stands.specs.Worlds.{Given, machine_in, World, bodies}
use Rattle.gr_stands.specs.Stands.{IsSound, Stands}
use Rattle.gr_stands_calls.specs.Acting.{letter, IsFirstLetter}
use Rattle.gr_stands_events.specs.Laws.{WaitersAreCores}
use Rattle.gr_stands_outcomes.specs.Inner.{outcome_of, with_gifts, run_outcome, and_settled, serve_outcome, first_of}
use Rattle.gr_stands_steps.specs.Entries.{ActsWithMarks, StandsAmongCores, StepStands}
use Rattle.gr_stands_steps.specs.Telling.{message_outcome, PartsTell, SlotsFit}

-- What a Run and a Serve do first leaves waiting for units only cores that there are, where the message comes from such a core.
abbrev pub RunsKeepWaiters : Type 0
RunsKeepWaiters =
    (given : Given) (me slot : ℕ) (ready : List ℕ) (body : Body)
    → WaitersAreCores given body → WaitersAreCores given (run_outcome (machine_in given) me body slot ready).body

abbrev pub ServesKeepWaiters : Type 0
ServesKeepWaiters =
    (given : Given) (me from : ℕ) (message : Msg) (body : Body)
    → WaitersAreCores given body → from < given.setup.cores
    → WaitersAreCores given (and_settled (machine_in given) message (outcome_of body (serves (machine_in given) me body from message))).body

-- So does the first of that, before the end of a turn.
abbrev pub MessagesKeepWaiters : Type 0
MessagesKeepWaiters =
    (given : Given) (me from : ℕ) (message : Msg) (body : Body)
    → WaitersAreCores given body → from < given.setup.cores → WaitersAreCores given (outcome_of body (serves (machine_in given) me body from message)).body

-- So does a Close.
abbrev pub ClosesKeepWaiters : Type 0
ClosesKeepWaiters =
    (given : Given) (body : Body) (object : ℕ) → WaitersAreCores given body → WaitersAreCores given (closes (machine_in given) body object).body

-- The slots are free, as many as a Run needs at a body.
abbrev pub AreFreeToRun : Given → Body → List ℕ → Type 0
AreFreeToRun given body slots = are_free body (if is_empty body.tasks.ready then slots_for (machine_in given) (first_unit body) else 0) slots ≡ true

-- What a Run does before its gifts acts.
abbrev pub RunsAct : Type 0
RunsAct =
    (given : Given) (sent : Sent) (world : World) (state : State) (me : ℕ) (slots : List ℕ)
    → IsSound given → Stands given world state → PartsTell given sent world state me → me < given.setup.cores
    → SlotsFit given slots → AreFreeToRun given (bodies world me) slots
    → ActsWithMarks given sent world state me [] (run_outcome (machine_in given) me (bodies world me) (slot_of slots) (bodies world me).tasks.ready)

-- So does what a Serve finds to do with its message.
abbrev pub MessagesAct : Type 0
MessagesAct =
    (given : Given) (sent : Sent) (world : World) (state : State) (me from : ℕ) (message : Msg)
    → IsSound given → StandsAmongCores given world state → PartsTell given sent world state me → IsFirstLetter given world me from message
    → ActsWithMarks given sent world state me (letter from message ∷ []) (message_outcome given world me from message)

-- So does all that a Serve does, with the end of a turn after it.
abbrev pub ServesAct : Type 0
ServesAct =
    (given : Given) (sent : Sent) (world : World) (state : State) (me : ℕ)
    → IsSound given → StandsAmongCores given world state → PartsTell given sent world state me → me < given.setup.cores
    → ActsWithMarks given sent world state me (first_of (world.cores me).inbox) (serve_outcome (machine_in given) me (bodies world me) (world.cores me).inbox)

-- So does a Close.
abbrev pub ClosesAct : Type 0
ClosesAct =
    (given : Given) (sent : Sent) (world : World) (state : State) (me object : ℕ)
    → IsSound given → Stands given world state → PartsTell given sent world state me → me < given.setup.cores
    → ActsWithMarks given sent world state me [] (closes (machine_in given) (bodies world me) object)

-- With the gifts after it an outcome acts as before, where those that wait are cores.
abbrev pub GiftsFollow : Type 0
GiftsFollow =
    (given : Given) (sent : Sent) (world : World) (state : State) (me : ℕ) (got : List Letter) (outcome : Outcome)
    → me < given.setup.cores → WaitersAreCores given outcome.body → ActsWithMarks given sent world state me got outcome
    → ActsWithMarks given sent world state me got (with_gifts outcome)

-- Each step is one of a core that there is.
abbrev pub StepsAreOfCores : Type 0
StepsAreOfCores =
    (given : Given) (before after : runs.World) (me : ℕ) (entry : Stamped)
    → goes_at (stepper (machine_in given)) (kind_of entry.event) me before entry ≡ Some after → me < given.setup.cores

-- A step at the core whose clock this is: each event of the machine, where the other parts tell what they must.
abbrev pub StepsStand : Type 0
StepsStand =
    (given : Given) (sent : Sent) (before after : runs.World) (state : State) (me : ℕ) (entry : Stamped)
    → IsSound given → StandsAmongCores given (world_in before) state → PartsTell given sent (world_in before) state me → SlotsFit given entry.slots
    → goes_at (stepper (machine_in given)) (kind_of entry.event) me before entry ≡ Some after
    → StepStands given before after me entry.clock state sent
