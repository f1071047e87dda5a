-- Words in which worked runs are written: tasks that play scripts, and the lines of a run.
use Rattle.std.specs.Prelude.{◌≡◌, ℕ, ◌+◌, ◌/◌, ◌^◌, ◌==◌, if◌then◌else◌, List, [], ◌∷◌, ◌++◌, length, map, take, drop, slice_index_or, Option, Some}
use Rattle.std.specs.Option.{option_map, option_and_then}
use Rattle.std.specs.FinMap as fin
use Rattle.gr_lang.specs.declared.action.Action.{Action}
use Rattle.gr_lang.specs.declared.action.Action.TheVariants as action
use Rattle.gr_lang.specs.declared.action.Entry.{Entry}
use Rattle.gr_lang.specs.declared.action.Reply.{Reply}
use Rattle.gr_lang.specs.declared.action.TaskId.{TaskId}
use Rattle.gr_lang.specs.Objects.{Object, Objects}
use Rattle.gr_lang.specs.Next.{Running, Stands}
use Rattle.gr_msg.specs.declared.message.ScopeId.{ScopeId}
use Rattle.gr_msg.specs.declared.message.Msg.{Msg}
use Rattle.gr_merge.specs.GlobalRuns.{goes_at}
use Rattle.gr_merge.specs.Merges.{at_core}
use Rattle.gr_machine.specs.declared.counts.Counts.{Counts}
use Rattle.gr_machine.specs.declared.event.Event.{Event}
use Rattle.gr_machine.specs.declared.event.Event.TheVariants as event
use Rattle.gr_machine.specs.declared.journal.Stamped.{Stamped}
use Rattle.gr_machine.specs.declared.journal.StampedMark.{StampedMark}
use Rattle.gr_machine.specs.declared.mark.Mark.{Mark}
use Rattle.gr_machine.specs.declared.setup.Setup.{Setup}
use Rattle.gr_machine.specs.Machines.{Machine, Code}
use Rattle.gr_machine.specs.States.{Letter}
use Rattle.gr_machine.specs.Events.{Packet}
use Rattle.gr_machine.specs.Steppers.{kind_of, stamped, stepper}
use Rattle.gr_machine.specs.LocalRuns.{Local, local_run}
use Rattle.gr_machine.specs.GlobalRuns.{World, Step, opening_world}
use Rattle.gr_machine.specs.Histories.{history}

-- Machines whose tasks play scripts

-- So many cores, blocks of so many words, and packets of so many messages.
abbrev pub setup_of : ℕ → ℕ → ℕ → Setup
setup_of cores block limit = record { cores = cores; block = block; limit = limit; steps = 1000000; events = 2 ^ 40 }

-- Objects with these opening words, and no heap.
abbrev pub objects_of : List ℕ → List Object → Objects
objects_of words things = record { words = words; things = things; heap = record { from = length words; count = 0 }; live = fin.empty }

-- A script says the actions of a task by its number, its arguments and the words of the replies that it has got, two for each action. Behind its end the
-- task ends.
abbrev pub Script : Type 0
Script = ℕ → List ℕ → List ℕ → List Action

-- A task's number, the number of its arguments, these, and the words that it has got, kept as words of locals without names.
abbrev pub spot : ℕ → List ℕ → List ℕ → Running
spot target args words = record { todo = []; locals = map (λ word. ([], word)) (target ∷ length args ∷ args ++ words) }

abbrev pub plays : Script → ℕ → List ℕ → List ℕ → Stands
plays script target args words = (slice_index_or (script target args words) (length words / 2) action.End, spot target args words)

abbrev pub plays_on : Script → List ℕ → Reply → Stands
plays_on script (target ∷ count ∷ words) reply = plays script target (take count words) (drop count words ++ reply.first ∷ reply.second ∷ [])
plays_on script _ reply = (action.End, spot 0 [] [])

abbrev pub scripted : Script → ℕ → List ℕ → Objects → Code
scripted script main params objects = record {
  start = λ target args. plays script target args [];
  go_on = λ running reply. plays_on script (map (λ local. local.1) running.locals) reply;
  main = main;
  params = params;
  objects = objects;
}

abbrev pub machine_with : Setup → Code → Machine
machine_with setup code = record { setup = setup; code = code }

-- Lines

-- A line of a run: the core, its clock after the event, the event, the slots that new tasks take, the messages that are served or shipped, and the marks.
pub record Line : Type 0 where
  pub core : ℕ
  pub clock : ℕ
  pub event : Event
  pub slots : List ℕ
  pub moved : List Msg
  pub marks : List Mark

abbrev pub run : ℕ → ℕ → List ℕ → List Mark → Line
run core clock slots marks = record { core = core; clock = clock; event = event.Run; slots = slots; moved = []; marks = marks }

abbrev pub serve : ℕ → ℕ → Msg → List Mark → Line
serve core clock message marks = record { core = core; clock = clock; event = event.Serve; slots = []; moved = message ∷ []; marks = marks }

abbrev pub ship : ℕ → ℕ → ℕ → List Msg → Line
ship core clock dest messages = record { core = core; clock = clock; event = event.Ship dest; slots = []; moved = messages; marks = [] }

abbrev pub take_from : ℕ → ℕ → ℕ → Line
take_from core clock from = record { core = core; clock = clock; event = event.Take from; slots = []; moved = []; marks = [] }

abbrev pub close : ℕ → ℕ → ℕ → List Mark → Line
close core clock object marks = record { core = core; clock = clock; event = event.Close object; slots = []; moved = []; marks = marks }

abbrev pub steal : ℕ → ℕ → ℕ → Line
steal core clock victim = record { core = core; clock = clock; event = event.Steal victim; slots = []; moved = []; marks = [] }

abbrev pub id : ℕ → ℕ → TaskId
id core number = record { core = core; number = number }

abbrev pub scope : ℕ → ℕ → ScopeId
scope core number = record { core = core; number = number }

-- Runs as lines

abbrev pub entry_in : Line → Stamped
entry_in line = record { clock = line.clock; event = line.event; slots = line.slots }

abbrev pub steps_in : List Line → List Step
steps_in = map (λ line. (line.core, entry_in line))

-- The world after one step.
abbrev pub stepped : Machine → World → Step → Option World
stepped machine world step = goes_at (stepper machine) (kind_of step.1.event) step.0 world step.1

abbrev pub first_message : List Letter → List Msg
first_message [] = []
first_message (letter ∷ letters) = letter.message ∷ []

abbrev pub messages_of : List Packet → List Msg
messages_of [] = []
messages_of (packet ∷ packets) = packet.messages ++ messages_of packets

-- What a list has gained at its end, over one that it had before.
abbrev pub gained : {X : Type 0} → List X → List X → List X
gained before after = drop (length before) after

-- The message that a Serve of a core acts on, and those that a Ship ships, by the worlds before and after it.
abbrev pub moved_by : World → World → ℕ → Event → List Msg
moved_by before after me event.Serve = first_message (before.states me).core.inbox
moved_by before after me (event.Ship dest) = messages_of (gained (before.transit me dest) (after.transit me dest))
moved_by before after me _ = []

abbrev pub line_of : World → World → Step → Line
line_of before after step = record {
  core = step.0;
  clock = (after.states step.0).core.clock;
  event = step.1.event;
  slots = step.1.slots;
  moved = moved_by before after step.0 step.1.event;
  marks = map (λ mark. mark.1.mark) (gained before.marks after.marks);
}

-- The lines of some steps.
abbrev pub lines_from : Machine → World → List Step → Option (List Line)
lines_from machine world [] = Some []
lines_from machine world (step ∷ steps) = option_and_then
    (λ after. option_map (λ lines. line_of world after step ∷ lines) (lines_from machine after steps))
    (stepped machine world step)

-- The steps of these lines, from the start with main in slot 0, are a global run of these lines, and tell this history.
pub record RunsAs (machine : Machine) (lines : List Line) (entries : List Entry) : Type 0 where
  pub goes : lines_from machine (opening_world machine 0) (steps_in lines) ≡ Some lines
  pub tells : history machine 0 (steps_in lines) ≡ Some entries

-- Ends as lines tell them

abbrev pub lines_at : ℕ → List Line → List Line
lines_at core lines = at_core core (map (λ line. (line.core, line)) lines)

abbrev pub journal_in : ℕ → List Line → List Stamped
journal_in core lines = map entry_in (lines_at core lines)

abbrev pub marks_at : List Line → List StampedMark
marks_at [] = []
marks_at (line ∷ lines) = stamped line.clock line.marks ++ marks_at lines

abbrev pub packet_in : Line → ℕ → Event → List Packet
packet_in line dest (event.Ship core) = if core == dest then record { clock = line.clock; messages = line.moved } ∷ [] else []
packet_in line dest _ = []

-- The packets that these lines ship to a core.
abbrev pub shipped_to : ℕ → List Line → List Packet
shipped_to dest [] = []
shipped_to dest (line ∷ lines) = packet_in line dest line.event ++ shipped_to dest lines

abbrev pub takes_from : ℕ → Event → ℕ
takes_from origin (event.Take from) = if from == origin then 1 else 0
takes_from origin _ = 0

abbrev pub taken_from : ℕ → List Line → ℕ
taken_from origin [] = 0
taken_from origin (line ∷ lines) = takes_from origin line.event + taken_from origin lines

-- The packets that a core takes from another.
abbrev pub received_in : List Line → ℕ → ℕ → List Packet
received_in lines me origin = take (taken_from origin (lines_at me lines)) (shipped_to me (lines_at origin lines))

-- What is seen of an end at two cores.
pub record Seen : Type 0 where
  pub inward : List (List Packet)
  pub outward : List (List Packet)
  pub marks : List StampedMark
  pub counts : Counts

abbrev pub seen : Local → Seen
seen local = record {
  inward = local.untaken 0 ∷ local.untaken 1 ∷ [];
  outward = local.shipped 0 ∷ local.shipped 1 ∷ [];
  marks = local.marks;
  counts = local.state.counts;
}

-- The end of a core that these lines tell: all that was received is taken, and it has done this in numbers.
abbrev pub told_end : ℕ → List Line → Counts → Seen
told_end me lines counts = record {
  inward = [] ∷ [] ∷ [];
  outward = shipped_to 0 (lines_at me lines) ∷ shipped_to 1 (lines_at me lines) ∷ [];
  marks = marks_at (lines_at me lines);
  counts = counts;
}

-- The journal of a core is a local run of the packets that it received, to the end that the lines tell.
abbrev pub EndsAs : Machine → ℕ → List Line → Counts → Type 0
EndsAs machine me lines counts = option_map seen (local_run machine 0 me (received_in lines me) (journal_in me lines)) ≡ Some (told_end me lines counts)

abbrev pub counts_of : ℕ → ℕ → ℕ → ℕ → ℕ → ℕ → ℕ → Counts
counts_of calls messages packets short batches asks gives =
    record { calls = calls; messages = messages; packets = packets; short = short; batches = batches; asks = asks; gives = gives }
