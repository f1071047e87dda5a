-- Serve: turns of vectors are asked for, granted and ended; a turn puts words at the homes of their positions, and gets words from there.
use Rattle.std.specs.Prelude.{ℕ, ◌+◌, ◌-◌, ◌==◌, ◌&&◌, ◌^◌, Bool, false, nat_lt, nat_le, if◌then◌else◌, List, [], ◌∷◌, ◌++◌, length, map, drop, Option, Some, None}
use Rattle.std.specs.List.{list_any, zip}
use Rattle.gr_lang.specs.declared.action.Entry.TheVariants as entry
use Rattle.gr_lang.specs.declared.action.Reply.{Reply}
use Rattle.gr_lang.specs.declared.action.WaitingCall.{WaitingCall}
use Rattle.gr_view.specs.Places.{put}
use Rattle.gr_msg.specs.declared.message.Msg.TheVariants as msg
use Rattle.gr_batch.specs.declared.wakes.Woken.{Woken}
use Rattle.gr_vector.specs.declared.ends.Ends.{Ends}
use Rattle.gr_vector.specs.declared.kind.Kind.TheVariants as kind
use Rattle.gr_vector.specs.declared.master.Granted.{Granted}
use Rattle.gr_vector.specs.declared.turn_plan.Plan.{Plan}
use Rattle.gr_vector.specs.Groups.{calls_of}
use Rattle.gr_vector.specs.Plans.{taken_by, ends_after, plan_of}
use Rattle.gr_vector.specs.Laws.{replies_from}
use Rattle.gr_vector.specs.Turns.{Turns, asked, grant_on_asking, ended, granted, is_out}
use Rattle.gr_machine.specs.declared.mark.Mark.{Mark}
use Rattle.gr_machine.specs.declared.mark.Mark.TheVariants as mark
use Rattle.gr_machine.specs.Machines.{Machine, home, numbered_home}
use Rattle.gr_machine.specs.States.{Turn, Vector, Body}
use Rattle.gr_machine.specs.Outcomes.{Send, Outcome, to, quietly}
use Rattle.gr_machine.specs.Slots.{awaits_turn, calls_await, resumed_all}

-- At the master

abbrev pub with_turns : Body → ℕ → Turns → Body
with_turns body vector turns = record body { vectors = record body.vectors { masters = put body.vectors.masters vector (Some turns) } }

-- The turn that is granted, if one is, is sent to its core.
abbrev pub grants : ℕ → Option Granted → List Send
grants vector None = []
grants vector (Some grant) = to grant.core (msg.Grant vector grant.head grant.tail)

-- A core asks for a turn: it has it at once where none is out, and else waits, the last.
abbrev pub turn_asked : Body → ℕ → ℕ → Option Turns → Option Outcome
turn_asked body from vector None = None
turn_asked body from vector (Some turns) =
    Some (record { body = with_turns body vector (asked turns from); sends = grants vector (grant_on_asking turns from); marks = [] })

-- The turn that is out has ended, and the next core that waits has one.
abbrev pub turn_ended : Body → ℕ → Turns → Outcome
turn_ended body vector turns = record { body = with_turns body vector turns; sends = grants vector (granted turns); marks = [] }

abbrev pub turn_done : Body → ℕ → ℕ → ℕ → Option Turns → Option Outcome
turn_done body vector head tail None = None
turn_done body vector head tail (Some turns) = if is_out turns then Some (turn_ended body vector (ended turns head tail)) else None

-- At the core that has the turn

abbrev pub with_vector : Body → ℕ → Vector → Body
with_vector body number vector = record body { vectors = record body.vectors { vectors = put body.vectors.vectors number (Some vector) } }

abbrev pub with_turn : Body → ℕ → Vector → Turn → Body
with_turn body number vector turn = with_vector body number (record vector { turn = Some turn })

-- The turn of a group: nothing is answered of what its plan puts and gets.
abbrev pub turn_from : List WaitingCall → Ends → Plan → Turn
turn_from calls ends plan = record {
  calls = calls;
  ends = ends;
  puts = λ position. list_any (λ pair. pair.0 == position) plan.puts;
  gets = λ position. list_any (λ other. other == position) plan.gets;
  left = length plan.puts + length plan.gets;
  answers = λ position. None;
}

-- Words are put at the homes of their positions, and got from there, a plan's puts before its gets.
abbrev pub put_sends : Machine → ℕ → List (ℕ × ℕ) → List Send
put_sends machine vector = map (λ pair. record { to = home machine pair.0; message = msg.ElemPut vector pair.0 pair.1 })

abbrev pub get_sends : Machine → ℕ → List ℕ → List Send
get_sends machine vector = map (λ position. record { to = home machine position; message = msg.ElemGet vector position })

abbrev pub turn_begun : Machine → Body → ℕ → Vector → List WaitingCall → ℕ → ℕ → Plan → Outcome
turn_begun machine body number vector calls head tail plan = record {
  body = with_turn body number vector (turn_from calls (record { head = head; tail = tail }) plan);
  sends = put_sends machine number plan.puts ++ get_sends machine number plan.gets;
  marks = [];
}

-- The calls of the group wait for a turn, and their positions fit a word.
abbrev pub can_begin : Body → ℕ → ℕ → ℕ → List WaitingCall → Bool
can_begin body number head tail calls =
    calls_await (awaits_turn number) body calls && nat_lt (tail + length (calls_of kind.Push calls)) (2 ^ 64) && nat_le head tail

-- The oldest group has the turn, where this core has no turn of the vector already.
abbrev pub group_granted : Machine → Body → ℕ → ℕ → ℕ → Vector → Option Turn → List (List WaitingCall) → Option Outcome
group_granted machine body number head tail vector None (calls ∷ groups) =
    if can_begin body number head tail calls then Some (turn_begun machine body number vector calls head tail (plan_of calls head tail)) else None
group_granted machine body number head tail vector _ _ = None

abbrev pub turn_granted : Machine → Body → ℕ → ℕ → ℕ → Option Vector → Option Outcome
turn_granted machine body number head tail None = None
turn_granted machine body number head tail (Some vector) = group_granted machine body number head tail vector vector.turn vector.groups

-- At the home of a position

-- A word is put at an empty position.
abbrev pub element_put : Body → ℕ → ℕ → ℕ → ℕ → Vector → Option ℕ → Option Outcome
element_put body from number position word vector (Some old) = None
element_put body from number position word vector None = Some (record {
  body = with_vector body number (record vector { part = put vector.part position (Some word) });
  sends = to from (msg.ElemAck number position None);
  marks = [];
})

abbrev pub element_stored : Body → ℕ → ℕ → ℕ → ℕ → Option Vector → Option Outcome
element_stored body from number position word None = None
element_stored body from number position word (Some vector) = element_put body from number position word vector (vector.part position)

-- The word at a position is taken out.
abbrev pub element_got : Body → ℕ → ℕ → ℕ → Vector → Option ℕ → Option Outcome
element_got body from number position vector None = None
element_got body from number position vector (Some word) = Some (record {
  body = with_vector body number (record vector { part = put vector.part position None });
  sends = to from (msg.ElemAck number position (Some word));
  marks = [];
})

abbrev pub element_fetched : Body → ℕ → ℕ → ℕ → Option Vector → Option Outcome
element_fetched body from number position None = None
element_fetched body from number position (Some vector) = element_got body from number position vector (vector.part position)

-- Answers

-- A put, or a get, of the turn is answered, once.
abbrev pub put_answered : Turn → ℕ → Turn
put_answered turn position = record turn { puts = put turn.puts position false; left = turn.left - 1 }

abbrev pub get_answered : Turn → ℕ → ℕ → Turn
get_answered turn position word = record turn { gets = put turn.gets position false; left = turn.left - 1; answers = put turn.answers position (Some word) }

abbrev pub element_answered : Body → ℕ → Vector → Turn → ℕ → Option ℕ → Option Outcome
element_answered body number vector turn position None =
    if turn.puts position then Some (quietly (with_turn body number vector (put_answered turn position))) else None
element_answered body number vector turn position (Some word) =
    if turn.gets position then Some (quietly (with_turn body number vector (get_answered turn position word))) else None

abbrev pub turn_answered : Body → ℕ → ℕ → Option ℕ → Vector → Option Turn → Option Outcome
turn_answered body number position got vector None = None
turn_answered body number position got vector (Some turn) = element_answered body number vector turn position got

abbrev pub element_acked : Body → ℕ → ℕ → Option ℕ → Option Vector → Option Outcome
element_acked body number position got None = None
element_acked body number position got (Some vector) = turn_answered body number position got vector vector.turn

-- The end of a turn

-- The calls of a turn, in order, with their replies: each call that took a word replies the word of its position.
abbrev pub turn_replies : Turn → List (WaitingCall × Reply)
turn_replies turn = zip turn.calls (replies_from turn.answers (taken_by turn.calls turn.ends))

abbrev pub wakes : List (WaitingCall × Reply) → List Woken
wakes = map (λ answer. record { slot = answer.0.slot; id = answer.0.id; reply = answer.1 })

abbrev pub call_marks : List (WaitingCall × Reply) → List Mark
call_marks = map (λ answer. mark.Entry (entry.Call answer.0.id answer.0.op answer.1))

-- The calls are marked in order, their tasks are ready, the group is gone, and the master is told where the vector's words stand now.
abbrev pub turn_finished : Machine → Body → ℕ → Vector → Turn → Ends → Outcome
turn_finished machine body number vector turn ends = record {
  body = resumed_all machine (with_vector body number (record vector { groups = drop 1 vector.groups; turn = None })) (wakes (turn_replies turn));
  sends = to (numbered_home machine number) (msg.Done number ends.head ends.tail);
  marks = call_marks (turn_replies turn);
}

-- A turn of which nothing is left is finished.
abbrev pub settled_turn : Machine → Body → ℕ → Vector → Option Turn → Option Outcome
settled_turn machine body number vector None = None
settled_turn machine body number vector (Some turn) =
    if turn.left == 0 then Some (turn_finished machine body number vector turn (ends_after turn.calls turn.ends)) else None

abbrev pub settled_vector : Machine → Body → ℕ → Option Vector → Option Outcome
settled_vector machine body number None = None
settled_vector machine body number (Some vector) = settled_turn machine body number vector vector.turn
