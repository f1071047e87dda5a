-- Serve: a call on a word, on the blocks of the heap or a print is made at its home, and its reply taken.
use Rattle.std.specs.Prelude.{ℕ, ◌+◌, ◌-◌, ◌==◌, ◌&&◌, ◌^◌, nat_lt, nat_le, if◌then◌else◌, List, [], ◌∷◌, Option, Some, None, is_some}
use Rattle.std.specs.Ordering.{nat_cmp}
use Rattle.std.specs.FinMap as map
use Rattle.gr_syntax.specs.declared.limits.TheConstants.{HEAP}
use Rattle.gr_lang.specs.declared.action.Op.{Op}
use Rattle.gr_lang.specs.declared.action.Op.TheVariants as op
use Rattle.gr_lang.specs.declared.action.Entry.TheVariants as entry
use Rattle.gr_lang.specs.declared.action.Reply.{Reply}
use Rattle.gr_lang.specs.declared.action.TaskId.{TaskId}
use Rattle.gr_lang.specs.Effects.{nothing, one, word_after, word_reply}
use Rattle.gr_lang.specs.Expressions.{number_of}
use Rattle.gr_lang.specs.Objects.{Object, array, start_in}
use Rattle.gr_view.specs.Places.{put}
use Rattle.gr_msg.specs.declared.message.Msg.TheVariants as msg
use Rattle.gr_machine.specs.Machines.{Machine, home, place}
use Rattle.gr_machine.specs.States.{Body}
use Rattle.gr_machine.specs.Outcomes.{Outcome, to, marked, quietly}
use Rattle.gr_machine.specs.Slots.{awaits_reply, task_awaits, resumed}

-- A call is made for the task in a slot of another core: the reply is sent back, and the call marked with it.
abbrev pub answered : Body → ℕ → ℕ → TaskId → Op → Reply → Outcome
answered body from slot id call reply = record {
  body = body;
  sends = to from (msg.Reply slot id reply.first reply.second);
  marks = marked (entry.Call id call reply);
}

-- Words

-- The array that has an address among its words, with the place there. Arrays are numbered from the first of these on.
abbrev pub array_at : ℕ → ℕ → List Object → Option (ℕ × ℕ)
array_at object at [] = None
array_at object at (array from count ∷ more) = if nat_le from at && nat_lt at (from + count) then Some (object, at - from) else array_at (object + 1) at more
array_at object at (_ ∷ more) = array_at (object + 1) at more

-- Every other address is one of the heap, whose places are addresses.
abbrev pub or_heap : ℕ → Option (ℕ × ℕ) → ℕ × ℕ
or_heap at None = (HEAP, at)
or_heap at (Some named) = named

-- How calls name the word of an address: by an object and a place there.
abbrev pub named_at : Machine → ℕ → ℕ × ℕ
named_at machine at = or_heap at (array_at 0 at machine.code.objects.things)

-- The call of a request on a word.
abbrev pub word_call : ℕ → ℕ × ℕ → ℕ → ℕ → Op
word_call operation named y z =
    if operation == 1 then op.Read named.0 named.1 else (
    if operation == 2 then op.Write named.0 named.1 y else (
    if operation == 3 then op.Add named.0 named.1 y else op.Cas named.0 named.1 y z))

abbrev pub with_word : Body → ℕ → Option ℕ → Body
with_word body place word = record body { words = record body.words { segment = put body.words.segment place word } }

-- The call on the word at a place of this core, where there is one.
abbrev pub word_made : Body → ℕ → ℕ → TaskId → ℕ → Op → Option ℕ → Option Outcome
word_made body from slot id place call None = None
word_made body from slot id place call (Some word) = Some (answered (with_word body place (Some (word_after call word))) from slot id call (word_reply call word))

abbrev pub word_requested : Machine → Body → ℕ → ℕ → TaskId → ℕ → ℕ → ℕ → ℕ → Option Outcome
word_requested machine body from slot id operation at y z =
    word_made body from slot id (place machine at) (word_call operation (named_at machine at) y z) (body.words.segment (place machine at))

-- The heap's blocks and prints

abbrev pub with_blocks : Body → map.FinMap nat_cmp ℕ → Body
with_blocks body blocks = record body { words = record body.words { blocks = blocks } }

-- A block of so many words is live at the least start where it fits, or there is no such start.
abbrev pub allocated : Body → ℕ → ℕ → TaskId → ℕ → Option ℕ → Outcome
allocated body from slot id count None = answered body from slot id (op.Alloc count) (one (2 ^ 64 - 1))
allocated body from slot id count (Some start) = answered (with_blocks body (map.insert body.words.blocks start count)) from slot id (op.Alloc count) (one start)

abbrev pub freed : Body → ℕ → ℕ → TaskId → ℕ → Outcome
freed body from slot id at =
    answered (with_blocks body (map.remove body.words.blocks at)) from slot id (op.Free at) (one (number_of (is_some (map.get body.words.blocks at))))

abbrev pub printed : Body → ℕ → ℕ → TaskId → ℕ → Outcome
printed body from slot id word = answered body from slot id (op.Print word) nothing

-- What core 0 alone is asked.
abbrev pub made_at_zero : Machine → Body → ℕ → ℕ → TaskId → ℕ → ℕ → Option Outcome
made_at_zero machine body from slot id operation x =
    if operation == 5 then Some (allocated body from slot id x (start_in machine.code.objects.heap body.words.blocks x)) else (
    if operation == 6 then Some (freed body from slot id x) else (
    if operation == 7 then Some (printed body from slot id x) else None))

-- 1 read, 2 write, 3 add and 4 cas at the word's home; 5 alloc, 6 free and 7 print at core 0.
abbrev pub requested : Machine → ℕ → Body → ℕ → ℕ → TaskId → ℕ → ℕ → ℕ → ℕ → Option Outcome
requested machine me body from slot id operation x y z =
    if nat_lt operation 5
    then (if nat_lt 0 operation && home machine x == me then word_requested machine body from slot id operation x y z else None)
    else (if me == 0 then made_at_zero machine body from slot id operation x else None)

-- A reply is taken only by a slot whose task has this name, and waits for one.
abbrev pub replied : Machine → Body → ℕ → TaskId → Reply → Option Outcome
replied machine body slot id reply = if task_awaits awaits_reply body slot id then Some (quietly (resumed machine body slot reply)) else None
