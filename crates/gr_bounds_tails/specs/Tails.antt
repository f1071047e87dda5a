-- Where the words of a vector end, with the pushes that may still move that: a push moves it by one, and comes in a step of its own.
use Rattle.std.specs.Prelude.{ℕ, ◌+◌, ◌≤◌, ◌==◌, if◌then◌else◌, List, drop, Option, Some, None}
use Rattle.gr_lang.specs.declared.action.Op.{Op}
use Rattle.gr_lang.specs.declared.action.Op.TheVariants as op
use Rattle.gr_lang.specs.declared.action.WaitingCall.{WaitingCall}
use Rattle.gr_msg.specs.declared.message.Msg.TheVariants as msg
use Rattle.gr_vector.specs.Turns.{Turns, is_out}
use Rattle.gr_net.specs.Sums.{weigh}
use Rattle.gr_machine.specs.States.{Turn, Vector, Body}
use Rattle.gr_stands.specs.Worlds.{Weight}

-- 1 for a push; and how many pushes are among some calls.
abbrev pub is_push : Op → ℕ
is_push (op.Push object word) = 1
is_push _ = 0

abbrev pub pushes : List WaitingCall → ℕ
pushes calls = weigh (λ call. is_push call.op) calls

-- At the master: the end of the words, while no turn is out.
abbrev pub master_tail : Option Turns → ℕ
master_tail None = 0
master_tail (Some turns) = if is_out turns then 0 else turns.tail

-- At a core: the end of the words in its turn, with the pushes of the turn, of the groups that wait behind it and of the calls that are in no group.
abbrev pub turn_tail : Option Turn → List (List WaitingCall) → ℕ
turn_tail None groups = weigh pushes groups
turn_tail (Some turn) groups = turn.ends.tail + pushes turn.calls + weigh pushes (drop 1 groups)

abbrev pub line_tail : Option Vector → ℕ
line_tail None = 0
line_tail (Some vector) = pushes vector.combiner + turn_tail vector.turn vector.groups

abbrev pub tail_held : ℕ → Body → ℕ
tail_held number body = master_tail (body.vectors.masters number) + line_tail (body.vectors.vectors number)

abbrev pub TailAtMost : ℕ → ℕ → Body → ℕ → Type 0
TailAtMost number core body most = tail_held number body ≤ most

-- This number for one vector, and 0 for the others; and the end of its words of which a message tells.
unfoldable pub if_line : ℕ → ℕ → ℕ → ℕ
if_line number other tail = if other == number then tail else 0

abbrev pub tails_told : ℕ → Weight
tails_told number from to (msg.Grant vector head tail) = if_line number vector tail
tails_told number from to (msg.Done vector head tail) = if_line number vector tail
tails_told number from to _ = 0
