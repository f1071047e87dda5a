-- Actions and messages that are not of vectors.
use Rattle.std.specs.Prelude.{◌≡◌, false, List, None}
use Rattle.gr_syntax.specs.declared.limits.TheConstants.{HEAP}
use Rattle.gr_lang.specs.declared.action.Action.{Action}
use Rattle.gr_lang.specs.declared.action.Action.TheVariants as action
use Rattle.gr_lang.specs.declared.action.WaitingCall.{WaitingCall}
use Rattle.gr_msg.specs.declared.message.Msg.{Msg}
use Rattle.gr_msg.specs.declared.message.Msg.TheVariants as msg
use Rattle.gr_vector.specs.Groups.{vector_of}
use Rattle.gr_net.specs.Sums.{Each}
use Rattle.gr_machine.specs.Machines.{thing}
use Rattle.gr_machine.specs.States.{Body}
use Rattle.gr_machine.specs.Openings.{is_vector}
use Rattle.gr_stands.specs.Worlds.{Given, machine_in}
use Rattle.gr_lines.specs.Leaving.{IsOffLines}

-- The heap's number is that of no vector. So it is in each accepted program, which has fewer objects.
abbrev pub HeapIsNoVector : Given → Type 0
HeapIsNoVector given = is_vector (thing (machine_in given) HEAP) ≡ false

-- The action is no call on a vector.
abbrev pub IsOfNoVector : Action → Type 0
IsOfNoVector (action.Call call) = vector_of call ≡ None
IsOfNoVector _ = Unit

-- The message is of no turn.
abbrev pub IsOfNoTurn : Msg → Type 0
IsOfNoTurn (msg.Turn vector) = ⊥
IsOfNoTurn (msg.Grant vector head tail) = ⊥
IsOfNoTurn (msg.Done vector head tail) = ⊥
IsOfNoTurn (msg.ElemPut vector position word) = ⊥
IsOfNoTurn (msg.ElemGet vector position) = ⊥
IsOfNoTurn (msg.ElemAck vector position got) = ⊥
IsOfNoTurn _ = Unit

-- The tasks in the slots of some calls wait on no vector.
abbrev pub AreOffLines : Given → Body → List WaitingCall → Type 0
AreOffLines given body calls = Each (λ call. IsOffLines given (body.tasks.slots call.slot)) calls
