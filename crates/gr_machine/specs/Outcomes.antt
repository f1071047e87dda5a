-- What is done at a core: a new body, messages that are sent and marks that are left; and where messages that are sent go.
use Rattle.std.specs.Prelude.{ℕ, ◌==◌, if◌then◌else◌, List, [], ◌∷◌, ◌++◌, Option, Some, None}
use Rattle.gr_lang.specs.declared.action.Entry.{Entry}
use Rattle.gr_view.specs.Places.{put}
use Rattle.gr_msg.specs.declared.message.Msg.{Msg}
use Rattle.gr_net.specs.Messages as net
use Rattle.gr_machine.specs.declared.mark.Mark.{Mark}
use Rattle.gr_machine.specs.declared.mark.Mark.TheVariants as mark
use Rattle.gr_agg.specs.Buffers.{add_last}
use Rattle.gr_machine.specs.States.{Body, Core}

-- A message with the core that gets it.
abbrev pub Send : Type 0
Send = net.Send Msg

-- A new body, messages and marks.
abbrev pub Outcome : Type 0
Outcome = net.Outcome Body Msg Mark

-- One message to a core.
abbrev pub to : ℕ → Msg → List Send
to core message = record { to = core; message = message } ∷ []

-- One entry of the history.
abbrev pub marked : Entry → List Mark
marked what = mark.Entry what ∷ []

-- The body alone is new.
abbrev pub quietly : Body → Outcome
quietly body = record { body = body; sends = []; marks = [] }

-- An outcome, and then another one, of the body of the first.
abbrev pub followed : Outcome → Outcome → Outcome
followed first second = record { body = second.body; sends = first.sends ++ second.sends; marks = first.marks ++ second.marks }

-- Where messages go

-- The core after it has sent a message: to itself, last into its inbox; to another core, into the buffer.
abbrev pub sent : ℕ → Core → Send → Core
sent me core send =
    if send.to == me
    then record core { inbox = core.inbox ++ record { from = me; message = send.message } ∷ [] }
    else record core { buffers = put core.buffers send.to (add_last (core.buffers send.to) send.message) }

abbrev pub sent_all : ℕ → Core → List Send → Core
sent_all me core [] = core
sent_all me core (send ∷ sends) = sent_all me (sent me core send) sends

-- The core after an outcome. Where nothing is found to act on, all stays.
abbrev pub acted : ℕ → Core → Option Outcome → Core
acted me core None = core
acted me core (Some outcome) = sent_all me (record core { body = outcome.body }) outcome.sends

abbrev pub marks_of : Option Outcome → List Mark
marks_of None = []
marks_of (Some outcome) = outcome.marks

abbrev pub sends_of : Option Outcome → List Send
sends_of None = []
sends_of (Some outcome) = outcome.sends
