-- The laws of messages of elements, of a turn that begins and of one that ends.
use Rattle.std.specs.Prelude.{◌≡◌, ℕ, ◌<◌, List, [], ◌∷◌, true, Some}
use Rattle.gr_msg.specs.declared.message.Msg.{Msg}
use Rattle.gr_vector.specs.declared.ends.Ends.{Ends}
use Rattle.gr_vector.specs.Plans.{taken_by}
use Rattle.gr_vector.specs.Laws.{replies, replies_from}
use Rattle.gr_machine.specs.Machines.{thing}
use Rattle.gr_machine.specs.States.{Turn, Vector}
use Rattle.gr_machine.specs.Openings.{is_vector}
use Rattle.gr_machine.specs.Outcomes.{Outcome}
use Rattle.gr_machine.specs.Nets.{messages_in}
use Rattle.gr_machine.specs.Serves.{serves}
use Rattle.gr_machine.specs.TurnServes.{settled_vector}
use Rattle.gr_stands.specs.Worlds.{Given, machine_in, World, bodies, Acts}
use Rattle.gr_lines.specs.Lines.{vector_in}
use Rattle.gr_lines.specs.Waiting.{HasLines}
use Rattle.gr_lines_tokens.specs.Granting.{IsMade, ends_behind}
use Rattle.gr_lines_turns.specs.Tokens.{TurnStands}
use Rattle.gr_elements_orders.specs.Orders.{OwnAreIn}
use Rattle.gr_elements_acts.specs.Holding.{HasElements, IsElement, words_behind}

-- Serve: a message of an element of a vector that a core takes up, whatever it does then, finds something to act on.
abbrev pub ElementsAreServed : Type 0
ElementsAreServed =
    (given : Given) (world after : World) (number me from : ℕ) (message : Msg) (outcome : Outcome) (ends : Ends) (words : List ℕ)
    → Acts given.setup.cores world after me (record { from = from; message = message } ∷ []) outcome
    → HasLines given me (bodies world me) → is_vector (thing (machine_in given) number) ≡ true → OwnAreIn messages_in world
    → TurnStands given world number ends → HasElements given world number ends words → IsElement number message
    → IsMade (serves (machine_in given) me (bodies world me) from message)

-- Serve: a message, whichever it is, where it finds something to act on.
abbrev pub MessagesKeepElements : Type 0
MessagesKeepElements =
    (given : Given) (world after : World) (number me from : ℕ) (message : Msg) (outcome : Outcome) (ends : Ends) (words : List ℕ)
    → Acts given.setup.cores world after me (record { from = from; message = message } ∷ []) outcome
    → serves (machine_in given) me (bodies world me) from message ≡ Some outcome
    → HasLines given me (bodies world me) → is_vector (thing (machine_in given) number) ≡ true → OwnAreIn messages_in world
    → TurnStands given world number ends → HasElements given world number ends words → HasElements given after number ends words

-- Serve: a turn of the vector ends behind a message. The vector has the words then that its calls leave.
abbrev pub EndsKeepElements : Type 0
EndsKeepElements =
    (given : Given) (world after : World) (number me : ℕ) (outcome : Outcome) (ends : Ends) (words : List ℕ)
    → Acts given.setup.cores world after me [] outcome
    → settled_vector (machine_in given) (bodies world me) number ((bodies world me).vectors.vectors number) ≡ Some outcome
    → OwnAreIn messages_in world → TurnStands given world number ends → HasElements given world number ends words
    → HasElements given after number (ends_behind (vector_in ((bodies world me).vectors.vectors number)).turn ends)
    (words_behind (vector_in ((bodies world me).vectors.vectors number)).turn words)

-- Where nothing is left of a turn, its answers are what the plain memory replies to its calls, one after another.
abbrev pub TurnsReply : Type 0
TurnsReply =
    (given : Given) (world : World) (number me : ℕ) (ends : Ends) (words : List ℕ) (vector : Vector) (turn : Turn)
    → me < given.setup.cores → OwnAreIn messages_in world → TurnStands given world number ends → HasElements given world number ends words
    → (bodies world me).vectors.vectors number ≡ Some vector → vector.turn ≡ Some turn → turn.left ≡ 0
    → replies_from turn.answers (taken_by turn.calls turn.ends) ≡ replies turn.calls words
