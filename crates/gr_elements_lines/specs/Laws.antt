-- The laws of the words of vectors in the plain state, by pieces of steps.
use Rattle.std.specs.Prelude.{◌≡◌, ℕ, List, Some}
use Rattle.gr_lang.specs.Histories.{after}
use Rattle.gr_lang.specs.States.{State}
use Rattle.gr_msg.specs.declared.message.Msg.{Msg}
use Rattle.gr_machine.specs.Histories.{Sent}
use Rattle.gr_machine.specs.Closes.{closes}
use Rattle.gr_machine.specs.Outcomes.{Outcome}
use Rattle.gr_stands.specs.Worlds.{Given, machine_in, World, bodies}
use Rattle.gr_stands_outcomes.specs.Marks.{entries_from}
use Rattle.gr_stands_steps.specs.Telling.{message_outcome}
use Rattle.gr_stands_made.specs.Pieces.{ran_at, ended_at}
use Rattle.gr_lines.specs.Waiting.{LinesStand}
use Rattle.gr_elements_steps.specs.Behind.{words_settled}
use Rattle.gr_elements_lines.specs.Lines.{HasWords, BatchIsOff}

-- The entries of an outcome's marks at a core lead from one plain state to the other.
abbrev pub Leads : Given → Sent → ℕ → State → State → Outcome → Type 0
Leads given sent me state next outcome = after given.program given.setup.cores given.setup.steps state (entries_from sent me outcome.marks) ≡ Some next

-- What a Run does first leaves the words of vectors.
abbrev pub RunsKeepWords : Type 0
RunsKeepWords =
    (given : Given) (sent : Sent) (world : World) (state next : State) (me : ℕ) (slots : List ℕ) (words : ℕ → List ℕ)
    → Leads given sent me state next (ran_at given world me slots) → HasWords given state words → HasWords given next words

-- So does what is found to do with a message.
abbrev pub ServesKeepWords : Type 0
ServesKeepWords =
    (given : Given) (sent : Sent) (world : World) (state next : State) (me from : ℕ) (message : Msg) (words : ℕ → List ℕ)
    → Leads given sent me state next (message_outcome given world me from message) → BatchIsOff sent from message
    → HasWords given state words → HasWords given next words

-- So does a Close.
abbrev pub ClosesKeepWords : Type 0
ClosesKeepWords =
    (given : Given) (sent : Sent) (world : World) (state next : State) (me object : ℕ) (words : ℕ → List ℕ)
    → Leads given sent me state next (closes (machine_in given) (bodies world me) object) → HasWords given state words → HasWords given next words

-- A turn that ends behind a message makes its calls.
abbrev pub SettlesKeepWords : Type 0
SettlesKeepWords =
    (given : Given) (sent : Sent) (world : World) (state next : State) (me : ℕ) (message : Msg) (words : ℕ → List ℕ)
    → Leads given sent me state next (ended_at given world me message) → LinesStand given world
    → HasWords given state words → HasWords given next (words_settled (bodies world me) message words)
