-- The laws of pieces of steps, for where the words of vectors are; and what that tells of a turn at its end.
use Rattle.std.specs.Prelude.{◌≡◌, ℕ, List, [], ◌∷◌, slice_get, true, Some}
use Rattle.gr_lang.specs.Objects.{line}
use Rattle.gr_lang.specs.States.{State}
use Rattle.gr_msg.specs.declared.message.Msg.{Msg}
use Rattle.gr_vector.specs.declared.ends.Ends.{Ends}
use Rattle.gr_machine.specs.Machines.{thing}
use Rattle.gr_machine.specs.Openings.{is_vector}
use Rattle.gr_machine.specs.Closes.{closes}
use Rattle.gr_machine.specs.Events.{gives, asks}
use Rattle.gr_machine.specs.GlobalRuns.{opening_world}
use Rattle.gr_machine.specs.Nets.{world_in}
use Rattle.gr_stands.specs.Worlds.{Given, machine_in, World, bodies, Acts, Moves}
use Rattle.gr_stands_calls.specs.Acting.{letter, IsFirstLetter}
use Rattle.gr_stands_chains.specs.Chains.{SendersStand}
use Rattle.gr_stands_steps.specs.Telling.{EndTells, message_outcome}
use Rattle.gr_stands_made.specs.Pieces.{ran_at, ended_at}
use Rattle.gr_lines.specs.Waiting.{LinesStand}
use Rattle.gr_lines_steps.specs.Behind.{ends_settled}
use Rattle.gr_lines_turns.specs.Tokens.{TurnsStand}
use Rattle.gr_elements_steps.specs.Behind.{ElementsHold, words_settled, IsLast}

-- What a Run does first.
abbrev pub RunsKeepElements : Type 0
RunsKeepElements =
    (given : Given) (before later : World) (me : ℕ) (slots : List ℕ) (ends : ℕ → Ends) (words : ℕ → List ℕ)
    → Acts given.setup.cores before later me [] (ran_at given before me slots) → ElementsHold given before ends words → ElementsHold given later ends words

-- What is found to do with a message, and what isn't.
abbrev pub ServesKeepElements : Type 0
ServesKeepElements =
    (given : Given) (before later : World) (me from : ℕ) (message : Msg) (ends : ℕ → Ends) (words : ℕ → List ℕ)
    → Acts given.setup.cores before later me (letter from message ∷ []) (message_outcome given before me from message)
    → LinesStand given before → TurnsStand given before ends → ElementsHold given before ends words → ElementsHold given later ends words

-- The end of a turn behind a message, if there is one.
abbrev pub SettlesKeepElements : Type 0
SettlesKeepElements =
    (given : Given) (before later : World) (me : ℕ) (message : Msg) (ends : ℕ → Ends) (words : ℕ → List ℕ)
    → Acts given.setup.cores before later me [] (ended_at given before me message)
    → TurnsStand given before ends → ElementsHold given before ends words
    → ElementsHold given later (ends_settled (bodies before me) message ends) (words_settled (bodies before me) message words)

abbrev pub GivesKeepElements : Type 0
GivesKeepElements =
    (given : Given) (before later : World) (me : ℕ) (ends : ℕ → Ends) (words : ℕ → List ℕ)
    → Acts given.setup.cores before later me [] (gives (bodies before me)) → ElementsHold given before ends words → ElementsHold given later ends words

abbrev pub CloseKeepsElements : Type 0
CloseKeepsElements =
    (given : Given) (before later : World) (me object : ℕ) (ends : ℕ → Ends) (words : ℕ → List ℕ)
    → Acts given.setup.cores before later me [] (closes (machine_in given) (bodies before me) object)
    → ElementsHold given before ends words → ElementsHold given later ends words

abbrev pub AsksKeepElements : Type 0
AsksKeepElements =
    (given : Given) (before later : World) (me victim : ℕ) (ends : ℕ → Ends) (words : ℕ → List ℕ)
    → Acts given.setup.cores before later me [] (asks victim (bodies before me)) → ElementsHold given before ends words → ElementsHold given later ends words

-- A Ship and a Take.
abbrev pub MovesKeepAll : Type 0
MovesKeepAll =
    (given : Given) (before later : World) (ends : ℕ → Ends) (words : ℕ → List ℕ)
    → Moves given.setup.cores before later → ElementsHold given before ends words → ElementsHold given later ends words

-- Before the first step no vector has words.
abbrev pub OpeningsHaveAll : Type 0
OpeningsHaveAll =
    (given : Given) (slot : ℕ)
    → ElementsHold given (world_in (opening_world (machine_in given) slot)) (λ number. record { head = 0; tail = 0 }) (λ number. [])

-- Behind a message that comes first a turn of which nothing is left can be finished, where these are the words of its vector in the plain state.
abbrev pub EndsAreTold : Type 0
EndsAreTold =
    (given : Given) (world : World) (state : State) (me from number : ℕ) (message : Msg) (ends : ℕ → Ends) (words : ℕ → List ℕ)
    → SendersStand given world → IsFirstLetter given world me from message → LinesStand given world → TurnsStand given world ends
    → ElementsHold given world ends words → is_vector (thing (machine_in given) number) ≡ true → IsLast number message
    → slice_get state.objects.things number ≡ Some (line (words number))
    → EndTells world state me number (message_outcome given world me from message).body
