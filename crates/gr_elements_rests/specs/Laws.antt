-- The law of vectors whose turns have no calls.
use Rattle.std.specs.Prelude.{◌≡◌, ◌==◌, ◌<◌, ℕ, List, [], true, Some}
use Rattle.std.specs.List.{list_any}
use Rattle.gr_lang.specs.States.{State}
use Rattle.gr_vector.specs.declared.ends.Ends.{Ends}
use Rattle.gr_vector.specs.Plans.{plan_of}
use Rattle.gr_machine.specs.Machines.{thing}
use Rattle.gr_machine.specs.States.{Turn}
use Rattle.gr_machine.specs.Openings.{is_vector}
use Rattle.gr_stands.specs.Worlds.{Given, machine_in, World, bodies}
use Rattle.gr_stands.specs.Stands.{Stands}
use Rattle.gr_stands_contents.specs.Rests.{VectorsRest}
use Rattle.gr_lines.specs.Waiting.{LinesStand}
use Rattle.gr_lines_turns.specs.Tokens.{vector_at, TurnsStand}
use Rattle.gr_elements_lines.specs.Lines.{HasWords}
use Rattle.gr_elements_steps.specs.Behind.{ElementsHold}

-- Each turn that a core has of a vector has no calls.
abbrev pub NoTurnHasCalls : Given → World → Type 0
NoTurnHasCalls given world =
    (number core : ℕ) (turn : Turn) → is_vector (thing (machine_in given) number) ≡ true
    → (vector_at number (bodies world) core).turn ≡ Some turn → turn.calls ≡ []

-- A turn still puts words only at positions where the plan of its calls puts some.
abbrev pub PutsAsPlanned : Turn → Type 0
PutsAsPlanned turn =
    (position : ℕ) → turn.puts position ≡ true → list_any (λ pair. pair.0 == position) (plan_of turn.calls turn.ends.head turn.ends.tail).puts ≡ true

-- So does each turn of a vector.
abbrev pub TurnsPutAsPlanned : Given → World → Type 0
TurnsPutAsPlanned given world =
    (number core : ℕ) (turn : Turn) → core < given.setup.cores → (vector_at number (bodies world) core).turn ≡ Some turn → PutsAsPlanned turn

-- Of a world and a plain state: calls that wait on vectors, whose turn it is of each, which words it has and where they are; and each turn puts words only as its
-- plan does.
pub record RestStands (given : Given) (ends : ℕ → Ends) (words : ℕ → List ℕ) (world : World) (state : State) : Type 0 where
  pub lines : LinesStand given world
  pub turns : TurnsStand given world ends
  pub lists : HasWords given state words
  pub elements : ElementsHold given world ends words
  pub planned : TurnsPutAsPlanned given world

-- Where turns have no calls, each word of each vector is at its home.
abbrev pub RestsAreFound : Type 0
RestsAreFound =
    (given : Given) (world : World) (state : State) (ends : ℕ → Ends) (words : ℕ → List ℕ)
    → Stands given world state → LinesStand given world → TurnsStand given world ends → ElementsHold given world ends words → HasWords given state words
    → TurnsPutAsPlanned given world → NoTurnHasCalls given world → VectorsRest given (bodies world) state.objects
