-- The vectors at a core, and what becomes of one of them.
use Rattle.std.specs.Prelude.{◌≡◌, ℕ, List, [], ◌∷◌, ◌++◌, drop, Option, Some, None}
use Rattle.std.specs.Option.{option_map, option_map_or}
use Rattle.gr_syntax.specs.declared.syntax.Program.{Program}
use Rattle.gr_lang.specs.declared.action.WaitingCall.{WaitingCall}
use Rattle.gr_view.specs.Places.{put}
use Rattle.gr_vector.specs.declared.ends.Ends.{Ends}
use Rattle.gr_vector.specs.declared.turn_plan.Plan.{Plan}
use Rattle.gr_vector.specs.Groups.{group_of}
use Rattle.gr_vector.specs.Turns.{Turns}
use Rattle.gr_code.specs.declared.shapes.Shape.{Shape}
use Rattle.gr_code.specs.Shapes.{shapes_of}
use Rattle.gr_machine.specs.declared.setup.Setup.{Setup}
use Rattle.gr_machine.specs.Machines.{machine_of}
use Rattle.gr_machine.specs.Openings.{opening_vectors}
use Rattle.gr_machine.specs.States.{Vector, Vectors}
use Rattle.gr_machine.specs.TurnServes.{turn_from, put_answered, get_answered}

-- The vectors of the core `me` before its first event, where the machine has so many cores and the objects of its program have these shapes.
abbrev pub AreOpening : List Shape → ℕ → ℕ → Vectors → Type 0
AreOpening shapes cores me vectors = (program : Program) (setup : Setup) → shapes ≡ shapes_of program → setup.cores ≡ cores
    → vectors ≡ opening_vectors (machine_of setup program) me

-- A change of a vector, where there is one of this number.
abbrev pub changed_by : (Vector → Vector) → Vectors → ℕ → Option Vector → Vectors
changed_by change all number None = all
changed_by change all number (Some vector) = record all { vectors = put all.vectors number (Some (change vector)) }

abbrev pub changed : (Vector → Vector) → Vectors → ℕ → Vectors
changed change all number = changed_by change all number (all.vectors number)

-- A call joins those that wait, the last.
abbrev pub to_join : WaitingCall → Vector → Vector
to_join call vector = record vector { combiner = vector.combiner ++ call ∷ [] }

-- All calls that wait are the newest group.
abbrev pub to_close : Vector → Vector
to_close vector = record vector { combiner = []; groups = vector.groups ++ group_of vector.combiner ∷ [] }

-- The oldest group has the turn, with this plan.
abbrev pub begun_by : Ends → Plan → Vector → List (List WaitingCall) → Vector
begun_by ends plan vector [] = vector
begun_by ends plan vector (calls ∷ groups) = record vector { turn = Some (turn_from calls ends plan) }

abbrev pub to_begin : Ends → Plan → Vector → Vector
to_begin ends plan vector = begun_by ends plan vector vector.groups

-- What stands at a position.
abbrev pub to_hold : ℕ → Option ℕ → Vector → Vector
to_hold position word vector = record vector { part = put vector.part position word }

-- A put, or a get, of the turn is answered.
abbrev pub to_answer_put : ℕ → Vector → Vector
to_answer_put position vector = record vector { turn = option_map (λ turn. put_answered turn position) vector.turn }

abbrev pub to_answer_get : ℕ → ℕ → Vector → Vector
to_answer_get position word vector = record vector { turn = option_map (λ turn. get_answered turn position word) vector.turn }

-- The turn has ended, and its group is gone.
abbrev pub to_finish : Vector → Vector
to_finish vector = record vector { groups = drop 1 vector.groups; turn = None }

-- The group of the calls that wait at a vector; none where there is no vector.
abbrev pub group_at : Option Vector → List WaitingCall
group_at vector = option_map_or (λ vector. group_of vector.combiner) vector []

-- A change of the turns at a master, where there is one of this number.
abbrev pub turned_by : (Turns → Turns) → Vectors → ℕ → Option Turns → Vectors
turned_by change all number None = all
turned_by change all number (Some turns) = record all { masters = put all.masters number (Some (change turns)) }

abbrev pub turned : (Turns → Turns) → Vectors → ℕ → Vectors
turned change all number = turned_by change all number (all.masters number)
