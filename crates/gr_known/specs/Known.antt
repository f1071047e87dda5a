-- What the entries of a legal history name: objects, reducers and tasks that the program has.
use Rattle.std.specs.Prelude.{◌≡◌, ℕ, ◌<◌, ◌⊎◌, true, All, List, length, codes, Some, IfSome}
use Rattle.gr_syntax.specs.declared.syntax.Program.{Program}
use Rattle.gr_lang.specs.declared.action.Op.{Op}
use Rattle.gr_lang.specs.declared.action.Parts.{Parts}
use Rattle.gr_lang.specs.declared.action.Parts.TheVariants as parts
use Rattle.gr_lang.specs.Parts.{parts_of}
use Rattle.gr_accept.specs.Conditions.{is_object}
use Rattle.gr_accept.specs.Declarations.{first_named}
use Rattle.gr_accept.specs.Operations.{reducer_names}
use Rattle.gr_lang.specs.declared.action.Entry.{Entry}
use Rattle.gr_lang.specs.declared.action.Entry.TheVariants as entry
use Rattle.gr_accept.specs.Accepted.{IsAccepted}
use Rattle.gr_syntax.specs.declared.limits.TheConstants.{HEAP}
use Rattle.gr_syntax.specs.Items.{object_names, tasks_of}
use Rattle.gr_lang.specs.States.{State}
use Rattle.gr_lang.specs.Histories.{final}

-- Something that holds words, keys or pairs is declared as `heap`. In a program that a text gives only the heap is.
abbrev pub HasHeap : Program → Type 0
HasHeap program = is_object (first_named program.items (codes "heap")) ≡ true

-- The number of the heap, where the program has one, or of one of the program's other objects.
abbrev pub IsObject : Program → ℕ → Type 0
IsObject program number = ((number ≡ HEAP) × HasHeap program) ⊎ (number < length (object_names program.items))

-- The number of one of the eight reducers.
abbrev pub IsReducer : ℕ → Type 0
IsReducer number = number < length reducer_names

-- The number of one of the program's tasks.
abbrev pub IsTask : Program → ℕ → Type 0
IsTask program number = number < length (tasks_of program.items)

-- The call is one of an object of the program, with one of the eight reducers where it has one; or it prints a word.
abbrev pub AreKnown : Program → Parts → Type 0
AreKnown program (parts.Call operation object reducer words) = IsObject program object × IfSome reducer IsReducer
AreKnown program (parts.Print word) = Unit {0}

abbrev pub IsKnownCall : Program → Op → Type 0
IsKnownCall program call = AreKnown program (parts_of call)

-- The entry names what the program has.
abbrev pub IsKnown : Program → Entry → Type 0
IsKnown program (entry.Call task call reply) = IsKnownCall program call
IsKnown program (entry.Spawn task how target args child) = IsTask program target
IsKnown program (entry.Loop task lo hi grain target args) = IsTask program target
IsKnown program _ = Unit {0}

-- Each entry of a legal history names what the program has.
abbrev pub HistoriesAreKnown : Type 0
HistoriesAreKnown =
    (program : Program) (cores limit : ℕ) (history : List Entry) (state : State) → IsAccepted program → final program cores limit history ≡ Some state
    → All (IsKnown program) history
