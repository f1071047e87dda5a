-- The turns at a vector: who asked, who has the turn, and what is granted.
use Rattle.std.specs.Prelude.{ℕ, Bool, true, false, if◌then◌else◌, List, [], ◌∷◌, ◌++◌, drop, Option, Some, None}
use Rattle.gr_vector.specs.declared.master.Granted.{Granted}

-- Where the vector's words stand, and the cores that asked for a turn which hasn't ended, in the order of asking. The first of them has the turn.
pub record Turns : Type 0 where
  pub head : ℕ
  pub tail : ℕ
  pub cores : List ℕ

-- The turn of the first core, if there is one.
abbrev pub turn_of : ℕ → ℕ → List ℕ → Option Granted
turn_of head tail [] = None
turn_of head tail (core ∷ cores) = Some (record { core = core; head = head; tail = tail })

abbrev pub granted : Turns → Option Granted
granted turns = turn_of turns.head turns.tail turns.cores

abbrev pub is_any : List ℕ → Bool
is_any [] = false
is_any (core ∷ cores) = true

-- Whether a turn is out.
abbrev pub is_out : Turns → Bool
is_out turns = is_any turns.cores

-- The turns after a core has asked, and what is granted then: nothing while a turn is out.
abbrev pub asked : Turns → ℕ → Turns
asked turns core = record { head = turns.head; tail = turns.tail; cores = turns.cores ++ core ∷ [] }

abbrev pub grant_on_asking : Turns → ℕ → Option Granted
grant_on_asking turns core = if is_out turns then None else granted (asked turns core)

-- The turns after the one that is out has ended, with the words from this head to below this tail. What is granted then is the next turn.
abbrev pub ended : Turns → ℕ → ℕ → Turns
ended turns head tail = record { head = head; tail = tail; cores = drop 1 turns.cores }
