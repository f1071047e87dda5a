-- Part 6 of 'stands for', of whose turn it is: a vector has at most one turn out, which is a Grant, a core's turn or a Done; and each group of a core has
-- asked for its turn once.
use Rattle.std.specs.Prelude.{◌≡◌, ℕ, ◌+◌, ◌≤◌, ◌==◌, ◌&&◌, true, if◌then◌else◌, List, [], ◌∷◌, length, Option, Some, None}
use Rattle.std.specs.Option.{option_len}
use Rattle.gr_msg.specs.declared.message.Msg.{Msg}
use Rattle.gr_msg.specs.declared.message.Msg.TheVariants as msg
use Rattle.gr_vector.specs.declared.ends.Ends.{Ends}
use Rattle.gr_vector.specs.Turns.{Turns}
use Rattle.gr_vector.specs.Laws.{no_turns}
use Rattle.gr_net.specs.Flights.{Everywhere}
use Rattle.gr_machine.specs.Machines.{Machine, numbered_home, thing}
use Rattle.gr_machine.specs.States.{Vector, Turn, Body}
use Rattle.gr_machine.specs.Openings.{is_vector}
use Rattle.gr_machine.specs.Nets.{messages_in}
use Rattle.gr_stands.specs.Worlds.{Given, machine_in, World, bodies, in_flight}
use Rattle.gr_stands.specs.Calls.{times}
use Rattle.gr_lines.specs.Lines.{vector_in}

-- What a core has of a vector, and what its home keeps of its turns.
abbrev pub vector_at : ℕ → (ℕ → Body) → ℕ → Vector
vector_at number body core = vector_in ((body core).vectors.vectors number)

abbrev pub turns_in : Option Turns → Turns
turns_in None = no_turns
turns_in (Some turns) = turns

abbrev pub turns_at : Machine → ℕ → (ℕ → Body) → Turns
turns_at machine number body = turns_in ((body (numbered_home machine number)).vectors.masters number)

-- 1 for a core that has the turn of a vector, and for the first of some cores.
abbrev pub turn_at : ℕ → (ℕ → Body) → ℕ → ℕ
turn_at number body core = option_len (vector_at number body core).turn

abbrev pub is_first : ℕ → List ℕ → ℕ
is_first core [] = 0
is_first core (first ∷ cores) = if first == core then 1 else 0

-- 1 for a message that asks for a turn of a vector for a core, that grants it to the core, and that ends it.
abbrev pub asks : ℕ → ℕ → ℕ → ℕ → Msg → ℕ
asks number core from to (msg.Turn vector) = if vector == number && from == core then 1 else 0
asks number core from to _ = 0

abbrev pub grants : ℕ → ℕ → ℕ → ℕ → Msg → ℕ
grants number core from to (msg.Grant vector head tail) = if vector == number && to == core then 1 else 0
grants number core from to _ = 0

abbrev pub dones : ℕ → ℕ → ℕ → ℕ → Msg → ℕ
dones number core from to (msg.Done vector head tail) = if vector == number && from == core then 1 else 0
dones number core from to _ = 0

-- A Turn and a Done go to the vector's home; a Grant and a Done have where its words stand.
abbrev pub TokenStands : Machine → ℕ → Ends → ℕ → ℕ → Msg → Type 0
TokenStands machine number ends from to (msg.Turn vector) = vector ≡ number → to ≡ numbered_home machine number
TokenStands machine number ends from to (msg.Grant vector head tail) = vector ≡ number → (head ≡ ends.head) × (tail ≡ ends.tail)
TokenStands machine number ends from to (msg.Done vector head tail) = vector ≡ number → (to ≡ numbered_home machine number) × (head ≡ ends.head) × (tail ≡ ends.tail)
TokenStands machine number ends from to _ = Unit

-- The turns of a vector, whose words stand from a head to before a tail.
pub record TurnStands (given : Given) (world : World) (number : ℕ) (ends : Ends) : Type 0 where
  pub order : ends.head ≤ ends.tail
  -- the turn that is out is the first asker's, and in one place
  pub token : (core : ℕ) → turn_at number (bodies world) core + (in_flight (grants number core) given.setup.cores world + in_flight (dones number core) given.setup.cores world)
      ≡ is_first core (turns_at (machine_in given) number (bodies world)).cores
  -- each group has asked once
  pub asked : (core : ℕ) → length (vector_at number (bodies world) core).groups + in_flight (dones number core) given.setup.cores world
      ≡ in_flight (asks number core) given.setup.cores world + times core (turns_at (machine_in given) number (bodies world)).cores
  -- while no turn is out, head and tail are the master's
  pub rests : (turns_at (machine_in given) number (bodies world)).cores ≡ [] → ((turns_at (machine_in given) number (bodies world)).head ≡ ends.head)
      × ((turns_at (machine_in given) number (bodies world)).tail ≡ ends.tail)
  pub turn : (core : ℕ) (turn : Turn) → (vector_at number (bodies world) core).turn ≡ Some turn → turn.ends ≡ ends
  pub messages : Everywhere messages_in (TokenStands (machine_in given) number ends) given.setup.cores world

-- So it is of each vector, by where its words stand.
abbrev pub TurnsStand : Given → World → (ℕ → Ends) → Type 0
TurnsStand given world ends = (number : ℕ) → is_vector (thing (machine_in given) number) ≡ true → TurnStands given world number (ends number)
