-- Machines of cores that send packets to each other, for any states, journals, packets and marks: what an entry of a core's journal does.
use Rattle.std.specs.Prelude.{ℕ, List, [], ◌∷◌, ◌++◌, Option, Some, None, is_none, if◌then◌else◌}
use Rattle.std.specs.Option.{option_map}
use Rattle.gr_view.specs.Places.{put}

-- An entry is inner to its core, takes a packet that came from a core, or ships one to a core.
pub data Kind : Type 0 where
  inner : Kind
  takes : (origin : ℕ) → Kind
  ships : (dest : ℕ) → Kind

-- What a step makes: the core's state after it, the packet that it ships, and its marks in their order.
pub record Went (State Packet Mark : Type 0) : Type 0 where
  pub state : State
  pub packet : Option Packet
  pub marks : List Mark

-- The kind and the clock of each entry, the clock with which each packet is stamped, and what an entry makes of the core of this number,
-- of its state and of the packet that is taken. It makes nothing where it may not stand.
pub record Machine (State Entry Packet Mark : Type 0) : Type 0 where
  pub kind : Entry → Kind
  pub clock : Entry → ℕ
  pub stamp : Packet → ℕ
  pub step : ℕ → State → Entry → Option Packet → Option (Went State Packet Mark)

-- A step that ships nothing.
abbrev pub quiet : {State Packet Mark : Type 0} → Option (Went State Packet Mark) → Option (Went State Packet Mark)
quiet None = None
quiet (Some went) = if is_none went.packet then Some went else None

-- A step that ships a packet, with the packet.
abbrev pub shipping : {State Packet Mark : Type 0} → Option (Went State Packet Mark) → Option (Went State Packet Mark × Packet)
shipping None = None
shipping (Some went) = option_map (λ packet. (went, packet)) went.packet

-- What an inner entry makes.
abbrev pub inner_step : {State Entry Packet Mark : Type 0} → Machine State Entry Packet Mark → ℕ → State → Entry → Option (Went State Packet Mark)
inner_step machine core state entry = quiet (machine.step core state entry None)

-- What an entry makes that takes this packet.
abbrev pub take_step : {State Entry Packet Mark : Type 0} → Machine State Entry Packet Mark → ℕ → State → Entry → Packet → Option (Went State Packet Mark)
take_step machine core state entry packet = quiet (machine.step core state entry (Some packet))

-- What an entry makes that ships a packet.
abbrev pub ship_step : {State Entry Packet Mark : Type 0} → Machine State Entry Packet Mark → ℕ → State → Entry → Option (Went State Packet Mark × Packet)
ship_step machine core state entry = shipping (machine.step core state entry None)

-- The first of a list is taken, where there is one.
abbrev pub with_first : {X Y : Type 0} → List X → (X → List X → Option Y) → Option Y
with_first [] made = None
with_first (x ∷ xs) made = made x xs

-- The lists with one more at the end of one of them.
abbrev pub with_last : {X : Type 0} → (ℕ → List X) → ℕ → X → ℕ → List X
with_last lists number x = put lists number (lists number ++ x ∷ [])

-- An entry with its marks.
abbrev pub Marked : Type 0 → Type 0 → Type 0
Marked Entry Mark = Entry × List Mark

-- The entries without their marks.
abbrev pub entries_in : {Entry Mark : Type 0} → List (Marked Entry Mark) → List Entry
entries_in [] = []
entries_in (entry ∷ entries) = entry.0 ∷ entries_in entries

-- The marks of entries, one after another.
abbrev pub marks_in : {Entry Mark : Type 0} → List (Marked Entry Mark) → List Mark
marks_in [] = []
marks_in (entry ∷ entries) = entry.1 ++ marks_in entries
