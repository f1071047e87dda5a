-- Local runs: a core goes through its journal, takes the packets that came from each core, ships packets to each and makes marks.
use Rattle.std.specs.Prelude.{◌≡◌, ℕ, List, [], ◌∷◌, ◌++◌, Option, Some}
use Rattle.std.specs.Option.{option_map, option_and_then}
use Rattle.gr_view.specs.Places.{put}
use Rattle.gr_merge.specs.Machines.{Kind, inner, takes, ships, Went, Machine, inner_step, take_step, ship_step, with_first, with_last, Marked}

-- Where a core has come to: its state, the packets that it has yet to take from each core, those that it has shipped to each, and its marks.
pub record Came (State Packet Mark : Type 0) : Type 0 where
  pub state : State
  pub untaken : ℕ → List Packet
  pub shipped : ℕ → List Packet
  pub marks : List Mark

-- A core at its start, with all packets yet to be taken.
abbrev pub starts : {State Packet Mark : Type 0} → State → (ℕ → List Packet) → Came State Packet Mark
starts state received = record { state = state; untaken = received; shipped = λ dest. []; marks = [] }

-- A core that has taken all packets.
abbrev pub ended : {State Packet Mark : Type 0} → State → (ℕ → List Packet) → List Mark → Came State Packet Mark
ended state sent marks = record { state = state; untaken = λ origin. []; shipped = sent; marks = marks }

-- A core after a step, with these packets yet to take and these shipped.
abbrev pub came_with : {State Packet Mark : Type 0} → Came State Packet Mark → (ℕ → List Packet) → (ℕ → List Packet) → Went State Packet Mark
    → Came State Packet Mark
came_with came untaken shipped went = record { state = went.state; untaken = untaken; shipped = shipped; marks = came.marks ++ went.marks }

-- A core after an entry of this kind.
abbrev pub comes_at : {State Entry Packet Mark : Type 0} → Machine State Entry Packet Mark → Kind → ℕ → Came State Packet Mark → Entry
    → Option (Came State Packet Mark)
comes_at machine inner core came entry = option_map (came_with came came.untaken came.shipped) (inner_step machine core came.state entry)
comes_at machine (takes origin) core came entry =
    with_first (came.untaken origin) (λ packet rest. option_map (came_with came (put came.untaken origin rest) came.shipped) (take_step machine core came.state entry packet))
comes_at machine (ships dest) core came entry =
    option_map (λ sent. came_with came came.untaken (with_last came.shipped dest sent.1) sent.0) (ship_step machine core came.state entry)

-- A core after its journal, as a fold over the entries.
abbrev pub fold_local : {State Entry Packet Mark : Type 0} → Machine State Entry Packet Mark → ℕ → Came State Packet Mark → List Entry
    → Option (Came State Packet Mark)
fold_local machine core came [] = Some came
fold_local machine core came (entry ∷ entries) =
    option_and_then (λ next. fold_local machine core next entries) (comes_at machine (machine.kind entry) core came entry)

-- The same as a relation, with the packets still to come: an entry with its marks, and what is said of the state after it and of the packets
-- that are then still to be taken and to be shipped.
abbrev pub LocalAt : {State Entry Packet Mark : Type 0} → Machine State Entry Packet Mark → Kind → ℕ → State → (ℕ → List Packet) → (ℕ → List Packet)
    → Marked Entry Mark → (State → (ℕ → List Packet) → (ℕ → List Packet) → Type 0) → Type 0
LocalAt {State} {Entry} {Packet} {Mark} machine inner core state received sent entry rest =
    (went : Went State Packet Mark) × (inner_step machine core state entry.0 ≡ Some went) × (went.marks ≡ entry.1) × rest went.state received sent
LocalAt {State} {Entry} {Packet} {Mark} machine (takes origin) core state received sent entry rest =
    (went : Went State Packet Mark) × (packet : Packet) × (packets : List Packet) × (received origin ≡ packet ∷ packets)
    × (take_step machine core state entry.0 packet ≡ Some went) × (went.marks ≡ entry.1) × rest went.state (put received origin packets) sent
LocalAt {State} {Entry} {Packet} {Mark} machine (ships dest) core state received sent entry rest =
    (went : Went State Packet Mark) × (packet : Packet) × (packets : List Packet) × (sent dest ≡ packet ∷ packets)
    × (ship_step machine core state entry.0 ≡ Some (went, packet)) × (went.marks ≡ entry.1) × rest went.state received (put sent dest packets)

-- A core goes from a state through entries with their marks to another state. It takes these packets and ships those.
abbrev pub LocalRun : {State Entry Packet Mark : Type 0} → Machine State Entry Packet Mark → ℕ → State → (ℕ → List Packet) → (ℕ → List Packet)
    → List (Marked Entry Mark) → State → Type 0
LocalRun machine core state received sent [] end = (state ≡ end) × ((k : ℕ) → received k ≡ []) × ((k : ℕ) → sent k ≡ [])
LocalRun machine core state received sent (entry ∷ entries) end =
    LocalAt machine (machine.kind entry.0) core state received sent entry (λ next untaken unshipped. LocalRun machine core next untaken unshipped entries end)
