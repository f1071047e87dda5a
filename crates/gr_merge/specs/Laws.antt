-- The laws of merges, of local runs and of global runs.
use Rattle.std.specs.Prelude.{◌≡◌, ℕ, ◌<◌, All, List, [], ◌∷◌, ◌++◌, length, slice_index_or, Option, Some, None}
use Rattle.std.specs.Option.{option_and_then}
use Rattle.std.specs.List.Sorted.{IsNonDecreasingBy, IsSortedBy}
use Rattle.gr_merge.specs.Machines.{inner, takes, ships, Went, Machine, inner_step, take_step, ship_step, with_last, Marked, entries_in, marks_in}
use Rattle.gr_merge.specs.LocalRuns.{Came, starts, ended, fold_local, LocalRun}
use Rattle.gr_merge.specs.GlobalRuns.{World, opening, fold_global, GlobalRun, steps_in, all_marks}
use Rattle.gr_merge.specs.Merges.{goes_first, merge, at_core}

-- Merges.

-- What the merge has of each core is its list.
abbrev pub MergesKeepLists : Type 0 → Type 0
MergesKeepLists X = (clock : X → ℕ) (lists : List (List X)) (core : ℕ) → at_core core (merge clock lists) ≡ slice_index_or lists core []

-- The merge is of the cores that have a list.
abbrev pub MergesAreOfCores : Type 0 → Type 0
MergesAreOfCores X = (clock : X → ℕ) (lists : List (List X)) → All (λ step. step.0 < length lists) (merge clock lists)

-- Where the clocks of no list fall, none of the merge stands before the one before it, by clock and then by core.
abbrev pub MergesAreSorted : Type 0 → Type 0
MergesAreSorted X = (clock : X → ℕ) (lists : List (List X)) → ((core : ℕ) → IsNonDecreasingBy clock (slice_index_or lists core []))
    → IsSortedBy (goes_first clock) (merge clock lists)

-- Where the clocks of no list fall, those of the merge don't.
abbrev pub MergesRise : Type 0 → Type 0
MergesRise X = (clock : X → ℕ) (lists : List (List X)) → ((core : ℕ) → IsNonDecreasingBy clock (slice_index_or lists core []))
    → IsNonDecreasingBy (λ step. clock step.1) (merge clock lists)

-- Folds and relations.

-- A fold that takes all its packets is a local run, in which each entry has the marks that it makes.
abbrev pub FoldsAreLocalRuns : (State Entry Packet Mark : Type 0) → Type 0
FoldsAreLocalRuns State Entry Packet Mark =
    (machine : Machine State Entry Packet Mark) (core : ℕ) (start end : State) (received sent : ℕ → List Packet) (journal : List Entry)
    (marks : List Mark)
    → fold_local machine core (starts start received) journal ≡ Some (ended end sent marks)
    → (entries : List (Marked Entry Mark)) × (entries_in entries ≡ journal) × (marks_in entries ≡ marks)
    × LocalRun machine core start received sent entries end

-- A local run is a fold that takes all its packets.
abbrev pub LocalRunsAreFolds : (State Entry Packet Mark : Type 0) → Type 0
LocalRunsAreFolds State Entry Packet Mark =
    (machine : Machine State Entry Packet Mark) (core : ℕ) (start end : State) (received sent : ℕ → List Packet) (entries : List (Marked Entry Mark))
    → LocalRun machine core start received sent entries end
    → fold_local machine core (starts start received) (entries_in entries) ≡ Some (ended end sent (marks_in entries))

-- A fold over steps is a global run, in which each entry has the marks that it makes.
abbrev pub FoldsAreGlobalRuns : (State Entry Packet Mark : Type 0) → Type 0
FoldsAreGlobalRuns State Entry Packet Mark =
    (machine : Machine State Entry Packet Mark) (states : ℕ → State) (steps : List (ℕ × Entry)) (end : World State Packet Mark)
    → fold_global machine (opening states) steps ≡ Some end
    → (entries : List (ℕ × Marked Entry Mark)) × (steps_in entries ≡ steps) × (all_marks entries ≡ end.marks)
    × GlobalRun machine states (λ origin dest. []) entries end.states end.transit

-- A global run is a fold over its steps.
abbrev pub GlobalRunsAreFolds : (State Entry Packet Mark : Type 0) → Type 0
GlobalRunsAreFolds State Entry Packet Mark =
    (machine : Machine State Entry Packet Mark) (states ends : ℕ → State) (left : ℕ → ℕ → List Packet) (entries : List (ℕ × Marked Entry Mark))
    → GlobalRun machine states (λ origin dest. []) entries ends left
    → fold_global machine (opening states) (steps_in entries) ≡ Some (record { states = ends; transit = left; marks = all_marks entries })

-- A fold over entries goes on over more.
abbrev pub LocalFoldsGoOn : (State Entry Packet Mark : Type 0) → Type 0
LocalFoldsGoOn State Entry Packet Mark =
    (machine : Machine State Entry Packet Mark) (core : ℕ) (came : Came State Packet Mark) (entries more : List Entry)
    → fold_local machine core came (entries ++ more)
    ≡ option_and_then (λ next. fold_local machine core next more) (fold_local machine core came entries)

-- A fold over steps goes on over more.
abbrev pub GlobalFoldsGoOn : (State Entry Packet Mark : Type 0) → Type 0
GlobalFoldsGoOn State Entry Packet Mark =
    (machine : Machine State Entry Packet Mark) (world : World State Packet Mark) (steps more : List (ℕ × Entry))
    → fold_global machine world (steps ++ more) ≡ option_and_then (λ next. fold_global machine next more) (fold_global machine world steps)

-- One local run after another.

-- The packets of two runs, those of the first before those of the second.
abbrev pub joined : {Packet : Type 0} → (ℕ → List Packet) → (ℕ → List Packet) → ℕ → List Packet
joined first second core = first core ++ second core

-- Two local runs, where the second begins with the state to which the first led, are one.
abbrev pub LocalRunsJoin : (State Entry Packet Mark : Type 0) → Type 0
LocalRunsJoin State Entry Packet Mark =
    (machine : Machine State Entry Packet Mark) (core : ℕ) (start middle end : State) (received sent later_received later_sent : ℕ → List Packet)
    (journal later : List Entry) (marks later_marks : List Mark)
    → fold_local machine core (starts start received) journal ≡ Some (ended middle sent marks)
    → fold_local machine core (starts middle later_received) later ≡ Some (ended end later_sent later_marks)
    → fold_local machine core (starts start (joined received later_received)) (journal ++ later)
    ≡ Some (ended end (joined sent later_sent) (marks ++ later_marks))

-- A local run goes on by an inner entry.
abbrev pub InnerEntriesGoOn : (State Entry Packet Mark : Type 0) → Type 0
InnerEntriesGoOn State Entry Packet Mark =
    (machine : Machine State Entry Packet Mark) (core : ℕ) (start state : State) (received sent : ℕ → List Packet)
    (journal : List Entry) (marks : List Mark) (entry : Entry) (went : Went State Packet Mark)
    → fold_local machine core (starts start received) journal ≡ Some (ended state sent marks)
    → machine.kind entry ≡ inner → inner_step machine core state entry ≡ Some went
    → fold_local machine core (starts start received) (journal ++ entry ∷ []) ≡ Some (ended went.state sent (marks ++ went.marks))

-- It goes on by an entry that takes a packet: the last that was received from its origin.
abbrev pub TakesGoOn : (State Entry Packet Mark : Type 0) → Type 0
TakesGoOn State Entry Packet Mark =
    (machine : Machine State Entry Packet Mark) (core : ℕ) (start state : State) (received sent : ℕ → List Packet)
    (journal : List Entry) (marks : List Mark) (entry : Entry) (origin : ℕ) (packet : Packet) (went : Went State Packet Mark)
    → fold_local machine core (starts start received) journal ≡ Some (ended state sent marks)
    → machine.kind entry ≡ takes origin → take_step machine core state entry packet ≡ Some went
    → fold_local machine core (starts start (with_last received origin packet)) (journal ++ entry ∷ [])
    ≡ Some (ended went.state sent (marks ++ went.marks))

-- It goes on by an entry that ships a packet: the last that was sent to its destination.
abbrev pub ShipsGoOn : (State Entry Packet Mark : Type 0) → Type 0
ShipsGoOn State Entry Packet Mark =
    (machine : Machine State Entry Packet Mark) (core : ℕ) (start state : State) (received sent : ℕ → List Packet)
    (journal : List Entry) (marks : List Mark) (entry : Entry) (dest : ℕ) (packet : Packet) (went : Went State Packet Mark)
    → fold_local machine core (starts start received) journal ≡ Some (ended state sent marks)
    → machine.kind entry ≡ ships dest → ship_step machine core state entry ≡ Some (went, packet)
    → fold_local machine core (starts start received) (journal ++ entry ∷ [])
    ≡ Some (ended went.state (with_last sent dest packet) (marks ++ went.marks))

-- The merge of local runs.

-- Each entry raises the core's clock to its own. A packet that it takes is stamped below that; a packet that it ships is stamped with it, and so are its marks.
pub record IsClocked {State Entry Packet Mark : Type 0} (machine : Machine State Entry Packet Mark) (time : State → ℕ) (noted : Mark
    → ℕ) : Type 0 where
  pub ticks : (core : ℕ) (state : State) (entry : Entry) (taken : Option Packet) (went : Went State Packet Mark)
      → machine.step core state entry taken ≡ Some went
      → (time state < machine.clock entry) × (time went.state ≡ machine.clock entry)
  pub takes_before : (core : ℕ) (state : State) (entry : Entry) (origin : ℕ) (packet : Packet) (went : Went State Packet Mark)
      → machine.kind entry ≡ takes origin
      → machine.step core state entry (Some packet) ≡ Some went → machine.stamp packet < machine.clock entry
  pub ships_then : (core : ℕ) (state : State) (entry : Entry) (dest : ℕ) (packet : Packet) (went : Went State Packet Mark)
      → machine.kind entry ≡ ships dest
      → machine.step core state entry None ≡ Some went → went.packet ≡ Some packet → machine.stamp packet ≡ machine.clock entry
  pub marks_then : (core : ℕ) (state : State) (entry : Entry) (taken : Option Packet) (went : Went State Packet Mark)
      → machine.step core state entry taken ≡ Some went
      → All (λ mark. noted mark ≡ machine.clock entry) went.marks

-- For each ordered pair of cores what was received is a prefix of what was sent, with this left.
abbrev pub IsMatched : {Packet : Type 0} → (ℕ → ℕ → List Packet) → (ℕ → ℕ → List Packet) → (ℕ → ℕ → List Packet) → Type 0
IsMatched sent received left = (origin dest : ℕ) → sent origin dest ≡ received dest origin ++ left origin dest

-- Local runs whose packets match are one global run, in any order of their entries in which each core's are in their order and no clock falls.
abbrev pub OrdersAreGlobalRuns : (State Entry Packet Mark : Type 0) → Type 0
OrdersAreGlobalRuns State Entry Packet Mark =
    (machine : Machine State Entry Packet Mark) (time : State → ℕ) (noted : Mark → ℕ) → IsClocked machine time noted
    → (steps : List (ℕ × Marked Entry Mark)) (states ends : ℕ → State) (received sent left : ℕ → ℕ → List Packet)
    → IsNonDecreasingBy (λ step. machine.clock step.1.0) steps
    → ((core : ℕ) → LocalRun machine core (states core) (received core) (sent core) (at_core core steps) (ends core))
    → IsMatched sent received left → GlobalRun machine states (λ origin dest. []) steps ends left

-- The merge of the journals of local runs whose packets match is a global run from their starts to their ends, with what is left in transit,
-- and its marks are the merge of their marks.
abbrev pub MergesAreGlobalRuns : (State Entry Packet Mark : Type 0) → Type 0
MergesAreGlobalRuns State Entry Packet Mark =
    (machine : Machine State Entry Packet Mark) (time : State → ℕ) (noted : Mark → ℕ) → IsClocked machine time noted
    → (journals : List (List Entry)) (marks : List (List Mark)) (states ends : ℕ → State) (received sent left : ℕ → ℕ → List Packet)
    → length marks ≡ length journals
    → ((core : ℕ) → fold_local machine core (starts (states core) (received core)) (slice_index_or journals core [])
    ≡ Some (ended (ends core) (sent core) (slice_index_or marks core [])))
    → IsMatched sent received left
    → fold_global machine (opening states) (merge machine.clock journals) ≡ Some (record { states = ends; transit = left; marks = merge noted marks })
