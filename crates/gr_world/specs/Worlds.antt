-- The cores of one run, and what is left of them: each is a core of the machine, and each two have a ring each way.
use Rattle.std.specs.Prelude.{◌≡◌, ◌≢◌, ◌<◌, ◌≤◌, ◌++◌, ℕ, List, [], ◌∷◌, length, map, slice_index_or, Some}
use mathlib.Core.List.{IsPrefix}
use Rattle.gr_lang.specs.declared.action.Entry.{Entry}
use Rattle.gr_view.specs.Places.{at_place}
use Rattle.gr_merge.specs.Merges.{merge}
use Rattle.gr_machine.specs.declared.core_end.CoreEnd.{CoreEnd}
use Rattle.gr_machine.specs.Events.{Packet}
use Rattle.gr_machine.specs.GlobalRuns.{Step}
use Rattle.gr_machine.specs.Histories.{history}
use Rattle.gr_machine.specs.LocalRuns.{IsLocalRun, end_in}
use Rattle.gr_machine.specs.Machines.{Machine}
use Rattle.gr_mail.specs.Rings.{AreJoined, HaveMet, SameRings, cores as mail_cores, known_from, received_from}
use Rattle.gr_core.specs.declared.cores.Core.{Core}
use Rattle.gr_core.specs.Cores.{mail_of, run_of}
use Rattle.gr_core.specs.Runs.{end_of}

-- The cores of one run, in their order: one of each number, of this machine, with a ring each way between each two.
pub record AreCores (given : Machine) (cores : List Core) : Type 0 where
  pub len : length cores ≡ given.setup.cores
  pub machine : (core : ℕ) (default : Core) → core < length cores → (run_of (slice_index_or cores core default)).seen.machine ≡ given
  pub number : (core : ℕ) (default : Core) → core < length cores → (run_of (slice_index_or cores core default)).seen.me ≡ core
  pub joined : (one other : ℕ) (default : Core) → one < length cores → other < length cores → one ≢ other
      → AreJoined (mail_of (slice_index_or cores one default)) (mail_of (slice_index_or cores other default))

abbrev pub AreOfOneRun : List Core → Type 0
AreOfOneRun cores = (machine : Machine) × AreCores machine cores

-- No core has made an event.
abbrev pub AreOpened : List Core → Type 0
AreOpened cores = (core : ℕ) (default : Core) → core < length cores → (run_of (slice_index_or cores core default)).journal ≡ []

-- All packets in the rings between each two cores are known, and so is each slot that holds none.
abbrev pub HaveAllMet : List Core → Type 0
HaveAllMet cores = (one other : ℕ) (default : Core) → one < length cores → other < length cores → one ≢ other
    → HaveMet (mail_of (slice_index_or cores one default)) (mail_of (slice_index_or cores other default))

-- All is as before but for what is known of the rings, and no packet that was known is forgotten.
pub record HaveStayed (before after : List Core) : Type 0 where
  pub len : length after ≡ length before
  pub runs : (core : ℕ) (default : Core) → core < length before → run_of (slice_index_or after core default) ≡ run_of (slice_index_or before core default)
  pub rings : (core : ℕ) (default : Core) → core < length before → SameRings (mail_of (slice_index_or before core default)) (mail_of (slice_index_or after core default))
  pub kept : (core other : ℕ) (default : Core) → core < length before
      → IsPrefix (received_from (mail_of (slice_index_or before core default)) other ++ known_from (mail_of (slice_index_or before core default)) other)
      (received_from (mail_of (slice_index_or after core default)) other ++ known_from (mail_of (slice_index_or after core default)) other)

-- The end of a core. What is left from each core are the packets from it that are known and weren't received.
pub record IsEndOf (core : Core) (end : CoreEnd) : Type 0 where
  pub is : end_in end ≡ end_of (run_of core)
  pub left : (other : ℕ) → other < mail_cores (mail_of core) → at_place 0 end.left other ≡ length (known_from (mail_of core) other)

-- The ends of these cores, in their order.
pub record AreEndsOf (cores : List Core) (ends : List CoreEnd) : Type 0 where
  pub len : length ends ≡ length cores
  pub each : (core : ℕ) (default : Core) (none : CoreEnd) → core < length cores → IsEndOf (slice_index_or cores core default) (slice_index_or ends core none)

-- What one core received from another is the front of what that sent to it, and this number of packets comes after it.
abbrev pub IsMatched : List Packet → List Packet → ℕ → Type 0
IsMatched sent received left = (rest : List Packet) × (sent ≡ received ++ rest) × (length rest ≡ left)

-- The ends of one run: each is a local run, and the packets of each two match. No packet goes to a core that there isn't.
pub record AreEnds (machine : Machine) (ends : List CoreEnd) : Type 0 where
  pub len : length ends ≡ machine.setup.cores
  pub number : (core : ℕ) (default : CoreEnd) → core < length ends → (slice_index_or ends core default).core ≡ core
  pub local : (core : ℕ) (default : CoreEnd) → core < length ends → IsLocalRun machine (end_in (slice_index_or ends core default))
  pub matched : (from to : ℕ) (default : CoreEnd) → from < length ends → to < length ends
      → IsMatched ((end_in (slice_index_or ends from default)).sent to) ((end_in (slice_index_or ends to default)).received from)
      (at_place 0 (slice_index_or ends to default).left from)
  pub within : (core other : ℕ) (default : CoreEnd) → core < length ends → length ends ≤ other
      → ((end_in (slice_index_or ends core default)).sent other ≡ []) × ((end_in (slice_index_or ends core default)).received other ≡ [])

-- The slot of main: that of core 0.
abbrev pub slot_of_main : List CoreEnd → ℕ
slot_of_main [] = 0
slot_of_main (end ∷ ends) = end.first

-- The steps of all cores, by clock and then by core.
abbrev pub steps_of : List CoreEnd → List Step
steps_of ends = merge (λ entry. entry.clock) (map (λ end. end.journal) ends)

-- The merge of the journals is a global run, and this is its history.
abbrev pub IsHistoryOf : Machine → List CoreEnd → List Entry → Type 0
IsHistoryOf machine ends entries = history machine (slot_of_main ends) (steps_of ends) ≡ Some entries
