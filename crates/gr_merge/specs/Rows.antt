-- Worked rows of merges, and of a machine of two cores with a packet each way.
use Rattle.std.specs.Prelude.{◌≡◌, ℕ, ◌+◌, max, ◌==◌, if◌then◌else◌, List, [], ◌∷◌, Option, Some, None}
use Rattle.std.specs.Option.{option_map}
use Rattle.gr_merge.specs.Machines.{Kind, inner, takes, ships, Went, Machine}
use Rattle.gr_merge.specs.LocalRuns.{Came, starts, fold_local}
use Rattle.gr_merge.specs.GlobalRuns.{World, opening, fold_global}
use Rattle.gr_merge.specs.Merges.{merge, at_core}
use Rattle.gr_merge.specs.Laws.{IsClocked}

-- Merges of numbers that are their own clocks.

abbrev pub merged : List (List ℕ) → List (ℕ × ℕ)
merged = merge (λ clock. clock)

-- At equal clocks the core decides, whatever came before.
abbrev pub TwoLists : Type 0
TwoLists = merged ((2 ∷ 5 ∷ []) ∷ (2 ∷ 3 ∷ 5 ∷ []) ∷ []) ≡ (0, 2) ∷ (1, 2) ∷ (1, 3) ∷ (0, 5) ∷ (1, 5) ∷ []

abbrev pub three : List (ℕ × ℕ)
three = merged ((1 ∷ 4 ∷ []) ∷ (4 ∷ []) ∷ (1 ∷ 2 ∷ 4 ∷ []) ∷ [])

abbrev pub ThreeLists : Type 0
ThreeLists = three ≡ (0, 1) ∷ (2, 1) ∷ (2, 2) ∷ (0, 4) ∷ (1, 4) ∷ (2, 4) ∷ []

-- What the merge of three has of the last.
abbrev pub LastOfThree : Type 0
LastOfThree = at_core 2 three ≡ 1 ∷ 2 ∷ 4 ∷ []

-- Equal clocks of one core stay in their order, and an empty list has nothing.
abbrev pub EqualInOneList : Type 0
EqualInOneList =
    merge (λ (x : ℕ × ℕ). x.0) (((3, 9) ∷ (3, 8) ∷ []) ∷ [] ∷ ((3, 7) ∷ []) ∷ []) ≡ (0, (3, 9)) ∷ (0, (3, 8)) ∷ (2, (3, 7)) ∷ []

-- A machine of totals. An entry adds a number to the core's total and marks it, ships the total where that is above 0, or adds a total that was shipped.

pub data Act : Type 0 where
  add : (number : ℕ) → Act
  gather : (origin : ℕ) → Act
  tell : (dest : ℕ) → Act

pub record Entry : Type 0 where
  pub clock : ℕ
  pub act : Act

-- A core's state, a packet and a mark are a clock and a total.
pub record Total : Type 0 where
  pub clock : ℕ
  pub total : ℕ

abbrev pub kind_of : Act → Kind
kind_of (add number) = inner
kind_of (gather origin) = takes origin
kind_of (tell dest) = ships dest

abbrev pub told : Total → Option (Went Total Total Total)
told after = if after.total == 0 then None else Some (record { state = after; packet = Some after; marks = [] })

abbrev pub acts : Total → Act → Option Total → Option (Went Total Total Total)
acts state (add number) None =
    let after : Total = record { clock = state.clock + 1; total = state.total + number } in
    Some (record { state = after; packet = None; marks = after ∷ [] })
acts state (gather origin) (Some packet) =
    let after : Total = record { clock = max state.clock packet.clock + 1; total = state.total + packet.total } in
    Some (record { state = after; packet = None; marks = [] })
acts state (tell dest) None = told (record { clock = state.clock + 1; total = state.total })
acts state act taken = None

-- An entry's clock is the core's after it.
abbrev pub at_clock : ℕ → Option (Went Total Total Total) → Option (Went Total Total Total)
at_clock clock None = None
at_clock clock (Some went) = if went.state.clock == clock then Some went else None

abbrev pub totals : Machine Total Entry Total Total
totals = record {
  kind = λ x. kind_of x.act;
  clock = λ x. x.clock;
  stamp = λ packet. packet.clock;
  step = λ core state x taken. at_clock x.clock (acts state x.act taken);
}

abbrev pub entry : ℕ → Act → Entry
entry clock act = record { clock = clock; act = act }

abbrev pub total : ℕ → ℕ → Total
total clock sum = record { clock = clock; total = sum }

-- Each core adds a number. Core 0 tells its total to core 1, which adds it and tells its own; core 0 adds that and tells its total once more.

abbrev pub first_journal : List Entry
first_journal = entry 1 (add 5) ∷ entry 2 (tell 1) ∷ entry 5 (gather 1) ∷ entry 6 (tell 1) ∷ []

abbrev pub second_journal : List Entry
second_journal = entry 1 (add 2) ∷ entry 3 (gather 0) ∷ entry 4 (tell 0) ∷ entry 5 (add 1) ∷ []

-- These packets from each core.
abbrev pub received : List Total → ℕ → List Total
received packets origin = packets

-- Of a core its state, what it has yet to take from and what it has shipped to another core, and its marks.
abbrev pub seen : ℕ → Option (Came Total Total Total) → Option (Total × List Total × List Total × List Total)
seen other = option_map (λ came. (came.state, came.untaken other, came.shipped other, came.marks))

abbrev pub FirstRuns : Type 0
FirstRuns = seen 1 (fold_local totals 0 (starts (total 0 0) (received (total 4 7 ∷ []))) first_journal)
    ≡ Some (total 6 12, [], total 2 5 ∷ total 6 12 ∷ [], total 1 5 ∷ [])

abbrev pub SecondRuns : Type 0
SecondRuns = seen 0 (fold_local totals 1 (starts (total 0 0) (received (total 2 5 ∷ []))) second_journal)
    ≡ Some (total 5 8, [], total 4 7 ∷ [], total 1 2 ∷ total 5 8 ∷ [])

abbrev pub steps : List (ℕ × Entry)
steps = (0, entry 1 (add 5)) ∷ (1, entry 1 (add 2)) ∷ (0, entry 2 (tell 1)) ∷ (1, entry 3 (gather 0)) ∷ (1, entry 4 (tell 0))
    ∷ (0, entry 5 (gather 1)) ∷ (1, entry 5 (add 1)) ∷ (0, entry 6 (tell 1)) ∷ []

abbrev pub JournalsMerge : Type 0
JournalsMerge = merge totals.clock (first_journal ∷ second_journal ∷ []) ≡ steps

abbrev pub ran : List (ℕ × Entry) → Option (World Total Total Total)
ran = fold_global totals (opening (λ core. total 0 0))

-- Of a world the states of both cores, the packets in transit to core 1 and to core 0, and the marks.
abbrev pub known : Option (World Total Total Total) → Option (Total × Total × List Total × List Total × List (ℕ × Total))
known = option_map (λ world. (world.states 0, world.states 1, world.transit 0 1, world.transit 1 0, world.marks))

-- The merge runs, and what core 0 told last is left in transit.
abbrev pub StepsRun : Type 0
StepsRun = known (ran steps) ≡ Some (total 6 12, total 5 8, total 6 12 ∷ [], [], (0, total 1 5) ∷ (1, total 1 2) ∷ (1, total 5 8) ∷ [])

abbrev pub MarksMerge : Type 0
MarksMerge =
    merge (λ (mark : Total). mark.clock) ((total 1 5 ∷ []) ∷ (total 1 2 ∷ total 5 8 ∷ []) ∷ []) ≡ (0, total 1 5) ∷ (1, total 1 2) ∷ (1, total 5 8) ∷ []

-- Nothing comes of a total of 0 that is told, of another clock, or of a packet that isn't there.
abbrev pub NoneTold : Type 0
NoneTold = seen 1 (fold_local totals 0 (starts (total 0 0) (received [])) (entry 1 (tell 1) ∷ [])) ≡ None

abbrev pub NoneAtOtherClock : Type 0
NoneAtOtherClock = seen 1 (fold_local totals 0 (starts (total 0 0) (received [])) (entry 2 (add 5) ∷ [])) ≡ None

abbrev pub NoneReceived : Type 0
NoneReceived = seen 0 (fold_local totals 1 (starts (total 0 0) (received [])) second_journal) ≡ None

abbrev pub NoneInTransit : Type 0
NoneInTransit = known (ran ((0, entry 1 (add 5)) ∷ (1, entry 1 (add 2)) ∷ (1, entry 3 (gather 0)) ∷ [])) ≡ None

-- The laws speak of this machine.
abbrev pub TotalsAreClocked : Type 0
TotalsAreClocked = IsClocked totals (λ state. state.clock) (λ mark. mark.clock)
