-- Global runs: steps of the cores one after another, with the packets in transit from each core to each.
use Rattle.std.specs.Prelude.{◌≡◌, ℕ, List, [], ◌∷◌, ◌++◌, map, Option, Some}
use Rattle.std.specs.Option.{option_map, option_and_then}
use Rattle.gr_view.specs.Places.{put}
use Rattle.gr_merge.specs.Machines.{Kind, inner, takes, ships, Went, Machine, inner_step, take_step, ship_step, with_first, Marked}

-- The cores' states, the packets in transit by their origin and then by their destination, and the marks with their cores.
pub record World (State Packet Mark : Type 0) : Type 0 where
  pub states : ℕ → State
  pub transit : ℕ → ℕ → List Packet
  pub marks : List (ℕ × Mark)

-- The world at its start: nothing is in transit.
abbrev pub opening : {State Packet Mark : Type 0} → (ℕ → State) → World State Packet Mark
opening states = record { states = states; transit = λ origin dest. []; marks = [] }

-- Marks with their core.
abbrev pub of_core : {Mark : Type 0} → ℕ → List Mark → List (ℕ × Mark)
of_core core = map (λ mark. (core, mark))

-- The function of two numbers with this value there.
abbrev pub put_pair : {X : Type 0} → (ℕ → ℕ → X) → ℕ → ℕ → X → ℕ → ℕ → X
put_pair f one other x = put f one (put (f one) other x)

-- The world after a step of a core, with these packets in transit.
abbrev pub world_with : {State Packet Mark : Type 0} → World State Packet Mark → ℕ → (ℕ → ℕ → List Packet) → Went State Packet Mark
    → World State Packet Mark
world_with world core transit went = record { states = put world.states core went.state; transit = transit; marks = world.marks ++ of_core core went.marks }

-- The world after an entry of this kind at a core.
abbrev pub goes_at : {State Entry Packet Mark : Type 0} → Machine State Entry Packet Mark → Kind → ℕ → World State Packet Mark → Entry
    → Option (World State Packet Mark)
goes_at machine inner core world entry = option_map (world_with world core world.transit) (inner_step machine core (world.states core) entry)
goes_at machine (takes origin) core world entry =
    with_first (world.transit origin core) (λ packet rest.
    option_map (world_with world core (put_pair world.transit origin core rest)) (take_step machine core (world.states core) entry packet))
goes_at machine (ships dest) core world entry =
    option_map (λ sent. world_with world core (put_pair world.transit core dest (world.transit core dest ++ sent.1 ∷ [])) sent.0)
    (ship_step machine core (world.states core) entry)

-- The world after steps, each a core and its entry, as a fold over them.
abbrev pub fold_global : {State Entry Packet Mark : Type 0} → Machine State Entry Packet Mark → World State Packet Mark → List (ℕ × Entry)
    → Option (World State Packet Mark)
fold_global machine world [] = Some world
fold_global machine world (step ∷ steps) =
    option_and_then (λ next. fold_global machine next steps) (goes_at machine (machine.kind step.1) step.0 world step.1)

-- The same as a relation: an entry with its marks, and what is said of the states and of the packets in transit after it.
abbrev pub GlobalAt : {State Entry Packet Mark : Type 0} → Machine State Entry Packet Mark → Kind → ℕ → (ℕ → State) → (ℕ → ℕ → List Packet)
    → Marked Entry Mark → ((ℕ → State) → (ℕ → ℕ → List Packet) → Type 0) → Type 0
GlobalAt {State} {Entry} {Packet} {Mark} machine inner core states transit entry rest =
    (went : Went State Packet Mark) × (inner_step machine core (states core) entry.0 ≡ Some went) × (went.marks ≡ entry.1)
    × rest (put states core went.state) transit
GlobalAt {State} {Entry} {Packet} {Mark} machine (takes origin) core states transit entry rest =
    (went : Went State Packet Mark) × (packet : Packet) × (packets : List Packet) × (transit origin core ≡ packet ∷ packets)
    × (take_step machine core (states core) entry.0 packet ≡ Some went) × (went.marks ≡ entry.1)
    × rest (put states core went.state) (put_pair transit origin core packets)
GlobalAt {State} {Entry} {Packet} {Mark} machine (ships dest) core states transit entry rest =
    (went : Went State Packet Mark) × (packet : Packet) × (ship_step machine core (states core) entry.0 ≡ Some (went, packet)) × (went.marks
    ≡ entry.1)
    × rest (put states core went.state) (put_pair transit core dest (transit core dest ++ packet ∷ []))

-- Steps, each a core and its entry with its marks, lead from states and packets in transit to others.
abbrev pub GlobalRun : {State Entry Packet Mark : Type 0} → Machine State Entry Packet Mark → (ℕ → State) → (ℕ → ℕ → List Packet)
    → List (ℕ × Marked Entry Mark) → (ℕ → State) → (ℕ → ℕ → List Packet) → Type 0
GlobalRun machine states transit [] ends left = ((k : ℕ) → states k ≡ ends k) × ((origin dest : ℕ) → transit origin dest ≡ left origin dest)
GlobalRun machine states transit (step ∷ steps) ends left =
    GlobalAt machine (machine.kind step.1.0) step.0 states transit step.1 (λ after moved. GlobalRun machine after moved steps ends left)

-- The steps without their marks.
abbrev pub steps_in : {Entry Mark : Type 0} → List (ℕ × Marked Entry Mark) → List (ℕ × Entry)
steps_in [] = []
steps_in (step ∷ steps) = (step.0, step.1.0) ∷ steps_in steps

-- The marks of steps, one after another, each with its core.
abbrev pub all_marks : {Entry Mark : Type 0} → List (ℕ × Marked Entry Mark) → List (ℕ × Mark)
all_marks [] = []
all_marks (step ∷ steps) = of_core step.0 step.1.1 ++ all_marks steps
