-- What a core is loaded with after an event, where a load is any fact of a core and a number: outcome by outcome.
use Rattle.std.proofs.Common.{◌≡◌, ℕ, ◌+◌, List, [], ◌∷◌, refl}
use Rattle.std.specs.Prelude.{Bool, true, false, if◌then◌else◌, Option, Some, None}
use Rattle.gr_msg.specs.declared.message.Msg.{Msg}
use Rattle.gr_msg.specs.declared.message.Unit.{Unit as WorkUnit}
use Rattle.gr_machine.specs.declared.event.Event.{Event}
use Rattle.gr_machine.specs.declared.event.Event.TheVariants as event
use Rattle.gr_machine.specs.Machines.{Machine}
use Rattle.gr_machine.specs.States.{Letter, Suspended, Core}
use Rattle.gr_machine.specs.Outcomes.{acted}
use Rattle.gr_machine.specs.Runs.{acts, without_ready, run_slot, run_unit, first_unit, without_unit, is_sound, taken_up}
use Rattle.gr_machine.specs.Closes.{closes}
use Rattle.gr_machine.specs.Serves.{serves, settles}
use Rattle.gr_machine.specs.Events.{with_body, gives, asks, ran_first, served_first, happens}

-- Events in which a core acts, and ships and takes nothing.
abbrev pub IsInner : Event → Type 0
IsInner (event.Ship dest) = ⊥
IsInner (event.Take from) = ⊥
IsInner _ = Unit

-- What each outcome at a core makes of the load with which the event began: the first by one more at most, and those after it by nothing.
pub record Loads (machine : Machine) (me : ℕ) (Loaded : Core → ℕ → Type 0) (start : Core) (load : ℕ) : Type 0 where
  pub nothing : Loaded start (load + 1)
  pub run : (slot : ℕ) (task : Suspended) → start.body.tasks.slots slot ≡ Some task
      → Loaded (acted me (with_body start (without_ready start.body)) (Some (acts machine me (without_ready start.body) slot task task.action))) (load + 1)
  pub run_nothing : Loaded (with_body start (without_ready start.body)) (load + 1)
  pub unit : (slot : ℕ) (work : WorkUnit) → first_unit start.body ≡ Some work
      → Loaded (acted me (with_body start (without_unit start.body)) (Some (taken_up machine me (without_unit start.body) slot work))) (load + 1)
  pub unit_nothing : Loaded (with_body start (without_unit start.body)) (load + 1)
  pub serve : (letter : Letter) (letters : List Letter) → start.inbox ≡ letter ∷ letters
      → Loaded (acted me (record start { inbox = letters }) (serves machine me start.body letter.from letter.message)) (load + 1)
  pub close : (object : ℕ) → Loaded (acted me start (Some (closes machine start.body object))) (load + 1)
  pub steal : (victim : ℕ) → Loaded (acted me start (Some (asks victim start.body))) (load + 1)
  pub settle : (core : Core) (x : ℕ) (message : Msg) → Loaded core x → Loaded (acted me core (settles machine core.body message)) x
  pub give : (core : Core) (x : ℕ) → Loaded core x → Loaded (acted me core (Some (gives core.body))) x

module _ (machine : Machine) (me : ℕ) (Loaded : Core → ℕ → Type 0) (start : Core) (load : ℕ) (loads : Loads machine me Loaded start load) where
  slot_loaded : (slot : ℕ) (held : Option Suspended) → start.body.tasks.slots slot ≡ held
      → Loaded (acted me (with_body start (without_ready start.body)) (run_slot machine me (without_ready start.body) slot held)) (load + 1)
  slot_loaded slot None e = loads.run_nothing
  slot_loaded slot (Some task) e = loads.run slot task e

  sound_loaded : (slot : ℕ) (work : WorkUnit) (sound : Bool) → first_unit start.body ≡ Some work
      → Loaded (acted me (with_body start (without_unit start.body)) (if sound then Some (taken_up machine me (without_unit start.body) slot work) else None)) (load + 1)
  sound_loaded slot work true e = loads.unit slot work e
  sound_loaded slot work false e = loads.unit_nothing

  unit_loaded : (slot : ℕ) (work : Option WorkUnit) → first_unit start.body ≡ work
      → Loaded (acted me (with_body start (without_unit start.body)) (run_unit machine me (without_unit start.body) slot work)) (load + 1)
  unit_loaded slot None e = loads.unit_nothing
  unit_loaded slot (Some work) e = sound_loaded slot work (is_sound machine work) e

  ran_loaded : (slot : ℕ) (ready : List ℕ) → Loaded (ran_first machine me start slot ready).core (load + 1)
  ran_loaded slot [] = unit_loaded slot (first_unit start.body) refl
  ran_loaded slot (ready ∷ more) = slot_loaded ready (start.body.tasks.slots ready) refl

  served_loaded : (letters : List Letter) → start.inbox ≡ letters → Loaded (served_first machine me start letters).core (load + 1)
  served_loaded [] e = loads.nothing
  served_loaded (letter ∷ letters) e = loads.settle _ (load + 1) letter.message (loads.serve letter letters e)

  pub happens_loaded : (slot : ℕ) (what : Event) → IsInner what → Loaded (happens machine me start slot what).core (load + 1)
  happens_loaded slot event.Serve i = loads.give _ (load + 1) (served_loaded start.inbox refl)
  happens_loaded slot event.Run i = loads.give _ (load + 1) (ran_loaded slot start.body.tasks.ready)
  happens_loaded slot (event.Close object) i = loads.close object
  happens_loaded slot (event.Steal victim) i = loads.steal victim
  happens_loaded slot (event.Ship dest) i = absurd i
  happens_loaded slot (event.Take from) i = absurd i
