-- The next unit is taken up, whichever it is.
use Rattle.std.proofs.Common.{◌≡◌, ℕ, ◌-◌, ◌<◌, Bool, true, false, nat_lt, if◌then◌else◌, List, [], ◌∷◌, sym, ◌∙◌, ap, subst, refl, Option, Some, None}
use Rattle.gr_lang.specs.States.{State}
use Rattle.gr_msg.specs.declared.message.Unit.{Unit as WorkUnit}
use Rattle.gr_msg.specs.declared.message.Unit.TheVariants as unit
use Rattle.gr_machine.specs.Machines.{Machine}
use Rattle.gr_machine.specs.States.{Body}
use Rattle.gr_machine.specs.Outcomes.{Outcome}
use Rattle.gr_machine.specs.Runs.{first_unit, without_unit, is_sound, splits, begins, taken_up, run_unit}
use Rattle.gr_stands.specs.Worlds.{Given, machine_in, World, bodies}
use Rattle.gr_stands_calls.specs.Acting.{ActsQuietly}
use Rattle.gr_stands_chains.specs.Chains.{ActsWithEntries}
use Rattle.gr_stands_chains.proofs.Follows.{quiet_outcomes_act, entries_act}
use Rattle.gr_stands_births.proofs.Started.{singles_start}
use Rattle.gr_stands_changes.proofs.Units.{chunks_are_split}
use Rattle.gr_stands_units.specs.Indices.{UnitTells}
use Rattle.gr_stands_units.specs.Laws as laws
use Rattle.gr_stands_units.proofs.Begins.{indices_begin}

same_some : (x y : Outcome) → Some x ≡ Some y → x ≡ y
same_some x y e = cc

if_made : (b : Bool) (x y : Outcome) → (if b then Some x else None) ≡ Some y → x ≡ y
if_made true x y e = same_some x y e
if_made false x y e = absurd (cc)

pub units_are_taken_up : laws.UnitsAreTakenUp
units_are_taken_up given w S me slot (unit.Single target args scope origin id) e st here ready is free low tells made =
    let row = singles_start given w S me slot target args scope origin id st here ready is free low in
    subst (ActsWithEntries given w S me []) made
    (quiet_outcomes_act given w S me [] (run_unit (machine_in given) me (without_unit (bodies w me)) slot (first_unit (bodies w me))) row)
units_are_taken_up given w S me slot (unit.Chunk target args scope origin owner lo hi grain) e st here ready is free low tells made =
    subst Made so (by (nat_lt grain (hi - lo)))
  where
    Made : Outcome → Type 0
    Made x = ActsWithEntries given w S me [] (Some x)

    work : WorkUnit
    work = unit.Chunk target args scope origin owner lo hi grain

    body : Body
    body = without_unit (bodies w me)

    so : taken_up (machine_in given) me body slot work ≡ e
    so = if_made (is_sound (machine_in given) work) (taken_up (machine_in given) me body slot work) e (sym (ap (run_unit (machine_in given) me body slot) is) ∙ made)

    by : (b : Bool) → Made (if b then splits body work else begins (machine_in given) me body slot target args scope origin owner lo hi grain)
    by true = quiet_outcomes_act given w S me [] (Some (splits body work)) (chunks_are_split given w S me target args scope origin owner lo hi grain st here is)
    by false = entries_act given w S me [] (Some (begins (machine_in given) me body slot target args scope origin owner lo hi grain))
        (indices_begin given w S me slot target args scope origin owner lo hi grain st here is free low tells.0 tells.1)
