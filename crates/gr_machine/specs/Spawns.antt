-- Run: a ready task makes a new one, which is counted under its scope, or waits until its core may count there.
use Rattle.std.specs.Prelude.{ℕ, ◌==◌, ◌&&◌, ◌^◌, Bool, true, nat_lt, if◌then◌else◌, List, [], ◌∷◌, ◌++◌, Option, unwrap_or}
use Rattle.gr_lang.specs.declared.action.How.{How}
use Rattle.gr_lang.specs.declared.action.How.TheVariants as how
use Rattle.gr_lang.specs.declared.action.Entry.TheVariants as entry
use Rattle.gr_lang.specs.declared.action.TrapKind.{TrapKind}
use Rattle.gr_lang.specs.declared.action.TrapKind.TheVariants as trap
use Rattle.gr_lang.specs.Effects.{nothing}
use Rattle.gr_lang.specs.Steps.{has_core}
use Rattle.gr_msg.specs.declared.message.ScopeId.{ScopeId}
use Rattle.gr_msg.specs.declared.message.Unit.{Unit as WorkUnit}
use Rattle.gr_msg.specs.declared.message.Unit.TheVariants as unit
use Rattle.gr_msg.specs.declared.message.Msg.TheVariants as msg
use Rattle.gr_event.specs.Scopes.{put_scope}
use Rattle.gr_event.specs.Counts.{active_count, enrolled, enrol_answer}
use Rattle.gr_event.specs.declared.counts.LocalCount.{LocalCount}
use Rattle.gr_event.specs.declared.counts.Enrol.{Enrol}
use Rattle.gr_event.specs.declared.counts.Enrol.TheVariants as enrol
use Rattle.gr_machine.specs.Machines.{Machine, is_core}
use Rattle.gr_machine.specs.declared.waits.Waits.TheVariants as wait
use Rattle.gr_machine.specs.States.{Suspended, Body}
use Rattle.gr_machine.specs.Outcomes.{Outcome, to, marked, quietly, followed}
use Rattle.gr_machine.specs.Slots.{waiting, readied, numbered, dropped, own_id, goes_on, innermost}

-- The task is trapped, and so its core: it waits for nothing.
abbrev pub trapped : Body → ℕ → Suspended → TrapKind → Outcome
trapped body slot task kind = record {
  body = record (waiting body slot task wait.Nothing) { stops = record body.stops { trapped = true } };
  sends = [];
  marks = marked (entry.Trap task.id kind);
}

-- Where the unit of the new task goes

abbrev pub private_last : Body → WorkUnit → Body
private_last body work = record body { work = record body.work { private = body.work.private ++ work ∷ [] } }

abbrev pub private_first : Body → WorkUnit → Body
private_first body work = record body { work = record body.work { private = work ∷ body.work.private } }

abbrev pub public_last : Body → WorkUnit → Body
public_last body work = record body { work = record body.work { public = body.work.public ++ work ∷ [] } }

-- Last among the core's own units, to another core, or last among those that other cores may take.
abbrev pub placed : ℕ → Body → How → WorkUnit → Outcome
placed me body how.Here work = quietly (private_last body work)
placed me body (how.At core) work = if core == me then quietly (private_last body work) else record { body = body; sends = to core (msg.Spawn work); marks = [] }
placed me body how.Offer work = quietly (public_last body work)

-- The unit of the new task. Its end is counted at this core.
abbrev pub new_single : ℕ → Body → Suspended → ℕ → List ℕ → WorkUnit
new_single me body task target args = unit.Single target args (innermost task) me (own_id me body)

-- The unit is made and marked, and the task that made it is ready.
abbrev pub made_in : Machine → ℕ → Body → ℕ → Suspended → Body
made_in machine me body slot task = numbered (readied body slot (goes_on machine task nothing))

abbrev pub planted : Machine → ℕ → Body → ℕ → Suspended → How → ℕ → List ℕ → Outcome
planted machine me body slot task way target args = followed
    (record { body = made_in machine me body slot task; sends = []; marks = marked (entry.Spawn task.id way target args (own_id me body)) })
    (placed me (made_in machine me body slot task) way (new_single me body task target args))

-- Enrolment

abbrev pub with_count : Body → ScopeId → Option LocalCount → Body
with_count body scope count = record body { scopes = record body.scopes { counts = put_scope body.scopes.counts scope count } }

-- The core asks the scope's home whether it may count, and the task waits; or the task waits behind others.
abbrev pub asks_enrolment : Body → ℕ → Suspended → ScopeId → Outcome
asks_enrolment body slot task scope = record { body = waiting body slot task (wait.Enrolment scope); sends = to scope.core (msg.Enrol scope); marks = [] }

abbrev pub waits_enrolment : Body → ℕ → Suspended → ScopeId → Outcome
waits_enrolment body slot task scope = quietly (waiting body slot task (wait.Enrolment scope))

-- The new task is counted and made, or one of the others.
abbrev pub enrolled_as : Machine → ℕ → Body → ℕ → Suspended → How → ℕ → List ℕ → Enrol → Outcome
enrolled_as machine me body slot task way target args enrol.Counted = planted machine me body slot task way target args
enrolled_as machine me body slot task way target args enrol.Ask = asks_enrolment body slot task (innermost task)
enrolled_as machine me body slot task way target args enrol.Waiting = waits_enrolment body slot task (innermost task)

abbrev pub enrols : Machine → ℕ → Body → ℕ → Suspended → How → ℕ → List ℕ → Option LocalCount → Outcome
enrols machine me body slot task way target args count =
    enrolled_as machine me (with_count body (innermost task) (enrolled count slot)) slot task way target args (enrol_answer count)

-- The scope's home is a core, and the count doesn't grow too large.
abbrev pub can_enrol : Machine → ScopeId → Option LocalCount → Bool
can_enrol machine scope count = is_core machine scope.core && nat_lt (unwrap_or (active_count count) 0) (2 ^ 127)

abbrev pub spawns_under : Machine → ℕ → Body → ℕ → Suspended → How → ℕ → List ℕ → Option LocalCount → Outcome
spawns_under machine me body slot task way target args count =
    if can_enrol machine (innermost task) count then enrols machine me body slot task way target args count else dropped body slot

-- A spawn at a core that there isn't is a trap.
abbrev pub spawns : Machine → ℕ → Body → ℕ → Suspended → How → ℕ → List ℕ → Outcome
spawns machine me body slot task way target args =
    if has_core machine.setup.cores way
    then spawns_under machine me body slot task way target args (body.scopes.counts (innermost task))
    else trapped body slot task trap.Core
