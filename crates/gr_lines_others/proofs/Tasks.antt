-- Run leaves lines.
use Rattle.std.proofs.Common.{◌≡◌, ℕ, suc, zero, ◌+◌, ◌-◌, ◌==◌, Bool, true, false, nat_lt, if◌then◌else◌, List, [], ◌∷◌, drop, arith, sym, ap, subst, refl, Option, Some, None}
use Rattle.gr_syntax.specs.declared.limits.TheConstants.{HEAP}
use Rattle.std.proofs.lemmas.Bool.Decides.{nat_tests}
use Rattle.gr_lang.specs.declared.action.Action.{Action}
use Rattle.gr_lang.specs.declared.action.Action.TheVariants as action
use Rattle.gr_lang.specs.declared.action.How.{How}
use Rattle.gr_lang.specs.declared.action.How.TheVariants as how
use Rattle.gr_lang.specs.declared.action.Op.{Op}
use Rattle.gr_lang.specs.declared.action.Op.TheVariants as op
use Rattle.gr_lang.specs.Effects.{nothing}
use Rattle.gr_lang.specs.Objects.{Object, array, keys, pairs, line, address, address_in, heap_address}
use Rattle.gr_lang.specs.Steps.{has_core}
use Rattle.gr_lang.specs.declared.action.TrapKind.{TrapKind}
use Rattle.gr_lang.specs.declared.action.TrapKind.TheVariants as trap
use Rattle.gr_lang.specs.declared.action.TaskId.{TaskId}
use Rattle.gr_view.specs.Places.{put}
use Rattle.gr_msg.specs.declared.message.ScopeId.{ScopeId}
use Rattle.gr_msg.specs.declared.message.Unit.{Unit as WorkUnit}
use Rattle.gr_msg.specs.declared.message.Unit.TheVariants as unit
use Rattle.gr_event.specs.Counts.{enrolled, enrol_answer, left_of}
use Rattle.gr_event.specs.Masters.{released, release_of}
use Rattle.gr_event.specs.declared.counts.Enrol.{Enrol}
use Rattle.gr_event.specs.declared.counts.Enrol.TheVariants as enrol
use Rattle.gr_event.specs.declared.counts.LocalLeft.{LocalLeft}
use Rattle.gr_event.specs.declared.counts.LocalLeft.TheVariants as rest
use Rattle.gr_event.specs.declared.masters.Release.{Release}
use Rattle.gr_event.specs.declared.masters.Release.TheVariants as release
use Rattle.gr_vector.specs.Groups.{vector_of}
use Rattle.gr_machine.specs.declared.waits.Waits.TheVariants as wait
use Rattle.gr_machine.specs.Machines.{Machine, thing, is_core}
use Rattle.gr_machine.specs.States.{Suspended, Body}
use Rattle.gr_machine.specs.Openings.{is_vector, new_task}
use Rattle.gr_machine.specs.Outcomes.{Outcome, quietly, to}
use Rattle.gr_msg.specs.declared.message.Msg.TheVariants as msg
use Rattle.gr_machine.specs.Slots.{dropped, readied, numbered, goes_on, innermost, own_id}
use Rattle.gr_machine.specs.Calls.{is_reducer, is_keyed, word_asked, key_joins, reduce_joins, joins, called}
use Rattle.gr_machine.specs.Spawns.{private_last, private_first, trapped, placed, new_single, made_in, planted, with_count, asks_enrolment, waits_enrolment, enrolled_as, enrols, can_enrol, spawns_under, spawns}
use Rattle.gr_machine.specs.ScopeRuns.{own_scope, is_new_scope, finishes_in, finishes, loops_in, loops_over_nothing, loops_over, loops, passes, can_arrive, arrived, with_leave, arrives_early, arrives_last, arrives_with, arrives, ends_at, ends}
use Rattle.gr_machine.specs.Runs.{acts, starts, with_rest, begins, splits, is_sound, taken_up, run_unit, slots_of}
use Rattle.gr_stands.specs.Worlds.{Given, machine_in}
use Rattle.gr_lines.specs.Leaving.{IsOffLines, LeavesLines}
use Rattle.gr_lines.proofs.Kept.{slot_leaves}
use Rattle.gr_lines_others.specs.Others.{HeapIsNoVector, IsOfNoVector}
use Rattle.gr_lines_others.specs.Laws as laws
use Rattle.gr_lines_others.proofs.Off.{off_task, off_none, off_going, off_close, off_there, stays, either, when, made_is}

-- ---- the object of a call that is combined is no vector

keyed_thing : (call : Op) (o : Option Object) → is_keyed call o ≡ true → is_vector o ≡ false
keyed_thing call None e = refl
keyed_thing call (Some (array from count)) e = refl
keyed_thing call (Some (keys held)) e = refl
keyed_thing call (Some (pairs held)) e = refl
keyed_thing call (Some (line words)) e = absurd (never call e)
  where
    never : (call : Op) → is_keyed call (Some (line words)) ≡ true → ⊥
    never (op.Read object place) e = cc
    never (op.Write object place word) e = cc
    never (op.Add object place word) e = cc
    never (op.Cas object place old new) e = cc
    never (op.Reduce object reducer place word) e = cc
    never (op.Insert object key) e = cc
    never (op.Remove object key) e = cc
    never (op.Has object key) e = cc
    never (op.Put object key word) e = cc
    never (op.Get object key) e = cc
    never (op.Erase object key) e = cc
    never (op.Merge object reducer key word) e = cc
    never (op.Push object word) e = cc
    never (op.Pop object) e = cc
    never (op.Dequeue object) e = cc
    never (op.Alloc count) e = cc
    never (op.Free place) e = cc
    never (op.Print word) e = cc

placed_thing : (o : Option Object) (place at : ℕ) → address_in o place ≡ Some at → is_vector o ≡ false
placed_thing None place at e = refl
placed_thing (Some (array from count)) place at e = refl
placed_thing (Some (keys held)) place at e = refl
placed_thing (Some (pairs held)) place at e = refl
placed_thing (Some (line words)) place at e = absurd (cc)

addressed : (given : Given) → HeapIsNoVector given → (object place at : ℕ) → address (machine_in given).code.objects object place ≡ Some at → is_vector (thing (machine_in given) object) ≡ false
addressed given heap object place at e = by (object == HEAP) refl e
  where
    equal : (a b : ℕ) → (a == b) ≡ true → a ≡ b
    equal a b e = grind (arith, nat_tests)

    by : (b : Bool) → (object == HEAP) ≡ b → (if b then heap_address (machine_in given).code.objects.heap place else address_in (thing (machine_in given) object) place) ≡ Some at
        → is_vector (thing (machine_in given) object) ≡ false
    by true q e = subst (λ (k : ℕ). is_vector (thing (machine_in given) k) ≡ false) (sym (equal object HEAP q)) heap
    by false q e = placed_thing (thing (machine_in given) object) place at e

-- ---- a task

module _ (given : Given) (me : ℕ) (body : Body) (slot : ℕ) (task : Suspended) (was : IsOffLines given (body.tasks.slots slot)) where
  abbrev machine : Machine
  machine = machine_in given

  abbrev Leaves : Outcome → Type 0
  Leaves outcome = LeavesLines given body outcome.body

  one : (after : Body) (held : Option Suspended) → after.vectors ≡ body.vectors → after.tasks.slots ≡ put body.tasks.slots slot held → IsOffLines given held → LeavesLines given body after
  one after held vectors slots off = slot_leaves given body after slot held vectors slots was off

  pub drops : Leaves (dropped body slot)
  drops = one (dropped body slot).body None refl refl (off_none given)

  -- ---- calls

  asks_word : (operation y z : ℕ) (at : Option ℕ) → Leaves (word_asked machine body slot task operation y z at)
  asks_word operation y z None = drops
  asks_word operation y z (Some at) = one (word_asked machine body slot task operation y z (Some at)).body (Some (record task { waits = wait.Reply })) refl refl (λ number is. refl)

  joins_off : (call : Op) (object key : ℕ) → is_vector (thing machine object) ≡ false → Leaves (joins body slot task call object key)
  joins_off call object key no_line = one (joins body slot task call object key).body (Some (record task { waits = wait.Close object })) refl refl
      (off_task given (record task { waits = wait.Close object }) (off_close given object no_line))

  joins_key : (call : Op) (object key : ℕ) → Leaves (key_joins machine body slot task call object key)
  joins_key call object key = by (is_keyed call (thing machine object)) refl
    where
      by : (b : Bool) → is_keyed call (thing machine object) ≡ b → Leaves (if b then joins body slot task call object key else dropped body slot)
      by true e = joins_off call object key (keyed_thing call (thing machine object) e)
      by false e = drops

  joins_reduce : HeapIsNoVector given → (call : Op) (object place : ℕ) (known : Bool) (at : Option ℕ) → address machine.code.objects object place ≡ at → Leaves (reduce_joins body slot task call object known at)
  joins_reduce heap call object place true None e = drops
  joins_reduce heap call object place true (Some at) e = joins_off call object at (addressed given heap object place at e)
  joins_reduce heap call object place false None e = drops
  joins_reduce heap call object place false (Some at) e = drops

  calls : HeapIsNoVector given → (call : Op) → vector_of call ≡ None → Leaves (called machine body slot task call)
  calls heap (op.Read object place) apart = asks_word 1 0 0 (address machine.code.objects object place)
  calls heap (op.Write object place word) apart = asks_word 2 word 0 (address machine.code.objects object place)
  calls heap (op.Add object place word) apart = asks_word 3 word 0 (address machine.code.objects object place)
  calls heap (op.Cas object place old new) apart = asks_word 4 old new (address machine.code.objects object place)
  calls heap (op.Reduce object reducer place word) apart = joins_reduce heap (op.Reduce object reducer place word) object place (is_reducer reducer) (address machine.code.objects object place) refl
  calls heap (op.Insert object key) apart = joins_key (op.Insert object key) object key
  calls heap (op.Remove object key) apart = joins_key (op.Remove object key) object key
  calls heap (op.Has object key) apart = joins_key (op.Has object key) object key
  calls heap (op.Put object key word) apart = joins_key (op.Put object key word) object key
  calls heap (op.Get object key) apart = joins_key (op.Get object key) object key
  calls heap (op.Erase object key) apart = joins_key (op.Erase object key) object key
  calls heap (op.Merge object reducer key word) apart = joins_key (op.Merge object reducer key word) object key
  calls heap (op.Push object word) apart = absurd (cc)
  calls heap (op.Pop object) apart = absurd (cc)
  calls heap (op.Dequeue object) apart = absurd (cc)
  calls heap (op.Alloc count) apart = one (called machine body slot task (op.Alloc count)).body (Some (record task { waits = wait.Reply })) refl refl (λ number is. refl)
  calls heap (op.Free place) apart = one (called machine body slot task (op.Free place)).body (Some (record task { waits = wait.Reply })) refl refl (λ number is. refl)
  calls heap (op.Print word) apart = one (called machine body slot task (op.Print word)).body (Some (record task { waits = wait.Reply })) refl refl (λ number is. refl)

  -- ---- spawns

  places : (made : Body) → LeavesLines given body made → (way : How) (work : WorkUnit) → Leaves (placed me made way work)
  places made l how.Here work = record { vectors = l.vectors; tasks = l.tasks }
  places made l (how.At core) work = by (core == me)
    where
      by : (b : Bool) → Leaves (if b then quietly (private_last made work) else record { body = made; sends = to core (msg.Spawn work); marks = [] })
      by true = record { vectors = l.vectors; tasks = l.tasks }
      by false = l
  places made l how.Offer work = record { vectors = l.vectors; tasks = l.tasks }

  pub plants : (b : Body) → b.vectors ≡ body.vectors → b.tasks.slots ≡ body.tasks.slots → (way : How) (target : ℕ) (args : List ℕ) → Leaves (planted machine me b slot task way target args)
  plants b vectors slots way target args =
      places (made_in machine me b slot task)
      (one (made_in machine me b slot task) (Some (goes_on machine task nothing)) vectors (ap (λ (f : ℕ → Option Suspended). put f slot (Some (goes_on machine task nothing))) slots) (λ number is. refl))
      way (new_single me b task target args)

  enrols_as : (b : Body) → b.vectors ≡ body.vectors → b.tasks.slots ≡ body.tasks.slots → (way : How) (target : ℕ) (args : List ℕ) (answer : Enrol) → Leaves (enrolled_as machine me b slot task way target args answer)
  enrols_as b vectors slots way target args enrol.Counted = plants b vectors slots way target args
  enrols_as b vectors slots way target args enrol.Ask = one (asks_enrolment b slot task (innermost task)).body (Some (record task { waits = wait.Enrolment (innermost task) })) vectors
      (ap (λ (f : ℕ → Option Suspended). put f slot (Some (record task { waits = wait.Enrolment (innermost task) }))) slots) (λ number is. refl)
  enrols_as b vectors slots way target args enrol.Waiting = one (waits_enrolment b slot task (innermost task)).body (Some (record task { waits = wait.Enrolment (innermost task) })) vectors
      (ap (λ (f : ℕ → Option Suspended). put f slot (Some (record task { waits = wait.Enrolment (innermost task) }))) slots) (λ number is. refl)

  traps : (kind : TrapKind) → Leaves (trapped body slot task kind)
  traps kind = one (trapped body slot task kind).body (Some (record task { waits = wait.Nothing })) refl refl (λ number is. refl)

  spawns_leave : (way : How) (target : ℕ) (args : List ℕ) → Leaves (spawns machine me body slot task way target args)
  spawns_leave way target args = either Leaves (has_core machine.setup.cores way) (spawns_under machine me body slot task way target args (body.scopes.counts (innermost task))) (trapped body slot task trap.Core)
      (either Leaves (can_enrol machine (innermost task) (body.scopes.counts (innermost task))) (enrols machine me body slot task way target args (body.scopes.counts (innermost task))) (dropped body slot)
      (enrols_as (with_count body (innermost task) (enrolled (body.scopes.counts (innermost task)) slot)) refl refl way target args (enrol_answer (body.scopes.counts (innermost task)))) drops)
      (traps trap.Core)

  -- ---- scopes

  finishes_leave : Leaves (finishes machine me body slot task)
  finishes_leave = either Leaves (is_new_scope body (own_scope me body)) (finishes_in machine body slot task (own_scope me body)) (dropped body slot)
      (one (finishes_in machine body slot task (own_scope me body)).body (Some (goes_on machine (record task { opened = own_scope me body ∷ task.opened }) nothing)) refl refl (λ number is. refl)) drops

  loops_leave : (lo hi grain target : ℕ) (args : List ℕ) → Leaves (loops machine me body slot task lo hi grain target args)
  loops_leave lo hi grain target args = either Leaves (nat_lt lo hi) (loops_over me body slot task lo hi grain target args) (loops_over_nothing machine body slot task lo hi grain target args)
      (either Leaves (is_new_scope body (own_scope me body)) (loops_in me body slot task lo hi grain target args (own_scope me body)) (dropped body slot)
      (one (loops_in me body slot task lo hi grain target args (own_scope me body)).body (Some (record task { opened = own_scope me body ∷ task.opened; waits = wait.Scope (own_scope me body) })) refl refl (λ number is. refl)) drops)
      (one (loops_over_nothing machine body slot task lo hi grain target args).body (Some (goes_on machine task nothing)) refl refl (λ number is. refl))

  early : (b : Body) → b.vectors ≡ body.vectors → b.tasks.slots ≡ body.tasks.slots → (scope : ScopeId) → Leaves (arrives_early b slot task scope)
  early b vectors slots scope = one (arrives_early b slot task scope).body (Some (record task { waits = wait.Scope scope })) vectors
      (ap (λ (f : ℕ → Option Suspended). put f slot (Some (record task { waits = wait.Scope scope }))) slots) (λ number is. refl)

  pub passes_leave : (b : Body) → b.vectors ≡ body.vectors → b.tasks.slots ≡ body.tasks.slots → Leaves (passes machine b slot task)
  passes_leave b vectors slots = one (passes machine b slot task).body (Some (goes_on machine (record task { opened = drop 1 task.opened }) nothing)) vectors
      (ap (λ (f : ℕ → Option Suspended). put f slot (Some (goes_on machine (record task { opened = drop 1 task.opened }) nothing))) slots) (λ number is. refl)

  last_arrives : (b : Body) → b.vectors ≡ body.vectors → b.tasks.slots ≡ body.tasks.slots → (scope : ScopeId) (r : Release) → Leaves (arrives_last machine b slot task scope r)
  last_arrives b vectors slots scope release.Held = early (with_leave b scope) vectors slots scope
  last_arrives b vectors slots scope (release.Released who) = passes_leave (with_leave b scope) vectors slots

  arrives_as : (b : Body) → b.vectors ≡ body.vectors → b.tasks.slots ≡ body.tasks.slots → (scope : ScopeId) (left : LocalLeft) → Leaves (arrives_with machine b slot task scope left)
  arrives_as b vectors slots scope rest.More = early b vectors slots scope
  arrives_as b vectors slots scope rest.Zero = last_arrives b vectors slots scope (release_of (released (b.scopes.masters scope)))

  arrives_leave : (opened : List ScopeId) → Leaves (arrives machine body slot task opened)
  arrives_leave [] = drops
  arrives_leave (scope ∷ scopes) = either Leaves (can_arrive body scope) (arrives_with machine (arrived body scope slot) slot task scope (left_of (body.scopes.counts scope) 1)) (dropped body slot)
      (arrives_as (arrived body scope slot) refl refl scope (left_of (body.scopes.counts scope) 1)) drops

  ends_leave : Leaves (ends machine body slot task)
  ends_leave = either Leaves (is_core machine task.origin) (ends_at body slot task) (dropped body slot) (one (ends_at body slot task).body None refl refl (off_none given)) drops

  pub acts_leave : HeapIsNoVector given → (due : Action) → IsOfNoVector due → Leaves (acts machine me body slot task due)
  acts_leave heap (action.Call call) apart = calls heap call apart
  acts_leave heap (action.Spawn way target args) apart = spawns_leave way target args
  acts_leave heap action.Finish apart = finishes_leave
  acts_leave heap action.Arrive apart = arrives_leave task.opened
  acts_leave heap (action.Loop lo hi grain target args) apart = loops_leave lo hi grain target args
  acts_leave heap action.End apart = ends_leave
  acts_leave heap (action.Trap kind) apart = traps kind

pub tasks_leave : laws.TasksLeaveLines
tasks_leave given me body slot task heap there going apart =
    acts_leave given me body slot task (off_there given (body.tasks.slots slot) task there (off_going given task.waits going)) heap task.action apart

-- ---- units

module _ (given : Given) (me : ℕ) (body : Body) (slot : ℕ) where
  rest_leaves : (b : Body) → LeavesLines given body b → (target : ℕ) (args : List ℕ) (scope : ScopeId) (origin : ℕ) (owner : TaskId) (lo hi grain : ℕ) → LeavesLines given body (with_rest b target args scope origin owner lo hi grain)
  rest_leaves b l target args scope origin owner lo hi grain = by (nat_lt lo hi)
    where
      by : (t : Bool) → LeavesLines given body (if t then private_first b (unit.Chunk target args scope origin owner lo hi grain) else b)
      by true = record { vectors = l.vectors; tasks = l.tasks }
      by false = l

  -- A task that starts, or the first index of a chunk that begins, takes a free slot.
  pub starts_leave : (target : ℕ) (args : List ℕ) (scope : ScopeId) (origin : ℕ) (id : TaskId) → body.tasks.slots slot ≡ None
      → LeavesLines given body (starts (machine_in given) body slot target args scope origin id).body
  starts_leave target args scope origin id free = slot_leaves given body (starts (machine_in given) body slot target args scope origin id).body slot
      (Some (new_task id scope origin ((machine_in given).code.start target args))) refl refl (subst (IsOffLines given) (sym free) (off_none given)) (λ number is. refl)

  pub begins_leave : (target : ℕ) (args : List ℕ) (scope : ScopeId) (origin : ℕ) (owner : TaskId) (lo hi grain : ℕ) → body.tasks.slots slot ≡ None
      → LeavesLines given body (begins (machine_in given) me body slot target args scope origin owner lo hi grain).body
  begins_leave target args scope origin owner lo hi grain free =
      let fresh = new_task (own_id me body) scope origin ((machine_in given).code.start target (lo ∷ args)) in
      let ready = numbered (readied body slot fresh) in
      rest_leaves ready (slot_leaves given body ready slot (Some fresh) refl refl (subst (IsOffLines given) (sym free) (off_none given)) (λ number is. refl)) target args scope origin owner (lo + 1) hi grain

  taken_up_leaves : (work : WorkUnit) → (slots_of work ≡ 1 → body.tasks.slots slot ≡ None) → LeavesLines given body (taken_up (machine_in given) me body slot work).body
  taken_up_leaves (unit.Single target args scope origin id) free = starts_leave target args scope origin id (free refl)
  taken_up_leaves (unit.Chunk target args scope origin owner lo hi grain) free = by (nat_lt grain (hi - lo)) free
    where
      by : (b : Bool) → ((if b then zero else suc zero) ≡ 1 → body.tasks.slots slot ≡ None)
          → LeavesLines given body (if b then splits body (unit.Chunk target args scope origin owner lo hi grain) else begins (machine_in given) me body slot target args scope origin owner lo hi grain).body
      by true free = stays given body (splits body (unit.Chunk target args scope origin owner lo hi grain)).body refl refl
      by false free = begins_leave target args scope origin owner lo hi grain (free refl)

pub units_leave : laws.UnitsLeaveLines
units_leave given me body slot work e free h =
    made_is (λ (x : Outcome). LeavesLines given body x.body) (run_unit (machine_in given) me body slot (Some work)) e
    (when (λ (x : Outcome). LeavesLines given body x.body) (is_sound (machine_in given) work) (taken_up (machine_in given) me body slot work) (λ q. taken_up_leaves given me body slot work free)) h
