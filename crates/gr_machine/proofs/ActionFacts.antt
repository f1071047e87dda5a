-- What holds of each row of a ready task holds of whatever it does.
use Rattle.std.proofs.Common.{ℕ, List, [], ◌∷◌}
use Rattle.std.specs.Prelude.{Bool, true, false, Option, Some, None, if◌then◌else◌, nat_lt}
use Rattle.gr_lang.specs.declared.action.Op.{Op}
use Rattle.gr_lang.specs.declared.action.Op.TheVariants as op
use Rattle.gr_lang.specs.declared.action.How.{How}
use Rattle.gr_lang.specs.declared.action.Action.{Action}
use Rattle.gr_lang.specs.declared.action.Action.TheVariants as action
use Rattle.gr_lang.specs.declared.action.TrapKind.{TrapKind}
use Rattle.gr_lang.specs.declared.action.TrapKind.TheVariants as trap
use Rattle.gr_lang.specs.Objects.{address}
use Rattle.gr_lang.specs.Steps.{has_core}
use Rattle.gr_msg.specs.declared.message.ScopeId.{ScopeId}
use Rattle.gr_event.specs.Counts.{enrolled, enrol_answer, left_of}
use Rattle.gr_event.specs.Masters.{released, release_of}
use Rattle.gr_event.specs.declared.counts.LocalCount.{LocalCount}
use Rattle.gr_event.specs.declared.counts.Enrol.{Enrol}
use Rattle.gr_event.specs.declared.counts.Enrol.TheVariants as enrol
use Rattle.gr_event.specs.declared.counts.LocalLeft.{LocalLeft}
use Rattle.gr_event.specs.declared.counts.LocalLeft.TheVariants as rest
use Rattle.gr_event.specs.declared.masters.Release.{Release}
use Rattle.gr_event.specs.declared.masters.Release.TheVariants as release
use Rattle.gr_machine.specs.Machines.{Machine, is_core, thing}
use Rattle.gr_machine.specs.States.{Suspended, Vector, Body}
use Rattle.gr_machine.specs.Outcomes.{Outcome}
use Rattle.gr_machine.specs.Slots.{dropped, innermost}
use Rattle.gr_machine.specs.Calls.{call_asked, word_asked, joins, is_keyed, is_reducer, key_joins, reduce_joins, vector_joins, called}
use Rattle.gr_machine.specs.Spawns.{trapped, planted, with_count, asks_enrolment, waits_enrolment, enrolled_as, can_enrol, spawns_under, spawns}
use Rattle.gr_machine.specs.ScopeRuns.{own_scope, is_new_scope, finishes_in, finishes, loops_in, loops_over_nothing, loops, passes, with_leave, arrived, arrives_early, arrives_last, arrives_with, can_arrive, arrives, ends_at}
use Rattle.gr_machine.specs.Runs.{acts}

-- A fact of both branches is a fact of the choice.
pub choice : {X : Type 0} (P : X → Type 0) (b : Bool) (x y : X) → P x → P y → P (if b then x else y)
choice P true x y p q = p
choice P false x y p q = q

-- A fact of each row.
pub record Actions (P : Outcome → Type 0) (machine : Machine) (me : ℕ) (body : Body) (slot : ℕ) (task : Suspended) : Type 0 where
  pub is_dropped : P (dropped body slot)
  pub is_asked : (core operation x y z : ℕ) → P (call_asked body slot task core operation x y z)
  pub is_joined : (call : Op) (object key : ℕ) → P (joins body slot task call object key)
  pub joins_vector : (call : Op) (object : ℕ) (vector : Vector) → P (vector_joins body slot task call object (Some vector))
  pub is_trapped : (kind : TrapKind) → P (trapped body slot task kind)
  pub is_planted : (way : How) (target : ℕ) (args : List ℕ) (count : Option LocalCount) → P (planted machine me (with_count body (innermost task) count) slot task way target args)
  pub asks : (count : Option LocalCount) → P (asks_enrolment (with_count body (innermost task) count) slot task (innermost task))
  pub waits : (count : Option LocalCount) → P (waits_enrolment (with_count body (innermost task) count) slot task (innermost task))
  pub finish : (scope : ScopeId) → P (finishes_in machine body slot task scope)
  pub loop_in : (lo hi grain target : ℕ) (args : List ℕ) (scope : ScopeId) → P (loops_in me body slot task lo hi grain target args scope)
  pub loop_over_nothing : (lo hi grain target : ℕ) (args : List ℕ) → P (loops_over_nothing machine body slot task lo hi grain target args)
  pub early : (scope : ScopeId) → P (arrives_early (arrived body scope slot) slot task scope)
  pub early_left : (scope : ScopeId) → P (arrives_early (with_leave (arrived body scope slot) scope) slot task scope)
  pub last : (scope : ScopeId) → P (passes machine (with_leave (arrived body scope slot) scope) slot task)
  pub end : P (ends_at body slot task)

module _ (P : Outcome → Type 0) (machine : Machine) (me : ℕ) (body : Body) (slot : ℕ) (task : Suspended) (facts : Actions P machine me body slot task) where
  word_fact : (operation y z : ℕ) (at : Option ℕ) → P (word_asked machine body slot task operation y z at)
  word_fact operation y z None = facts.is_dropped
  word_fact operation y z (Some at) = facts.is_asked _ operation at y z

  reduce_fact : (call : Op) (object : ℕ) (there : Bool) (at : Option ℕ) → P (reduce_joins body slot task call object there at)
  reduce_fact call object true (Some at) = facts.is_joined call object at
  reduce_fact call object true None = facts.is_dropped
  reduce_fact call object false at = facts.is_dropped

  key_fact : (call : Op) (object key : ℕ) → P (key_joins machine body slot task call object key)
  key_fact call object key = choice P (is_keyed call (thing machine object)) _ _ (facts.is_joined call object key) facts.is_dropped

  vector_fact : (call : Op) (object : ℕ) (vector : Option Vector) → P (vector_joins body slot task call object vector)
  vector_fact call object None = facts.is_dropped
  vector_fact call object (Some vector) = facts.joins_vector call object vector

  called_fact : (call : Op) → P (called machine body slot task call)
  called_fact (op.Read object place) = word_fact 1 0 0 (address machine.code.objects object place)
  called_fact (op.Write object place word) = word_fact 2 word 0 (address machine.code.objects object place)
  called_fact (op.Add object place word) = word_fact 3 word 0 (address machine.code.objects object place)
  called_fact (op.Cas object place old new) = word_fact 4 old new (address machine.code.objects object place)
  called_fact (op.Reduce object reducer place word) = reduce_fact (op.Reduce object reducer place word) object (is_reducer reducer) (address machine.code.objects object place)
  called_fact (op.Insert object key) = key_fact (op.Insert object key) object key
  called_fact (op.Remove object key) = key_fact (op.Remove object key) object key
  called_fact (op.Has object key) = key_fact (op.Has object key) object key
  called_fact (op.Put object key word) = key_fact (op.Put object key word) object key
  called_fact (op.Get object key) = key_fact (op.Get object key) object key
  called_fact (op.Erase object key) = key_fact (op.Erase object key) object key
  called_fact (op.Merge object reducer key word) = key_fact (op.Merge object reducer key word) object key
  called_fact (op.Push object word) = vector_fact (op.Push object word) object (body.vectors.vectors object)
  called_fact (op.Pop object) = vector_fact (op.Pop object) object (body.vectors.vectors object)
  called_fact (op.Dequeue object) = vector_fact (op.Dequeue object) object (body.vectors.vectors object)
  called_fact (op.Alloc count) = facts.is_asked 0 5 count 0 0
  called_fact (op.Free place) = facts.is_asked 0 6 place 0 0
  called_fact (op.Print word) = facts.is_asked 0 7 word 0 0

  enrolled_fact : (way : How) (target : ℕ) (args : List ℕ) (count : Option LocalCount) (answer : Enrol) → P (enrolled_as machine me (with_count body (innermost task) count) slot task way target args answer)
  enrolled_fact way target args count enrol.Counted = facts.is_planted way target args count
  enrolled_fact way target args count enrol.Ask = facts.asks count
  enrolled_fact way target args count enrol.Waiting = facts.waits count

  spawns_fact : (way : How) (target : ℕ) (args : List ℕ) → P (spawns machine me body slot task way target args)
  spawns_fact way target args = choice P (has_core machine.setup.cores way) _ _ (under_fact (body.scopes.counts (innermost task))) (facts.is_trapped trap.Core)
    where
      under_fact : (count : Option LocalCount) → P (spawns_under machine me body slot task way target args count)
      under_fact count = choice P (can_enrol machine (innermost task) count) _ _ (enrolled_fact way target args (enrolled count slot) (enrol_answer count)) facts.is_dropped

  finishes_fact : P (finishes machine me body slot task)
  finishes_fact = choice P (is_new_scope body (own_scope me body)) _ _ (facts.finish (own_scope me body)) facts.is_dropped

  loops_fact : (lo hi grain target : ℕ) (args : List ℕ) → P (loops machine me body slot task lo hi grain target args)
  loops_fact lo hi grain target args = choice P (nat_lt lo hi) _ _
      (choice P (is_new_scope body (own_scope me body)) _ _ (facts.loop_in lo hi grain target args (own_scope me body)) facts.is_dropped)
      (facts.loop_over_nothing lo hi grain target args)

  last_fact : (scope : ScopeId) (who : Release) → P (arrives_last machine (arrived body scope slot) slot task scope who)
  last_fact scope release.Held = facts.early_left scope
  last_fact scope (release.Released waiter) = facts.last scope

  with_fact : (scope : ScopeId) (more : LocalLeft) → P (arrives_with machine (arrived body scope slot) slot task scope more)
  with_fact scope rest.More = facts.early scope
  with_fact scope rest.Zero = last_fact scope (release_of (released ((arrived body scope slot).scopes.masters scope)))

  arrives_fact : (opened : List ScopeId) → P (arrives machine body slot task opened)
  arrives_fact [] = facts.is_dropped
  arrives_fact (scope ∷ scopes) = choice P (can_arrive body scope) _ _ (with_fact scope (left_of (body.scopes.counts scope) 1)) facts.is_dropped

  -- Whatever a ready task does.
  pub acts_fact : (what : Action) → P (acts machine me body slot task what)
  acts_fact (action.Call call) = called_fact call
  acts_fact (action.Spawn way target args) = spawns_fact way target args
  acts_fact action.Finish = finishes_fact
  acts_fact action.Arrive = arrives_fact task.opened
  acts_fact (action.Loop lo hi grain target args) = loops_fact lo hi grain target args
  acts_fact action.End = choice P (is_core machine task.origin) _ _ facts.end facts.is_dropped
  acts_fact (action.Trap kind) = facts.is_trapped kind
