-- A ready task acts, and opens no loop.
use Rattle.std.proofs.Common.{ℕ, ◌==◌, Bool, true, false, List, [], ◌∷◌, refl, Option, Some, None}
use Rattle.gr_lang.specs.declared.action.Action.{Action}
use Rattle.gr_lang.specs.declared.action.Action.TheVariants as action
use Rattle.gr_lang.specs.declared.action.How.{How}
use Rattle.gr_lang.specs.declared.action.How.TheVariants as how
use Rattle.gr_lang.specs.declared.action.Op.{Op}
use Rattle.gr_lang.specs.declared.action.Op.TheVariants as op
use Rattle.gr_lang.specs.declared.action.Entry.TheVariants as entry
use Rattle.gr_lang.specs.declared.action.TrapKind.{TrapKind}
use Rattle.gr_lang.specs.declared.action.TrapKind.TheVariants as trap
use Rattle.gr_lang.specs.Objects.{address}
use Rattle.gr_lang.specs.Steps.{has_core}
use Rattle.gr_msg.specs.declared.message.ScopeId.{ScopeId}
use Rattle.gr_msg.specs.declared.message.Unit.{Unit as WorkUnit}
use Rattle.gr_event.specs.Counts.{enrolled, enrol_answer, left_of}
use Rattle.gr_event.specs.Masters.{released, release_of}
use Rattle.gr_event.specs.declared.counts.LocalCount.{LocalCount}
use Rattle.gr_event.specs.declared.counts.Enrol.{Enrol}
use Rattle.gr_event.specs.declared.counts.Enrol.TheVariants as enrol
use Rattle.gr_event.specs.declared.counts.LocalLeft.{LocalLeft}
use Rattle.gr_event.specs.declared.counts.LocalLeft.TheVariants as rest
use Rattle.gr_event.specs.declared.masters.Release.{Release}
use Rattle.gr_event.specs.declared.masters.Release.TheVariants as release
use Rattle.gr_machine.specs.Machines.{Machine, is_core, thing}
use Rattle.gr_machine.specs.States.{Suspended, Vector, Body}
use Rattle.gr_machine.specs.Outcomes.{Outcome, marked, quietly, followed}
use Rattle.gr_machine.specs.Slots.{dropped, innermost, own_id}
use Rattle.gr_machine.specs.Calls.{call_asked, word_asked, joins, is_keyed, is_reducer, key_joins, reduce_joins, vector_joins, called}
use Rattle.gr_machine.specs.Spawns.{trapped, private_last, planted, made_in, new_single, with_count, asks_enrolment, waits_enrolment, enrolled_as, can_enrol, spawns_under}
use Rattle.gr_machine.specs.ScopeRuns.{own_scope, is_new_scope, finishes_in, arrived, arrives_last, arrives_with, can_arrive, arrives, ends_at}
use Rattle.gr_machine.specs.Runs.{acts}
use Rattle.gr_machine.proofs.ActionFacts.{choice}
use Rattle.gr_shares_rows.specs.Rows.{IsNoLoop, LeavesWork}
use Rattle.gr_shares_rows.specs.Laws as laws
use Rattle.gr_shares_rows.proofs.Common.{simply, with_single}

-- ---- a new task

module _ (machine : Machine) (me : ℕ) (body : Body) (slot : ℕ) (task : Suspended) (target : ℕ) (args : List ℕ) where
  abbrev single : WorkUnit
  single = new_single me body task target args

  -- The task goes on, and the entry of its spawn is marked.
  abbrev first : How → Outcome
  first way = record { body = made_in machine me body slot task; sends = []; marks = marked (entry.Spawn task.id way target args (own_id me body)) }

  abbrev Leaves : Outcome → Type 0
  Leaves e = LeavesWork body.work body.steals e

  kept_here : (way : How) → Leaves (followed (first way) (quietly (private_last (made_in machine me body slot task) single)))
  kept_here way = record {
    private = with_single body.work.private target args (innermost task) me (own_id me body);
    public = refl;
    steals = refl;
    sends = tt;
    marks = (tt, tt);
  }

  pub planted_leaves : (way : How) → Leaves (planted machine me body slot task way target args)
  planted_leaves how.Here = kept_here how.Here
  planted_leaves (how.At core) = choice (λ (e : Outcome). Leaves (followed (first (how.At core)) e)) (core == me) _ _
      (kept_here (how.At core))
      (record { private = refl; public = refl; steals = refl; sends = (tt, tt); marks = (tt, tt) })
  planted_leaves how.Offer = record {
    private = refl;
    public = with_single body.work.public target args (innermost task) me (own_id me body);
    steals = refl;
    sends = tt;
    marks = (tt, tt);
  }

-- ---- each action

module _ (machine : Machine) (me : ℕ) (body : Body) (slot : ℕ) (task : Suspended) where
  abbrev Fact : Outcome → Type 0
  Fact e = LeavesWork body.work body.steals e

  pub is_dropped : Fact (dropped body slot)
  is_dropped = simply body.work body.steals (dropped body slot) refl refl tt tt

  asks_word : (operation y z : ℕ) (at : Option ℕ) → Fact (word_asked machine body slot task operation y z at)
  asks_word operation y z None = is_dropped
  asks_word operation y z (Some at) = simply body.work body.steals (word_asked machine body slot task operation y z (Some at)) refl refl (tt, tt) tt

  asks_reduce : (call : Op) (object : ℕ) (there : Bool) (at : Option ℕ) → Fact (reduce_joins body slot task call object there at)
  asks_reduce call object true (Some at) = simply body.work body.steals (joins body slot task call object at) refl refl tt tt
  asks_reduce call object true None = is_dropped
  asks_reduce call object false at = is_dropped

  asks_key : (call : Op) (object key : ℕ) → Fact (key_joins machine body slot task call object key)
  asks_key call object key = choice Fact (is_keyed call (thing machine object)) _ _ (simply body.work body.steals (joins body slot task call object key) refl refl tt tt) is_dropped

  asks_vector : (call : Op) (object : ℕ) (vector : Option Vector) → Fact (vector_joins body slot task call object vector)
  asks_vector call object None = is_dropped
  asks_vector call object (Some vector) = simply body.work body.steals (vector_joins body slot task call object (Some vector)) refl refl tt tt

  asks_zero : (operation x : ℕ) → Fact (call_asked body slot task 0 operation x 0 0)
  asks_zero operation x = simply body.work body.steals (call_asked body slot task 0 operation x 0 0) refl refl (tt, tt) tt

  calls : (call : Op) → Fact (called machine body slot task call)
  calls (op.Read object place) = asks_word 1 0 0 (address machine.code.objects object place)
  calls (op.Write object place word) = asks_word 2 word 0 (address machine.code.objects object place)
  calls (op.Add object place word) = asks_word 3 word 0 (address machine.code.objects object place)
  calls (op.Cas object place old new) = asks_word 4 old new (address machine.code.objects object place)
  calls (op.Reduce object reducer place word) = asks_reduce (op.Reduce object reducer place word) object (is_reducer reducer) (address machine.code.objects object place)
  calls (op.Insert object key) = asks_key (op.Insert object key) object key
  calls (op.Remove object key) = asks_key (op.Remove object key) object key
  calls (op.Has object key) = asks_key (op.Has object key) object key
  calls (op.Put object key word) = asks_key (op.Put object key word) object key
  calls (op.Get object key) = asks_key (op.Get object key) object key
  calls (op.Erase object key) = asks_key (op.Erase object key) object key
  calls (op.Merge object reducer key word) = asks_key (op.Merge object reducer key word) object key
  calls (op.Push object word) = asks_vector (op.Push object word) object (body.vectors.vectors object)
  calls (op.Pop object) = asks_vector (op.Pop object) object (body.vectors.vectors object)
  calls (op.Dequeue object) = asks_vector (op.Dequeue object) object (body.vectors.vectors object)
  calls (op.Alloc count) = asks_zero 5 count
  calls (op.Free place) = asks_zero 6 place
  calls (op.Print word) = asks_zero 7 word

  is_trapped : (kind : TrapKind) → Fact (trapped body slot task kind)
  is_trapped kind = simply body.work body.steals (trapped body slot task kind) refl refl tt (tt, tt)

  enrols : (way : How) (target : ℕ) (args : List ℕ) (count : Option LocalCount) (answer : Enrol) → Fact (enrolled_as machine me (with_count body (innermost task) count) slot task way target args answer)
  enrols way target args count enrol.Counted = planted_leaves machine me (with_count body (innermost task) count) slot task target args way
  enrols way target args count enrol.Ask = simply body.work body.steals (asks_enrolment (with_count body (innermost task) count) slot task (innermost task)) refl refl (tt, tt) tt
  enrols way target args count enrol.Waiting = simply body.work body.steals (waits_enrolment (with_count body (innermost task) count) slot task (innermost task)) refl refl tt tt

  under : (way : How) (target : ℕ) (args : List ℕ) (count : Option LocalCount) → Fact (spawns_under machine me body slot task way target args count)
  under way target args count = choice Fact (can_enrol machine (innermost task) count) _ _ (enrols way target args (enrolled count slot) (enrol_answer count)) is_dropped

  passes_last : (scope : ScopeId) (who : Release) → Fact (arrives_last machine (arrived body scope slot) slot task scope who)
  passes_last scope release.Held = simply body.work body.steals (arrives_last machine (arrived body scope slot) slot task scope release.Held) refl refl tt tt
  passes_last scope (release.Released waiter) =
      simply body.work body.steals (arrives_last machine (arrived body scope slot) slot task scope (release.Released waiter)) refl refl tt (tt, tt)

  comes_to : (scope : ScopeId) (more : LocalLeft) → Fact (arrives_with machine (arrived body scope slot) slot task scope more)
  comes_to scope rest.More = simply body.work body.steals (arrives_with machine (arrived body scope slot) slot task scope rest.More) refl refl tt tt
  comes_to scope rest.Zero = passes_last scope (release_of (released ((arrived body scope slot).scopes.masters scope)))

  comes : (opened : List ScopeId) → Fact (arrives machine body slot task opened)
  comes [] = is_dropped
  comes (scope ∷ scopes) = choice Fact (can_arrive body scope) _ _ (comes_to scope (left_of (body.scopes.counts scope) 1)) is_dropped

  pub acts_leave : (what : Action) → IsNoLoop what → Fact (acts machine me body slot task what)
  acts_leave (action.Call call) n = calls call
  acts_leave (action.Spawn way target args) n =
      choice Fact (has_core machine.setup.cores way) _ _ (under way target args (body.scopes.counts (innermost task))) (is_trapped trap.Core)
  acts_leave action.Finish n = choice Fact (is_new_scope body (own_scope me body)) _ _
      (simply body.work body.steals (finishes_in machine body slot task (own_scope me body)) refl refl tt (tt, tt)) is_dropped
  acts_leave action.Arrive n = comes task.opened
  acts_leave (action.Loop lo hi grain target args) n = absurd n
  acts_leave action.End n = choice Fact (is_core machine task.origin) _ _ (simply body.work body.steals (ends_at body slot task) refl refl (tt, tt) (tt, tt)) is_dropped
  acts_leave (action.Trap kind) n = is_trapped kind

pub actions_leave_work : laws.ActionsLeaveWork
actions_leave_work machine me body slot task what n = acts_leave machine me body slot task what n
