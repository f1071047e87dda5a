-- Run leaves where words of vectors are.
use Rattle.std.proofs.Common.{◌≡◌, ℕ, ◌-◌, ◌==◌, Bool, true, false, nat_lt, if◌then◌else◌, List, [], ◌∷◌, ◌++◌, ◌+◌, refl, Option, Some, None}
use Rattle.gr_lang.specs.declared.action.Action.{Action}
use Rattle.gr_lang.specs.declared.action.Action.TheVariants as action
use Rattle.gr_lang.specs.declared.action.How.{How}
use Rattle.gr_lang.specs.declared.action.How.TheVariants as how
use Rattle.gr_lang.specs.declared.action.Op.{Op}
use Rattle.gr_lang.specs.declared.action.Op.TheVariants as op
use Rattle.gr_lang.specs.declared.action.TaskId.{TaskId}
use Rattle.gr_lang.specs.declared.action.TrapKind.{TrapKind}
use Rattle.gr_lang.specs.declared.action.TrapKind.TheVariants as trap
use Rattle.gr_lang.specs.Objects.{address}
use Rattle.gr_lang.specs.Steps.{has_core}
use Rattle.gr_msg.specs.declared.message.Msg.TheVariants as msg
use Rattle.gr_msg.specs.declared.message.ScopeId.{ScopeId}
use Rattle.gr_msg.specs.declared.message.Unit.{Unit as WorkUnit}
use Rattle.gr_msg.specs.declared.message.Unit.TheVariants as unit
use Rattle.gr_event.specs.Counts.{enrolled, enrol_answer, left_of}
use Rattle.gr_event.specs.Masters.{released, release_of}
use Rattle.gr_event.specs.declared.counts.Enrol.{Enrol}
use Rattle.gr_event.specs.declared.counts.Enrol.TheVariants as enrol
use Rattle.gr_event.specs.declared.counts.LocalLeft.{LocalLeft}
use Rattle.gr_event.specs.declared.counts.LocalLeft.TheVariants as rest
use Rattle.gr_event.specs.declared.masters.Release.{Release}
use Rattle.gr_event.specs.declared.masters.Release.TheVariants as release
use Rattle.gr_machine.specs.Machines.{Machine, thing, is_core}
use Rattle.gr_machine.specs.States.{Suspended, Vector, Body}
use Rattle.gr_machine.specs.Openings.{new_task}
use Rattle.gr_machine.specs.Outcomes.{Outcome, quietly, to}
use Rattle.gr_machine.specs.Slots.{dropped, readied, numbered, innermost, own_id}
use Rattle.gr_machine.specs.Calls.{is_reducer, is_keyed, waiting_call, word_asked, joins, key_joins, reduce_joins, vector_joins, called}
use Rattle.gr_machine.specs.Spawns.{private_last, private_first, placed, new_single, made_in, trapped, planted, with_count, enrolled_as, enrols, can_enrol, spawns_under, spawns}
use Rattle.gr_machine.specs.ScopeRuns.{own_scope, is_new_scope, finishes_in, finishes, loops_in, loops_over_nothing, loops_over, loops, passes, can_arrive, arrived, with_leave, arrives_early, arrives_last, arrives_with, arrives, ends_at, ends}
use Rattle.gr_machine.specs.Runs.{acts, with_rest, begins, splits, is_sound, taken_up, run_unit}
use Rattle.gr_elements_apart.specs.Leaving.{LeavesWords}
use Rattle.gr_lines_others.proofs.Off.{either, when, made_is}
use Rattle.gr_elements_apart.specs.Laws as laws
use Rattle.gr_elements_apart.proofs.Apart.{IsApart, leaves_apart, kept_leaves}

module _ (machine : Machine) (me : ℕ) (body : Body) (slot : ℕ) (task : Suspended) where
  abbrev Apart : Outcome → Type 0
  Apart outcome = IsApart body outcome.body outcome.sends outcome.marks

  -- The same vectors.
  abbrev Still : Body → Type 0
  Still after = after.vectors ≡ body.vectors

  drops : Apart (dropped body slot)
  drops = record { vectors = refl; sends = tt; marks = tt }

  -- ---- calls

  asks_word : (operation y z : ℕ) (at : Option ℕ) → Apart (word_asked machine body slot task operation y z at)
  asks_word operation y z None = drops
  asks_word operation y z (Some at) = record { vectors = refl; sends = (tt, tt); marks = tt }

  joins_key : (call : Op) (object key : ℕ) → Apart (key_joins machine body slot task call object key)
  joins_key call object key = either Apart (is_keyed call (thing machine object)) (joins body slot task call object key) (dropped body slot) (record { vectors = refl; sends = tt; marks = tt }) drops

  joins_reduce : (call : Op) (object : ℕ) (known : Bool) (at : Option ℕ) → Apart (reduce_joins body slot task call object known at)
  joins_reduce call object true None = drops
  joins_reduce call object true (Some at) = record { vectors = refl; sends = tt; marks = tt }
  joins_reduce call object false None = drops
  joins_reduce call object false (Some at) = drops

  -- ---- spawns

  pub places : (made : Body) → Still made → (way : How) (work : WorkUnit) → Apart (placed me made way work)
  places made s how.Here work = record { vectors = s; sends = tt; marks = tt }
  places made s (how.At core) work = either Apart (core == me) (quietly (private_last made work)) (record { body = made; sends = to core (msg.Spawn work); marks = [] })
      (record { vectors = s; sends = tt; marks = tt }) (record { vectors = s; sends = (tt, tt); marks = tt })
  places made s how.Offer work = record { vectors = s; sends = tt; marks = tt }

  pub plants : (b : Body) → Still b → (way : How) (target : ℕ) (args : List ℕ) → Apart (planted machine me b slot task way target args)
  plants b s way target args =
      let p = places (made_in machine me b slot task) s way (new_single me b task target args) in
      record { vectors = p.vectors; sends = p.sends; marks = (tt, p.marks) }

  enrols_as : (b : Body) → Still b → (way : How) (target : ℕ) (args : List ℕ) (answer : Enrol) → Apart (enrolled_as machine me b slot task way target args answer)
  enrols_as b s way target args enrol.Counted = plants b s way target args
  enrols_as b s way target args enrol.Ask = record { vectors = s; sends = (tt, tt); marks = tt }
  enrols_as b s way target args enrol.Waiting = record { vectors = s; sends = tt; marks = tt }

  traps : (kind : TrapKind) → Apart (trapped body slot task kind)
  traps kind = record { vectors = refl; sends = tt; marks = (tt, tt) }

  spawns_apart : (way : How) (target : ℕ) (args : List ℕ) → Apart (spawns machine me body slot task way target args)
  spawns_apart way target args = either Apart (has_core machine.setup.cores way) (spawns_under machine me body slot task way target args (body.scopes.counts (innermost task))) (trapped body slot task trap.Core)
      (either Apart (can_enrol machine (innermost task) (body.scopes.counts (innermost task))) (enrols machine me body slot task way target args (body.scopes.counts (innermost task))) (dropped body slot)
      (enrols_as (with_count body (innermost task) (enrolled (body.scopes.counts (innermost task)) slot)) refl way target args (enrol_answer (body.scopes.counts (innermost task)))) drops)
      (traps trap.Core)

  -- ---- scopes

  finishes_apart : Apart (finishes machine me body slot task)
  finishes_apart = either Apart (is_new_scope body (own_scope me body)) (finishes_in machine body slot task (own_scope me body)) (dropped body slot) (record { vectors = refl; sends = tt; marks = (tt, tt) }) drops

  loops_apart : (lo hi grain target : ℕ) (args : List ℕ) → Apart (loops machine me body slot task lo hi grain target args)
  loops_apart lo hi grain target args = either Apart (nat_lt lo hi) (loops_over me body slot task lo hi grain target args) (loops_over_nothing machine body slot task lo hi grain target args)
      (either Apart (is_new_scope body (own_scope me body)) (loops_in me body slot task lo hi grain target args (own_scope me body)) (dropped body slot) (record { vectors = refl; sends = tt; marks = (tt, tt) }) drops)
      (record { vectors = refl; sends = tt; marks = (tt, (tt, tt)) })

  early : (b : Body) → Still b → (scope : ScopeId) → Apart (arrives_early b slot task scope)
  early b s scope = record { vectors = s; sends = tt; marks = tt }

  pub passes_apart : (b : Body) → Still b → Apart (passes machine b slot task)
  passes_apart b s = record { vectors = s; sends = tt; marks = (tt, tt) }

  last_arrives : (b : Body) → Still b → (scope : ScopeId) (r : Release) → Apart (arrives_last machine b slot task scope r)
  last_arrives b s scope release.Held = early (with_leave b scope) s scope
  last_arrives b s scope (release.Released who) = passes_apart (with_leave b scope) s

  arrives_as : (b : Body) → Still b → (scope : ScopeId) (left : LocalLeft) → Apart (arrives_with machine b slot task scope left)
  arrives_as b s scope rest.More = early b s scope
  arrives_as b s scope rest.Zero = last_arrives b s scope (release_of (released (b.scopes.masters scope)))

  arrives_apart : (opened : List ScopeId) → Apart (arrives machine body slot task opened)
  arrives_apart [] = drops
  arrives_apart (scope ∷ scopes) = either Apart (can_arrive body scope) (arrives_with machine (arrived body scope slot) slot task scope (left_of (body.scopes.counts scope) 1)) (dropped body slot)
      (arrives_as (arrived body scope slot) refl scope (left_of (body.scopes.counts scope) 1)) drops

  ends_apart : Apart (ends machine body slot task)
  ends_apart = either Apart (is_core machine task.origin) (ends_at body slot task) (dropped body slot) (record { vectors = refl; sends = (tt, tt); marks = (tt, tt) }) drops

  -- ---- all

  module _ (number : ℕ) where
    abbrev Leaves : Outcome → Type 0
    Leaves outcome = LeavesWords number body [] outcome

    leaves : (outcome : Outcome) → Apart outcome → Leaves outcome
    leaves outcome a = leaves_apart number body [] outcome tt a

    -- A call joins those that wait on its vector: the groups and the turn stay.
    joins_line : (call : Op) (object : ℕ) (held : Option Vector) → body.vectors.vectors object ≡ held → Leaves (vector_joins body slot task call object held)
    joins_line call object None there = leaves (dropped body slot) drops
    joins_line call object (Some vector) there =
        let next : Vector = record vector { combiner = vector.combiner ++ waiting_call slot task call ∷ [] } in
        kept_leaves number object body [] (vector_joins body slot task call object (Some vector)) vector next there refl refl tt tt tt refl

    calls_leave : (call : Op) → Leaves (called machine body slot task call)
    calls_leave (op.Read object place) = leaves (called machine body slot task (op.Read object place)) (asks_word 1 0 0 (address machine.code.objects object place))
    calls_leave (op.Write object place word) = leaves (called machine body slot task (op.Write object place word)) (asks_word 2 word 0 (address machine.code.objects object place))
    calls_leave (op.Add object place word) = leaves (called machine body slot task (op.Add object place word)) (asks_word 3 word 0 (address machine.code.objects object place))
    calls_leave (op.Cas object place old new) = leaves (called machine body slot task (op.Cas object place old new)) (asks_word 4 old new (address machine.code.objects object place))
    calls_leave (op.Reduce object reducer place word) =
        leaves (called machine body slot task (op.Reduce object reducer place word)) (joins_reduce (op.Reduce object reducer place word) object (is_reducer reducer) (address machine.code.objects object place))
    calls_leave (op.Insert object key) = leaves (called machine body slot task (op.Insert object key)) (joins_key (op.Insert object key) object key)
    calls_leave (op.Remove object key) = leaves (called machine body slot task (op.Remove object key)) (joins_key (op.Remove object key) object key)
    calls_leave (op.Has object key) = leaves (called machine body slot task (op.Has object key)) (joins_key (op.Has object key) object key)
    calls_leave (op.Put object key word) = leaves (called machine body slot task (op.Put object key word)) (joins_key (op.Put object key word) object key)
    calls_leave (op.Get object key) = leaves (called machine body slot task (op.Get object key)) (joins_key (op.Get object key) object key)
    calls_leave (op.Erase object key) = leaves (called machine body slot task (op.Erase object key)) (joins_key (op.Erase object key) object key)
    calls_leave (op.Merge object reducer key word) = leaves (called machine body slot task (op.Merge object reducer key word)) (joins_key (op.Merge object reducer key word) object key)
    calls_leave (op.Push object word) = joins_line (op.Push object word) object (body.vectors.vectors object) refl
    calls_leave (op.Pop object) = joins_line (op.Pop object) object (body.vectors.vectors object) refl
    calls_leave (op.Dequeue object) = joins_line (op.Dequeue object) object (body.vectors.vectors object) refl
    calls_leave (op.Alloc count) = leaves (called machine body slot task (op.Alloc count)) (record { vectors = refl; sends = (tt, tt); marks = tt })
    calls_leave (op.Free place) = leaves (called machine body slot task (op.Free place)) (record { vectors = refl; sends = (tt, tt); marks = tt })
    calls_leave (op.Print word) = leaves (called machine body slot task (op.Print word)) (record { vectors = refl; sends = (tt, tt); marks = tt })

    pub acts_leave : (due : Action) → Leaves (acts machine me body slot task due)
    acts_leave (action.Call call) = calls_leave call
    acts_leave (action.Spawn way target args) = leaves (spawns machine me body slot task way target args) (spawns_apart way target args)
    acts_leave action.Finish = leaves (finishes machine me body slot task) finishes_apart
    acts_leave action.Arrive = leaves (arrives machine body slot task task.opened) (arrives_apart task.opened)
    acts_leave (action.Loop lo hi grain target args) = leaves (loops machine me body slot task lo hi grain target args) (loops_apart lo hi grain target args)
    acts_leave action.End = leaves (ends machine body slot task) ends_apart
    acts_leave (action.Trap kind) = leaves (trapped body slot task kind) (traps kind)

pub tasks_leave : laws.TasksLeaveWords
tasks_leave machine number me body slot task = acts_leave machine me body slot task number task.action

-- ---- units

module _ (machine : Machine) (me : ℕ) (body : Body) (slot : ℕ) where
  abbrev Quiet : Outcome → Type 0
  Quiet outcome = IsApart body outcome.body outcome.sends outcome.marks

  rest_stays : (b : Body) → b.vectors ≡ body.vectors → (target : ℕ) (args : List ℕ) (scope : ScopeId) (origin : ℕ) (owner : TaskId) (lo hi grain : ℕ)
      → (with_rest b target args scope origin owner lo hi grain).vectors ≡ body.vectors
  rest_stays b s target args scope origin owner lo hi grain = by (nat_lt lo hi)
    where
      by : (t : Bool) → (if t then private_first b (unit.Chunk target args scope origin owner lo hi grain) else b).vectors ≡ body.vectors
      by true = s
      by false = s

  takes_up : (work : WorkUnit) → Quiet (taken_up machine me body slot work)
  takes_up (unit.Single target args scope origin id) = record { vectors = refl; sends = tt; marks = tt }
  takes_up (unit.Chunk target args scope origin owner lo hi grain) =
      either Quiet (nat_lt grain (hi - lo)) (splits body (unit.Chunk target args scope origin owner lo hi grain)) (begins machine me body slot target args scope origin owner lo hi grain)
      (record { vectors = refl; sends = tt; marks = tt })
      (record {
        vectors = rest_stays (numbered (readied body slot (new_task (own_id me body) scope origin (machine.code.start target (lo ∷ args))))) refl target args scope origin owner (lo + 1) hi grain;
        sends = tt;
        marks = (tt, tt);
      })

pub units_leave : laws.UnitsLeaveWords
units_leave machine number me body slot work e h =
    made_is (LeavesWords number body []) (run_unit machine me body slot (Some work)) e
    (when (LeavesWords number body []) (is_sound machine work) (taken_up machine me body slot work)
    (λ q. leaves_apart number body [] (taken_up machine me body slot work) tt (takes_up machine me body slot work))) h
