-- Run: what a task does, and what becomes of a unit that is taken up, leaves calls that are combined, where it is no such call.
use Rattle.std.proofs.Common.{◌≡◌, ◌⊎◌, ℕ, ◌==◌, ◌+◌, Bool, true, false, nat_lt, if◌then◌else◌, List, [], ◌∷◌, ◌++◌, drop, sym, ◌∙◌, ap, subst, refl, Option, Some, None}
use Rattle.gr_lang.specs.declared.action.Action.{Action}
use Rattle.gr_lang.specs.declared.action.Action.TheVariants as action
use Rattle.gr_lang.specs.declared.action.How.{How}
use Rattle.gr_lang.specs.declared.action.How.TheVariants as how
use Rattle.gr_lang.specs.declared.action.Op.{Op}
use Rattle.gr_lang.specs.declared.action.Op.TheVariants as op
use Rattle.gr_lang.specs.declared.action.Reply.{Reply}
use Rattle.gr_lang.specs.declared.action.TaskId.{TaskId}
use Rattle.gr_lang.specs.declared.action.TrapKind.{TrapKind}
use Rattle.gr_lang.specs.declared.action.TrapKind.TheVariants as trap
use Rattle.gr_lang.specs.Effects.{nothing}
use Rattle.gr_lang.specs.Objects.{address}
use Rattle.gr_lang.specs.Steps.{has_core}
use Rattle.gr_view.specs.Places.{put}
use Rattle.gr_msg.specs.declared.message.Msg.TheVariants as msg
use Rattle.gr_msg.specs.declared.message.ScopeId.{ScopeId}
use Rattle.gr_msg.specs.declared.message.Unit.{Unit as WorkUnit}
use Rattle.gr_msg.specs.declared.message.Unit.TheVariants as unit
use Rattle.gr_event.specs.Counts.{enrolled, enrol_answer, left_of}
use Rattle.gr_event.specs.Masters.{released, release_of}
use Rattle.gr_event.specs.declared.counts.Enrol.{Enrol}
use Rattle.gr_event.specs.declared.counts.Enrol.TheVariants as enrol
use Rattle.gr_event.specs.declared.counts.LocalLeft.{LocalLeft}
use Rattle.gr_event.specs.declared.counts.LocalLeft.TheVariants as rest
use Rattle.gr_event.specs.declared.masters.Release.{Release}
use Rattle.gr_event.specs.declared.masters.Release.TheVariants as release
use Rattle.gr_machine.specs.declared.waits.Waits.TheVariants as wait
use Rattle.gr_machine.specs.Machines.{Machine, thing, is_core}
use Rattle.gr_machine.specs.States.{Suspended, Vector, Vectors, Body}
use Rattle.gr_machine.specs.Openings.{new_task}
use Rattle.gr_machine.specs.Outcomes.{Outcome, quietly, to}
use Rattle.gr_machine.specs.Slots.{dropped, readied, numbered, goes_on, innermost, own_id}
use Rattle.gr_machine.specs.Calls.{is_reducer, is_keyed, waiting_call, call_asked, word_asked, joins, key_joins, reduce_joins, vector_joins, called}
use Rattle.gr_machine.specs.Spawns.{private_last, private_first, placed, new_single, made_in, trapped, planted, with_count, asks_enrolment, waits_enrolment, enrolled_as, enrols, can_enrol, spawns_under, spawns}
use Rattle.gr_machine.specs.ScopeRuns.{own_scope, is_new_scope, finishes_in, finishes, loops_in, loops_over_nothing, loops_over, loops, passes, can_arrive, arrived, with_leave, arrives_early, arrives_last, arrives_with, arrives, ends_at, ends}
use Rattle.gr_machine.specs.ScopeServes.{planted_by}
use Rattle.gr_machine.specs.Runs.{acts, starts, with_rest, begins}
use Rattle.gr_batches.specs.Keys.{IsKeyed, IsOn}
use Rattle.gr_batches.specs.Staying.{IsFree, CallsStay}
use Rattle.gr_batches_leaves.specs.Leaves.{LeavesCalls}
use Rattle.gr_batches_steps.proofs.Stays.{free_none, goes_free, slot_stays, slots_stay, vectors_stay, closing_free}
use Rattle.gr_batches_steps.proofs.Choices.{either}

module _ (Fact : TaskId → Type 0) (machine : Machine) (me : ℕ) (base body : Body) (slot : ℕ) (task : Suspended) (s : CallsStay base body)
    (was : IsFree base (base.tasks.slots slot)) (mine : Fact task.id) where
  abbrev Leaves : Outcome → Type 0
  Leaves outcome = LeavesCalls Fact base outcome

  abbrev Slots : Type 0
  Slots = ℕ → Option Suspended

  -- The slot has another task, which is in no call that is combined.
  one : (after : Body) (held : Option Suspended) → after.batches ≡ body.batches → after.vectors ≡ body.vectors → after.tasks.slots ≡ put body.tasks.slots slot held → IsFree base held → CallsStay base after
  one after held batches vectors slots free = slot_stays base body after slot held s batches vectors slots was free

  -- It goes on, or waits for something else.
  went : (t : Suspended) (word : Reply) → IsFree base (Some (goes_on machine t word))
  went t word = goes_free machine base t word

  drops : Leaves (dropped body slot)
  drops = record { calls = one (dropped body slot).body None refl refl refl (free_none base); sends = tt; marks = tt }

  -- ---- spawns

  places : (made : Body) → CallsStay base made → (way : How) (work : WorkUnit) → Leaves (placed me made way work)
  places made c how.Here work = record { calls = record { batches = c.batches; vectors = c.vectors; slots = c.slots }; sends = tt; marks = tt }
  places made c (how.At core) work = either Leaves (core == me) (quietly (private_last made work)) (record { body = made; sends = to core (msg.Spawn work); marks = [] })
      (record { calls = record { batches = c.batches; vectors = c.vectors; slots = c.slots }; sends = tt; marks = tt }) (record { calls = c; sends = (tt, tt); marks = tt })
  places made c how.Offer work = record { calls = record { batches = c.batches; vectors = c.vectors; slots = c.slots }; sends = tt; marks = tt }

  -- A body with the same calls and tasks.
  module _ (b : Body) (batches : b.batches ≡ body.batches) (vectors : b.vectors ≡ body.vectors) (slots : b.tasks.slots ≡ body.tasks.slots) where
    again : (after : Body) (held : Option Suspended) → after.batches ≡ b.batches → after.vectors ≡ b.vectors → after.tasks.slots ≡ put b.tasks.slots slot held → IsFree base held → CallsStay base after
    again after held same others there free = one after held (same ∙ batches) (others ∙ vectors) (there ∙ ap (λ (f : Slots). put f slot held) slots) free

    pub plants : (way : How) (target : ℕ) (args : List ℕ) → Leaves (planted machine me b slot task way target args)
    plants way target args =
        let p = places (made_in machine me b slot task) (again (made_in machine me b slot task) (Some (goes_on machine task nothing)) refl refl refl (went task nothing)) way (new_single me b task target args) in
        record { calls = p.calls; sends = p.sends; marks = (mine, p.marks) }

    enrols_as : (way : How) (target : ℕ) (args : List ℕ) (answer : Enrol) → Leaves (enrolled_as machine me b slot task way target args answer)
    enrols_as way target args enrol.Counted = plants way target args
    enrols_as way target args enrol.Ask = record {
      calls = again (asks_enrolment b slot task (innermost task)).body (Some (record task { waits = wait.Enrolment (innermost task) })) refl refl refl (record { closing = λ object none. refl; flying = λ batch. refl });
      sends = (tt, tt);
      marks = tt;
    }
    enrols_as way target args enrol.Waiting = record {
      calls = again (waits_enrolment b slot task (innermost task)).body (Some (record task { waits = wait.Enrolment (innermost task) })) refl refl refl (record { closing = λ object none. refl; flying = λ batch. refl });
      sends = tt;
      marks = tt;
    }

    early : (scope : ScopeId) → Leaves (arrives_early b slot task scope)
    early scope = record {
      calls = again (arrives_early b slot task scope).body (Some (record task { waits = wait.Scope scope })) refl refl refl (record { closing = λ object none. refl; flying = λ batch. refl });
      sends = tt;
      marks = tt;
    }

    pub passes_leave : Leaves (passes machine b slot task)
    passes_leave = record {
      calls = again (passes machine b slot task).body (Some (goes_on machine (record task { opened = drop 1 task.opened }) nothing)) refl refl refl (went (record task { opened = drop 1 task.opened }) nothing);
      sends = tt;
      marks = (mine, tt);
    }

  traps : (kind : TrapKind) → Leaves (trapped body slot task kind)
  traps kind = record {
    calls = one (trapped body slot task kind).body (Some (record task { waits = wait.Nothing })) refl refl refl (record { closing = λ object none. refl; flying = λ batch. refl });
    sends = tt;
    marks = (mine, tt);
  }

  spawns_leave : (way : How) (target : ℕ) (args : List ℕ) → Leaves (spawns machine me body slot task way target args)
  spawns_leave way target args = either Leaves (has_core machine.setup.cores way) (spawns_under machine me body slot task way target args (body.scopes.counts (innermost task))) (trapped body slot task trap.Core)
      (either Leaves (can_enrol machine (innermost task) (body.scopes.counts (innermost task))) (enrols machine me body slot task way target args (body.scopes.counts (innermost task))) (dropped body slot)
      (enrols_as (with_count body (innermost task) (enrolled (body.scopes.counts (innermost task)) slot)) refl refl refl way target args (enrol_answer (body.scopes.counts (innermost task)))) drops)
      (traps trap.Core)

  -- ---- scopes

  finishes_leave : Leaves (finishes machine me body slot task)
  finishes_leave = either Leaves (is_new_scope body (own_scope me body)) (finishes_in machine body slot task (own_scope me body)) (dropped body slot)
      (record {
        calls = one (finishes_in machine body slot task (own_scope me body)).body (Some (goes_on machine (record task { opened = own_scope me body ∷ task.opened }) nothing)) refl refl refl
            (went (record task { opened = own_scope me body ∷ task.opened }) nothing);
        sends = tt;
        marks = (mine, tt);
      }) drops

  loops_leave : (lo hi grain target : ℕ) (args : List ℕ) → Leaves (loops machine me body slot task lo hi grain target args)
  loops_leave lo hi grain target args = either Leaves (nat_lt lo hi) (loops_over me body slot task lo hi grain target args) (loops_over_nothing machine body slot task lo hi grain target args)
      (either Leaves (is_new_scope body (own_scope me body)) (loops_in me body slot task lo hi grain target args (own_scope me body)) (dropped body slot)
      (record {
        calls = one (loops_in me body slot task lo hi grain target args (own_scope me body)).body (Some (record task { opened = own_scope me body ∷ task.opened; waits = wait.Scope (own_scope me body) })) refl refl refl
            (record { closing = λ object none. refl; flying = λ batch. refl });
        sends = tt;
        marks = (mine, tt);
      }) drops)
      (record {
        calls = one (loops_over_nothing machine body slot task lo hi grain target args).body (Some (goes_on machine task nothing)) refl refl refl (went task nothing);
        sends = tt;
        marks = (mine, (mine, tt));
      })

  last_arrives : (b : Body) → b.batches ≡ body.batches → b.vectors ≡ body.vectors → b.tasks.slots ≡ body.tasks.slots → (scope : ScopeId) (r : Release) → Leaves (arrives_last machine b slot task scope r)
  last_arrives b batches vectors slots scope release.Held = early (with_leave b scope) batches vectors slots scope
  last_arrives b batches vectors slots scope (release.Released who) = passes_leave (with_leave b scope) batches vectors slots

  arrives_as : (b : Body) → b.batches ≡ body.batches → b.vectors ≡ body.vectors → b.tasks.slots ≡ body.tasks.slots → (scope : ScopeId) (left : LocalLeft) → Leaves (arrives_with machine b slot task scope left)
  arrives_as b batches vectors slots scope rest.More = early b batches vectors slots scope
  arrives_as b batches vectors slots scope rest.Zero = last_arrives b batches vectors slots scope (release_of (released (b.scopes.masters scope)))

  arrives_leave : (opened : List ScopeId) → Leaves (arrives machine body slot task opened)
  arrives_leave [] = drops
  arrives_leave (scope ∷ scopes) = either Leaves (can_arrive body scope) (arrives_with machine (arrived body scope slot) slot task scope (left_of (body.scopes.counts scope) 1)) (dropped body slot)
      (arrives_as (arrived body scope slot) refl refl refl scope (left_of (body.scopes.counts scope) 1)) drops

  ends_leave : Leaves (ends machine body slot task)
  ends_leave = either Leaves (is_core machine task.origin) (ends_at body slot task) (dropped body slot)
      (record { calls = one (ends_at body slot task).body None refl refl refl (free_none base); sends = (tt, tt); marks = (mine, tt) }) drops

  -- ---- what the task of a spawn does, once its core may count

  pub planted_leaves : (due : Action) → Leaves (planted_by machine me body slot task due)
  planted_leaves (action.Spawn way target args) = plants body refl refl refl way target args
  planted_leaves (action.Call call) = drops
  planted_leaves action.Finish = drops
  planted_leaves action.Arrive = drops
  planted_leaves (action.Loop lo hi grain target args) = drops
  planted_leaves action.End = drops
  planted_leaves (action.Trap kind) = drops

  -- ---- calls

  asks_word : (operation y z : ℕ) (at : Option ℕ) → Leaves (word_asked machine body slot task operation y z at)
  asks_word operation y z None = drops
  asks_word operation y z (Some at) = record {
    calls = one (word_asked machine body slot task operation y z (Some at)).body (Some (record task { waits = wait.Reply })) refl refl refl (record { closing = λ object none. refl; flying = λ batch. refl });
    sends = (tt, tt);
    marks = tt;
  }

  asks_zero : (operation word : ℕ) → Leaves (call_asked body slot task 0 operation word 0 0)
  asks_zero operation word = record {
    calls = one (call_asked body slot task 0 operation word 0 0).body (Some (record task { waits = wait.Reply })) refl refl refl (record { closing = λ object none. refl; flying = λ batch. refl });
    sends = (tt, tt);
    marks = tt;
  }

  -- A call joins those that wait on its vector.
  joins_line : body.vectors ≡ base.vectors → (call : Op) (object : ℕ) (held : Option Vector) → body.vectors.vectors object ≡ held → Leaves (vector_joins body slot task call object held)
  joins_line same call object None there = drops
  joins_line same call object (Some vector) there =
      let next : Vector = record vector { combiner = vector.combiner ++ waiting_call slot task call ∷ [] } in
      let after : Body = (vector_joins body slot task call object (Some vector)).body in
      record {
        calls = record {
          batches = s.batches;
          vectors = vectors_stay base after object next (ap (λ (x : Vectors). put x.vectors object (Some next)) same);
          slots = slots_stay base body after slot (Some (record task { waits = wait.Close object })) s.slots refl was
              (closing_free base object vector (ap (λ (x : Vectors). x.vectors object) (sym same) ∙ there) (record task { waits = wait.Close object }) refl);
        };
        sends = tt;
        marks = tt;
      }

  -- ---- a fact of whatever the task does, where calls that are combined have it

  module _ (Row : Outcome → Type 0) (same : body.vectors ≡ base.vectors) (leaves : (outcome : Outcome) → Leaves outcome → Row outcome)
      (joined : (call : Op) (object key : ℕ) → task.action ≡ action.Call call → IsOn machine object key call → (called machine body slot task call).marks ≡ []
      → Row (called machine body slot task call)) where
    keyed : (call : Op) (object key : ℕ) → is_keyed call (thing machine object) ≡ true → IsKeyed machine object key call object key
    keyed call object key has = record { object_is = refl; key_is = refl; has = has }

    no_marks : (call : Op) (object key : ℕ) → (key_joins machine body slot task call object key).marks ≡ []
    no_marks call object key = either (λ (x : Outcome). x.marks ≡ []) (is_keyed call (thing machine object)) (joins body slot task call object key) (dropped body slot) refl refl

    joins_key : (call : Op) (object key : ℕ) → (is_keyed call (thing machine object) ≡ true → Row (key_joins machine body slot task call object key)) → Row (key_joins machine body slot task call object key)
    joins_key call object key join = by (is_keyed call (thing machine object)) refl
      where
        by : (b : Bool) → is_keyed call (thing machine object) ≡ b → Row (key_joins machine body slot task call object key)
        by true e = join e
        by false e = subst (λ (b : Bool). Row (if b then joins body slot task call object key else dropped body slot)) (sym e) (leaves (dropped body slot) drops)

    joins_reduce : (object reducer place word : ℕ) → task.action ≡ action.Call (op.Reduce object reducer place word) → Row (called machine body slot task (op.Reduce object reducer place word))
    joins_reduce object reducer place word due = by (is_reducer reducer) (address machine.code.objects object place) refl refl
      where
        call : Op
        call = op.Reduce object reducer place word

        is : (k : Bool) (at : Option ℕ) → is_reducer reducer ≡ k → address machine.code.objects object place ≡ at → called machine body slot task call ≡ reduce_joins body slot task call object k at
        is k at q r = ap (λ (t : Bool). reduce_joins body slot task call object t (address machine.code.objects object place)) q ∙ ap (reduce_joins body slot task call object k) r

        gone : called machine body slot task call ≡ dropped body slot → Row (called machine body slot task call)
        gone e = subst Row (sym e) (leaves (dropped body slot) drops)

        by : (k : Bool) (at : Option ℕ) → is_reducer reducer ≡ k → address machine.code.objects object place ≡ at → Row (called machine body slot task call)
        by true (Some at) q r = joined call object at due (record { object_is = refl; lies = r; known = q }) (ap (λ (x : Outcome). x.marks) (is true (Some at) q r))
        by true None q r = gone (is true None q r)
        by false (Some at) q r = gone (is false (Some at) q r)
        by false None q r = gone (is false None q r)

    call_row : (call : Op) → task.action ≡ action.Call call → Row (called machine body slot task call)
    call_row (op.Read object place) due = leaves (called machine body slot task (op.Read object place)) (asks_word 1 0 0 (address machine.code.objects object place))
    call_row (op.Write object place word) due = leaves (called machine body slot task (op.Write object place word)) (asks_word 2 word 0 (address machine.code.objects object place))
    call_row (op.Add object place word) due = leaves (called machine body slot task (op.Add object place word)) (asks_word 3 word 0 (address machine.code.objects object place))
    call_row (op.Cas object place old new) due = leaves (called machine body slot task (op.Cas object place old new)) (asks_word 4 old new (address machine.code.objects object place))
    call_row (op.Reduce object reducer place word) due = joins_reduce object reducer place word due
    call_row (op.Insert object key) due = joins_key (op.Insert object key) object key (λ e. joined (op.Insert object key) object key due (keyed (op.Insert object key) object key e) (no_marks (op.Insert object key) object key))
    call_row (op.Remove object key) due = joins_key (op.Remove object key) object key (λ e. joined (op.Remove object key) object key due (keyed (op.Remove object key) object key e) (no_marks (op.Remove object key) object key))
    call_row (op.Has object key) due = joins_key (op.Has object key) object key (λ e. joined (op.Has object key) object key due (keyed (op.Has object key) object key e) (no_marks (op.Has object key) object key))
    call_row (op.Put object key word) due = joins_key (op.Put object key word) object key (λ e. joined (op.Put object key word) object key due (keyed (op.Put object key word) object key e) (no_marks (op.Put object key word) object key))
    call_row (op.Get object key) due = joins_key (op.Get object key) object key (λ e. joined (op.Get object key) object key due (keyed (op.Get object key) object key e) (no_marks (op.Get object key) object key))
    call_row (op.Erase object key) due = joins_key (op.Erase object key) object key (λ e. joined (op.Erase object key) object key due (keyed (op.Erase object key) object key e) (no_marks (op.Erase object key) object key))
    call_row (op.Merge object reducer key word) due =
        joins_key (op.Merge object reducer key word) object key (λ e. joined (op.Merge object reducer key word) object key due (keyed (op.Merge object reducer key word) object key e) (no_marks (op.Merge object reducer key word) object key))
    call_row (op.Push object word) due = leaves (called machine body slot task (op.Push object word)) (joins_line same (op.Push object word) object (body.vectors.vectors object) refl)
    call_row (op.Pop object) due = leaves (called machine body slot task (op.Pop object)) (joins_line same (op.Pop object) object (body.vectors.vectors object) refl)
    call_row (op.Dequeue object) due = leaves (called machine body slot task (op.Dequeue object)) (joins_line same (op.Dequeue object) object (body.vectors.vectors object) refl)
    call_row (op.Alloc count) due = leaves (called machine body slot task (op.Alloc count)) (asks_zero 5 count)
    call_row (op.Free place) due = leaves (called machine body slot task (op.Free place)) (asks_zero 6 place)
    call_row (op.Print word) due = leaves (called machine body slot task (op.Print word)) (asks_zero 7 word)

    pub task_row : (due : Action) → task.action ≡ due → Row (acts machine me body slot task due)
    task_row (action.Call call) due = call_row call due
    task_row (action.Spawn way target args) due = leaves (spawns machine me body slot task way target args) (spawns_leave way target args)
    task_row action.Finish due = leaves (finishes machine me body slot task) finishes_leave
    task_row action.Arrive due = leaves (arrives machine body slot task task.opened) (arrives_leave task.opened)
    task_row (action.Loop lo hi grain target args) due = leaves (loops machine me body slot task lo hi grain target args) (loops_leave lo hi grain target args)
    task_row action.End due = leaves (ends machine body slot task) ends_leave
    task_row (action.Trap kind) due = leaves (trapped body slot task kind) (traps kind)

-- ---- units

module _ (Fact : TaskId → Type 0) (machine : Machine) (me : ℕ) (base body : Body) (slot : ℕ) (s : CallsStay base body) where
  with_rest_stays : (b : Body) → CallsStay base b → (target : ℕ) (args : List ℕ) (scope : ScopeId) (origin : ℕ) (owner : TaskId) (lo hi grain : ℕ) → CallsStay base (with_rest b target args scope origin owner lo hi grain)
  with_rest_stays b c target args scope origin owner lo hi grain = by (nat_lt lo hi)
    where
      by : (t : Bool) → CallsStay base (if t then private_first b (unit.Chunk target args scope origin owner lo hi grain) else b)
      by true = record { batches = c.batches; vectors = c.vectors; slots = c.slots }
      by false = c

  pub quiet_leaves : (after : Body) → after.batches ≡ body.batches → after.vectors ≡ body.vectors → after.tasks.slots ≡ body.tasks.slots → LeavesCalls Fact base (quietly after)
  quiet_leaves after batches vectors slots = record {
    calls = record {
      batches = batches ∙ s.batches;
      vectors = λ object none. s.vectors object (ap (λ (x : Vectors). x.vectors object) (sym vectors) ∙ none);
      slots = λ k. subst (λ (o : Option Suspended). (o ≡ base.tasks.slots k) ⊎ (IsFree base (base.tasks.slots k) × IsFree base o)) (sym (ap (λ (f : ℕ → Option Suspended). f k) slots)) (s.slots k);
    };
    sends = tt;
    marks = tt;
  }

  -- A task that starts, or the first index of a chunk that begins, takes a free slot.
  module _ (free : IsFree base (base.tasks.slots slot)) where
    pub starts_leave : (target : ℕ) (args : List ℕ) (scope : ScopeId) (origin : ℕ) (id : TaskId) → LeavesCalls Fact base (starts machine body slot target args scope origin id)
    starts_leave target args scope origin id = record {
      calls = slot_stays base body (starts machine body slot target args scope origin id).body slot (Some (new_task id scope origin (machine.code.start target args))) s refl refl refl free
          (record { closing = λ object none. refl; flying = λ batch. refl });
      sends = tt;
      marks = tt;
    }

    pub begins_leave : (target : ℕ) (args : List ℕ) (scope : ScopeId) (origin : ℕ) (owner : TaskId) (lo hi grain : ℕ) → LeavesCalls Fact base (begins machine me body slot target args scope origin owner lo hi grain)
    begins_leave target args scope origin owner lo hi grain =
        let fresh = new_task (own_id me body) scope origin (machine.code.start target (lo ∷ args)) in
        let ready = numbered (readied body slot fresh) in
        record {
          calls = with_rest_stays ready (slot_stays base body ready slot (Some fresh) s refl refl refl free (record { closing = λ object none. refl; flying = λ batch. refl })) target args scope origin owner (lo + 1) hi grain;
          sends = tt;
          marks = (tt, tt);
        }
