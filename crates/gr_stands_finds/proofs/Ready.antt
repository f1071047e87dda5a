-- A ready slot finds its task, which stands there after its action, or has ended.
use Rattle.std.proofs.Common.{◌≡◌, ℕ, ◌<◌, ◌==◌, Bool, true, false, nat_lt, if◌then◌else◌, List, inl, inr, sym, ap}
use Rattle.std.proofs.Common.{subst, refl, arith, Option, Some, None, is_some}
use Rattle.std.proofs.lemmas.Bool.Decides.{nat_tests}
use Rattle.gr_lang.specs.declared.action.Action.{Action}
use Rattle.gr_lang.specs.declared.action.Action.TheVariants as action
use Rattle.gr_lang.specs.declared.action.How.{How}
use Rattle.gr_lang.specs.declared.action.How.TheVariants as how
use Rattle.gr_lang.specs.declared.action.Op.{Op}
use Rattle.gr_lang.specs.declared.action.Op.TheVariants as op
use Rattle.gr_lang.specs.Objects.{address}
use Rattle.gr_lang.specs.States.{State}
use Rattle.gr_lang.specs.Steps.{has_core}
use Rattle.gr_msg.specs.declared.message.ScopeId.{ScopeId}
use Rattle.gr_msg.specs.declared.message.Unit.{Unit as WorkUnit}
use Rattle.gr_event.specs.Counts.{enrolled, enrol_answer, left_of}
use Rattle.gr_event.specs.Masters.{released, release_of}
use Rattle.gr_event.specs.declared.counts.Enrol.{Enrol}
use Rattle.gr_event.specs.declared.counts.Enrol.TheVariants as enrol
use Rattle.gr_event.specs.declared.counts.LocalLeft.{LocalLeft}
use Rattle.gr_event.specs.declared.counts.LocalLeft.TheVariants as rest
use Rattle.gr_event.specs.declared.masters.Release.{Release}
use Rattle.gr_event.specs.declared.masters.Release.TheVariants as release
use Rattle.gr_net.proofs.Spreads.{put_same}
use Rattle.gr_machine.specs.Machines.{Machine, is_core, thing}
use Rattle.gr_machine.specs.States.{Suspended, Vector, Body}
use Rattle.gr_machine.specs.Outcomes.{Outcome}
use Rattle.gr_machine.specs.Slots.{innermost}
use Rattle.gr_machine.specs.Calls.{is_keyed, is_reducer, reduce_joins, vector_joins, word_asked, called}
use Rattle.gr_machine.specs.Spawns.{made_in, new_single, placed, with_count, enrolled_as}
use Rattle.gr_machine.specs.ScopeRuns.{can_arrive, arrived, arrives, arrives_last, arrives_with}
use Rattle.gr_machine.specs.Runs.{acts, without_ready}
use Rattle.gr_machine.proofs.ActionFacts.{choice}
use Rattle.gr_stands.specs.Worlds.{Given, machine_in, World, bodies}
use Rattle.gr_stands.specs.Actions.{CallFits, ActionFits}
use Rattle.gr_stands_runs.specs.Telling.{VectorsStand, ArrivalTells, ScopesTell}
use Rattle.gr_stands_finds.specs.Finding.{StaysOrEnds}

-- A choice of which the test is known.
sure : {X : Type 0} (P : X → Type 0) (b : Bool) (x y : X) → b ≡ true → P x → P (if b then x else y)
sure P true x y e p = p
sure P false x y e p = absurd (cc)

there_is : {X : Type 0} (o : Option X) → is_some o ≡ true → (x : X) × (o ≡ Some x)
there_is None e = absurd (cc)
there_is (Some x) e = (x, refl)

less_so : (a b : ℕ) → a < b → nat_lt a b ≡ true
less_so a b l = grind (arith, nat_tests, l)

module _ (given : Given) (w : World) (S : State) (me slot : ℕ) (task : Suspended) where
  abbrev machine : Machine
  machine = machine_in given

  abbrev body : Body
  body = without_ready (bodies w me)

  abbrev Stays : Outcome → Type 0
  Stays e = is_some (e.body.tasks.slots slot) ≡ true

  -- ---- calls

  on_word : (number y z : ℕ) (at : Option ℕ) → is_some at ≡ true → Stays (word_asked machine body slot task number y z at)
  on_word number y z None has = absurd (cc)
  on_word number y z (Some at) has = ap is_some (put_same body.tasks.slots slot (Some _))

  on_reduce : (call : Op) (object : ℕ) (known : Bool) (at : Option ℕ) → known ≡ true → is_some at ≡ true
      → Stays (reduce_joins body slot task call object known at)
  on_reduce call object true None k has = absurd (cc)
  on_reduce call object false at k has = absurd (cc)
  on_reduce call object true (Some at) k has = ap is_some (put_same body.tasks.slots slot (Some _))

  on_line : (call : Op) (object : ℕ) (held : Option Vector) → is_some held ≡ true → Stays (vector_joins body slot task call object held)
  on_line call object None has = absurd (cc)
  on_line call object (Some vector) has = ap is_some (put_same body.tasks.slots slot (Some _))

  on_key : (call : Op) (object : ℕ) (e other : Outcome) → Stays e → is_keyed call (thing machine object) ≡ true
      → Stays (if is_keyed call (thing machine object) then e else other)
  on_key call object e other s has = sure Stays (is_keyed call (thing machine object)) e other has s

  module _ (here : me < given.setup.cores) (vectors : VectorsStand given w) where
    line_there : (call : Op) (object : ℕ) → CallFits machine (op.Pop object) → Stays (vector_joins body slot task call object (body.vectors.vectors object))
    line_there call object has = on_line call object (body.vectors.vectors object) (vectors me object here has)

    calls : (call : Op) → CallFits machine call → Stays (called machine body slot task call)
    calls (op.Read object place) has = on_word 1 0 0 (address machine.code.objects object place) has
    calls (op.Write object place word) has = on_word 2 word 0 (address machine.code.objects object place) has
    calls (op.Add object place word) has = on_word 3 word 0 (address machine.code.objects object place) has
    calls (op.Cas object place old new) has = on_word 4 old new (address machine.code.objects object place) has
    calls (op.Reduce object reducer place word) has =
        on_reduce (op.Reduce object reducer place word) object (is_reducer reducer) (address machine.code.objects object place) has.0 has.1
    calls (op.Insert object key) has = on_key (op.Insert object key) object _ _ (ap is_some (put_same body.tasks.slots slot (Some _))) has
    calls (op.Remove object key) has = on_key (op.Remove object key) object _ _ (ap is_some (put_same body.tasks.slots slot (Some _))) has
    calls (op.Has object key) has = on_key (op.Has object key) object _ _ (ap is_some (put_same body.tasks.slots slot (Some _))) has
    calls (op.Put object key word) has = on_key (op.Put object key word) object _ _ (ap is_some (put_same body.tasks.slots slot (Some _))) has
    calls (op.Get object key) has = on_key (op.Get object key) object _ _ (ap is_some (put_same body.tasks.slots slot (Some _))) has
    calls (op.Erase object key) has = on_key (op.Erase object key) object _ _ (ap is_some (put_same body.tasks.slots slot (Some _))) has
    calls (op.Merge object reducer key word) has =
        on_key (op.Merge object reducer key word) object _ _ (ap is_some (put_same body.tasks.slots slot (Some _))) has
    calls (op.Push object word) has = line_there (op.Push object word) object has
    calls (op.Pop object) has = line_there (op.Pop object) object has
    calls (op.Dequeue object) has = line_there (op.Dequeue object) object has
    calls (op.Alloc count) has = ap is_some (put_same body.tasks.slots slot (Some _))
    calls (op.Free place) has = ap is_some (put_same body.tasks.slots slot (Some _))
    calls (op.Print word) has = ap is_some (put_same body.tasks.slots slot (Some _))

  -- ---- new tasks

  placed_stays : (made : Body) (way : How) (work : WorkUnit) → is_some (made.tasks.slots slot) ≡ true → Stays (placed me made way work)
  placed_stays made how.Here work s = s
  placed_stays made (how.At core) work s = choice Stays (core == me) _ _ s s
  placed_stays made how.Offer work s = s

  enrols_stays : (counted : Body) (way : How) (target : ℕ) (args : List ℕ) (answer : Enrol)
      → Stays (enrolled_as machine me counted slot task way target args answer)
  enrols_stays counted way target args enrol.Counted =
      placed_stays (made_in machine me counted slot task) way (new_single me counted task target args) (ap is_some (put_same counted.tasks.slots slot (Some _)))
  enrols_stays counted way target args enrol.Ask = ap is_some (put_same counted.tasks.slots slot (Some _))
  enrols_stays counted way target args enrol.Waiting = ap is_some (put_same counted.tasks.slots slot (Some _))

  -- ---- the end of a finish

  last_stays : (b : Body) (scope : ScopeId) (who : Release) → Stays (arrives_last machine b slot task scope who)
  last_stays b scope release.Held = ap is_some (put_same b.tasks.slots slot (Some _))
  last_stays b scope (release.Released who) = ap is_some (put_same b.tasks.slots slot (Some _))

  arrives_stays : (b : Body) (scope : ScopeId) (left : LocalLeft) → Stays (arrives_with machine b slot task scope left)
  arrives_stays b scope rest.More = ap is_some (put_same b.tasks.slots slot (Some _))
  arrives_stays b scope rest.Zero = last_stays b scope (release_of (released (b.scopes.masters scope)))

  -- ---- each action

  module _ (here : me < given.setup.cores) (vectors : VectorsStand given w) (counted : task.origin < given.setup.cores)
      (told : ScopesTell given w S me slot task) where
    arrived_stays : ArrivalTells w S me slot task → Stays (arrives machine body slot task task.opened)
    arrived_stays a = subst (λ (opened : List ScopeId). Stays (arrives machine body slot task opened)) (sym a.opened)
        (sure Stays (can_arrive body a.scope) _ _ a.can (arrives_stays (arrived body a.scope slot) a.scope (left_of (body.scopes.counts a.scope) 1)))

    pub action_finds : (due : Action) → task.action ≡ due → ActionFits machine due → StaysOrEnds slot task (acts machine me body slot task due)
    action_finds (action.Call call) is fits = inl (calls here vectors call fits)
    action_finds (action.Spawn way target args) is fits = inl (choice Stays (has_core machine.setup.cores way) _ _
        (sure Stays _ _ _ told.enrols
        (enrols_stays (with_count body (innermost task) (enrolled (body.scopes.counts (innermost task)) slot)) way target args
        (enrol_answer (body.scopes.counts (innermost task)))))
        (ap is_some (put_same body.tasks.slots slot (Some _))))
    action_finds action.Finish is fits = inl (sure Stays _ _ _ told.opens (ap is_some (put_same body.tasks.slots slot (Some _))))
    action_finds action.Arrive is fits = inl (arrived_stays (told.arrives is))
    action_finds (action.Loop lo hi grain target args) is fits = inl (choice Stays (nat_lt lo hi) _ _
        (sure Stays _ _ _ told.opens (ap is_some (put_same body.tasks.slots slot (Some _)))) (ap is_some (put_same body.tasks.slots slot (Some _))))
    action_finds action.End is fits = sure (StaysOrEnds slot task) (is_core machine task.origin) _ _ (less_so task.origin given.setup.cores counted) (inr refl)
    action_finds (action.Trap kind) is fits = inl (ap is_some (put_same body.tasks.slots slot (Some _)))
