-- A ready task makes a call, is trapped, or passes a loop over nothing.
use Rattle.std.proofs.Common.{◌≡◌, ℕ, ◌+◌, ◌<◌, Bool, true, if◌then◌else◌, List, [], sym, ◌∙◌, ap, subst, refl, arith, Option, Some, None, is_some}
use Rattle.gr_lang.specs.declared.action.Action.TheVariants as action
use Rattle.gr_lang.specs.declared.action.Op.{Op}
use Rattle.gr_lang.specs.declared.action.Op.TheVariants as op
use Rattle.gr_lang.specs.declared.action.TrapKind.{TrapKind}
use Rattle.gr_lang.specs.declared.action.TrapKind.TheVariants as trap
use Rattle.gr_lang.specs.Effects.{nothing}
use Rattle.gr_lang.specs.Objects.{address}
use Rattle.gr_lang.specs.States.{State}
use Rattle.gr_msg.specs.declared.message.Msg.{Msg}
use Rattle.gr_msg.specs.declared.message.Msg.TheVariants as msg
use Rattle.gr_msg.specs.declared.message.Unit.{Unit as WorkUnit}
use Rattle.gr_net.specs.Sums.{Each}
use Rattle.gr_net.proofs.Spreads.{Each-map}
use Rattle.gr_net.proofs.Flights.{every_with}
use Rattle.gr_view.specs.Places.{put}
use Rattle.gr_machine.specs.Machines.{Machine, home}
use Rattle.gr_machine.specs.declared.waits.Waits.{Waits}
use Rattle.gr_machine.specs.declared.waits.Waits.TheVariants as wait
use Rattle.gr_machine.specs.States.{Suspended, Vector, Body}
use Rattle.gr_machine.specs.Outcomes.{Outcome, Send}
use Rattle.gr_machine.specs.Nets.{messages_in}
use Rattle.gr_machine.specs.Slots.{dropped, goes_on, innermost}
use Rattle.gr_machine.specs.Spawns.{trapped, spawns_under}
use Rattle.gr_machine.specs.ScopeRuns.{loops_over, loops_over_nothing}
use Rattle.gr_machine.specs.Calls.{call_asked, word_asked, joins, reduce_joins, key_joins, vector_joins, called}
use Rattle.gr_machine.specs.Runs.{acts, without_ready}
use Rattle.gr_stands.specs.Worlds.{Given, machine_in, World, bodies}
use Rattle.gr_stands.specs.Actions.{HasPlace, HasKeyed, HasLine, CallFits}
use Rattle.gr_stands.specs.CallActs.{IsOtherIn}
use Rattle.gr_stands.proofs.Places.{other_than_none}
use Rattle.gr_stands_calls.specs.Acting.{IsFirst}
use Rattle.gr_stands_calls.proofs.Common.{first_goes}
use Rattle.gr_stands_runs.specs.Telling.{VectorsStand}
use Rattle.gr_scopes.specs.Trees.{Tree, tree_of, with_empty, Names}
use Rattle.gr_scopes.specs.Scopes.{IsCall, SlotStands, UnitStands, MessageStands, ScopesStand}
use Rattle.gr_scopes.specs.ScopeActs.{KeepsOthers}
use Rattle.gr_scopes.proofs.Kept.{unit_still, message_still}
use Rattle.gr_scopes_opens.specs.Keeping.{KeepsScopes, StandsWith}
use Rattle.gr_scopes_opens.proofs.Common.{rises_more}
use Rattle.gr_scopes_stays.specs.Stays.{IsNoScope, MayWaitFor, GoesOnUnder, IsOfNoWork}
use Rattle.gr_scopes_stays.specs.Laws as laws
use Rattle.gr_scopes_stays.proofs.Stays.{leaves_kept}
use Rattle.gr_scopes_stays.proofs.Slots.{rewaits_under, goes_under, one_changes}

there_is : {X : Type 0} (o : Option X) → is_some o ≡ true → (x : X) × (o ≡ Some x)
there_is None e = absurd (cc)
there_is (Some x) e = (x, refl)

module _ (given : Given) (names : Names) (w : World) (S : State) (me k : ℕ) (more : List ℕ) (t : Suspended) (st : StandsWith given names w S) (here : me < given.setup.cores) (first : IsFirst w me k more t) where
  abbrev machine : Machine
  machine = machine_in given

  abbrev a : Body
  a = bodies w me

  abbrev body : Body
  body = without_ready a

  fits : SlotStands given names (tree_of S) me a k t
  fits = (st.scopes.cores me).slots k t first.there

  calm : IsNoScope t.waits
  calm = subst IsNoScope (sym (first_goes given w S me k more t st.stands first)) tt

  abbrev Keeps : Outcome → Type 0
  Keeps e = KeepsScopes given w me [] e names (tree_of S)

  -- The task in its slot is another one, and nothing else changes but what is no part of scopes.
  pub record Does (e : Outcome) (new : Suspended) : Type 0 where
    slots : e.body.tasks.slots ≡ put a.tasks.slots k (Some new)
    scopes : e.body.scopes ≡ a.scopes
    passed : e.body.stops.passed ≡ a.stops.passed
    work : e.body.work ≡ a.work
    sends : Each (λ (s : Send). IsOfNoWork s.message) e.sends
    goes : GoesOnUnder given t new

  does_keep : (e : Outcome) (new : Suspended) → Does e new → Keeps e
  does_keep e new d = leaves_kept given names w S me [] e st here (record {
    slots = one_changes given a.tasks.slots e.body.tasks.slots k t new first.there d.slots d.goes;
    scopes = d.scopes;
    passed = d.passed;
    work = d.work;
    letters = tt;
    sends = d.sends;
  })

  waits_so : (r : Waits) → MayWaitFor t.action r → GoesOnUnder given t (record t { waits = r })
  waits_so r may = rewaits_under given t r calm may fits.depth

  -- ---- calls

  module _ (call : Op) (due : t.action ≡ action.Call call) where
    is_call : IsCall t.action
    is_call = subst IsCall (sym due) tt

    asked : (to number x y z : ℕ) → Keeps (call_asked body k t to number x y z)
    asked to number x y z = does_keep (call_asked body k t to number x y z) (record t { waits = wait.Reply })
        (record { slots = refl; scopes = refl; passed = refl; work = refl; sends = (tt, tt); goes = waits_so wait.Reply is_call })

    joined : (object key : ℕ) → Keeps (joins body k t call object key)
    joined object key = does_keep (joins body k t call object key) (record t { waits = wait.Close object })
        (record { slots = refl; scopes = refl; passed = refl; work = refl; sends = tt; goes = waits_so (wait.Close object) is_call })

    on_word : (object place number y z : ℕ) → HasPlace machine object place → Keeps (word_asked machine body k t number y z (address machine.code.objects object place))
    on_word object place number y z has =
        let at = there_is (address machine.code.objects object place) has in
        subst (λ (o : Option ℕ). Keeps (word_asked machine body k t number y z o)) (sym at.1) (asked (home machine at.0) number at.0 y z)

    on_key : (object key : ℕ) → HasKeyed machine object call → Keeps (key_joins machine body k t call object key)
    on_key object key has = subst (λ (b : Bool). Keeps (if b then joins body k t call object key else dropped body k)) (sym has) (joined object key)

    on_line : VectorsStand given w → (object : ℕ) → HasLine machine object → Keeps (vector_joins body k t call object (body.vectors.vectors object))
    on_line vectors object has =
        let v = there_is (body.vectors.vectors object) (vectors me object here has) in
        subst (λ (o : Option Vector). Keeps (vector_joins body k t call object o)) (sym v.1)
        (does_keep (vector_joins body k t call object (Some v.0)) (record t { waits = wait.Close object })
        (record { slots = refl; scopes = refl; passed = refl; work = refl; sends = tt; goes = waits_so (wait.Close object) is_call }))

  any : VectorsStand given w → (call : Op) → t.action ≡ action.Call call → CallFits machine call → Keeps (called machine body k t call)
  any vectors (op.Read object place) due has = on_word (op.Read object place) due object place 1 0 0 has
  any vectors (op.Write object place word) due has = on_word (op.Write object place word) due object place 2 word 0 has
  any vectors (op.Add object place word) due has = on_word (op.Add object place word) due object place 3 word 0 has
  any vectors (op.Cas object place old new) due has = on_word (op.Cas object place old new) due object place 4 old new has
  any vectors (op.Reduce object reducer place word) due has =
      let call : Op = op.Reduce object reducer place word in
      let at = there_is (address machine.code.objects object place) has.1 in
      subst (λ (b : Bool). Keeps (reduce_joins body k t call object b (address machine.code.objects object place))) (sym has.0)
      (subst (λ (o : Option ℕ). Keeps (reduce_joins body k t call object true o)) (sym at.1) (joined call due object at.0))
  any vectors (op.Insert object key) due has = on_key (op.Insert object key) due object key has
  any vectors (op.Remove object key) due has = on_key (op.Remove object key) due object key has
  any vectors (op.Has object key) due has = on_key (op.Has object key) due object key has
  any vectors (op.Put object key word) due has = on_key (op.Put object key word) due object key has
  any vectors (op.Get object key) due has = on_key (op.Get object key) due object key has
  any vectors (op.Erase object key) due has = on_key (op.Erase object key) due object key has
  any vectors (op.Merge object reducer key word) due has = on_key (op.Merge object reducer key word) due object key has
  any vectors (op.Push object word) due has = on_line (op.Push object word) due vectors object has
  any vectors (op.Pop object) due has = on_line (op.Pop object) due vectors object has
  any vectors (op.Dequeue object) due has = on_line (op.Dequeue object) due vectors object has
  any vectors (op.Alloc count) due has = asked (op.Alloc count) due 0 5 count 0 0
  any vectors (op.Free place) due has = asked (op.Free place) due 0 6 place 0 0
  any vectors (op.Print word) due has = asked (op.Print word) due 0 7 word 0 0

  -- ---- traps, and loops over nothing

  traps : (kind : TrapKind) → Keeps (trapped body k t kind)
  traps kind = does_keep (trapped body k t kind) (record t { waits = wait.Nothing })
      (record { slots = refl; scopes = refl; passed = refl; work = refl; sends = tt; goes = waits_so wait.Nothing tt })

  goes_past : (lo hi grain target : ℕ) (args : List ℕ) → t.action ≡ action.Loop lo hi grain target args → Keeps (loops_over_nothing machine body k t lo hi grain target args)
  goes_past lo hi grain target args due = does_keep (loops_over_nothing machine body k t lo hi grain target args) (goes_on machine t nothing)
      (record { slots = refl; scopes = refl; passed = refl; work = refl; sends = tt; goes = goes_under given t nothing (action.Loop lo hi grain target args) calm due (λ z. z) refl refl fits.depth })

none_in : (m : Msg) → IsOtherIn [] m
none_in (msg.Spawn u) = other_than_none u
none_in (msg.StealGive u) = other_than_none u
none_in _ = tt

-- A scope more that has no name.
pub one_more_empty : (given : Given) (names : Names) (w : World) (tree : Tree) → ScopesStand given names w tree → ScopesStand given names w (with_empty tree)
one_more_empty given names w tree s = record {
  cores = λ c.
      let f = s.cores c in
      record {
        counts = f.counts;
        masters = f.masters;
        owners = f.owners;
        waiters = f.waiters;
        slots = λ l u h. let g = f.slots l u h in record { held = record { holder = g.held.holder; there = g.held.there; inside = g.held.inside; opens = g.held.opens }; homes = g.homes; depth = g.depth; waits = g.waits };
        fresh = f.fresh;
      };
  private = λ c l. units_more (bodies w c).work.private (s.private c l);
  public = λ c l. units_more (bodies w c).work.public (s.public c l);
  messages = every_with messages_in (MessageStands given names tree) (MessageStands given names tree) (MessageStands given names (with_empty tree)) given.setup.cores w (λ from to m f g. message_still given names names tree (with_empty tree) [] keeps from to m f (none_in m)) s.messages s.messages;
  named = record {
    root = s.named.root;
    apart = s.named.apart;
    opened = λ n q h. omega (arith, s.named.opened n q h);
    given_by = s.named.given_by;
    rises = λ id scope open_ones h. rises_more scope tree.count (tree.count + 1) open_ones (omega arith) (s.named.rises id scope open_ones h);
  };
  root = record { master = s.root.master; passed = s.root.passed };
  counts = s.counts;
  active = s.active;
  enrolling = s.enrolling;
}
  where
    keeps : KeepsOthers names names tree (with_empty tree) []
    keeps = record { named = λ n q h. h; held = λ id x other h. h }

    units_more : (us : List WorkUnit) → Each (UnitStands given names tree) us → Each (UnitStands given names (with_empty tree)) us
    units_more us f = Each-map (UnitStands given names tree) (UnitStands given names (with_empty tree)) (λ u h. unit_still given names names tree (with_empty tree) [] keeps u h (other_than_none u)) us f

pub calls_keep_scopes : laws.CallsKeepScopes
calls_keep_scopes given names w S me k more t call st here first vectors due has =
    subst (λ (x : Outcome). KeepsScopes given w me [] x names (tree_of S)) (sym (ap (acts (machine_in given) me (without_ready (bodies w me)) k t) due))
    (any given names w S me k more t st here first vectors call due has)

pub traps_keep_scopes : laws.TrapsKeepScopes
traps_keep_scopes given names w S me k more t kind st here first due =
    subst (λ (x : Outcome). KeepsScopes given w me [] x names (tree_of S)) (sym (ap (acts (machine_in given) me (without_ready (bodies w me)) k t) due)) (traps given names w S me k more t st here first kind)

pub far_spawns_keep_scopes : laws.FarSpawnsKeepScopes
far_spawns_keep_scopes given names w S me k more t way target args st here first due far =
    let body = without_ready (bodies w me) in
    subst (λ (x : Outcome). KeepsScopes given w me [] x names (tree_of S))
    (sym (ap (acts (machine_in given) me body k t) due
    ∙ ap (λ (b : Bool). if b then spawns_under (machine_in given) me body k t way target args (body.scopes.counts (innermost t)) else trapped body k t trap.Core) far))
    (traps given names w S me k more t st here first trap.Core)

pub empty_loops_keep_scopes : laws.EmptyLoopsKeepScopes
empty_loops_keep_scopes given names w S me k more t lo hi grain target args st here first due empty v made =
    let body = without_ready (bodies w me) in
    one_more_empty given names v (tree_of S)
    (subst (λ (x : Outcome). KeepsScopes given w me [] x names (tree_of S))
    (sym (ap (acts (machine_in given) me body k t) due
    ∙ ap (λ (b : Bool). if b then loops_over me body k t lo hi grain target args else loops_over_nothing (machine_in given) body k t lo hi grain target args) empty))
    (goes_past given names w S me k more t st here first lo hi grain target args due) v made)
