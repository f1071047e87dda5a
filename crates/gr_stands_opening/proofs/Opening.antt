-- The machine before its first step stands for the opening state.
use Rattle.std.proofs.Common.{◌≡◌, ◌≢◌, ◌⊎◌, ℕ, zero, suc, ◌+◌, ◌<◌, ◌≤◌, ◌==◌, ◌&&◌, Bool, true, false, if◌then◌else◌, List, [], ◌∷◌, slice_get, inl, inr, sym, ◌∙◌, ap, subst, refl, arith, Option, Some, None, codes}
use Rattle.std.specs.FinMap as fin
use Rattle.std.specs.FinSet as set
use Rattle.std.specs.Option.{option_and_then}
use Rattle.std.specs.Ordering.{nat_cmp}
use Rattle.std.proofs.lemmas.Bool.{cases_eq}
use Rattle.std.proofs.lemmas.Bool.Decides.{nat_tests}
use Rattle.gr_lang.specs.declared.action.TaskId.{TaskId}
use Rattle.gr_lang.specs.Objects.{Object, Objects, under}
use Rattle.gr_lang.specs.States.{Task, State, id_cmp, main_id, opening_state, child}
use Rattle.gr_lang.specs.Openings.{opening, objects_from, target_of}
use Rattle.gr_syntax.specs.declared.syntax.Item.{Item}
use Rattle.gr_syntax.specs.declared.syntax.Item.TheVariants as item
use Rattle.gr_syntax.specs.declared.syntax.Program.{Program}
use Rattle.gr_msg.specs.declared.message.Msg.{Msg}
use Rattle.gr_view.specs.Places.{put}
use Rattle.gr_addr.proofs.Dealt.{back}
use Rattle.gr_net.specs.Sums.{total, Each}
use Rattle.gr_net.specs.Flights.{Everywhere}
use Rattle.gr_net.proofs.Spreads.{put_same, put_at, put_other, put_each, total_put, total_none}
use Rattle.gr_net.proofs.Flights.{flight_none}
use Rattle.gr_machine.specs.Machines.{Machine, home, place, numbered_home}
use Rattle.gr_machine.specs.States.{Suspended, Body}
use Rattle.gr_machine.specs.States as states
use Rattle.gr_machine.specs.Openings.{opening_core, opening_body, opening_words, first_tasks, first_scopes, no_tasks, no_scopes, unused, main_task}
use Rattle.gr_machine.specs.Slots.{same_id}
use Rattle.gr_machine.specs.GlobalRuns.{opening_world}
use Rattle.gr_machine.specs.Nets.{world_in, messages_in}
use Rattle.gr_stands.specs.Worlds.{Given, machine_in, World, bodies, in_flight}
use Rattle.gr_stands.specs.Memory.{under_key, kind_at, WordsStand}
use Rattle.gr_stands.specs.Censuses.{Weights, of_held, body_census, carried, census, is_named, is_task, is_unended}
use Rattle.gr_stands.specs.Calls.{StandsAt, is_going, is_asking, of_slot, times, is_about, SlotFits, UnitFits, MessageFits, TasksStand, CallsStand}
use Rattle.gr_stands.specs.Stands.{IsSound, Stands}
use Rattle.gr_stands_opening.specs.Laws as laws
use Rattle.gr_stands.proofs.Places.{same_id_self, cases_id, get_same, get_other, named_itself, times_self, times_other}

-- Nothing stands under a key of an object at the opening.

no_key : (items : List Item) (base j key : ℕ) → option_and_then (λ thing. under thing key) (slice_get (objects_from base items) j) ≡ None
no_key [] base j key = refl
no_key (item.Array name words ∷ more) base zero key = refl
no_key (item.Array name words ∷ more) base (suc j) key = no_key more (base + words.value) j key
no_key (item.Set name ∷ more) base zero key = ap (λ (b : Bool). if b then Some 0 else None) (set.contains-empty nat_cmp key)
no_key (item.Set name ∷ more) base (suc j) key = no_key more base j key
no_key (item.Map name ∷ more) base zero key = fin.get-empty nat_cmp key
no_key (item.Map name ∷ more) base (suc j) key = no_key more base j key
no_key (item.Vector name ∷ more) base zero key = refl
no_key (item.Vector name ∷ more) base (suc j) key = no_key more base j key
no_key (item.Heap words ∷ more) base j key = no_key more base j key
no_key (item.Show name ∷ more) base j key = no_key more base j key
no_key (item.Input name values ∷ more) base j key = no_key more base j key
no_key (item.Task name params body ∷ more) base j key = no_key more base j key

nothing_under : (program : Program) (object key : ℕ) → under_key (opening program) object key ≡ None
unfolding opening
nothing_under program object key = no_key program.items 0 object key

module _ (given : Given) (slot : ℕ) (sound : IsSound given) (low : slot < given.slots) where
  abbrev machine : Machine
  machine = machine_in given

  abbrev world : World
  world = world_in (opening_world machine slot)

  abbrev state : State
  state = opening_state given.program given.setup.steps

  abbrev zeroth : states.Core
  zeroth = unused (opening_body machine 0 (first_tasks machine slot) first_scopes)

  abbrev another : ℕ → states.Core
  another c = unused (opening_body machine c no_tasks no_scopes)

  at_core : (P : ℕ → states.Core → Type 0) → P 0 zeroth → ((c : ℕ) → c ≢ 0 → P c (another c)) → (c : ℕ) → P c (opening_core machine slot c)
  at_core P here there c = elim (cases_eq c 0) [
    | inl e ↦ subst (λ (i : ℕ). P i (opening_core machine slot i)) (sym e) here
    | inr e ↦ subst (P c) (ap (λ (b : Bool). if b then zeroth else another c) (sym (unequal c 0 e))) (there c e)
  ]
    where
      unequal : (a b : ℕ) → a ≢ b → (a == b) ≡ false
      unequal a b ne = grind (arith, nat_tests)

  -- ---- words

  words_are : (c : ℕ) → (bodies world c).words ≡ opening_words machine c
  words_are = at_core (λ c core. core.body.words ≡ opening_words machine c) refl (λ c ne. refl)

  words_stand : WordsStand machine (bodies world) state.objects
  words_stand = record {
    words = λ at. ap (λ (words : states.Words). words.segment (place machine at)) (words_are (home machine at))
        ∙ ap (slice_get machine.code.objects.words) (back given.setup.cores given.setup.block at sound.cores sound.block);
    keys = λ object key. ap (λ (words : states.Words). words.shards object key) (words_are (numbered_home machine key)) ∙ sym (nothing_under given.program object key);
    elsewhere = λ c object key ne. ap (λ (words : states.Words). words.shards object key) (words_are c);
    blocks = ap (λ (words : states.Words). words.blocks) (words_are 0);
    kinds = λ object. refl;
    heap = refl;
    count = refl;
  }

  -- ---- tasks

  abbrev main : Suspended
  main = main_task machine

  main_there : fin.get state.tasks main_id ≡ Some (child given.program given.setup.steps 0 (target_of given.program (codes "main")) [])
  main_there = get_same fin.empty main_id (child given.program given.setup.steps 0 (target_of given.program (codes "main")) [])

  none_else : (id : TaskId) → same_id id main_id ≡ false → fin.get state.tasks id ≡ None
  none_else id e = get_other fin.empty main_id id (child given.program given.setup.steps 0 (target_of given.program (codes "main")) []) e ∙ fin.get-empty id_cmp id

  main_fits : SlotFits given state 0 slot main
  main_fits = record {
    here = sound.cores;
    low = low;
    counted = sound.cores;
    stands = λ z. record { plain = child given.program given.setup.steps 0 (target_of given.program (codes "main")) []; there = main_there; action = refl; running = refl; mode = refl };
  }

  slots_fit : (c k : ℕ) (task : Suspended) → (bodies world c).tasks.slots k ≡ Some task → SlotFits given state c k task
  slots_fit c k task = at_core (λ c core. core.body.tasks.slots k ≡ Some task → SlotFits given state c k task) here (λ c ne e. absurd (none_some task e)) c
    where
      none_some : (s : Suspended) → None ≡ Some s → ⊥
      none_some s e = cc

      some_same : (s u : Suspended) → Some s ≡ Some u → s ≡ u
      some_same s u e = cc

      here : put (λ (other : ℕ). None) slot (Some main) k ≡ Some task → SlotFits given state 0 k task
      here e = elim (cases_eq k slot) [
        | inl q ↦ subst (λ (i : ℕ). SlotFits given state 0 i task) (sym q) (subst (SlotFits given state 0 slot) (some_same main task (sym (put_at (λ (other : ℕ). None) slot (Some main) k q) ∙ e)) main_fits)
        | inr q ↦ absurd (none_some task (sym (put_other (λ (other : ℕ). None) slot (Some main) k q) ∙ e))
      ]

  ready_are : (c k : ℕ) → times k (bodies world c).tasks.ready ≡ of_slot is_going ((bodies world c).tasks.slots k)
  ready_are c k = at_core (λ c core. times k core.body.tasks.ready ≡ of_slot is_going (core.body.tasks.slots k)) here (λ c ne. refl) c
    where
      here : times k (slot ∷ []) ≡ of_slot is_going (put (λ (other : ℕ). None) slot (Some main) k)
      here = elim (cases_eq k slot) [
        | inl q ↦ ap (λ (i : ℕ). times i (slot ∷ [])) q ∙ times_self slot [] ∙ sym (ap (of_slot is_going) (put_at (λ (other : ℕ). None) slot (Some main) k q))
        | inr q ↦ times_other k slot [] q ∙ sym (ap (of_slot is_going) (put_other (λ (other : ℕ). None) slot (Some main) k q))
      ]

  fresh_are : (c number : ℕ) → (bodies world c).tasks.next ≤ number → fin.get state.tasks (record { core = c; number = number }) ≡ None
  fresh_are c number = at_core (λ c core. core.body.tasks.next ≤ number → fin.get state.tasks (record { core = c; number = number }) ≡ None)
      (λ l. none_else (record { core = 0; number = number }) (later number l)) (λ c ne l. none_else (record { core = c; number = number }) (other c number ne)) c
    where
      later : (n : ℕ) → 1 ≤ n → (0 == 0 && n == 0) ≡ false
      later n l = grind (arith, nat_tests)

      other : (c n : ℕ) → c ≢ 0 → (c == 0 && n == 0) ≡ false
      other c n ne = grind (arith, nat_tests)

  -- ---- messages

  quiet : (P : ℕ → ℕ → Msg → Type 0) → Everywhere messages_in P given.setup.cores world
  quiet P = record {
    inboxes = λ c l. at_core (λ c core. Each (λ letter. P letter.from c letter.message) core.inbox) tt (λ c ne. tt) c;
    buffers = λ c d l k. at_core (λ c core. Each (P c d) (core.buffers d)) tt (λ c ne. tt) c;
    transits = λ c d l k. tt;
  }

  none_flies : (h : ℕ → ℕ → Msg → ℕ) → in_flight h given.setup.cores world ≡ 0
  none_flies h = flight_none messages_in h given.setup.cores world (quiet (λ from to m. h from to m ≡ 0))

  none_asks : (c k : ℕ) → of_slot is_asking ((bodies world c).tasks.slots k) ≡ 0
  none_asks c k = at_core (λ c core. of_slot is_asking (core.body.tasks.slots k) ≡ 0)
      (put_each (λ (i : ℕ) (o : Option Suspended). of_slot is_asking o ≡ 0) (λ other. None) slot (Some main) k (λ q. refl) (λ q. refl)) (λ c ne. refl) c

  -- ---- each task once

  main_counted : (id : TaskId) → total given.setup.cores (λ c. body_census (is_task id) given.slots (bodies world c)) ≡ is_named id main_id
  unfolding body_census
  main_counted id = go given.setup.cores sound.cores
    where
      none : (m : ℕ) → total m (λ k. of_held (is_task id).of_task None) ≡ 0
      none m = total_none (λ k. of_held (is_task id).of_task None) m (λ k l. refl)

      here : body_census (is_task id) given.slots zeroth.body ≡ is_named id main_id
      here = omega (arith, total_put (λ (k : ℕ) (o : Option Suspended). of_held (is_task id).of_task o) (λ other. None) slot (Some main) given.slots low, none given.slots)

      away : (c : ℕ) → body_census (is_task id) given.slots (another c).body ≡ 0
      away c = omega (arith, none given.slots)

      first_is : body_census (is_task id) given.slots (bodies world 0) ≡ is_named id main_id
      first_is = here

      later_is : (c : ℕ) → c ≢ 0 → body_census (is_task id) given.slots (bodies world c) ≡ 0
      later_is c ne = at_core (λ c core. c ≢ 0 → body_census (is_task id) given.slots core.body ≡ 0) (λ n. absurd (n refl)) (λ c n m. away c) c ne

      go : (n : ℕ) → 0 < n → total n (λ c. body_census (is_task id) given.slots (bodies world c)) ≡ is_named id main_id
      go zero l = absurd (omega arith)
      go (suc zero) l = omega (arith, first_is)
      go (suc (suc n)) l = omega (arith, go (suc n) (omega arith), later_is (suc n) (λ e. no n e))
        where
          no : (n : ℕ) → suc n ≡ 0 → ⊥
          no n e = omega arith

  once_each : (id : TaskId) → census (is_task id) given world ≡ is_unended (fin.get state.tasks id)
  unfolding census
  once_each id = omega (arith, main_counted id, none_flies (carried (is_task id).of_unit), there)
    where
      there : is_unended (fin.get state.tasks id) ≡ is_named id main_id
      there = elim (cases_id id main_id) [
        | inl e ↦ ap (λ (x : TaskId). is_unended (fin.get state.tasks x)) e ∙ ap is_unended main_there ∙ sym (ap (λ (x : TaskId). is_named x main_id) e ∙ named_itself main_id)
        | inr e ↦ ap is_unended (none_else id e) ∙ sym (other id e)
      ]
        where
          other : (q : TaskId) → same_id q main_id ≡ false → is_named q main_id ≡ 0
          other q e = grind (arith, nat_tests, e)

  calls_stand : CallsStand given world state
  calls_stand = record {
    tasks = record {
      slots = slots_fit;
      private = λ c l. at_core (λ c core. Each (UnitFits given state) core.body.work.private) tt (λ c ne. tt) c;
      public = λ c l. at_core (λ c core. Each (UnitFits given state) core.body.work.public) tt (λ c ne. tt) c;
      ready = ready_are;
      fresh = fresh_are;
    };
    once = once_each;
    messages = quiet (MessageFits given (bodies world) state);
    asked = λ c k. none_flies (is_about c k) ∙ sym (none_asks c k);
  }

pub openings_stand : laws.OpeningsStand
openings_stand given slot sound low = record { words = words_stand given slot sound low; calls = calls_stand given slot sound low }
