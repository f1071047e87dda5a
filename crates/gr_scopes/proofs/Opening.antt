-- Before its first step the machine has the part of scopes.
use Rattle.std.proofs.Common.{◌≡◌, ◌≢◌, ◌⊎◌, ℕ, zero, suc, ◌+◌, ◌<◌, ◌≤◌, ◌==◌, ◌&&◌, Bool, true, false, if◌then◌else◌, List, [], ◌∷◌, inl, inr, sym, ◌∙◌, ap, subst, refl, arith, Option, Some, None, codes}
use Rattle.std.specs.FinMap as fin
use Rattle.std.proofs.lemmas.Bool.{cases_eq}
use Rattle.std.proofs.lemmas.Bool.Decides.{nat_tests}
use Rattle.gr_lang.specs.declared.action.TaskId.{TaskId}
use Rattle.gr_lang.specs.States.{Task, State, id_cmp, main_id, opening_state, child}
use Rattle.gr_lang.specs.Openings.{target_of}
use Rattle.gr_view.specs.Places.{put}
use Rattle.gr_msg.specs.Scopes.{same_scope}
use Rattle.gr_msg.specs.declared.message.ScopeId.{ScopeId}
use Rattle.gr_msg.specs.declared.message.Msg.{Msg}
use Rattle.gr_event.specs.Scopes.{put_scope}
use Rattle.gr_event.specs.declared.counts.LocalCount.{LocalCount}
use Rattle.gr_event.specs.declared.counts.LocalCount.TheVariants as count
use Rattle.gr_event.specs.declared.masters.Master.{Master}
use Rattle.gr_event.specs.declared.masters.Waiter.TheVariants as waiter
use Rattle.gr_event.specs.Masters.{new_master, wait_for}
use Rattle.gr_event.proofs.ScopePuts.{put_scope_at, put_scope_other}
use Rattle.gr_net.specs.Sums.{total, Each}
use Rattle.gr_net.specs.Flights.{Everywhere}
use Rattle.gr_net.proofs.Spreads.{put_same, put_at, put_other, put_each, total_none, total_put}
use Rattle.gr_net.proofs.Flights.{flight_none}
use Rattle.gr_machine.specs.Machines.{Machine}
use Rattle.gr_machine.specs.States.{Suspended, Body}
use Rattle.gr_machine.specs.States as states
use Rattle.gr_machine.specs.Openings.{root_scope, opening_core, opening_body, first_tasks, first_scopes, no_tasks, no_scopes, unused, main_task}
use Rattle.gr_machine.specs.Slots.{same_id}
use Rattle.gr_machine.specs.GlobalRuns.{opening_world}
use Rattle.gr_machine.specs.Nets.{world_in, messages_in}
use Rattle.gr_stands.specs.Worlds.{Given, machine_in, World, bodies, in_flight}
use Rattle.gr_stands.specs.Censuses.{of_held, body_census, carried, census}
use Rattle.gr_stands.specs.Calls.{of_slot, times}
use Rattle.gr_stands.specs.Stands.{IsSound}
use Rattle.gr_stands.proofs.Places.{cases_id, get_same, get_other}
use Rattle.gr_scopes.specs.Trees.{Holder, holder_of, Tree, tree_of, Rises}
use Rattle.gr_scopes.specs.Sums.{if_scope, if_core, counted, is_active, is_waiting, active_at, is_there, is_waited_for, is_enrolling, is_late, late_at, slots_in, of_scope, completes, leaves, acks, enrolments}
use Rattle.gr_scopes.specs.Scopes.{SlotStands, MasterStands, CountIsSome, CoreStands, UnitStands, MessageStands, NamesStand, RootStands, ScopesStand}
use Rattle.gr_scopes.specs.Laws as laws
use Rattle.gr_scopes.specs.Laws.{opening_names}
use Rattle.gr_scopes.proofs.Counts.{cases_scope, not_itself, if_scope_self, if_scope_off, if_scope_zero, if_core_self, if_core_off, scope_put, late_put, late_same, census_put, census_same}
use Rattle.gr_scopes.proofs.Depths.{depth_new}

some_same : {X : Type 0} (a b : X) → Some a ≡ Some b → a ≡ b
some_same a b e = cc

none_some : {X : Type 0} (a : X) → None ≡ Some a → ⊥
none_some a e = cc

same_holder : (a b c : ℕ) (xs ys : List ℕ) → a ≡ c → [] ≡ xs → (P : ℕ → List ℕ → Type 0) → P a [] → P c xs
same_holder a b c xs ys e f P p = subst (λ (n : ℕ). P n xs) e (subst (P a) f p)

-- ---- the root's name

root_named : (number : ℕ) (s : ScopeId) → opening_names number ≡ Some s → (number ≡ 0) × (root_scope ≡ s)
root_named number s h = go (number == 0) refl h
  where
    equal : (n : ℕ) → (n == 0) ≡ true → n ≡ 0
    equal n e = grind (arith, nat_tests)

    go : (b : Bool) → (number == 0) ≡ b → (if b then Some root_scope else None) ≡ Some s → (number ≡ 0) × (root_scope ≡ s)
    go true e h = (equal number e, some_same root_scope s h)
    go false e h = absurd (none_some s h)

module _ (given : Given) (slot : ℕ) (sound : IsSound given) (low : slot < given.slots) where
  abbrev machine : Machine
  machine = machine_in given

  abbrev world : World
  world = world_in (opening_world machine slot)

  abbrev state : State
  state = opening_state given.program given.setup.steps

  abbrev tree : Tree
  tree = tree_of state

  abbrev zeroth : Body
  zeroth = opening_body machine 0 (first_tasks machine slot) first_scopes

  abbrev another : ℕ → Body
  another c = opening_body machine c no_tasks no_scopes

  at_core : (P : ℕ → Body → Type 0) → P 0 zeroth → ((c : ℕ) → c ≢ 0 → P c (another c)) → (c : ℕ) → P c (bodies world c)
  at_core P here there c = elim (cases_eq c 0) [
    | inl e ↦ subst (λ (i : ℕ). P i (bodies world i)) (sym e) here
    | inr e ↦ subst (λ (x : states.Core). P c x.body) (ap (λ (b : Bool). if b then unused zeroth else unused (another c)) (sym (unequal c 0 e))) (there c e)
  ]
    where
      unequal : (a b : ℕ) → a ≢ b → (a == b) ≡ false
      unequal a b ne = grind (arith, nat_tests)

  -- ---- main

  abbrev main : Suspended
  main = main_task machine

  abbrev child_main : Task
  child_main = child given.program given.setup.steps 0 (target_of given.program (codes "main")) []

  abbrev main_holder : Holder
  main_holder = record { scope = 0; opened = [] }

  main_there : tree.holders main_id ≡ Some main_holder
  main_there = ap holder_of (get_same fin.empty main_id child_main)

  main_alone : (id : TaskId) → same_id id main_id ≡ false → tree.holders id ≡ None
  main_alone id e = ap holder_of (get_other fin.empty main_id id child_main e ∙ fin.get-empty id_cmp id)

  main_stands : SlotStands given opening_names tree 0 zeroth slot main
  main_stands = record {
    held = record { holder = main_holder; there = main_there; inside = refl; opens = refl };
    homes = tt;
    depth = depth_new given main (target_of given.program (codes "main")) [] refl refl refl refl;
    waits = tt;
  }

  -- ---- core 0

  no_late : (s : ScopeId) → late_at s given.slots zeroth ≡ 0
  unfolding late_at
  no_late s = total_none (λ k. of_held (is_late s) (zeroth.tasks.slots k)) given.slots
      (λ k l. put_each (λ (i : ℕ) (o : Option Suspended). of_held (is_late s) o ≡ 0) (λ other. None) slot (Some main) k (λ q. refl) (λ q. refl))

  no_late_there : (s : ScopeId) (c : ℕ) → late_at s given.slots (another c) ≡ 0
  unfolding late_at
  no_late_there s c = total_none (λ k. 0) given.slots (λ k l. refl)

  abbrev root_master : Master
  root_master = wait_for waiter.Root new_master

  zeroth_stands : CoreStands given opening_names tree 0 zeroth
  zeroth_stands = record {
    counts = λ s. elim (cases_scope s root_scope) [
      | inl e ↦ subst (λ (r : ScopeId). CountIsSome (zeroth.scopes.counts r)) (sym e) (subst CountIsSome (sym (put_scope_at (λ (s : ScopeId). None) root_scope (Some (count.Active 1)))) (omega arith))
      | inr e ↦ subst CountIsSome (sym (put_scope_other (λ (s : ScopeId). None) root_scope (Some (count.Active 1)) s e)) tt
    ];
    masters = λ s m h. elim (cases_scope s root_scope) [
      | inl e ↦ let same : root_master ≡ m = some_same root_master m (sym (put_scope_at (λ (s : ScopeId). None) root_scope (Some root_master)) ∙ ap zeroth.scopes.masters (sym e) ∙ h) in
          subst (λ (r : ScopeId). MasterStands 0 zeroth r m) (sym e) (subst (MasterStands 0 zeroth root_scope) same (record { home = refl; alive = omega arith; waiter = refl }))
      | inr e ↦ absurd (none_some m (sym (put_scope_other (λ (s : ScopeId). None) root_scope (Some root_master) s e) ∙ h))
    ];
    owners = λ s. omega (arith, no_late s, scope_put is_waited_for (λ s. None) root_scope (Some root_master) s, scope_put is_there (λ s. None) root_scope (Some root_master) s, if_scope_zero s root_scope);
    waiters = λ s k. elim (cases_scope s root_scope) [
      | inl e ↦ ap (λ (r : ScopeId). times k (slots_in (zeroth.scopes.counts r))) e ∙ ap (λ (o : Option LocalCount). times k (slots_in o)) (put_scope_at (λ (s : ScopeId). None) root_scope (Some (count.Active 1))) ∙ sym (none_enrols s k)
      | inr e ↦ ap (λ (o : Option LocalCount). times k (slots_in o)) (put_scope_other (λ (s : ScopeId). None) root_scope (Some (count.Active 1)) s e) ∙ sym (none_enrols s k)
    ];
    slots = λ k u h. elim (cases_eq k slot) [
      | inl q ↦ subst (λ (i : ℕ). SlotStands given opening_names tree 0 zeroth i u) (sym q)
          (subst (SlotStands given opening_names tree 0 zeroth slot) (some_same main u (sym (put_at (λ (other : ℕ). None) slot (Some main) k q) ∙ h)) main_stands)
      | inr q ↦ absurd (none_some u (sym (put_other (λ (other : ℕ). None) slot (Some main) k q) ∙ h))
    ];
    fresh = λ number l. put_scope_other (λ (s : ScopeId). None) root_scope (Some root_master) (record { core = 0; number = number }) (later number l);
  }
    where
      none_enrols : (s : ScopeId) (k : ℕ) → of_slot (is_enrolling s) (zeroth.tasks.slots k) ≡ 0
      none_enrols s k = put_each (λ (i : ℕ) (o : Option Suspended). of_slot (is_enrolling s) o ≡ 0) (λ other. None) slot (Some main) k (λ q. refl) (λ q. refl)

      later : (n : ℕ) → 1 ≤ n → (0 == 0 && n == 0) ≡ false
      later n l = grind (arith, nat_tests)

  another_stands : (c : ℕ) → CoreStands given opening_names tree c (another c)
  another_stands c = record {
    counts = λ s. tt;
    masters = λ s m h. absurd (none_some m h);
    owners = λ s. omega (arith, no_late_there s c);
    waiters = λ s k. refl;
    slots = λ k u h. absurd (none_some u h);
    fresh = λ number l. refl;
  }

  -- ---- sums

  quiet : (P : ℕ → ℕ → Msg → Type 0) → Everywhere messages_in P given.setup.cores world
  quiet P = record {
    inboxes = λ c l. inbox_of P c;
    buffers = λ c d l k. buffer_of P c d;
    transits = λ c d l k. tt;
  }
    where
      at : (P : ℕ → states.Core → Type 0) → P 0 (unused zeroth) → ((c : ℕ) → P c (unused (another c))) → (c : ℕ) → P c (opening_core machine slot c)
      at P here there c = choose (c == 0) refl
        where
          choose : (b : Bool) → (c == 0) ≡ b → P c (if b then unused zeroth else unused (another c))
          choose true e = subst (λ (i : ℕ). P i (unused zeroth)) (sym (equal c e)) here
            where
              equal : (c : ℕ) → (c == 0) ≡ true → c ≡ 0
              equal c e = grind (arith, nat_tests)
          choose false e = there c

      inbox_of : (P : ℕ → ℕ → Msg → Type 0) (c : ℕ) → Each (λ letter. P letter.from c letter.message) (opening_core machine slot c).inbox
      inbox_of P = at (λ c core. Each (λ letter. P letter.from c letter.message) core.inbox) tt (λ c. tt)

      buffer_of : (P : ℕ → ℕ → Msg → Type 0) (c d : ℕ) → Each (P c d) ((opening_core machine slot c).buffers d)
      buffer_of P c d = at (λ c core. Each (P c d) (core.buffers d)) tt (λ c. tt) c

  none_flies : (h : ℕ → ℕ → Msg → ℕ) → in_flight h given.setup.cores world ≡ 0
  none_flies h = flight_none messages_in h given.setup.cores world (quiet (λ from to m. h from to m ≡ 0))

  -- A sum over the cores to which core 0 alone adds.
  only_zeroth : (F : ℕ → Body → ℕ) (x : ℕ) → F 0 zeroth ≡ x → ((c : ℕ) → F c (another c) ≡ 0) → total given.setup.cores (λ c. F c (bodies world c)) ≡ x
  only_zeroth F x here there = go given.setup.cores sound.cores
    where
      later_is : (c : ℕ) → c ≢ 0 → F c (bodies world c) ≡ 0
      later_is c ne = at_core (λ c b. c ≢ 0 → F c b ≡ 0) (λ n. absurd (n refl)) (λ c n m. there c) c ne

      no : (n : ℕ) → suc n ≡ 0 → ⊥
      no n e = omega arith

      first_is : F 0 (bodies world 0) ≡ x
      first_is = here

      go : (n : ℕ) → 0 < n → total n (λ c. F c (bodies world c)) ≡ x
      go zero l = absurd (omega arith)
      go (suc zero) l = omega (arith, first_is)
      go (suc (suc n)) l = omega (arith, go (suc n) (omega arith), later_is (suc n) (no n))

  one_main : (s : ScopeId) (core : ℕ) → census (of_scope s core) given world ≡ if_core core 0 (if_scope s root_scope 1)
  unfolding census body_census
  one_main s core = omega (
    arith,
    only_zeroth (λ c b. body_census (of_scope s core) given.slots b) (if_core core 0 (if_scope s root_scope 1)) here away,
    none_flies (carried (of_scope s core).of_unit),
  )
    where
      none : (m : ℕ) → total m (λ k. of_held (of_scope s core).of_task None) ≡ 0
      none m = total_none (λ k. of_held (of_scope s core).of_task None) m (λ k l. refl)

      here : body_census (of_scope s core) given.slots zeroth ≡ if_core core 0 (if_scope s root_scope 1)
      here = omega (arith, total_put (λ (k : ℕ) (o : Option Suspended). of_held (of_scope s core).of_task o) (λ other. None) slot (Some main) given.slots low, none given.slots)

      away : (c : ℕ) → body_census (of_scope s core) given.slots (another c) ≡ 0
      away c = omega (arith, none given.slots)

  scopes_stand : ScopesStand given opening_names world tree
  scopes_stand = record {
    cores = at_core (CoreStands given opening_names tree) zeroth_stands (λ c ne. another_stands c);
    private = λ c l. at_core (λ c b. Each (UnitStands given opening_names tree) b.work.private) tt (λ c ne. tt) c;
    public = λ c l. at_core (λ c b. Each (UnitStands given opening_names tree) b.work.public) tt (λ c ne. tt) c;
    messages = quiet (MessageStands given opening_names tree);
    named = record {
      root = refl;
      apart = λ one other s h k. (root_named one s h).0 ∙ sym (root_named other s k).0;
      opened = λ number s h. let z = (root_named number s h).0 in omega arith;
      given_by = λ number s h. subst (λ (r : ScopeId). (r.core < given.setup.cores) × (r.number < (bodies world r.core).scopes.next)) (root_named number s h).1 (sound.cores, omega arith);
      rises = λ id scope open_ones h. elim (cases_id id main_id) [
        | inl e ↦ let same : main_holder ≡ record { scope = scope; opened = open_ones } = some_same main_holder _ (sym main_there ∙ ap tree.holders (sym e) ∙ h) in
            subst (λ (x : Holder). Rises x.scope tree.count x.opened) same (omega arith)
        | inr e ↦ absurd (none_some _ (sym (main_alone id e) ∙ h))
      ];
    };
    root = record { master = ap is_there (put_scope_at (λ (s : ScopeId). None) root_scope (Some root_master)); passed = refl };
    counts = λ s core. at_core (λ c b. counted (b.scopes.counts s) ≡ census (of_scope s c) given world + late_at s given.slots b + in_flight (completes s c) given.setup.cores world)
        (omega (
          arith,
          one_main s 0,
          if_core_self 0 (if_scope s root_scope 1),
          no_late s,
          none_flies (completes s 0),
          scope_put counted (λ s. None) root_scope (Some (count.Active 1)) s,
          if_scope_zero s root_scope,
        ))
        (λ c ne. omega (arith, one_main s c, if_core_off c 0 (if_scope s root_scope 1) ne, no_late_there s c, none_flies (completes s c))) core;
    active = λ s. omega (
      arith,
      none_flies (leaves s),
      none_flies (acks s),
      only_zeroth (λ c b. is_active (b.scopes.counts s)) (if_scope s root_scope 1)
          (omega (arith, scope_put is_active (λ s. None) root_scope (Some (count.Active 1)) s, if_scope_zero s root_scope)) (λ c. refl),
      masters_at s,
    );
    enrolling = λ s core. none_flies (enrolments s core) ∙ sym (at_core (λ c b. is_waiting (b.scopes.counts s) ≡ 0)
        (omega (arith, scope_put is_waiting (λ s. None) root_scope (Some (count.Active 1)) s, if_scope_zero s root_scope)) (λ c ne. refl) core);
  }
    where
      elsewhere : (s : ScopeId) → s.core ≢ 0 → same_scope s root_scope ≡ false
      elsewhere s ne = grind (arith, nat_tests)

      masters_at : (s : ScopeId) → active_at ((bodies world s.core).scopes.masters s) ≡ if_scope s root_scope 1
      masters_at s = at_core (λ c b. s.core ≡ c → active_at (b.scopes.masters s) ≡ if_scope s root_scope 1)
          (λ e. omega (arith, scope_put active_at (λ s. None) root_scope (Some root_master) s, if_scope_zero s root_scope))
          (λ c ne e. sym (if_scope_off s root_scope 1 (elsewhere s (λ z. ne (sym e ∙ z))))) s.core refl

pub openings_have_scopes : laws.OpeningsHaveScopes
openings_have_scopes given slot sound low = scopes_stand given slot sound low
