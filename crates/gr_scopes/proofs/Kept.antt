-- Part 3 is kept by an outcome, from what it asks of it; and by Ships and Takes.
use Rattle.std.proofs.Common.{◌≡◌, ◌⊎◌, ◌≢◌, ℕ, ◌+◌, ◌<◌, List, [], ◌∷◌, map, inl, inr, sym, ◌∙◌, ap, subst, refl, arith, Option, Some, None}
use Rattle.std.proofs.lemmas.Bool.{cases_eq}
use Rattle.gr_lang.specs.declared.action.TaskId.{TaskId}
use Rattle.gr_view.specs.Places.{put}
use Rattle.gr_msg.specs.declared.message.ScopeId.{ScopeId}
use Rattle.gr_msg.specs.declared.message.Msg.{Msg}
use Rattle.gr_msg.specs.declared.message.Msg.TheVariants as msg
use Rattle.gr_msg.specs.declared.message.Unit.{Unit as WorkUnit}
use Rattle.gr_msg.specs.declared.message.Unit.TheVariants as unit
use Rattle.gr_event.specs.declared.masters.Master.{Master}
use Rattle.gr_agg.specs.Laws.{Adds, Merges}
use Rattle.gr_net.specs.Sums.{total, Each}
use Rattle.gr_net.specs.Flights.{Everywhere}
use Rattle.gr_net.proofs.Spreads.{put_same, put_at, put_other, put_each, total_put, Each-weaker}
use Rattle.gr_net.proofs.Flights.{every_with}
use Rattle.gr_machine.specs.States.{Letter, Suspended, Body}
use Rattle.gr_machine.specs.Outcomes.{Outcome}
use Rattle.gr_machine.specs.Nets.{messages_in}
use Rattle.gr_stands.specs.Worlds.{Given, World, bodies, in_flight, of_letters, of_sends, Acts, Moves}
use Rattle.gr_stands.specs.Censuses.{body_census, carried, census}
use Rattle.gr_stands.specs.CallActs.{IsOther, IsOtherUnit, IsOtherIn}
use Rattle.gr_stands.proofs.Worlds.{acted_bodies, without, flow, facts_off, facts_on, census_law, moved_bodies, moved_flow, moved_facts, moved_census}
use Rattle.gr_scopes.specs.Trees.{Tree, Names, IsHeld, IsScope}
use Rattle.gr_scopes.specs.Sums.{if_scope, if_core, counted, is_active, is_waiting, active_at, is_there, late_at, of_scope, completes, leaves, acks, enrolments}
use Rattle.gr_scopes.specs.Scopes.{MasterStands, SlotStands, CoreStands, UnitStands, MessageStands, NamesStand, RootStands, ScopesStand}
use Rattle.gr_scopes.specs.ScopeActs.{KeepsOthers, AreAway, SumsAct, ScopesAct, ScopesAreKept, MovesKeepScopes}

-- ---- weights add up over counts of one scope

pub adds_scope : (s q : ScopeId) (x y : ℕ) → if_scope s q (x + y) ≡ if_scope s q x + if_scope s q y
unfolding if_scope
adds_scope s q x y = grind arith

pub adds_core : (c d : ℕ) (x y : ℕ) → if_core c d (x + y) ≡ if_core c d x + if_core c d y
unfolding if_core
adds_core c d x y = grind arith

completes_add : (s : ScopeId) (c from to : ℕ) → Adds (completes s c from to)
completes_add s c from to q x y = ap (if_core c to) (adds_scope s q x y) ∙ adds_core c to (if_scope s q x) (if_scope s q y)

leaves_add : (s : ScopeId) (from to : ℕ) → Adds (leaves s from to)
leaves_add s from to q x y = refl

acks_add : (s : ScopeId) (from to : ℕ) → Adds (acks s from to)
acks_add s from to q x y = refl

enrolments_add : (s : ScopeId) (c from to : ℕ) → Adds (enrolments s c from to)
enrolments_add s c from to q x y = refl

stand_merge : (given : Given) (names : Names) (tree : Tree) (from to : ℕ) → Merges (MessageStands given names tree from to)
stand_merge given names tree from to s x y p q = (omega (arith, p.0), p.1)

-- ---- what stands still stands

module _ (given : Given) (names more : Names) (T U : Tree) (ids : List TaskId) (keeps : KeepsOthers names more T U ids) where
  pub all_named : (xs : List ℕ) (ss : List ScopeId) → map names xs ≡ map Some ss → map more xs ≡ map Some ss
  all_named [] [] e = refl
  all_named [] (s ∷ ss) e = absurd (cc)
  all_named (x ∷ xs) [] e = absurd (cc)
  all_named (x ∷ xs) (s ∷ ss) e =
      let here : names x ≡ Some s = cc in
      let rest : map names xs ≡ map Some ss = cc in
      let here_too = keeps.named x s here in
      let rest_too = all_named xs ss rest in
      cc

  pub held_still : (id : TaskId) (s : ScopeId) (opened : List ScopeId) → IsOther ids id → IsHeld names T id s opened → IsHeld more U id s opened
  held_still id s opened other h = record {
    holder = h.holder;
    there = keeps.held id h.holder other h.there;
    inside = keeps.named h.holder.scope s h.inside;
    opens = all_named h.holder.opened opened h.opens;
  }

  pub unit_still : (u : WorkUnit) → UnitStands given names T u → IsOtherUnit ids u → UnitStands given more U u
  unit_still (unit.Single target args scope origin id) f other = held_still id scope [] other f
  unit_still (unit.Chunk target args scope origin owner lo hi grain) f other = (record { number = f.0.number; named = keeps.named f.0.number scope f.0.named }, f.1)

  pub message_still : (from to : ℕ) (m : Msg) → MessageStands given names T from to m → IsOtherIn ids m → MessageStands given more U from to m
  message_still from to (msg.Complete s n) f other = f
  message_still from to (msg.Leave s) f other = f
  message_still from to (msg.Enrol s) f other = f
  message_still from to (msg.Spawn u) f other = unit_still u f other
  message_still from to (msg.StealGive u) f other = unit_still u f other
  message_still from to _ f other = tt

  pub slot_still : (core : ℕ) (body : Body) (slot : ℕ) (task : Suspended) → IsOther ids task.id → SlotStands given names T core body slot task → SlotStands given more U core body slot task
  slot_still core body slot task other f = record { held = held_still task.id task.scope task.opened other f.held; homes = f.homes; depth = f.depth; waits = f.waits }

  pub core_still : (core : ℕ) (body : Body) → ((slot : ℕ) (task : Suspended) → body.tasks.slots slot ≡ Some task → IsOther ids task.id) → CoreStands given names T core body → CoreStands given more U core body
  core_still core body others f = record {
    counts = f.counts;
    masters = f.masters;
    owners = f.owners;
    waiters = f.waiters;
    slots = λ slot task e. slot_still core body slot task (others slot task e) (f.slots slot task e);
    fresh = f.fresh;
  }

-- ---- a number of a master, which stands at its home alone

at_home : (o : Option Master) (c : ℕ) (s : ScopeId) → ((m : Master) → o ≡ Some m → s.core ≡ c) → s.core ≢ c → o ≡ None
at_home None c s f ne = refl
at_home (Some m) c s f ne = absurd (ne (f m refl))

-- ---- an outcome

pub scopes_kept : ScopesAreKept
scopes_kept given names more T U w v c got e ids acts a old =
    let n = given.setup.cores in
    let A = bodies w in
    let B = put (bodies w) c e.body in
    let same : bodies v ≡ B = acted_bodies n w v c got e acts in
    let left = (facts_off n w v c got e acts (MessageStands given names T) old.messages).1 in
    let apart = (facts_off n w v c got e acts (λ from to m. IsOtherIn ids m) a.away.messages).1 in
    let rest = every_with messages_in (MessageStands given names T) (λ from to m. IsOtherIn ids m) (MessageStands given more U) n (without n w v c got e acts)
    (message_still given names more T U ids a.kept) left apart in
    let active_total : (s : ScopeId) → total n (λ i. is_active ((B i).scopes.counts s)) + is_active ((A c).scopes.counts s) ≡ total n (λ i. is_active ((A i).scopes.counts s)) + is_active (e.body.scopes.counts s)
    = λ s. total_put (λ (i : ℕ) (b : Body). is_active (b.scopes.counts s)) A c e.body n acts.here in
    let sums = a.sums in
    let counts_at : (s : ScopeId) (i : ℕ) → counted ((B i).scopes.counts s) ≡ census (of_scope s i) given v + late_at s given.slots (B i) + in_flight (completes s i) n v
    = λ s i. put_each (λ (i : ℕ) (b : Body). counted (b.scopes.counts s) ≡ census (of_scope s i) given v + late_at s given.slots b + in_flight (completes s i) n v) A c e.body i
    (λ q. subst (λ (j : ℕ). counted (e.body.scopes.counts s) ≡ census (of_scope s j) given v + late_at s given.slots e.body + in_flight (completes s j) n v) (sym q)
    (omega (arith, sums.counts s, census_law given w v c got e acts (of_scope s c), flow n w v c got e acts (completes s c) (completes_add s c), old.counts s c)))
    (λ q. omega (arith, sums.others s i q, census_law given w v c got e acts (of_scope s i), flow n w v c got e acts (completes s i) (completes_add s i), old.counts s i)) in
    let active_is : (s : ScopeId) → active_at ((B s.core).scopes.masters s) ≡ total n (λ i. is_active ((B i).scopes.counts s)) + in_flight (leaves s) n v + in_flight (acks s) n v
    = λ s. put_each (λ (i : ℕ) (b : Body). i ≡ s.core → active_at (b.scopes.masters s) ≡ total n (λ i. is_active ((B i).scopes.counts s)) + in_flight (leaves s) n v + in_flight (acks s) n v) A c e.body s.core
    (λ q r. omega (arith, sums.active s, active_total s, flow n w v c got e acts (leaves s) (leaves_add s), flow n w v c got e acts (acks s) (acks_add s), old.active s, ap (λ (i : ℕ). active_at ((A i).scopes.masters s)) q))
    (λ q r. omega (
      arith,
      sums.active s,
      active_total s,
      flow n w v c got e acts (leaves s) (leaves_add s),
      flow n w v c got e acts (acks s) (acks_add s),
      old.active s,
      ap active_at (at_home ((A c).scopes.masters s) c s (λ m h. ((old.cores c).masters s m h).home) q),
      ap active_at (at_home (e.body.scopes.masters s) c s (λ m h. (a.core.masters s m h).home) q),
    ))
    refl in
    let enrolling_is : (s : ScopeId) (i : ℕ) → in_flight (enrolments s i) n v ≡ is_waiting ((B i).scopes.counts s)
    = λ s i. put_each (λ (i : ℕ) (b : Body). in_flight (enrolments s i) n v ≡ is_waiting (b.scopes.counts s)) A c e.body i
    (λ q. subst (λ (j : ℕ). in_flight (enrolments s j) n v ≡ is_waiting (e.body.scopes.counts s)) (sym q)
    (omega (arith, sums.enrolling s, flow n w v c got e acts (enrolments s c) (enrolments_add s c), old.enrolling s c)))
    (λ q. omega (arith, sums.elsewhere s i q, flow n w v c got e acts (enrolments s i) (enrolments_add s i), old.enrolling s i)) in
    record {
      cores = λ i. subst (λ (X : ℕ → Body). CoreStands given more U i (X i)) (sym same)
          (put_each (λ (i : ℕ) (b : Body). CoreStands given more U i b) A c e.body i
          (λ q. subst (λ (j : ℕ). CoreStands given more U j e.body) (sym q) a.core)
          (λ q. core_still given names more T U ids a.kept i (A i) (λ slot task h. a.away.slots i slot task q h) (old.cores i)));
      private = λ i l. subst (λ (X : ℕ → Body). Each (UnitStands given more U) (X i).work.private) (sym same)
          (put_each (λ (i : ℕ) (b : Body). Each (UnitStands given more U) b.work.private) A c e.body i (λ q. a.private)
          (λ q. Each-weaker (UnitStands given names T) (IsOtherUnit ids) (UnitStands given more U) (unit_still given names more T U ids a.kept) (A i).work.private (old.private i l) (a.away.private i l)));
      public = λ i l. subst (λ (X : ℕ → Body). Each (UnitStands given more U) (X i).work.public) (sym same)
          (put_each (λ (i : ℕ) (b : Body). Each (UnitStands given more U) b.work.public) A c e.body i (λ q. a.public)
          (λ q. Each-weaker (UnitStands given names T) (IsOtherUnit ids) (UnitStands given more U) (unit_still given names more T U ids a.kept) (A i).work.public (old.public i l) (a.away.public i l)));
      messages = facts_on n w v c got e acts (MessageStands given more U) (stand_merge given more U) rest a.sends;
      named = subst (λ (X : ℕ → Body). NamesStand given more X U) (sym same) a.named;
      root = subst (λ (X : ℕ → Body). RootStands X U) (sym same) a.root;
      counts = λ s i. subst (λ (X : ℕ → Body). counted ((X i).scopes.counts s) ≡ census (of_scope s i) given v + late_at s given.slots (X i) + in_flight (completes s i) n v) (sym same) (counts_at s i);
      active = λ s. subst (λ (X : ℕ → Body). active_at ((X s.core).scopes.masters s) ≡ total n (λ i. is_active ((X i).scopes.counts s)) + in_flight (leaves s) n v + in_flight (acks s) n v) (sym same) (active_is s);
      enrolling = λ s i. subst (λ (X : ℕ → Body). in_flight (enrolments s i) n v ≡ is_waiting ((X i).scopes.counts s)) (sym same) (enrolling_is s i);
    }

-- ---- a Ship or a Take

pub scopes_moved : MovesKeepScopes
scopes_moved given names tree w v m old =
    let n = given.setup.cores in
    let same : bodies v ≡ bodies w = moved_bodies n w v m in
    record {
      cores = λ i. subst (λ (X : ℕ → Body). CoreStands given names tree i (X i)) (sym same) (old.cores i);
      private = λ i l. subst (λ (X : ℕ → Body). Each (UnitStands given names tree) (X i).work.private) (sym same) (old.private i l);
      public = λ i l. subst (λ (X : ℕ → Body). Each (UnitStands given names tree) (X i).work.public) (sym same) (old.public i l);
      messages = moved_facts n w v m (MessageStands given names tree) old.messages;
      named = subst (λ (X : ℕ → Body). NamesStand given names X tree) (sym same) old.named;
      root = subst (λ (X : ℕ → Body). RootStands X tree) (sym same) old.root;
      counts = λ s i. subst (λ (X : ℕ → Body). counted ((X i).scopes.counts s) ≡ census (of_scope s i) given v + late_at s given.slots (X i) + in_flight (completes s i) n v) (sym same)
          (omega (arith, old.counts s i, moved_census given w v m (of_scope s i), moved_flow n w v m (completes s i)));
      active = λ s. subst (λ (X : ℕ → Body). active_at ((X s.core).scopes.masters s) ≡ total n (λ i. is_active ((X i).scopes.counts s)) + in_flight (leaves s) n v + in_flight (acks s) n v) (sym same)
          (omega (arith, old.active s, moved_flow n w v m (leaves s), moved_flow n w v m (acks s)));
      enrolling = λ s i. subst (λ (X : ℕ → Body). in_flight (enrolments s i) n v ≡ is_waiting ((X i).scopes.counts s)) (sym same) (moved_flow n w v m (enrolments s i) ∙ old.enrolling s i);
    }
