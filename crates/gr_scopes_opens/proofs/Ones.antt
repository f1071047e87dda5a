-- Outcomes that change at most one slot, and the count and master of at most one scope: what they owe to the part of scopes.
use Rattle.std.proofs.Common.{◌≡◌, ◌⊎◌, ◌≢◌, ℕ, zero, suc, ◌+◌, ◌<◌, ◌≤◌, Bool, true, false, List, [], ◌∷◌, length, inl, inr, sym, ◌∙◌, ap, subst, refl, arith, Option, Some, None}
use mathlib.Core.Path.{fun_ext}
use Rattle.gr_lang.specs.declared.action.TaskId.{TaskId}
use Rattle.gr_view.specs.Places.{put}
use Rattle.gr_msg.specs.Scopes.{same_scope}
use Rattle.gr_msg.specs.declared.message.ScopeId.{ScopeId}
use Rattle.gr_event.specs.Scopes.{put_scope}
use Rattle.gr_event.specs.declared.counts.LocalCount.{LocalCount}
use Rattle.gr_event.specs.declared.masters.Master.{Master}
use Rattle.gr_event.proofs.ScopePuts.{put_scope_at, put_scope_other}
use Rattle.gr_net.proofs.Spreads.{put_same, put_other}
use Rattle.gr_machine.specs.declared.waits.Waits.{Waits}
use Rattle.gr_machine.specs.declared.waits.Waits.TheVariants as wait
use Rattle.gr_machine.specs.States.{Letter, Suspended, Body}
use Rattle.gr_machine.specs.Outcomes.{Outcome}
use Rattle.gr_stands.specs.Worlds.{Given, World, bodies, of_letters, of_sends}
use Rattle.gr_stands.specs.Censuses.{Weights, of_held, body_census}
use Rattle.gr_stands.specs.Calls.{of_slot, times}
use Rattle.gr_stands.specs.CallActs.{IsOther}
use Rattle.gr_scopes.specs.Trees.{Tree, Names}
use Rattle.gr_scopes.specs.Sums.{if_scope, counted, is_active, is_waiting, slots_in, active_at, is_there, is_waited_for, is_enrolling, is_late, late_at, of_scope, enrolments}
use Rattle.gr_scopes.specs.Scopes.{IsWaiter, SlotStands, MasterStands, CountIsSome, CoreStands}
use Rattle.gr_scopes.specs.ScopeActs.{KeepsOthers, counts_got, counts_sent, active_got, active_sent, SumsAct}
use Rattle.gr_scopes.proofs.Counts.{cases_scope, scope_put, late_put, late_same, units_weigh, census_put, census_same}
use Rattle.gr_scopes.proofs.Cores.{CoreAct, core_acted}

-- ---- one slot

-- Slot k has this task afterwards, and every other is as before.
pub record SlotIs (given : Given) (a b : Body) (k : ℕ) (o : Option Suspended) : Type 0 where
  pub here : b.tasks.slots k ≡ o
  pub same : (l : ℕ) → l ≢ k → b.tasks.slots l ≡ a.tasks.slots l
  pub late : (q : ScopeId) → late_at q given.slots b + of_held (is_late q) (a.tasks.slots k) ≡ late_at q given.slots a + of_held (is_late q) o
  pub census : (h : Weights) → body_census h given.slots b + (of_held h.of_task (a.tasks.slots k) + units_weigh h a) ≡ body_census h given.slots a + (of_held h.of_task o + units_weigh h b)

pub slot_put : (given : Given) (a b : Body) (k : ℕ) (o : Option Suspended) → k < given.slots → b.tasks.slots ≡ put a.tasks.slots k o → SlotIs given a b k o
slot_put given a b k o l e = record {
  here = ap (λ (f : ℕ → Option Suspended). f k) e ∙ put_same a.tasks.slots k o;
  same = λ i ne. ap (λ (f : ℕ → Option Suspended). f i) e ∙ put_other a.tasks.slots k o i ne;
  late = λ q. late_put q given.slots a b k o l e;
  census = λ h. census_put h given.slots a b k o l e;
}

pub slot_none : (given : Given) (a b : Body) (k : ℕ) → a.tasks.slots k ≡ None → b.tasks.slots ≡ a.tasks.slots → SlotIs given a b k None
slot_none given a b k z e = record {
  here = ap (λ (f : ℕ → Option Suspended). f k) e ∙ z;
  same = λ i ne. ap (λ (f : ℕ → Option Suspended). f i) e;
  late = λ q. omega (arith, late_same q given.slots a b e, ap (of_held (is_late q)) z);
  census = λ h. omega (arith, census_same h given.slots a b e, ap (of_held h.of_task) z);
}

-- ---- one scope

-- The scope has this count and this master afterwards, and every other is as before.
pub record ScopeIs (a b : Body) (s : ScopeId) (c : Option LocalCount) (m : Option Master) : Type 0 where
  pub counts : b.scopes.counts ≡ put_scope a.scopes.counts s c
  pub masters : b.scopes.masters ≡ put_scope a.scopes.masters s m

-- Putting what is there changes nothing.
pub put_scope_itself : {X : Type 0} (f : ScopeId → X) (s : ScopeId) → f ≡ put_scope f s (f s)
put_scope_itself f s = fun_ext (λ q. elim (cases_scope q s) [
  | inl e ↦ ap f e ∙ sym (put_scope_at f s (f s)) ∙ ap (put_scope f s (f s)) (sym e)
  | inr e ↦ sym (put_scope_other f s (f s) q e)
])

module _ (a b : Body) (s : ScopeId) (c : Option LocalCount) (m : Option Master) (is : ScopeIs a b s c m) where
  pub count_here : b.scopes.counts s ≡ c
  count_here = ap (λ (f : ScopeId → Option LocalCount). f s) is.counts ∙ put_scope_at a.scopes.counts s c

  pub master_here : b.scopes.masters s ≡ m
  master_here = ap (λ (f : ScopeId → Option Master). f s) is.masters ∙ put_scope_at a.scopes.masters s m

  pub count_off : (q : ScopeId) → same_scope q s ≡ false → b.scopes.counts q ≡ a.scopes.counts q
  count_off q e = ap (λ (f : ScopeId → Option LocalCount). f q) is.counts ∙ put_scope_other a.scopes.counts s c q e

  pub master_off : (q : ScopeId) → same_scope q s ≡ false → b.scopes.masters q ≡ a.scopes.masters q
  master_off q e = ap (λ (f : ScopeId → Option Master). f q) is.masters ∙ put_scope_other a.scopes.masters s m q e

  pub count_sum : (F : Option LocalCount → ℕ) (q : ScopeId) → F (b.scopes.counts q) + if_scope q s (F (a.scopes.counts s)) ≡ F (a.scopes.counts q) + if_scope q s (F c)
  count_sum F q = omega (arith, ap (λ (f : ScopeId → Option LocalCount). F (f q)) is.counts, scope_put F a.scopes.counts s c q)

  pub master_sum : (F : Option Master → ℕ) (q : ScopeId) → F (b.scopes.masters q) + if_scope q s (F (a.scopes.masters s)) ≡ F (a.scopes.masters q) + if_scope q s (F m)
  master_sum F q = omega (arith, ap (λ (f : ScopeId → Option Master). F (f q)) is.masters, scope_put F a.scopes.masters s m q)

-- ---- what such an outcome owes

-- To the core: of the slot and of the scope.
pub record OneAct (given : Given) (more : Names) (after : Tree) (ids : List TaskId) (me : ℕ) (a b : Body) (k : ℕ) (o : Option Suspended) (s : ScopeId) (c : Option LocalCount) (m : Option Master) : Type 0 where
  pub slot : SlotIs given a b k o
  pub scope : ScopeIs a b s c m
  pub new : (u : Suspended) → o ≡ Some u → SlotStands given more after me b k u
  pub others : (l : ℕ) (u : Suspended) → l ≢ k → a.tasks.slots l ≡ Some u → IsOther ids u.id
  pub left : (u : Suspended) (q : ScopeId) → a.tasks.slots k ≡ Some u → u.waits ≡ wait.Scope q → q ≡ s
  pub stays : (l : ℕ) (u : Suspended) → l ≢ k → a.tasks.slots l ≡ Some u → IsWaiter a l u s → IsWaiter b l u s
  pub count : CountIsSome c
  pub master : (master : Master) → m ≡ Some master → MasterStands me b s master
  pub owners : (q : ScopeId) → if_scope q s (is_waited_for m) + of_held (is_late q) o + if_scope q s (is_there (a.scopes.masters s))
      ≡ if_scope q s (is_waited_for (a.scopes.masters s)) + of_held (is_late q) (a.tasks.slots k) + if_scope q s (is_there m)
  pub waiters_here : (q : ScopeId) → times k (slots_in (b.scopes.counts q)) ≡ of_slot (is_enrolling q) o
  pub waiters_other : (l : ℕ) → l ≢ k → times l (slots_in c) ≡ times l (slots_in (a.scopes.counts s))
  pub fresh : (number : ℕ) → b.scopes.next ≤ number → b.scopes.masters (record { core = me; number = number }) ≡ None

pub one_core : (given : Given) (names more : Names) (before after : Tree) (ids : List TaskId) (me : ℕ) (a b : Body) (k : ℕ) (o : Option Suspended) (s : ScopeId) (c : Option LocalCount) (m : Option Master)
    → KeepsOthers names more before after ids → OneAct given more after ids me a b k o s c m → CoreStands given names before me a → CoreStands given more after me b
one_core given names more before after ids me a b k o s c m keeps act old =
    let is = act.scope in
    let core : CoreAct given more after ids me a b k o s = record {
      here = act.slot.here;
      same = act.slot.same;
      late = act.slot.late;
      new = act.new;
      others = act.others;
      counts_off = count_off a b s c m is;
      count = subst CountIsSome (sym (count_here a b s c m is)) act.count;
      masters_off = master_off a b s c m is;
      master = λ master h. act.master master (sym (master_here a b s c m is) ∙ h);
      left = act.left;
      stays = act.stays;
      owners = λ q. omega (arith, act.owners q, master_sum a b s c m is is_waited_for q, master_sum a b s c m is is_there q);
      waiters_here = act.waiters_here;
      waiters_other = λ q l ne. elim (cases_scope q s) [
        | inl e ↦ subst (λ (r : ScopeId). times l (slots_in (b.scopes.counts r)) ≡ times l (slots_in (a.scopes.counts r))) (sym e)
            (ap (λ (x : Option LocalCount). times l (slots_in x)) (count_here a b s c m is) ∙ act.waiters_other l ne)
        | inr e ↦ ap (λ (x : Option LocalCount). times l (slots_in x)) (count_off a b s c m is q e)
      ];
      fresh = act.fresh;
    } in
    core_acted given names more before after ids me a b k o s keeps core old

-- The slots that wait are as before, where the slot's task waits for an enrolment as before and the scope's slots are the same.
pub waiters_stay : (given : Given) (names : Names) (tree : Tree) (me : ℕ) (a b : Body) (k : ℕ) (o : Option Suspended) (s : ScopeId) (c : Option LocalCount) (m : Option Master) → CoreStands given names tree me a → ScopeIs a b s c m
    → slots_in c ≡ slots_in (a.scopes.counts s) → ((q : ScopeId) → of_slot (is_enrolling q) o ≡ of_slot (is_enrolling q) (a.tasks.slots k)) → (q : ScopeId) → times k (slots_in (b.scopes.counts q)) ≡ of_slot (is_enrolling q) o
waiters_stay given names tree me a b k o s c m old is e f q = elim (cases_scope q s) [
  | inl g ↦ subst (λ (r : ScopeId). times k (slots_in (b.scopes.counts r)) ≡ of_slot (is_enrolling r) o) (sym g)
      (ap (λ (x : Option LocalCount). times k (slots_in x)) (count_here a b s c m is) ∙ ap (times k) e ∙ old.waiters s k ∙ sym (f s))
  | inr g ↦ ap (λ (x : Option LocalCount). times k (slots_in x)) (count_off a b s c m is q g) ∙ old.waiters q k ∙ sym (f q)
]

-- To the sums: of the slot, the scope, the units, and what is taken up and sent.
pub record OneSums (given : Given) (me : ℕ) (a : Body) (got : List Letter) (e : Outcome) (k : ℕ) (o : Option Suspended) (s : ScopeId) (c : Option LocalCount) (m : Option Master) : Type 0 where
  pub counts : (q : ScopeId) → if_scope q s (counted c) + (of_held (is_late q) (a.tasks.slots k) + of_held (of_scope q me).of_task (a.tasks.slots k) + units_weigh (of_scope q me) a + counts_got q me me got)
      ≡ if_scope q s (counted (a.scopes.counts s)) + (of_held (is_late q) o + of_held (of_scope q me).of_task o + units_weigh (of_scope q me) e.body + counts_sent q me me e)
  pub others : (q : ScopeId) (i : ℕ) → i ≢ me → of_held (of_scope q i).of_task (a.tasks.slots k) + units_weigh (of_scope q i) a + counts_got q i me got
      ≡ of_held (of_scope q i).of_task o + units_weigh (of_scope q i) e.body + counts_sent q i me e
  pub active : (q : ScopeId) → if_scope q s (active_at m) + (if_scope q s (is_active (a.scopes.counts s)) + active_got q me got)
      ≡ if_scope q s (active_at (a.scopes.masters s)) + (if_scope q s (is_active c) + active_sent q me e)
  pub enrolling : (q : ScopeId) → if_scope q s (is_waiting c) + of_letters (enrolments q me) me got ≡ if_scope q s (is_waiting (a.scopes.counts s)) + of_sends (enrolments q me) me e.sends
  pub elsewhere : (q : ScopeId) (i : ℕ) → i ≢ me → of_letters (enrolments q i) me got ≡ of_sends (enrolments q i) me e.sends

pub one_sums : (given : Given) (me : ℕ) (a : Body) (got : List Letter) (e : Outcome) (k : ℕ) (o : Option Suspended) (s : ScopeId) (c : Option LocalCount) (m : Option Master)
    → SlotIs given a e.body k o → ScopeIs a e.body s c m → OneSums given me a got e k o s c m → SumsAct given me a got e
one_sums given me a got e k o s c m slot is sums = record {
  counts = λ q. omega (arith, sums.counts q, slot.late q, slot.census (of_scope q me), count_sum a e.body s c m is counted q);
  others = λ q i ne. omega (arith, sums.others q i ne, slot.census (of_scope q i));
  active = λ q. omega (arith, sums.active q, count_sum a e.body s c m is is_active q, master_sum a e.body s c m is active_at q);
  enrolling = λ q. omega (arith, sums.enrolling q, count_sum a e.body s c m is is_waiting q);
  elsewhere = sums.elsewhere;
}
