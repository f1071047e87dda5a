-- The number of a core's next task, with the slots that wait until they may make one, grows by one at most.
use Rattle.std.proofs.Common.{◌≡◌, ◌≤◌, ◌⊎◌, ℕ, ◌+◌, ◌-◌, ◌==◌, List, [], ◌∷◌, ◌++◌, length, refl, ap, subst, arith, inl, inr}
use Rattle.std.specs.Prelude.{Bool, true, false, Option, Some, None, if◌then◌else◌}
use Rattle.std.proofs.lemmas.List.{length-append}
use Rattle.gr_msg.specs.Scopes.{same_scope}
use Rattle.gr_msg.specs.declared.message.ScopeId.{ScopeId}
use Rattle.gr_event.specs.Scopes.{put_scope}
use Rattle.gr_event.specs.Counts.{completed}
use Rattle.gr_event.specs.declared.counts.LocalCount.{LocalCount}
use Rattle.gr_event.specs.declared.counts.LocalCount.TheVariants as count
use Rattle.gr_event.proofs.ScopePuts.{put_scope_at, put_scope_other}
use Rattle.gr_net.specs.Sums.{weigh, Each}
use Rattle.gr_machine.specs.Machines.{Machine}
use Rattle.gr_machine.specs.Openings.{root_scope}
use Rattle.gr_scopes.specs.Sums.{slots_in}
use Rattle.gr_scopes.proofs.Counts.{cases_scope}
use Rattle.gr_bounds_numbers.specs.Bounds.{weightless, AreDistinct}
use Rattle.gr_bounds_tasks.specs.Laws as laws
use Rattle.gr_bounds_numbers.proofs.Plain.{Numbers, numbers}
use Rattle.gr_bounds_numbers.proofs.Counting.{CountRules}
use Rattle.gr_bounds.specs.Outcomes.{NoneKnown}
use Rattle.gr_bounds_numbers.proofs.Grows.{grows}

-- ---- sums over scopes of which none is named twice

module _ {X : Type 0} (F : X → ℕ) (f : ScopeId → X) (scope : ScopeId) (value : X) where
  abbrev after : ScopeId → ℕ
  after other = F (put_scope f scope value other)

  abbrev before : ScopeId → ℕ
  before other = F (f other)

  pub absent_same : (scopes : List ScopeId) → Each (λ other. same_scope other scope ≡ false) scopes → weigh after scopes ≡ weigh before scopes
  absent_same [] e = refl
  absent_same (other ∷ scopes) e = omega (arith, absent_same scopes e.1, ap F (put_scope_other f scope value other e.0))

  pub put_rises : (more : ℕ) → F value ≤ F (f scope) + more → (scopes : List ScopeId) → AreDistinct scopes → weigh after scopes ≤ weigh before scopes + more
  put_rises more l [] d = omega arith
  put_rises more l (other ∷ scopes) d = elim (cases_scope other scope) [
    | inl e ↦ omega (arith, l, ap after e, ap before e, ap F (put_scope_at f scope value), absent_same scopes (subst (λ (s : ScopeId). Each (λ one. same_scope one s ≡ false) scopes) e d.0))
    | inr e ↦ omega (arith, put_rises more l scopes d.1, ap F (put_scope_other f scope value other e))
  ]

  pub put_falls : F value ≡ 0 → (scopes : List ScopeId) → AreDistinct scopes
      → Each (λ other. same_scope other scope ≡ false) scopes ⊎ (weigh after scopes + F (f scope) ≤ weigh before scopes)
  put_falls z [] d = inl tt
  put_falls z (other ∷ scopes) d = elim (cases_scope other scope) [
    | inl e ↦ inr (omega (arith, z, ap after e, ap before e, ap F (put_scope_at f scope value), absent_same scopes (subst (λ (s : ScopeId). Each (λ one. same_scope one s ≡ false) scopes) e d.0)))
    | inr e ↦ elim (put_falls z scopes d.1) [
      | inl a ↦ inl (e, a)
      | inr l ↦ inr (omega (arith, l, ap F (put_scope_other f scope value other e)))
    ]
  ]

-- ---- the number with those that wait

abbrev waiting : Option LocalCount → ℕ
waiting local = length (slots_in local)

abbrev NextTask : ℕ → Numbers → ℕ → Type 0
NextTask me n x = (scopes : List ScopeId) → AreDistinct scopes → n.task + weigh (λ scope. waiting (n.scopes.counts scope)) scopes ≤ x

module _ (n : Numbers) (scope : ScopeId) (x : ℕ) (old : NextTask 0 n x) where
  -- More tasks, while others wait no more.
  changed : (local : Option LocalCount) (tasks more waits : ℕ) → waiting local ≤ waiting (n.scopes.counts scope) + waits → n.task + more ≡ tasks
      → (scopes : List ScopeId) → AreDistinct scopes → tasks + weigh (λ other. waiting (put_scope n.scopes.counts scope local other)) scopes ≤ x + (more + waits)
  changed local tasks more waits l e scopes d = omega (arith, old scopes d, e, put_rises waiting n.scopes.counts scope local waits l scopes d)

  made_all : (local : Option LocalCount) (some : ℕ) → waiting local ≡ 0 → some ≤ waiting (n.scopes.counts scope)
      → (scopes : List ScopeId) → AreDistinct scopes → (n.task + some) + weigh (λ other. waiting (put_scope n.scopes.counts scope local other)) scopes ≤ x
  made_all local some z l scopes d = elim (put_falls waiting n.scopes.counts scope local z scopes d) [
    | inl a ↦ omega (arith, l, old (scope ∷ scopes) (a, d), absent_same waiting n.scopes.counts scope local scopes a)
    | inr b ↦ omega (arith, l, old scopes d, b)
  ]

completed_waits : (local : Option LocalCount) (tasks : ℕ) → waiting (completed local tasks) ≤ waiting local + 0
completed_waits None tasks = omega arith
completed_waits (Some (count.Waits slots)) tasks = omega arith
completed_waits (Some (count.Active more)) tasks = both (more == tasks)
  where
    both : (b : Bool) → waiting (if b then None else Some (count.Active (more - tasks))) ≤ 0 + 0
    both true = omega arith
    both false = omega arith

task_rules : (machine : Machine) → CountRules NextTask weightless machine NoneKnown
task_rules machine = record {
  adds = λ from to scope one other. refl;
  light = λ from to message p. refl;
  knows = λ me body k. k;
  more = λ me n x f scopes d. omega (arith, f scopes d);
  joined = λ me n object held x f scopes d. omega (arith, f scopes d);
  closed = λ me n object x f scopes d. omega (arith, f scopes d);
  made = λ me n x f scopes d. omega (arith, f scopes d);
  counted = λ me n scope tasks e x f scopes d. omega (arith, changed n scope x f (Some (count.Active (tasks + 1))) (n.task + 1) 1 0 (omega arith) refl scopes d);
  asks = λ me n scope slot e x f. record {
    share = x + 1;
    fact = λ scopes d. omega (arith, changed n scope x f (Some (count.Waits (slot ∷ []))) n.task 0 1 (omega arith) (omega arith) scopes d);
    all = omega arith;
  };
  waits = λ me n scope slot slots e x f scopes d. omega (arith, changed n scope x f (Some (count.Waits (slots ++ slot ∷ []))) n.task 0 1 (omega (arith, ap waiting e, length-append slots (slot ∷ []))) (omega arith) scopes d);
  acked = λ me n scope slots some e l x f scopes d. omega (arith, made_all n scope x f (Some (count.Active (length slots))) some refl (omega (arith, l, ap waiting e)) scopes d);
  finish = λ me n scope c m x f scopes d. omega (arith, changed n scope x f (Some (count.Active 1)) n.task 0 0 (omega arith) (omega arith) scopes d);
  range = λ me body slot task known there lo hi grain target args a scope c m who x f scopes d.
      omega (arith, changed (numbers body) scope x f (Some (count.Active (hi - lo))) body.tasks.next 0 0 (omega arith) (omega arith) scopes d);
  completed_by = λ me n scope tasks x f scopes d. omega (arith, changed n scope x f (completed (n.scopes.counts scope) tasks) n.task 0 0 (completed_waits (n.scopes.counts scope) tasks) (omega arith) scopes d);
  waited_by = λ me n scope who x f. f;
  left_by = λ me n scope x f. f;
  enrols = λ me from n scope x f. record { share = x; fact = f; all = omega arith };
  ends = λ from to scope. omega arith;
}

no_slots : (scopes : List ScopeId) → weigh {X = ScopeId} (λ scope. 0) scopes ≡ 0
no_slots [] = refl
no_slots (scope ∷ scopes) = omega (arith, no_slots scopes)

root_waits : (scopes : List ScopeId) → AreDistinct scopes → 1 + weigh (λ other. waiting (put_scope (λ scope. None) root_scope (Some (count.Active 1)) other)) scopes ≤ 1
root_waits scopes d = omega (arith, put_rises waiting (λ scope. None) root_scope (Some (count.Active 1)) 0 (omega arith) scopes d, no_slots scopes)

pub tasks_grow : laws.TasksGrow
tasks_grow = grows NextTask weightless task_rules (λ machine slot. root_waits) (λ machine me scopes d. omega (arith, no_slots scopes))
