-- The number of a core's next scope; ends of tasks that are told; and the active cores of a scope: each grows by one at most.
use Rattle.std.proofs.Common.{◌≡◌, ◌≤◌, ℕ, ◌+◌, ◌-◌, refl, ap, subst, arith, inl, inr}
use Rattle.std.specs.Prelude.{Bool, true, false, Option, Some, None, if◌then◌else◌, is_some}
use Rattle.std.specs.Option.{option_map}
use Rattle.gr_msg.specs.declared.message.ScopeId.{ScopeId}
use Rattle.gr_msg.specs.declared.message.Msg.{Msg}
use Rattle.gr_msg.specs.declared.message.Msg.TheVariants as msg
use Rattle.gr_event.specs.Scopes.{put_scope}
use Rattle.gr_event.specs.Masters.{enrol_one, after_leave, new_master, wait_for, released}
use Rattle.gr_event.specs.declared.masters.Master.{Master}
use Rattle.gr_event.specs.declared.masters.Waiter.{Waiter}
use Rattle.gr_event.specs.declared.masters.Waiter.TheVariants as waiter
use Rattle.gr_event.proofs.ScopePuts.{put_scope_at, put_scope_other}
use Rattle.gr_machine.specs.Machines.{Machine}
use Rattle.gr_machine.specs.Openings.{root_scope}
use Rattle.gr_scopes.specs.Sums.{if_scope, active_at}
use Rattle.gr_scopes.proofs.Counts.{cases_scope, if_scope_self, if_scope_off}
use Rattle.gr_bounds_numbers.specs.Bounds.{weightless, ends_told, enrols_asked}
use Rattle.gr_bounds_numbers.specs.Laws as laws
use Rattle.gr_bounds_numbers.proofs.Plain.{Numbers, IsPlain}
use Rattle.gr_bounds_numbers.proofs.Counting.{CountRules}
use Rattle.gr_bounds.specs.Outcomes.{NoneKnown}
use Rattle.gr_bounds_numbers.proofs.Grows.{grows}

-- ---- scopes

abbrev NextScope : ℕ → Numbers → ℕ → Type 0
NextScope me n x = n.scopes.next ≤ x

scope_rules : (machine : Machine) → CountRules NextScope weightless machine NoneKnown
scope_rules machine = record {
  adds = λ from to scope one other. refl;
  light = λ from to message p. refl;
  knows = λ me body k. k;
  more = λ me n x f. omega (arith, f);
  joined = λ me n object held x f. omega (arith, f);
  closed = λ me n object x f. omega (arith, f);
  made = λ me n x f. omega (arith, f);
  counted = λ me n scope tasks e x f. omega (arith, f);
  asks = λ me n scope slot e x f. record { share = x; fact = f; all = omega arith };
  waits = λ me n scope slot slots e x f. omega (arith, f);
  acked = λ me n scope slots some e l x f. omega (arith, f);
  finish = λ me n scope c m x f. omega (arith, f);
  range = λ me body slot task known there lo hi grain target args a scope c m who x f. omega (arith, f);
  completed_by = λ me n scope tasks x f. f;
  waited_by = λ me n scope who x f. f;
  left_by = λ me n scope x f. f;
  enrols = λ me from n scope x f. record { share = x; fact = f; all = omega arith };
  ends = λ from to scope. omega arith;
}

pub scopes_grow : laws.ScopesGrow
scopes_grow = grows NextScope weightless scope_rules (λ machine slot. omega arith) (λ machine me. omega arith)

-- ---- ends

abbrev NoEnds : ℕ → Numbers → ℕ → Type 0
NoEnds me n x = Unit

ends_light : (from to : ℕ) (message : Msg) → IsPlain message → ends_told from to message ≡ 0
ends_light from to (msg.Complete scope tasks) p = absurd p
ends_light from to _ p = refl

end_rules : (machine : Machine) → CountRules NoEnds ends_told machine NoneKnown
end_rules machine = record {
  adds = λ from to scope one other. refl;
  light = ends_light;
  knows = λ me body k. k;
  more = λ me n x f. f;
  joined = λ me n object held x f. f;
  closed = λ me n object x f. f;
  made = λ me n x f. f;
  counted = λ me n scope tasks e x f. f;
  asks = λ me n scope slot e x f. record { share = x; fact = f; all = omega arith };
  waits = λ me n scope slot slots e x f. f;
  acked = λ me n scope slots some e l x f. f;
  finish = λ me n scope c m x f. f;
  range = λ me body slot task known there lo hi grain target args a scope c m who x f. f;
  completed_by = λ me n scope tasks x f. f;
  waited_by = λ me n scope who x f. f;
  left_by = λ me n scope x f. f;
  enrols = λ me from n scope x f. record { share = x; fact = f; all = omega arith };
  ends = λ from to scope. omega arith;
}

pub ends_grow : laws.EndsGrow
ends_grow = grows NoEnds ends_told end_rules (λ machine slot. tt) (λ machine me. tt)

-- ---- active cores

module _ (q : ScopeId) where
  abbrev Active : ℕ → Numbers → ℕ → Type 0
  Active me n x = active_at (n.scopes.masters q) ≤ x

  one_at_most : (scope : ScopeId) → if_scope q scope 1 ≤ 1
  one_at_most scope = elim (cases_scope q scope) [
    | inl e ↦ subst (λ (s : ScopeId). if_scope q s 1 ≤ 1) e (omega (arith, if_scope_self q 1))
    | inr e ↦ omega (arith, if_scope_off q scope 1 e)
  ]

  -- A master in the place of one with fewer active cores, by so many at most.
  put_active : (masters : ScopeId → Option Master) (scope : ScopeId) (master : Option Master) (more : ℕ) → active_at master ≤ active_at (masters scope) + more
      → active_at (put_scope masters scope master q) ≤ active_at (masters q) + if_scope q scope more
  put_active masters scope master more l = elim (cases_scope q scope) [
    | inl e ↦ subst (λ (s : ScopeId). active_at (put_scope masters s master q) ≤ active_at (masters q) + if_scope q s more) e
        (omega (arith, ap active_at (put_scope_at masters q master), if_scope_self q more, l, ap (λ (s : ScopeId). active_at (masters s)) e))
    | inr e ↦ omega (arith, ap active_at (put_scope_other masters scope master q e))
  ]

  none_of : (scope : ScopeId) → if_scope q scope 0 ≡ 0
  none_of scope = elim (cases_scope q scope) [
    | inl e ↦ subst (λ (s : ScopeId). if_scope q s 0 ≡ 0) e (if_scope_self q 0)
    | inr e ↦ if_scope_off q scope 0 e
  ]

  put_same_active : (masters : ScopeId → Option Master) (scope : ScopeId) (master : Option Master) → active_at master ≤ active_at (masters scope) + 0
      → active_at (put_scope masters scope master q) ≤ active_at (masters q)
  put_same_active masters scope master l = omega (arith, put_active masters scope master 0 l, none_of scope)

  waited_active : (who : Waiter) (master : Option Master) → active_at (option_map (wait_for who) master) ≤ active_at master + 0
  waited_active who None = omega arith
  waited_active who (Some master) = omega arith

  left_active : (master : Option Master) → active_at (after_leave master) ≤ active_at master + 0
  left_active None = omega arith
  left_active (Some master) = both (is_some (released (Some master)))
    where
      both : (b : Bool) → active_at (if b then None else Some (record { active = master.active - 1; waiter = master.waiter })) ≤ master.active + 0
      both true = omega arith
      both false = omega arith

  enrolled_active : (master : Option Master) → active_at (option_map enrol_one master) ≤ active_at master + 1
  enrolled_active None = omega arith
  enrolled_active (Some master) = omega arith

  active_light : (from to : ℕ) (message : Msg) → IsPlain message → enrols_asked q from to message ≡ 0
  active_light from to (msg.Enrol scope) p = absurd p
  active_light from to _ p = refl

  active_rules : (machine : Machine) → CountRules Active (enrols_asked q) machine NoneKnown
  active_rules machine = record {
    adds = λ from to scope one other. refl;
    light = active_light;
    knows = λ me body k. k;
    more = λ me n x f. omega (arith, f);
    joined = λ me n object held x f. omega (arith, f);
    closed = λ me n object x f. omega (arith, f);
    made = λ me n x f. omega (arith, f);
    counted = λ me n scope tasks e x f. omega (arith, f);
    asks = λ me n scope slot e x f. record { share = x; fact = f; all = omega (arith, one_at_most scope) };
    waits = λ me n scope slot slots e x f. omega (arith, f);
    acked = λ me n scope slots some e l x f. omega (arith, f);
    finish = λ me n scope c m x f. omega (arith, f, put_active n.scopes.masters scope (Some new_master) 1 (omega arith), one_at_most scope);
    range = λ me body slot task known there lo hi grain target args a scope c m who x f.
        omega (arith, f, put_active body.scopes.masters scope (Some (wait_for who new_master)) 1 (omega arith), one_at_most scope);
    completed_by = λ me n scope tasks x f. f;
    waited_by = λ me n scope who x f. omega (arith, f, put_same_active n.scopes.masters scope (option_map (wait_for who) (n.scopes.masters scope)) (waited_active who (n.scopes.masters scope)));
    left_by = λ me n scope x f. omega (arith, f, put_same_active n.scopes.masters scope (after_leave (n.scopes.masters scope)) (left_active (n.scopes.masters scope)));
    enrols = λ me from n scope x f. record {
      share = x + if_scope q scope 1;
      fact = omega (arith, f, put_active n.scopes.masters scope (option_map enrol_one (n.scopes.masters scope)) 1 (enrolled_active (n.scopes.masters scope)));
      all = omega arith;
    };
    ends = λ from to scope. omega arith;
  }

  root_active : active_at (put_scope {X = Option Master} (λ scope. None) root_scope (Some (wait_for waiter.Root new_master)) q) ≤ 1
  root_active = omega (arith, put_active (λ scope. None) root_scope (Some (wait_for waiter.Root new_master)) 1 (omega arith), one_at_most root_scope)

pub active_grow : laws.ActiveGrow
active_grow q = grows (Active q) (enrols_asked q) (active_rules q) (λ machine slot. root_active q) (λ machine me. omega arith)
