-- The tasks of a scope that a core counts grow by one at most.
use Rattle.std.proofs.Common.{◌≡◌, ◌≤◌, ℕ, ◌+◌, ◌-◌, ◌==◌, List, [], ◌∷◌, ◌++◌, length, refl, ap, subst, arith, inl, inr}
use Rattle.std.specs.Prelude.{Bool, true, false, Option, Some, None, if◌then◌else◌}
use Rattle.std.proofs.lemmas.List.{length-append}
use Rattle.gr_lang.specs.declared.action.Action.{Action}
use Rattle.gr_lang.specs.declared.action.Action.TheVariants as action
use Rattle.gr_msg.specs.declared.message.ScopeId.{ScopeId}
use Rattle.gr_event.specs.Scopes.{put_scope}
use Rattle.gr_event.specs.Counts.{completed}
use Rattle.gr_event.specs.declared.counts.LocalCount.{LocalCount}
use Rattle.gr_event.specs.declared.counts.LocalCount.TheVariants as count
use Rattle.gr_event.proofs.ScopePuts.{put_scope_at, put_scope_other}
use Rattle.gr_machine.specs.Machines.{Machine}
use Rattle.gr_machine.specs.Openings.{root_scope}
use Rattle.gr_scopes.specs.Sums.{counted, slots_in}
use Rattle.gr_scopes.proofs.Counts.{cases_scope}
use Rattle.gr_bounds.proofs.Shares.{step_grows}
use Rattle.gr_bounds.proofs.Opening.{opens_at_one}
use Rattle.gr_bounds_numbers.specs.Bounds.{weightless}
use Rattle.gr_bounds_numbers.proofs.Plain.{Numbers}
use Rattle.gr_bounds_numbers.proofs.Rows.{rules_of}
use Rattle.gr_bounds_numbers.proofs.Counting.{CountRules, number_rules}
use Rattle.gr_bounds_numbers.proofs.Grows.{OfNumbers}
use Rattle.gr_bounds_counts.specs.Counts.{LoopFits, LoopsFit}
use Rattle.gr_bounds_counts.specs.Laws as laws

-- What a core counts, with the slots that wait.
abbrev size : Option LocalCount → ℕ
size local = counted local + length (slots_in local)

completed_size : (local : Option LocalCount) (tasks : ℕ) → size (completed local tasks) ≤ size local
completed_size None tasks = omega arith
completed_size (Some (count.Waits slots)) tasks = omega arith
completed_size (Some (count.Active more)) tasks = both (more == tasks)
  where
    both : (b : Bool) → size (if b then None else Some (count.Active (more - tasks))) ≤ more + 0
    both true = omega arith
    both false = omega arith

module _ (q : ScopeId) (loop : ℕ) where
  abbrev Sized : ℕ → Numbers → ℕ → Type 0
  Sized me n x = counted (n.scopes.counts q) + length (slots_in (n.scopes.counts q)) ≤ x + loop

  -- A count of a scope in the place of another one.
  put_size : (counts : ScopeId → Option LocalCount) (scope : ScopeId) (local : Option LocalCount) (most : ℕ) → size local ≤ most → size (counts q) ≤ most → size (put_scope counts scope local q) ≤ most
  put_size counts scope local most l m = elim (cases_scope q scope) [
    | inl e ↦ subst (λ (s : ScopeId). size (put_scope counts s local q) ≤ most) e (omega (arith, ap size (put_scope_at counts q local), l))
    | inr e ↦ omega (arith, ap size (put_scope_other counts scope local q e), m)
  ]

  -- The same where the count is that of the scope before, with one more.
  put_more : (counts : ScopeId → Option LocalCount) (scope : ScopeId) (local : Option LocalCount) (more : ℕ) → size local ≤ size (counts scope) + more → size (put_scope counts scope local q) ≤ size (counts q) + more
  put_more counts scope local more l = elim (cases_scope q scope) [
    | inl e ↦ subst (λ (s : ScopeId). size (put_scope counts s local q) ≤ size (counts q) + more) e
        (omega (arith, ap size (put_scope_at counts q local), l, ap (λ (s : ScopeId). size (counts s)) e))
    | inr e ↦ omega (arith, ap size (put_scope_other counts scope local q e))
  ]

  range_fits : (what : Action) (lo hi grain target : ℕ) (args : List ℕ) → what ≡ action.Loop lo hi grain target args → LoopFits loop what → hi - lo ≤ loop
  range_fits what lo hi grain target args e fits = subst (LoopFits loop) e fits

  size_rules : (machine : Machine) → CountRules Sized weightless machine (LoopsFit loop)
  size_rules machine = record {
    adds = λ from to scope one other. refl;
    light = λ from to message p. refl;
    knows = λ me body k. k;
    more = λ me n x f. omega (arith, f);
    joined = λ me n object held x f. omega (arith, f);
    closed = λ me n object x f. omega (arith, f);
    made = λ me n x f. omega (arith, f);
    counted = λ me n scope tasks e x f. omega (arith, f, put_more n.scopes.counts scope (Some (count.Active (tasks + 1))) 1 (omega (arith, ap size e)));
    asks = λ me n scope slot e x f. record {
      share = x + 1;
      fact = omega (arith, f, put_more n.scopes.counts scope (Some (count.Waits (slot ∷ []))) 1 (omega arith));
      all = omega arith;
    };
    waits = λ me n scope slot slots e x f. omega (arith, f, put_more n.scopes.counts scope (Some (count.Waits (slots ++ slot ∷ []))) 1 (omega (arith, ap size e, length-append slots (slot ∷ []))));
    acked = λ me n scope slots some e l x f. omega (arith, f, put_more n.scopes.counts scope (Some (count.Active (length slots))) 0 (omega (arith, ap size e)));
    finish = λ me n scope c m x f. omega (arith, put_size n.scopes.counts scope (Some (count.Active 1)) (x + 1 + loop) (omega arith) (omega (arith, f)));
    range = λ me body slot task known there lo hi grain target args a scope c m who x f.
        omega (
          arith,
          put_size body.scopes.counts scope (Some (count.Active (hi - lo))) (x + 1 + loop)
              (omega (arith, range_fits task.action lo hi grain target args a (known slot task there))) (omega (arith, f)),
        );
    completed_by = λ me n scope tasks x f. omega (arith, f, put_more n.scopes.counts scope (completed (n.scopes.counts scope) tasks) 0 (omega (arith, completed_size (n.scopes.counts scope) tasks)));
    waited_by = λ me n scope who x f. f;
    left_by = λ me n scope x f. f;
    enrols = λ me from n scope x f. record { share = x; fact = f; all = omega arith };
    ends = λ from to scope. omega arith;
  }

  root_size : size (put_scope {X = Option LocalCount} (λ scope. None) root_scope (Some (count.Active 1)) q) ≤ 1 + loop
  root_size = put_size (λ scope. None) root_scope (Some (count.Active 1)) (1 + loop) (omega arith) (omega arith)

pub counts_grow : laws.CountsGrow
counts_grow q loop = record {
  opens = λ machine slot. opens_at_one machine slot (OfNumbers (Sized q loop) weightless) weightless machine.setup.cores (root_size q loop) (λ me. omega arith);
  steps = λ machine before after me entry most h known old.
      step_grows (OfNumbers (Sized q loop) weightless) weightless machine (LoopsFit loop)
      (rules_of (OfNumbers (Sized q loop) weightless) weightless machine (LoopsFit loop) (number_rules (Sized q loop) weightless machine (LoopsFit loop) (size_rules q loop machine)))
      before after me entry most known h old;
}
