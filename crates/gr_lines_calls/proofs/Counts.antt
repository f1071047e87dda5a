-- Counts of calls by slot, and what tasks on a line wait for.
use Rattle.std.proofs.Common.{◌≡◌, ◌≢◌, ℕ, zero, suc, ◌+◌, ◌≤◌, ◌==◌, Bool, true, false, cond, if◌then◌else◌, List, [], ◌∷◌, ◌++◌, sym, ◌∙◌, ap, subst, refl, arith, Option, Some, None}
use Rattle.std.proofs.lemmas.Bool.{eqb-true, cond_both}
use Rattle.std.proofs.lemmas.Bool.Decides.{nat_tests}
use Rattle.gr_lang.specs.declared.action.Op.{Op}
use Rattle.gr_lang.specs.declared.action.Op.TheVariants as op
use Rattle.gr_lang.specs.declared.action.WaitingCall.{WaitingCall}
use Rattle.gr_vector.specs.declared.kind.Kind.{Kind}
use Rattle.gr_vector.specs.declared.kind.Kind.TheVariants as kind
use Rattle.gr_vector.specs.Groups.{vector_of, is_of, calls_of, group_of}
use Rattle.gr_net.specs.Sums.{weigh, Each}
use Rattle.gr_net.proofs.Spreads.{weigh-append, Each-append, Each-map}
use Rattle.gr_machine.specs.declared.waits.Waits.{Waits}
use Rattle.gr_machine.specs.declared.waits.Waits.TheVariants as wait
use Rattle.gr_machine.specs.States.{Suspended}
use Rattle.gr_stands.specs.Calls.{of_slot}
use Rattle.gr_lines.specs.Lines.{waits_on, on_line}
use Rattle.gr_lines.specs.Waiting.{calls_in, is_closing, is_turning}

pub some_same : {X : Type 0} (x y : X) → Some x ≡ Some y → x ≡ y
some_same x y e = cc

pub none_some : {X : Type 0} (x : X) → None ≡ Some x → ⊥
none_some x e = cc

pub self_eq : (n : ℕ) → (n == n) ≡ true
self_eq n = grind (arith, nat_tests)

pub not_eq : (a b : ℕ) → a ≢ b → (a == b) ≡ false
not_eq a b ne = grind (arith, nat_tests)

pub one_if : (a b : ℕ) → a ≡ b → (if a == b then 1 else 0) ≡ suc zero
one_if a b e = grind (arith, nat_tests)

pub zero_if : (a b : ℕ) → a ≢ b → (if a == b then 1 else 0) ≡ zero
zero_if a b ne = grind (arith, nat_tests)

-- ---- tasks on a line

pub some_on : (n : ℕ) (t : Suspended) → waits_on n t.waits ≡ true → on_line n (Some t) ≡ Some t
some_on n t e = ap (λ (b : Bool). if b then Some t else None) e

pub none_on : (n : ℕ) (t : Suspended) → waits_on n t.waits ≡ false → on_line n (Some t) ≡ None
none_on n t e = ap (λ (b : Bool). if b then Some t else None) e

pub on_some : (n : ℕ) (held : Option Suspended) (t : Suspended) → on_line n held ≡ Some t → (held ≡ Some t) × (waits_on n t.waits ≡ true)
on_some n None t e = absurd (none_some t e)
on_some n (Some u) t e = by (waits_on n u.waits) refl e
  where
    by : (b : Bool) → waits_on n u.waits ≡ b → (if b then Some u else None) ≡ Some t → (Some u ≡ Some t) × (waits_on n t.waits ≡ true)
    by true q e = (e, subst (λ (x : Suspended). waits_on n x.waits ≡ true) (some_same u t e) q)
    by false q e = absurd (none_some t e)

-- A task that stands in a slot and waits for this.
pub record Waiter (held : Option Suspended) (reason : Waits) : Type 0 where
  pub task : Suspended
  pub there : held ≡ Some task
  pub waits : task.waits ≡ reason

closes : (n : ℕ) (w : Waits) → waits_on n w ≡ true → 1 ≤ is_closing w → w ≡ wait.Close n
closes n (wait.Close object) q l = ap wait.Close (eqb-true object n q)
closes n (wait.Turn vector) q l = absurd (omega (arith, l))
closes n wait.Going q l = absurd (omega (arith, l))
closes n wait.Reply q l = absurd (omega (arith, l))
closes n (wait.Batch batch) q l = absurd (omega (arith, l))
closes n (wait.Enrolment scope) q l = absurd (omega (arith, l))
closes n (wait.Scope scope) q l = absurd (omega (arith, l))
closes n wait.Nothing q l = absurd (omega (arith, l))

turns : (n : ℕ) (w : Waits) → waits_on n w ≡ true → 1 ≤ is_turning w → w ≡ wait.Turn n
turns n (wait.Turn vector) q l = ap wait.Turn (eqb-true vector n q)
turns n (wait.Close object) q l = absurd (omega (arith, l))
turns n wait.Going q l = absurd (omega (arith, l))
turns n wait.Reply q l = absurd (omega (arith, l))
turns n (wait.Batch batch) q l = absurd (omega (arith, l))
turns n (wait.Enrolment scope) q l = absurd (omega (arith, l))
turns n (wait.Scope scope) q l = absurd (omega (arith, l))
turns n wait.Nothing q l = absurd (omega (arith, l))

module _ (weight : Waits → ℕ) (n : ℕ) (reason : Waits) (tells : (w : Waits) → waits_on n w ≡ true → 1 ≤ weight w → w ≡ reason) where
  waiter : (held : Option Suspended) → 1 ≤ of_slot weight (on_line n held) → Waiter held reason
  waiter None l = absurd (omega (arith, l))
  waiter (Some t) l = by (waits_on n t.waits) refl l
    where
      by : (b : Bool) → waits_on n t.waits ≡ b → 1 ≤ of_slot weight (if b then Some t else None) → Waiter (Some t) reason
      by true q l = record { task = t; there = refl; waits = tells t.waits q l }
      by false q l = absurd (omega (arith, l))

pub closing_is : (n : ℕ) (held : Option Suspended) → 1 ≤ of_slot is_closing (on_line n held) → Waiter held (wait.Close n)
closing_is n held l = waiter is_closing n (wait.Close n) (closes n) held l

pub turning_is : (n : ℕ) (held : Option Suspended) → 1 ≤ of_slot is_turning (on_line n held) → Waiter held (wait.Turn n)
turning_is n held l = waiter is_turning n (wait.Turn n) (turns n) held l

-- It is seen so, and on no other line.
pub closing_on : (n : ℕ) (held : Option Suspended) (w : Waiter held (wait.Close n)) → on_line n held ≡ Some w.task
closing_on n held w = ap (on_line n) w.there ∙ some_on n w.task (ap (waits_on n) w.waits ∙ self_eq n)

pub turning_on : (n : ℕ) (held : Option Suspended) (w : Waiter held (wait.Turn n)) → on_line n held ≡ Some w.task
turning_on n held w = ap (on_line n) w.there ∙ some_on n w.task (ap (waits_on n) w.waits ∙ self_eq n)

pub closing_off : (n other : ℕ) (held : Option Suspended) → Waiter held (wait.Close n) → other ≢ n → on_line other held ≡ None
closing_off n other held w ne = ap (on_line other) w.there ∙ none_on other w.task (ap (waits_on other) w.waits ∙ not_eq n other (λ q. ne (sym q)))

pub turning_off : (n other : ℕ) (held : Option Suspended) → Waiter held (wait.Turn n) → other ≢ n → on_line other held ≡ None
turning_off n other held w ne = ap (on_line other) w.there ∙ none_on other w.task (ap (waits_on other) w.waits ∙ not_eq n other (λ q. ne (sym q)))

-- ---- groups

-- The weight of a group is that of the calls of which it is made.
module _ (h : WaitingCall → ℕ) where
  one_more : (o : Op) (call : WaitingCall) (pushes pops dequeues : List WaitingCall) (n : ℕ) → vector_of o ≡ Some n
      → weigh h (cond (is_of kind.Push o) (call ∷ pushes) pushes) + (weigh h (cond (is_of kind.Pop o) (call ∷ pops) pops) + weigh h (cond (is_of kind.Dequeue o) (call ∷ dequeues) dequeues))
      ≡ h call + (weigh h pushes + (weigh h pops + weigh h dequeues))
  one_more (op.Push object word) call pushes pops dequeues n e = omega arith
  one_more (op.Pop object) call pushes pops dequeues n e = omega arith
  one_more (op.Dequeue object) call pushes pops dequeues n e = omega arith
  one_more _ call pushes pops dequeues n e = absurd (none_some n e)

  kinds : (n : ℕ) (calls : List WaitingCall) → Each (λ call. vector_of call.op ≡ Some n) calls
      → weigh h (calls_of kind.Push calls) + (weigh h (calls_of kind.Pop calls) + weigh h (calls_of kind.Dequeue calls)) ≡ weigh h calls
  kinds n [] e = refl
  kinds n (call ∷ calls) e = omega (arith, one_more call.op call (calls_of kind.Push calls) (calls_of kind.Pop calls) (calls_of kind.Dequeue calls) n e.0, kinds n calls e.1)

  pub group_weighs : (n : ℕ) (calls : List WaitingCall) → Each (λ call. vector_of call.op ≡ Some n) calls → weigh h (group_of calls) ≡ weigh h calls
  group_weighs n calls e = omega (
    arith,
    weigh-append h (calls_of kind.Push calls) (calls_of kind.Pop calls ++ calls_of kind.Dequeue calls),
    weigh-append h (calls_of kind.Pop calls) (calls_of kind.Dequeue calls),
    kinds n calls e,
  )

module _ (P : WaitingCall → Type 0) where
  each_of : (which : Kind) (calls : List WaitingCall) → Each P calls → Each P (calls_of which calls)
  each_of which [] e = tt
  each_of which (call ∷ calls) e = cond_both (is_of which call.op) (call ∷ calls_of which calls) (calls_of which calls) (Each P) (λ q. (e.0, each_of which calls e.1)) (λ q. each_of which calls e.1)

  pub group_each : (calls : List WaitingCall) → Each P calls → Each P (group_of calls)
  group_each calls e = Each-append P (calls_of kind.Push calls) (calls_of kind.Pop calls ++ calls_of kind.Dequeue calls) (each_of kind.Push calls e)
      (Each-append P (calls_of kind.Pop calls) (calls_of kind.Dequeue calls) (each_of kind.Pop calls e) (each_of kind.Dequeue calls e))

-- ---- each call of a list is counted there

pub each_counted : (calls : List WaitingCall) → Each (λ call. 1 ≤ calls_in call.slot calls) calls
each_counted [] = tt
each_counted (call ∷ calls) = (
  omega (arith, one_if call.slot call.slot refl),
  Each-map (λ other. 1 ≤ calls_in other.slot calls) (λ other. 1 ≤ calls_in other.slot (call ∷ calls)) (λ other l. omega (arith, l)) calls (each_counted calls),
)

pub each_grouped : (groups : List (List WaitingCall)) → Each (Each (λ call. 1 ≤ weigh (calls_in call.slot) groups)) groups
each_grouped [] = tt
each_grouped (group ∷ groups) = (
  Each-map (λ call. 1 ≤ calls_in call.slot group) (λ call. 1 ≤ weigh (calls_in call.slot) (group ∷ groups)) (λ call l. omega (arith, l)) group (each_counted group),
  Each-map (Each (λ call. 1 ≤ weigh (calls_in call.slot) groups)) (Each (λ call. 1 ≤ weigh (calls_in call.slot) (group ∷ groups)))
      (λ one. Each-map (λ call. 1 ≤ weigh (calls_in call.slot) groups) (λ call. 1 ≤ weigh (calls_in call.slot) (group ∷ groups)) (λ call l. omega (arith, l)) one)
      groups (each_grouped groups),
)
