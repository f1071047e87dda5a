-- Tasks that wait on no vector, and what leaves lines.
use Rattle.std.proofs.Common.{◌≡◌, ◌≢◌, ℕ, ◌==◌, Bool, true, false, if◌then◌else◌, sym, ◌∙◌, ap, subst, refl, arith, Option, Some, None}
use Rattle.std.proofs.lemmas.Bool.Decides.{nat_tests}
use Rattle.gr_machine.specs.declared.waits.Waits.{Waits}
use Rattle.gr_machine.specs.declared.waits.Waits.TheVariants as wait
use Rattle.gr_machine.specs.Machines.{thing}
use Rattle.gr_machine.specs.States.{Suspended, Body}
use Rattle.gr_machine.specs.Openings.{is_vector}
use Rattle.gr_machine.specs.Outcomes.{Outcome}
use Rattle.gr_stands.specs.Worlds.{Given, machine_in}
use Rattle.gr_stands.specs.Calls.{is_going}
use Rattle.gr_lines.specs.Lines.{waits_on, on_line}
use Rattle.gr_lines.specs.Leaving.{IsOffLines, LeavesLines}

-- ---- tasks

-- What is waited for is of no vector.
abbrev pub IsOff : Given → Waits → Type 0
IsOff given waits = (number : ℕ) → is_vector (thing (machine_in given) number) ≡ true → waits_on number waits ≡ false

pub off_task : (given : Given) (task : Suspended) → IsOff given task.waits → IsOffLines given (Some task)
off_task given task off number is = ap (λ (b : Bool). if b then Some task else None) (off number is)

pub off_none : (given : Given) → IsOffLines given None
off_none given number is = refl

pub off_going : (given : Given) (w : Waits) → is_going w ≡ 1 → IsOff given w
off_going given wait.Going e number is = refl
off_going given wait.Reply e number is = refl
off_going given (wait.Close object) e number is = absurd (cc)
off_going given (wait.Batch batch) e number is = refl
off_going given (wait.Turn vector) e number is = absurd (cc)
off_going given (wait.Enrolment scope) e number is = refl
off_going given (wait.Scope scope) e number is = refl
off_going given wait.Nothing e number is = refl

-- Calls on an object that is no vector.
pub off_close : (given : Given) (object : ℕ) → is_vector (thing (machine_in given) object) ≡ false → IsOff given (wait.Close object)
off_close given object no_line number is = unequal object number (λ q. true_false (sym is ∙ ap (λ (k : ℕ). is_vector (thing (machine_in given) k)) (sym q) ∙ no_line))
  where
    unequal : (a b : ℕ) → a ≢ b → (a == b) ≡ false
    unequal a b ne = grind (arith, nat_tests)

    true_false : true ≡ false → ⊥
    true_false e = cc

pub off_there : (given : Given) (held : Option Suspended) (task : Suspended) → held ≡ Some task → IsOff given task.waits → IsOffLines given held
off_there given held task there off = subst (IsOffLines given) (sym there) (off_task given task off)

-- ---- what leaves lines

pub stays : (given : Given) (before after : Body) → after.vectors ≡ before.vectors → after.tasks.slots ≡ before.tasks.slots → LeavesLines given before after
stays given before after vectors slots = record { vectors = vectors; tasks = λ number slot is. ap (λ (f : ℕ → Option Suspended). on_line number (f slot)) slots }

pub then_leaves : (given : Given) (a b c : Body) → LeavesLines given a b → LeavesLines given b c → LeavesLines given a c
then_leaves given a b c l m = record { vectors = m.vectors ∙ l.vectors; tasks = λ number slot is. m.tasks number slot is ∙ l.tasks number slot is }

-- A slot is off lines afterwards, if it was.
pub off_still : (given : Given) (before after : Body) → LeavesLines given before after → (slot : ℕ) → IsOffLines given (before.tasks.slots slot) → IsOffLines given (after.tasks.slots slot)
off_still given before after l slot off number is = l.tasks number slot is ∙ off number is

-- ---- choices

module _ (P : Outcome → Type 0) where
  pub either : (b : Bool) (x y : Outcome) → P x → P y → P (if b then x else y)
  either true x y p q = p
  either false x y p q = q

  -- What is made has a fact, if anything is.
  abbrev pub Made : Option Outcome → Type 0
  Made None = Unit
  Made (Some x) = P x

  pub when : (b : Bool) (x : Outcome) → (b ≡ true → P x) → Made (if b then Some x else None)
  when true x p = p refl
  when false x p = tt

  pub when_made : (b : Bool) (o : Option Outcome) → Made o → Made (if b then o else None)
  when_made true o p = p
  when_made false o p = tt

  pub made_is : (o : Option Outcome) (x : Outcome) → Made o → o ≡ Some x → P x
  made_is None x p h = absurd (cc)
  made_is (Some y) x p h = subst P (same y x h) p
    where
      same : (y x : Outcome) → Some y ≡ Some x → y ≡ x
      same y x h = cc
