-- Calls stay where a slot whose task is in none gets another one.
use Rattle.std.proofs.Common.{◌≡◌, ◌≢◌, ◌⊎◌, ℕ, zero, suc, ◌==◌, Bool, true, if◌then◌else◌, List, [], ◌∷◌, inl, inr, sym, ◌∙◌, ap, subst, refl, arith, Option, Some, None}
use Rattle.std.proofs.lemmas.Bool.{cases_eq, and_parts}
use Rattle.std.proofs.lemmas.Bool.Decides.{nat_tests}
use Rattle.gr_lang.specs.declared.action.Reply.{Reply}
use Rattle.gr_lang.specs.declared.action.TaskId.{TaskId}
use Rattle.gr_view.specs.Places.{put}
use Rattle.gr_msg.specs.declared.message.ScopeId.{ScopeId}
use Rattle.gr_batch.specs.declared.wakes.Woken.{Woken}
use Rattle.gr_net.specs.Sums.{Each}
use Rattle.gr_net.proofs.Spreads.{put_at, put_other}
use Rattle.gr_machine.specs.declared.waits.Waits.{Waits}
use Rattle.gr_machine.specs.declared.waits.Waits.TheVariants as wait
use Rattle.gr_machine.specs.Machines.{Machine}
use Rattle.gr_machine.specs.States.{Suspended, Vector, Vectors, Body}
use Rattle.gr_machine.specs.Slots.{goes_on, awaits_reply, awaits_enrolment, awaits_scope, one_awaits, named_awaits, same_id, resumed_task, resumed, resumed_all}
use Rattle.gr_stands.specs.CallActs.{in_batch}
use Rattle.gr_batches.specs.Batches.{is_closing, is_flying}
use Rattle.gr_batches.specs.Staying.{IsFree, CallsStay}

-- ---- what no call waits for

-- A task that waits for this is in no call that is combined, nor in a batch.
pub record IsOff (waits : Waits) : Type 0 where
  pub closing : (object : ℕ) → is_closing object waits ≡ 0
  pub flying : (batch : ℕ) → is_flying batch waits ≡ 0
  pub alone : in_batch waits ≡ 0

pub going_off : IsOff wait.Going
going_off = record { closing = λ object. refl; flying = λ batch. refl; alone = refl }

pub reply_off : (waits : Waits) → awaits_reply waits ≡ true → IsOff waits
reply_off wait.Reply e = record { closing = λ object. refl; flying = λ batch. refl; alone = refl }
reply_off wait.Going e = absurd (cc)
reply_off (wait.Close object) e = absurd (cc)
reply_off (wait.Batch batch) e = absurd (cc)
reply_off (wait.Turn vector) e = absurd (cc)
reply_off (wait.Enrolment scope) e = absurd (cc)
reply_off (wait.Scope scope) e = absurd (cc)
reply_off wait.Nothing e = absurd (cc)

pub enrolment_off : (scope : ScopeId) (waits : Waits) → awaits_enrolment scope waits ≡ true → IsOff waits
enrolment_off scope (wait.Enrolment other) e = record { closing = λ object. refl; flying = λ batch. refl; alone = refl }
enrolment_off scope wait.Reply e = absurd (cc)
enrolment_off scope wait.Going e = absurd (cc)
enrolment_off scope (wait.Close object) e = absurd (cc)
enrolment_off scope (wait.Batch batch) e = absurd (cc)
enrolment_off scope (wait.Turn vector) e = absurd (cc)
enrolment_off scope (wait.Scope other) e = absurd (cc)
enrolment_off scope wait.Nothing e = absurd (cc)

pub scope_off : (scope : ScopeId) (waits : Waits) → awaits_scope scope waits ≡ true → IsOff waits
scope_off scope (wait.Scope other) e = record { closing = λ object. refl; flying = λ batch. refl; alone = refl }
scope_off scope wait.Reply e = absurd (cc)
scope_off scope wait.Going e = absurd (cc)
scope_off scope (wait.Close object) e = absurd (cc)
scope_off scope (wait.Batch batch) e = absurd (cc)
scope_off scope (wait.Turn vector) e = absurd (cc)
scope_off scope (wait.Enrolment other) e = absurd (cc)
scope_off scope wait.Nothing e = absurd (cc)

pub turn_off : (number : ℕ) → IsOff (wait.Turn number)
turn_off number = record { closing = λ object. refl; flying = λ batch. refl; alone = refl }

-- ---- slots

pub free_none : (base : Body) → IsFree base None
free_none base = record { closing = λ object none. refl; flying = λ batch. refl }

pub free_off : (base : Body) (task : Suspended) → IsOff task.waits → IsFree base (Some task)
free_off base task off = record { closing = λ object none. off.closing object; flying = off.flying }

pub free_there : (base : Body) (held : Option Suspended) → ((task : Suspended) → held ≡ Some task → IsOff task.waits) → IsFree base held
free_there base None f = free_none base
free_there base (Some task) f = free_off base task (f task refl)

-- What is tested of a task in a slot.
pub off_tested : (awaits : Waits → Bool) → ((waits : Waits) → awaits waits ≡ true → IsOff waits) → (held : Option Suspended) → one_awaits awaits held ≡ true
    → (task : Suspended) → held ≡ Some task → IsOff task.waits
off_tested awaits off None e task there = absurd (cc)
off_tested awaits off (Some x) e task there = subst (λ (t : Suspended). IsOff t.waits) (same x task there) (off x.waits e)
  where
    same : (x task : Suspended) → Some x ≡ Some task → x ≡ task
    same x task e = cc

pub off_named : (awaits : Waits → Bool) → ((waits : Waits) → awaits waits ≡ true → IsOff waits) → (id : TaskId) (held : Option Suspended) → named_awaits awaits id held ≡ true
    → (task : Suspended) → held ≡ Some task → IsOff task.waits
off_named awaits off id None e task there = absurd (cc)
off_named awaits off id (Some x) e task there = subst (λ (t : Suspended). IsOff t.waits) (same x task there) (off x.waits (and_parts (awaits x.waits) (same_id x.id id) e).0)
  where
    same : (x task : Suspended) → Some x ≡ Some task → x ≡ task
    same x task e = cc

-- ---- bodies

some_none : {X : Type 0} (x : X) → Some x ≡ None → ⊥
some_none x e = cc

pub stays : (base after : Body) → after.batches ≡ base.batches → after.vectors ≡ base.vectors → after.tasks.slots ≡ base.tasks.slots → CallsStay base after
stays base after batches vectors slots = record {
  batches = batches;
  vectors = λ object none. ap (λ (x : Vectors). x.vectors object) (sym vectors) ∙ none;
  slots = λ slot. inl (ap (λ (f : ℕ → Option Suspended). f slot) slots);
}

-- One vector has another state.
pub vectors_stay : (base after : Body) (number : ℕ) (next : Vector) → after.vectors.vectors ≡ put base.vectors.vectors number (Some next)
    → (object : ℕ) → after.vectors.vectors object ≡ None → base.vectors.vectors object ≡ None
vectors_stay base after number next same object none = elim (cases_eq object number) [
  | inl q ↦ absurd (some_none next (sym (ap (λ (f : ℕ → Option Vector). f object) same ∙ put_at base.vectors.vectors number (Some next) object q) ∙ none))
  | inr ne ↦ sym (ap (λ (f : ℕ → Option Vector). f object) same ∙ put_other base.vectors.vectors number (Some next) object ne) ∙ none
]

pub vector_stays : (base after : Body) (number : ℕ) (next : Vector) → after.batches ≡ base.batches → after.vectors.vectors ≡ put base.vectors.vectors number (Some next)
    → after.tasks.slots ≡ base.tasks.slots → CallsStay base after
vector_stays base after number next batches vectors slots = record {
  batches = batches;
  vectors = vectors_stay base after number next vectors;
  slots = λ slot. inl (ap (λ (f : ℕ → Option Suspended). f slot) slots);
}

-- A task that waits for the calls on a vector waits on no other object.
pub closing_free : (base : Body) (number : ℕ) (vector : Vector) → base.vectors.vectors number ≡ Some vector → (task : Suspended) → task.waits ≡ wait.Close number → IsFree base (Some task)
closing_free base number vector there task waits = record {
  closing = λ object none. ap (is_closing object) waits ∙ elim (cases_eq number object) [
    | inl q ↦ absurd (some_none vector (sym there ∙ ap base.vectors.vectors q ∙ none))
    | inr ne ↦ unequal number object ne
  ];
  flying = λ batch. ap (is_flying batch) waits;
}
  where
    unequal : (a b : ℕ) → a ≢ b → (if a == b then suc zero else zero) ≡ 0
    unequal a b ne = grind (arith, nat_tests)

-- What becomes of slots.
abbrev pub SlotStays : Body → Body → ℕ → Type 0
SlotStays base after slot = (after.tasks.slots slot ≡ base.tasks.slots slot) ⊎ (IsFree base (base.tasks.slots slot) × IsFree base (after.tasks.slots slot))

pub slots_stay : (base b after : Body) (slot : ℕ) (held : Option Suspended) → ((k : ℕ) → SlotStays base b k) → after.tasks.slots ≡ put b.tasks.slots slot held
    → IsFree base (base.tasks.slots slot) → IsFree base held → (k : ℕ) → SlotStays base after k
slots_stay base b after slot held old same was free k = elim (cases_eq k slot) [
  | inl q ↦ inr (
    subst (λ (i : ℕ). IsFree base (base.tasks.slots i)) (sym q) was,
    subst (IsFree base) (sym (ap (λ (f : ℕ → Option Suspended). f k) same ∙ put_at b.tasks.slots slot held k q)) free,
  )
  | inr ne ↦ by (ap (λ (f : ℕ → Option Suspended). f k) same ∙ put_other b.tasks.slots slot held k ne) (old k)
]
  where
    by : after.tasks.slots k ≡ b.tasks.slots k → SlotStays base b k → SlotStays base after k
    by e (inl q) = inl (e ∙ q)
    by e (inr f) = inr (f.0, subst (IsFree base) (sym e) f.1)

-- One slot has another task.
pub slot_stays : (base b after : Body) (slot : ℕ) (held : Option Suspended) → CallsStay base b → after.batches ≡ b.batches → after.vectors ≡ b.vectors
    → after.tasks.slots ≡ put b.tasks.slots slot held → IsFree base (base.tasks.slots slot) → IsFree base held → CallsStay base after
slot_stays base b after slot held s batches vectors slots was free = record {
  batches = batches ∙ s.batches;
  vectors = λ object none. s.vectors object (ap (λ (x : Vectors). x.vectors object) (sym vectors) ∙ none);
  slots = slots_stay base b after slot held s.slots slots was free;
}

-- ---- tasks that go on

module _ (machine : Machine) (base : Body) where
  abbrev FreeAt : ℕ → Type 0
  FreeAt slot = IsFree base (base.tasks.slots slot)

  pub goes_free : (task : Suspended) (word : Reply) → IsFree base (Some (goes_on machine task word))
  goes_free task word = record { closing = λ object none. refl; flying = λ batch. refl }

  pub one_resumes : (b : Body) (slot : ℕ) (word : Reply) (held : Option Suspended) → CallsStay base b → FreeAt slot → CallsStay base (resumed_task machine b slot word held)
  one_resumes b slot word None s free = s
  one_resumes b slot word (Some task) s free =
      slot_stays base b (resumed_task machine b slot word (Some task)) slot (Some (goes_on machine task word)) s refl refl refl free (goes_free task word)

  pub all_resume : (b : Body) (wakes : List Woken) → CallsStay base b → Each (λ wake. FreeAt wake.slot) wakes → CallsStay base (resumed_all machine b wakes)
  all_resume b [] s f = s
  all_resume b (wake ∷ wakes) s f = all_resume (resumed machine b wake.slot wake.reply) wakes (one_resumes b wake.slot wake.reply (b.tasks.slots wake.slot) s f.0) f.1
