-- Some slots of a core change, one after another.
use Rattle.std.proofs.Common.{◌≡◌, ◌≢◌, ◌⊎◌, ℕ, zero, suc, ◌+◌, ◌≤◌, ◌==◌, if◌then◌else◌, List, [], ◌∷◌, map, inl, inr, sym, ◌∙◌, ap, subst, refl, arith, Option, Some, None}
use Rattle.std.proofs.lemmas.Bool.{cases_eq}
use Rattle.std.proofs.lemmas.Bool.Decides.{nat_tests}
use Rattle.gr_lang.specs.declared.action.WaitingCall.{WaitingCall}
use Rattle.gr_lang.specs.Effects.{after, effect_of}
use Rattle.gr_view.specs.Places.{put}
use Rattle.gr_batch.specs.Folding.{wakes_of}
use Rattle.gr_batch.specs.declared.wakes.Woken.{Woken}
use Rattle.gr_net.specs.Sums.{weigh, Each}
use Rattle.gr_net.proofs.Spreads.{put_at, put_other}
use Rattle.gr_machine.specs.Machines.{Machine}
use Rattle.gr_machine.specs.declared.waits.Waits.{Waits}
use Rattle.gr_machine.specs.Slots.{goes_on, rewaiting, rewaiting_task, resumed_all, resumed_task}
use Rattle.gr_machine.specs.States.{Suspended, Body}
use Rattle.gr_batches.specs.Batches.{is_at}

-- A slot, and what becomes of its task.
pub record Turn : Type 0 where
  pub slot : ℕ
  pub to : Suspended → Suspended

abbrev pub Slots : Type 0
Slots = ℕ → Option Suspended

abbrev pub turn_at : Slots → Turn → Option Suspended → Slots
turn_at slots turn None = slots
turn_at slots turn (Some task) = put slots turn.slot (Some (turn.to task))

abbrev pub turned : Slots → List Turn → Slots
turned slots [] = slots
turned slots (turn ∷ turns) = turned (turn_at slots turn (slots turn.slot)) turns

abbrev pub is_of : ℕ → Turn → ℕ
is_of slot turn = if turn.slot == slot then 1 else 0

of_itself : (turn : Turn) → is_of turn.slot turn ≡ 1
of_itself turn = grind (arith, nat_tests)

of_another : (slot other : ℕ) → other ≢ slot → (if slot == other then suc zero else zero) ≡ 0
of_another slot other ne = grind (arith, nat_tests)

apart_from : (slot other : ℕ) → (if other == slot then suc zero else zero) ≡ zero → other ≢ slot
apart_from slot other e q = grind (arith, nat_tests)

-- The slot of a turn has a task, for which this holds.
pub record Ready (P : ℕ → Suspended → Suspended → Type 0) (slots : Slots) (turn : Turn) : Type 0 where
  pub task : Suspended
  pub there : slots turn.slot ≡ Some task
  pub fact : P turn.slot task (turn.to task)

-- The slot is that of one turn.
pub record Hit (P : ℕ → Suspended → Suspended → Type 0) (slots : Slots) (turns : List Turn) (slot : ℕ) : Type 0 where
  pub once : weigh (is_of slot) turns ≡ 1
  pub old : Suspended
  pub new : Suspended
  pub there : slots slot ≡ Some old
  pub after : turned slots turns slot ≡ Some new
  pub fact : P slot old new

module _ (P : ℕ → Suspended → Suspended → Type 0) where
  others_ready : (slots : Slots) (slot : ℕ) (o : Option Suspended) (turns : List Turn) → weigh (is_of slot) turns ≡ 0 → Each (Ready P slots) turns → Each (Ready P (put slots slot o)) turns
  others_ready slots slot o [] z f = tt
  others_ready slots slot o (turn ∷ turns) z f = (
    record { task = f.0.task; there = put_other slots slot o turn.slot (apart_from slot turn.slot (omega (arith, z))) ∙ f.0.there; fact = f.0.fact },
    others_ready slots slot o turns (omega (arith, z)) f.1,
  )

  -- A slot stays, or is turned once.
  pub came : (turns : List Turn) (slots : Slots) → Each (Ready P slots) turns → ((slot : ℕ) → weigh (is_of slot) turns ≤ 1) → (slot : ℕ)
      → ((weigh (is_of slot) turns ≡ 0) × (turned slots turns slot ≡ slots slot)) ⊎ Hit P slots turns slot
  came [] slots f le slot = inl (refl, refl)
  came (turn ∷ turns) slots f le slot = by (came turns now (others_ready slots turn.slot (Some next) turns none f.1) (λ k. omega (arith, le k)))
    where
      next : Suspended
      next = turn.to f.0.task

      now : Slots
      now = put slots turn.slot (Some next)

      none : weigh (is_of turn.slot) turns ≡ 0
      none = omega (arith, le turn.slot, of_itself turn)

      is : (k : ℕ) → turned slots (turn ∷ turns) k ≡ turned now turns k
      is k = ap (λ (o : Option Suspended). turned (turn_at slots turn o) turns k) f.0.there

      by : ((k : ℕ) → ((weigh (is_of k) turns ≡ 0) × (turned now turns k ≡ now k)) ⊎ Hit P now turns k)
          → ((weigh (is_of slot) (turn ∷ turns) ≡ 0) × (turned slots (turn ∷ turns) slot ≡ slots slot)) ⊎ Hit P slots (turn ∷ turns) slot
      by rest = elim (cases_eq slot turn.slot) [
        | inl e ↦ elim (rest slot) [
          | inl r ↦ inr (record {
            once = subst (λ (k : ℕ). weigh (is_of k) (turn ∷ turns) ≡ 1) (sym e) (omega (arith, of_itself turn, none));
            old = f.0.task;
            new = next;
            there = ap slots e ∙ f.0.there;
            after = is slot ∙ r.1 ∙ put_at slots turn.slot (Some next) slot e;
            fact = subst (λ (k : ℕ). P k f.0.task next) (sym e) f.0.fact;
          })
          | inr h ↦ absurd (omega (arith, h.once, subst (λ (k : ℕ). weigh (is_of k) turns ≡ 0) (sym e) none))
        ]
        | inr ne ↦ elim (rest slot) [
          | inl r ↦ inl (omega (arith, of_another turn.slot slot ne, r.0), is slot ∙ r.1 ∙ put_other slots turn.slot (Some next) slot ne)
          | inr h ↦ inr (record {
            once = omega (arith, of_another turn.slot slot ne, h.once);
            old = h.old;
            new = h.new;
            there = sym (put_other slots turn.slot (Some next) slot ne) ∙ h.there;
            after = is slot ∙ h.after;
            fact = h.fact;
          })
        ]
      ]

-- ---- tasks that wait for something else

abbrev pub waits_for : Waits → List WaitingCall → List Turn
waits_for reason = map (λ call. record { slot = call.slot; to = λ task. record task { waits = reason } })

pub weigh_waits : (reason : Waits) (slot : ℕ) (calls : List WaitingCall) → weigh (is_of slot) (waits_for reason calls) ≡ weigh (is_at slot) calls
weigh_waits reason slot [] = refl
weigh_waits reason slot (call ∷ calls) = ap (λ (n : ℕ). is_at slot call + n) (weigh_waits reason slot calls)

module _ (reason : Waits) where
  waited_once : (b : Body) (k : ℕ) (o : Option Suspended)
      → ((rewaiting_task b k reason o).tasks.slots ≡ turn_at b.tasks.slots (record { slot = k; to = λ task. record task { waits = reason } }) o)
      × ((rewaiting_task b k reason o).batches ≡ b.batches) × ((rewaiting_task b k reason o).vectors ≡ b.vectors)
  waited_once b k None = (refl, refl, refl)
  waited_once b k (Some task) = (refl, refl, refl)

  pub waited : (calls : List WaitingCall) (b : Body) → (rewaiting b reason calls).tasks.slots ≡ turned b.tasks.slots (waits_for reason calls)
  waited [] b = refl
  waited (call ∷ calls) b = waited calls (rewaiting_task b call.slot reason (b.tasks.slots call.slot))
      ∙ ap (λ (s : Slots). turned s (waits_for reason calls)) (waited_once b call.slot (b.tasks.slots call.slot)).0

  pub waited_batches : (calls : List WaitingCall) (b : Body) → (rewaiting b reason calls).batches ≡ b.batches
  waited_batches [] b = refl
  waited_batches (call ∷ calls) b = waited_batches calls (rewaiting_task b call.slot reason (b.tasks.slots call.slot)) ∙ (waited_once b call.slot (b.tasks.slots call.slot)).1

  pub waited_vectors : (calls : List WaitingCall) (b : Body) → (rewaiting b reason calls).vectors ≡ b.vectors
  waited_vectors [] b = refl
  waited_vectors (call ∷ calls) b = waited_vectors calls (rewaiting_task b call.slot reason (b.tasks.slots call.slot)) ∙ (waited_once b call.slot (b.tasks.slots call.slot)).2

-- ---- tasks that go on

module _ (machine : Machine) where
  abbrev pub goes_with : List Woken → List Turn
  goes_with = map (λ wake. record { slot = wake.slot; to = λ task. goes_on machine task wake.reply })

  pub weigh_goes : (slot : ℕ) (calls : List WaitingCall) (before : Option ℕ) → weigh (is_of slot) (goes_with (wakes_of calls before)) ≡ weigh (is_at slot) calls
  weigh_goes slot [] before = refl
  weigh_goes slot (call ∷ calls) before = ap (λ (n : ℕ). is_at slot call + n) (weigh_goes slot calls (after (effect_of call.op) before))

  went_once : (b : Body) (wake : Woken) (o : Option Suspended)
      → ((resumed_task machine b wake.slot wake.reply o).tasks.slots ≡ turn_at b.tasks.slots (record { slot = wake.slot; to = λ task. goes_on machine task wake.reply }) o)
      × ((resumed_task machine b wake.slot wake.reply o).batches ≡ b.batches) × ((resumed_task machine b wake.slot wake.reply o).vectors ≡ b.vectors)
  went_once b wake None = (refl, refl, refl)
  went_once b wake (Some task) = (refl, refl, refl)

  pub went : (wakes : List Woken) (b : Body) → (resumed_all machine b wakes).tasks.slots ≡ turned b.tasks.slots (goes_with wakes)
  went [] b = refl
  went (wake ∷ wakes) b = went wakes (resumed_task machine b wake.slot wake.reply (b.tasks.slots wake.slot))
      ∙ ap (λ (s : Slots). turned s (goes_with wakes)) (went_once b wake (b.tasks.slots wake.slot)).0

  pub went_batches : (wakes : List Woken) (b : Body) → (resumed_all machine b wakes).batches ≡ b.batches
  went_batches [] b = refl
  went_batches (wake ∷ wakes) b = went_batches wakes (resumed_task machine b wake.slot wake.reply (b.tasks.slots wake.slot)) ∙ (went_once b wake (b.tasks.slots wake.slot)).1

  pub went_vectors : (wakes : List Woken) (b : Body) → (resumed_all machine b wakes).vectors ≡ b.vectors
  went_vectors [] b = refl
  went_vectors (wake ∷ wakes) b = went_vectors wakes (resumed_task machine b wake.slot wake.reply (b.tasks.slots wake.slot)) ∙ (went_once b wake (b.tasks.slots wake.slot)).2
