-- A turn ends: its calls are answered, and their tasks go on.
use Rattle.std.proofs.Common.{◌≡◌, ◌≢◌, ◌⊎◌, ℕ, ◌+◌, ◌≤◌, ◌==◌, if◌then◌else◌, List, [], ◌∷◌, drop, inl, inr, sym, ◌∙◌, ap, subst, refl, arith, Option, Some, None}
use Rattle.std.proofs.lemmas.Bool.{cases_eq}
use Rattle.std.specs.List.{zip}
use Rattle.gr_lang.specs.declared.action.Reply.{Reply}
use Rattle.gr_lang.specs.declared.action.WaitingCall.{WaitingCall}
use Rattle.gr_batch.specs.declared.wakes.Woken.{Woken}
use Rattle.gr_vector.specs.declared.ends.Ends.{Ends}
use Rattle.gr_vector.specs.Plans.{after as after_call, taken_by}
use Rattle.gr_vector.specs.Laws.{replies_from}
use Rattle.gr_net.specs.Sums.{weigh, Each}
use Rattle.gr_net.proofs.Spreads.{put_same, put_other, Each-map, Each-weaker}
use Rattle.gr_machine.specs.declared.waits.Waits.TheVariants as wait
use Rattle.gr_machine.specs.Machines.{Machine}
use Rattle.gr_machine.specs.States.{Suspended, Vectors, Vector, Turn, Body}
use Rattle.gr_machine.specs.Slots.{goes_on, resumed, resumed_task, resumed_all}
use Rattle.gr_machine.specs.TurnServes.{with_vector, turn_replies, wakes, turn_finished}
use Rattle.gr_stands.specs.Worlds.{Given, machine_in}
use Rattle.gr_stands.specs.Calls.{of_slot}
use Rattle.gr_lines.specs.Lines.{on_line, tasks_on}
use Rattle.gr_lines.specs.Waiting.{IsWaiting, calls_in, is_closing, is_turning, IsGroup, CallsWait, HasLines}
use Rattle.gr_lines_calls.proofs.Counts.{some_same, none_some, one_if, zero_if, Waiter, turning_is, turning_on, turning_off, each_grouped}
use Rattle.gr_lines_calls.proofs.Changes.{has_changed, is_there, calls_there}

-- ---- tasks go on

abbrev woken : ℕ → List Woken → ℕ
woken l wakes = weigh (λ wake. if wake.slot == l then 1 else 0) wakes

pub woken_calls : (answers : ℕ → Option ℕ) (calls : List WaitingCall) (ends : Ends) (l : ℕ) → woken l (wakes (zip calls (replies_from answers (taken_by calls ends)))) ≡ calls_in l calls
woken_calls answers [] ends l = refl
woken_calls answers (call ∷ calls) ends l = omega (arith, woken_calls answers calls (after_call call.op ends) l)

module _ (machine : Machine) where
  one_off : (b : Body) (k : ℕ) (word : Reply) (held : Option Suspended) → b.tasks.slots k ≡ held → (n : ℕ) → on_line n ((resumed_task machine b k word held).tasks.slots k) ≡ None
  one_off b k word None e n = ap (on_line n) e
  one_off b k word (Some t) e n = ap (on_line n) (put_same b.tasks.slots k (Some (goes_on machine t word)))

  other_same : (b : Body) (k : ℕ) (word : Reply) (held : Option Suspended) (l : ℕ) → l ≢ k → (resumed_task machine b k word held).tasks.slots l ≡ b.tasks.slots l
  other_same b k word None l ne = refl
  other_same b k word (Some t) l ne = put_other b.tasks.slots k (Some (goes_on machine t word)) l ne

  one_vectors : (b : Body) (k : ℕ) (word : Reply) (held : Option Suspended) → (resumed_task machine b k word held).vectors ≡ b.vectors
  one_vectors b k word None = refl
  one_vectors b k word (Some t) = refl

  pub all_vectors : (b : Body) (list : List Woken) → (resumed_all machine b list).vectors ≡ b.vectors
  all_vectors b [] = refl
  all_vectors b (wake ∷ list) = all_vectors (resumed machine b wake.slot wake.reply) list ∙ one_vectors b wake.slot wake.reply (b.tasks.slots wake.slot)

  abbrev Resumes : Body → List Woken → ℕ → Option Suspended → Type 0
  Resumes b list l now = ((woken l list ≡ 0) × (now ≡ b.tasks.slots l)) ⊎ ((1 ≤ woken l list) × ((n : ℕ) → on_line n now ≡ None))

  pub resumes : (list : List Woken) (b : Body) (l : ℕ) → Resumes b list l ((resumed_all machine b list).tasks.slots l)
  resumes [] b l = inl (refl, refl)
  resumes (wake ∷ list) b l = elim (cases_eq l wake.slot) [
    | inl q ↦ at q (resumes list (resumed machine b wake.slot wake.reply) l)
    | inr ne ↦ off ne (resumes list (resumed machine b wake.slot wake.reply) l)
  ]
    where
      next : Body
      next = resumed machine b wake.slot wake.reply

      now : Option Suspended
      now = (resumed_all machine next list).tasks.slots l

      at : l ≡ wake.slot → Resumes next list l now → Resumes b (wake ∷ list) l now
      at q (inl z) = inr (
        omega (arith, one_if wake.slot l (sym q)),
        λ n. ap (on_line n) z.1
            ∙ subst (λ (i : ℕ). on_line n (next.tasks.slots i) ≡ None) (sym q) (one_off b wake.slot wake.reply (b.tasks.slots wake.slot) refl n),
      )
      at q (inr z) = inr (omega (arith, one_if wake.slot l (sym q)), z.1)

      off : l ≢ wake.slot → Resumes next list l now → Resumes b (wake ∷ list) l now
      off ne (inl z) = inl (omega (arith, zero_if wake.slot l (λ q. ne (sym q)), z.0), z.1 ∙ other_same b wake.slot wake.reply (b.tasks.slots wake.slot) l ne)
      off ne (inr z) = inr (omega (arith, zero_if wake.slot l (λ q. ne (sym q)), z.0), z.1)

-- ---- a turn

-- A slot of a call of the turn is on no line any more, and was on this.
record Went (number : ℕ) (before after : Option Suspended) (more : List (List WaitingCall)) (l : ℕ) : Type 0 where
  was : Waiter before (wait.Turn number)
  rests : weigh (calls_in l) more ≡ 0
  now : (n : ℕ) → on_line n after ≡ None

module _ (given : Given) (me : ℕ) (body : Body) (number : ℕ) (vector : Vector) (turn : Turn) (ends : Ends) (old : HasLines given me body)
    (there : body.vectors.vectors number ≡ Some vector) (mine : vector.turn ≡ Some turn) where
  abbrev machine : Machine
  machine = machine_in given

  abbrev waited : CallsWait number vector (tasks_on number body)
  waited = calls_there given me number body vector old there

  abbrev more : List (List WaitingCall)
  more = (waited.oldest turn mine).0

  groups_are : vector.groups ≡ turn.calls ∷ more
  groups_are = (waited.oldest turn mine).1

  abbrev next : Vector
  next = record vector { groups = drop 1 vector.groups; turn = None }

  rest_is : next.groups ≡ more
  rest_is = ap (drop 1) groups_are

  abbrev after : Body
  after = (turn_finished machine body number vector turn ends).body

  abbrev before_on : ℕ → Option Suspended
  before_on = tasks_on number body

  abbrev after_on : ℕ → Option Suspended
  after_on = tasks_on number after

  abbrev Slot : ℕ → Type 0
  Slot l = ((calls_in l turn.calls ≡ 0) × (after.tasks.slots l ≡ body.tasks.slots l)) ⊎ Went number (body.tasks.slots l) (after.tasks.slots l) more l

  all_turning : (l : ℕ) → calls_in l turn.calls + weigh (calls_in l) more ≡ of_slot is_turning (before_on l)
  all_turning l = ap (weigh (calls_in l)) (sym groups_are) ∙ waited.turning l

  each_slot : (l : ℕ) → Slot l
  each_slot l = by (resumes machine (wakes (turn_replies turn)) (with_vector body number next) l)
    where
      by : Resumes machine (with_vector body number next) (wakes (turn_replies turn)) l (after.tasks.slots l) → Slot l
      by (inl z) = inl (sym (woken_calls turn.answers turn.calls turn.ends l) ∙ z.0, z.1)
      by (inr z) =
          let w = turning_is number (body.tasks.slots l) (omega (arith, z.0, woken_calls turn.answers turn.calls turn.ends l, all_turning l)) in
          inr (record {
            was = w;
            rests = omega (arith, z.0, woken_calls turn.answers turn.calls turn.ends l, all_turning l, ap (of_slot is_turning) (turning_on number (body.tasks.slots l) w), ap is_turning w.waits);
            now = z.1;
          })

  stays_closing : (call : WaitingCall) → IsWaiting before_on number (wait.Close number) call → IsWaiting after_on number (wait.Close number) call
  stays_closing call w = by (each_slot call.slot)
    where
      by : Slot call.slot → IsWaiting after_on number (wait.Close number) call
      by (inl z) = record { task = w.task; there = ap (on_line number) z.1 ∙ w.there; waits = w.waits; named = w.named; due = w.due; of = w.of }
      by (inr g) = absurd (omega (arith, ap is_closing (sym g.was.waits ∙ ap (λ (x : Suspended). x.waits) (some_same g.was.task w.task (sym (turning_on number (body.tasks.slots call.slot) g.was) ∙ w.there)) ∙ w.waits)))

  stays_turning : (call : WaitingCall) → IsWaiting before_on number (wait.Turn number) call → 1 ≤ weigh (calls_in call.slot) more → IsWaiting after_on number (wait.Turn number) call
  stays_turning call w l = by (each_slot call.slot)
    where
      by : Slot call.slot → IsWaiting after_on number (wait.Turn number) call
      by (inl z) = record { task = w.task; there = ap (on_line number) z.1 ∙ w.there; waits = w.waits; named = w.named; due = w.due; of = w.of }
      by (inr g) = absurd (omega (arith, l, g.rests))

  pub ended_calls : CallsWait number next after_on
  ended_calls = record {
    combined = Each-map (IsWaiting before_on number (wait.Close number)) (IsWaiting after_on number (wait.Close number)) stays_closing vector.combiner waited.combined;
    grouped = subst (Each (Each (IsWaiting after_on number (wait.Turn number)))) (sym rest_is)
        (Each-weaker (Each (IsWaiting before_on number (wait.Turn number))) (Each (λ call. 1 ≤ weigh (calls_in call.slot) more)) (Each (IsWaiting after_on number (wait.Turn number)))
        (Each-weaker (IsWaiting before_on number (wait.Turn number)) (λ call. 1 ≤ weigh (calls_in call.slot) more) (IsWaiting after_on number (wait.Turn number)) stays_turning)
        more (subst (Each (Each (IsWaiting before_on number (wait.Turn number)))) groups_are waited.grouped).1 (each_grouped more));
    made = subst (Each IsGroup) (sym rest_is) (subst (Each IsGroup) groups_are waited.made).1;
    closing = λ l. waited.closing l ∙ close_at l (each_slot l);
    turning = λ l. ap (weigh (calls_in l)) rest_is ∙ turn_at l (each_slot l);
    oldest = λ other h. absurd (none_some other h);
  }
    where
      close_at : (l : ℕ) → Slot l → of_slot is_closing (before_on l) ≡ of_slot is_closing (after_on l)
      close_at l (inl z) = ap (λ (o : Option Suspended). of_slot is_closing (on_line number o)) (sym z.1)
      close_at l (inr g) = ap (of_slot is_closing) (turning_on number (body.tasks.slots l) g.was) ∙ ap is_closing g.was.waits ∙ sym (ap (of_slot is_closing) (g.now number))

      turn_at : (l : ℕ) → Slot l → weigh (calls_in l) more ≡ of_slot is_turning (after_on l)
      turn_at l (inl z) = omega (arith, z.0, all_turning l, ap (λ (o : Option Suspended). of_slot is_turning (on_line number o)) z.1)
      turn_at l (inr g) = omega (arith, g.rests, ap (of_slot is_turning) (g.now number))

  pub ends_keep : HasLines given me after
  ends_keep = has_changed given me number body after next (record {
    vectors = ap (λ (x : Vectors). x.vectors) (all_vectors machine (with_vector body number next) (wakes (turn_replies turn)));
    masters = ap (λ (x : Vectors). x.masters) (all_vectors machine (with_vector body number next) (wakes (turn_replies turn)));
    others = λ other l ne sure. other_at other l ne (each_slot l);
    calls = ended_calls;
  }) (is_there given me number body vector old there) old
    where
      other_at : (other l : ℕ) → other ≢ number → Slot l → on_line other (after.tasks.slots l) ≡ on_line other (body.tasks.slots l)
      other_at other l ne (inl z) = ap (on_line other) z.1
      other_at other l ne (inr g) = g.now other ∙ sym (turning_off number other (body.tasks.slots l) g.was ne)
