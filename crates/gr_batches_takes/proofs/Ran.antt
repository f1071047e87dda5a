-- The calls of a batch are made one after another in the plain state.
use Rattle.std.proofs.Common.{◌≡◌, ℕ, false, List, [], ◌∷◌, map, sym, ◌∙◌, ap, subst, refl, Option, Some, None}
use Rattle.std.specs.Option.{option_and_then}
use Rattle.std.specs.FinMap as fin
use Rattle.gr_lang.specs.declared.action.Op.{Op}
use Rattle.gr_lang.specs.declared.action.Reply.{Reply}
use Rattle.gr_lang.specs.declared.action.TaskId.{TaskId}
use Rattle.gr_lang.specs.declared.action.WaitingCall.{WaitingCall}
use Rattle.gr_lang.specs.Effects.{after, effect_of, key_reply}
use Rattle.gr_lang.specs.Histories as histories
use Rattle.gr_lang.specs.Next.{Running, next, go_on}
use Rattle.gr_lang.specs.Objects.{Objects, call}
use Rattle.gr_lang.specs.States.{going, Task, State}
use Rattle.gr_lang.specs.Steps.{called, goes_on}
use Rattle.gr_batch.specs.Folding.{after_all, wakes_of}
use Rattle.gr_net.specs.Sums.{Each}
use Rattle.gr_machine.specs.declared.waits.Waits.{Waits}
use Rattle.gr_machine.specs.declared.waits.Waits.TheVariants as wait
use Rattle.gr_machine.specs.States.{Suspended, Body}
use Rattle.gr_machine.specs.Histories.{batch_entries}
use Rattle.gr_machine.specs.Slots.{same_id}
use Rattle.gr_machine.specs.Slots as slots
use Rattle.gr_stands.specs.Worlds.{Given, machine_in, World, bodies}
use Rattle.gr_stands.specs.Censuses.{is_unended, going_on}
use Rattle.gr_stands.specs.Calls.{StandsAt, mode_of, CallsStand}
use Rattle.gr_stands.specs.CallActs.{IsOther}
use Rattle.gr_stands.proofs.Calls.{stands_still}
use Rattle.gr_stands_calls.proofs.Answered.{call_leads}
use Rattle.gr_stands_calls.proofs.Slots.{put_there, put_kept, put_new, put_unended, some_same}
use Rattle.gr_batches.specs.Batches.{IsCaller, StandsBefore, StandsAfter}
use Rattle.gr_batches_takes.proofs.Names.{Differ, AreApart}

-- The names of the tasks of some calls.
abbrev pub names : List WaitingCall → List TaskId
names = map (λ one. one.id)

-- The calls lead to a state where other tasks are as before, the tasks of the calls stand after them, and the objects have something else at one place.
pub record Ran (given : Given) (body : Body) (Puts : Objects → Option ℕ → Objects → Type 0) (S : State) (calls : List WaitingCall) (before : Option ℕ) : Type 0 where
  pub last : State
  pub leads : histories.after given.program given.setup.cores given.setup.steps S (batch_entries calls before) ≡ Some last
  pub puts : Puts S.objects (after_all calls before) last.objects
  pub kept : (id : TaskId) (x : Task) → IsOther (names calls) id → fin.get S.tasks id ≡ Some x → fin.get last.tasks id ≡ Some x
  pub new : (id : TaskId) → fin.get S.tasks id ≡ None → fin.get last.tasks id ≡ None
  pub unended : (id : TaskId) → is_unended (fin.get last.tasks id) ≡ is_unended (fin.get S.tasks id)
  pub stands : Each (StandsAfter (machine_in given) last body) (wakes_of calls before)

-- What the calls of a batch do to one place of the objects: what stands there, objects with something else there, and the objects and calls for which this is so.
module _ (given : Given) (w : World) (R : State) (old : CallsStand given w R) (d number : ℕ)
    (Cell : Objects → Option ℕ) (Puts : Objects → Option ℕ → Objects → Type 0) (Fine : Objects → Type 0) (Good : Op → Type 0)
    (nothing : (S : Objects) → Fine S → Puts S (Cell S) S)
    (makes : (S : Objects) (o : Op) → Fine S → Good o → Puts S (after (effect_of o) (Cell S)) (call o S).0)
    (replies : (S : Objects) (o : Op) → Fine S → Good o → (call o S).1 ≡ key_reply o (Cell S))
    (chained : (S T U : Objects) (x y : Option ℕ) → Puts S x T → Puts T y U → Puts S y U)
    (cell : (S T : Objects) (x : Option ℕ) → Fine S → Puts S x T → Cell T ≡ x)
    (fine : (S T : Objects) (x : Option ℕ) → Fine S → Puts S x T → Fine T) where
  abbrev body : Body
  body = bodies w d

  abbrev Caller : WaitingCall → Type 0
  Caller = IsCaller body (wait.Batch number)

  same_task : (one : WaitingCall) (f : Caller one) (t : Suspended) → body.tasks.slots one.slot ≡ Some t → f.task ≡ t
  same_task one f t h = some_same f.task t (sym f.there ∙ h)

  others_of : (one : WaitingCall) (calls : List WaitingCall) → Each (Differ given w R old d (wait.Batch number) one) calls → IsOther (names calls) one.id
  others_of one [] f = tt
  others_of one (other ∷ calls) f = (f.0.1, others_of one calls f.1)

  -- The tasks of other calls stand before these still.
  before_still : (S U : State) (id : TaskId) (t u : Task) (there : fin.get S.tasks id ≡ Some t) (is : U.tasks ≡ fin.insert S.tasks id u) (calls : List WaitingCall)
      → Each Caller calls → Each (λ other. same_id other.id id ≡ false) calls → Each (StandsBefore S body) calls → Each (StandsBefore U body) calls
  before_still S U id t u there is [] f n g = tt
  before_still S U id t u there is (other ∷ calls) f n g = (
    λ x h. stands_still S U (id ∷ []) x (put_kept S U id t u there is)
        (ap (λ (q : TaskId). same_id q id) (sym (sym f.0.named ∙ ap (λ (q : Suspended). q.id) (same_task other f.0 x h))) ∙ n.0, tt) (g.0 x h),
    before_still S U id t u there is calls f.1 n.1 g.1,
  )

  -- A task goes on after its call.
  goes_after : (S U : State) (s : Suspended) (st : StandsAt S s) (id : TaskId) → s.id ≡ id → (word : Reply)
      → fin.get U.tasks id ≡ Some (goes_on given.program given.setup.steps st.plain word) → StandsAt U (slots.goes_on (machine_in given) s word)
  goes_after S U s st id named word there = record {
    plain = goes_on given.program given.setup.steps st.plain word;
    there = ap (fin.get U.tasks) named ∙ there;
    action = ap (λ (q : Running). (next given.program given.setup.steps (go_on q word)).0) st.running;
    running = ap (λ (q : Running). (next given.program given.setup.steps (go_on q word)).1) st.running;
    mode = refl;
  }

  firsts : (one : WaitingCall) (calls : List WaitingCall) → Each (Differ given w R old d (wait.Batch number) one) calls → Each (λ other. same_id other.id one.id ≡ false) calls
  firsts one [] f = tt
  firsts one (other ∷ calls) f = (f.0.0, firsts one calls f.1)

  pub run : (calls : List WaitingCall) (S : State) (before : Option ℕ) → Each Caller calls → AreApart given w R old d (wait.Batch number) calls
      → Each (StandsBefore S body) calls → Each (λ one. Good one.op) calls → Fine S.objects → Cell S.objects ≡ before → Ran given body Puts S calls before
  run [] S before f apart g good is_fine is = record {
    last = S;
    leads = refl;
    puts = subst (λ (x : Option ℕ). Puts S.objects x S.objects) is (nothing S.objects is_fine);
    kept = λ id x other h. h;
    new = λ id h. h;
    unended = λ id. refl;
    stands = tt;
  }
  run (one ∷ calls) S before f apart g good is_fine is =
      let s : Suspended = f.0.task in
      let st : StandsAt S s = g.0 s f.0.there in
      let t : Task = st.plain in
      let word : Reply = key_reply one.op before in
      let u : Task = goes_on given.program given.setup.steps t word in
      let U : State = called given.program given.setup.steps S one.id t one.op word in
      let there : fin.get S.tasks one.id ≡ Some t = ap (fin.get S.tasks) (sym f.0.named) ∙ st.there in
      let mode : t.mode ≡ going = st.mode ∙ ap (λ (q : Waits). mode_of q s.action) f.0.waits in
      let replied : (call one.op S.objects).1 ≡ word = replies S.objects one.op is_fine good.0 ∙ ap (key_reply one.op) is in
      let put : Puts S.objects (after (effect_of one.op) before) U.objects
      = subst (λ (x : Option ℕ). Puts S.objects (after (effect_of one.op) x) U.objects) is (makes S.objects one.op is_fine good.0) in
      let rest : Ran given body Puts U calls (after (effect_of one.op) before)
      = run calls U (after (effect_of one.op) before) f.1 apart.1 (before_still S U one.id t u there refl calls f.1 (firsts one calls apart.0) g.1) good.1
      (fine S.objects U.objects (after (effect_of one.op) before) is_fine put) (cell S.objects U.objects (after (effect_of one.op) before) is_fine put) in
      record {
        last = rest.last;
        leads = ap (option_and_then (λ (x : State). histories.after given.program given.setup.cores given.setup.steps x (batch_entries calls (after (effect_of one.op) before))))
            (call_leads given.program given.setup.cores given.setup.steps S one.id t one.op word there mode (st.action ∙ f.0.next) replied)
            ∙ rest.leads;
        puts = chained S.objects U.objects rest.last.objects (after (effect_of one.op) before) (after_all calls (after (effect_of one.op) before)) put rest.puts;
        kept = λ id x other h. rest.kept id x other.1 (put_kept S U one.id t u there refl id x (other.0, tt) h);
        new = λ id h. rest.new id (put_new S U one.id t u there refl id h);
        unended = λ id. rest.unended id ∙ put_unended S U one.id t u there refl (sym (ap going_on mode)) id;
        stands = (
          λ x h. subst (λ (q : Suspended). StandsAt rest.last (slots.goes_on (machine_in given) q word)) (same_task one f.0 x h)
              (stands_still U rest.last (names calls) (slots.goes_on (machine_in given) s word) rest.kept
              (subst (IsOther (names calls)) (sym f.0.named) (others_of one calls apart.0))
              (goes_after S U s st one.id f.0.named word (put_there S U one.id t u there refl))),
          rest.stands,
        );
      }
