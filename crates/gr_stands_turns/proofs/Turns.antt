-- The calls of a turn are made, one after another.
use Rattle.std.proofs.Common.{◌≡◌, ◌≢◌, ◌⊎◌, ◌<◌, ℕ, zero, suc, ◌+◌, ◌%◌, List, [], ◌∷◌, ◌++◌, map, drop, slice_get, inl, inr, sym, ◌∙◌, ap, subst, refl, arith, mod-lt, Option, Some, None}
use Rattle.std.specs.Option.{option_and_then}
use Rattle.std.proofs.lemmas.List.{append-nil}
use Rattle.std.specs.FinMap as fin
use Rattle.gr_lang.specs.declared.action.Action.TheVariants as action
use Rattle.gr_lang.specs.declared.action.Entry.{Entry}
use Rattle.gr_lang.specs.declared.action.Entry.TheVariants as entry
use Rattle.gr_lang.specs.declared.action.Reply.{Reply}
use Rattle.gr_lang.specs.declared.action.TaskId.{TaskId}
use Rattle.gr_lang.specs.declared.action.WaitingCall.{WaitingCall}
use Rattle.gr_lang.specs.Effects.{line_after, line_reply}
use Rattle.gr_lang.specs.Next.{Running, next, go_on}
use Rattle.gr_lang.specs.Objects.{Objects, line, call, with_object}
use Rattle.gr_lang.specs.States.{going, Task, State}
use Rattle.gr_lang.specs.Steps.{step, called}
use Rattle.gr_lang.specs.Steps as steps
use Rattle.gr_view.specs.Places.{put}
use Rattle.gr_msg.specs.declared.message.Msg.TheVariants as msg
use Rattle.gr_vector.specs.declared.ends.Ends.{Ends}
use Rattle.gr_net.specs.Sums.{Each}
use Rattle.gr_net.proofs.Spreads.{put_same, put_other}
use Rattle.gr_machine.specs.declared.mark.Mark.{Mark}
use Rattle.gr_machine.specs.declared.mark.Mark.TheVariants as mark
use Rattle.gr_machine.specs.declared.waits.Waits.TheVariants as wait
use Rattle.gr_machine.specs.Machines.{Machine, numbered_home}
use Rattle.gr_machine.specs.States.{Suspended, Tasks, Turn, Vector, Body}
use Rattle.gr_machine.specs.Outcomes.{Outcome, to, quietly, followed, marked}
use Rattle.gr_machine.specs.Slots.{readied, goes_on, resumed_all, resumed_task}
use Rattle.gr_machine.specs.TurnServes.{with_vector, turn_replies, wakes, call_marks, turn_finished}
use Rattle.gr_stands.specs.Worlds.{Given, machine_in, World, bodies}
use Rattle.gr_stands.specs.Censuses.{going_on}
use Rattle.gr_stands.specs.Calls.{StandsAt, mode_of, is_told, is_going, is_asking, of_slot, times}
use Rattle.gr_stands.specs.Memory.{SameMemory}
use Rattle.gr_stands.specs.Stands.{IsSound, Stands}
use Rattle.gr_stands.proofs.Places.{times_last, times_before}
use Rattle.gr_stands_calls.proofs.Slots.{put_there}
use Rattle.gr_stands_calls.proofs.Answered.{call_leads}
use Rattle.gr_stands_chains.specs.Chains.{ActsWithEntries}
use Rattle.gr_stands_chains.proofs.Follows.{quiet_outcomes_act}
use Rattle.gr_stands_changes.specs.Changes.{ChangesSlot}
use Rattle.gr_stands_changes.proofs.Slots.{slot_changes_are_kept}
use Rattle.gr_stands_changes.proofs.Leaves.{leaves_kept}
use Rattle.gr_stands_chains.proofs.Actions.{actions_follow}
use Rattle.gr_stands_changes.proofs.Leaves.{nothing_happens}
use Rattle.gr_stands_turns.specs.Turning.{IsOfLine, IsAnswered, AreAnswered, TurnTells}
use Rattle.gr_stands_turns.specs.Laws as laws
use Rattle.gr_stands_turns.proofs.Lines.{line_there, line_memory, line_call}

module _ (given : Given) (c vector : ℕ) (here : c < given.setup.cores) where
  abbrev machine : Machine
  machine = machine_in given

  -- What the calls do: their tasks go on, and each is an entry.
  abbrev made : Body → List (WaitingCall × Reply) → Outcome
  made b answers = record { body = resumed_all machine b (wakes answers); sends = []; marks = call_marks answers }

  -- ---- one call

  module _ (w : World) (S : State) (words : List ℕ) (answer : WaitingCall × Reply) (st : Stands given w S) (there : slice_get S.objects.things vector ≡ Some (line words))
      (a : IsAnswered (bodies w c) vector words answer) where
    abbrev stands : StandsAt S a.task
    stands = (st.calls.tasks.slots c answer.0.slot a.task a.there).stands (ap is_told a.waits)

    mode : stands.plain.mode ≡ going
    mode = stands.mode ∙ ap (λ q. mode_of q a.task.action) a.waits

    abbrev went : Task
    went = steps.goes_on given.program given.setup.steps stands.plain answer.1

    abbrev next_state : State
    next_state = called given.program given.setup.steps S a.task.id stands.plain answer.0.op answer.1

    called_so : call answer.0.op S.objects ≡ (with_object S.objects vector (line (line_after answer.0.op words)), line_reply answer.0.op words)
    called_so = line_call S.objects vector words there answer.0.op a.of

    objects_are : next_state.objects ≡ with_object S.objects vector (line (line_after answer.0.op words))
    objects_are = ap (λ (x : Objects × Reply). x.0) called_so

    next_line : slice_get next_state.objects.things vector ≡ Some (line (line_after answer.0.op words))
    next_line = ap (λ (x : Objects). slice_get x.things vector) objects_are ∙ line_there S.objects vector words (line_after answer.0.op words) there

    abbrev u : Suspended
    u = goes_on machine a.task answer.1

    abbrev first : Outcome
    first = record { body = readied (bodies w c) answer.0.slot u; sends = []; marks = marked (entry.Call answer.0.id answer.0.op answer.1) }

    leads : step given.program given.setup.cores given.setup.steps S (entry.Call a.task.id answer.0.op answer.1) ≡ Some next_state
    leads = call_leads given.program given.setup.cores given.setup.steps S a.task.id stands.plain answer.0.op answer.1 stands.there mode (stands.action ∙ a.due)
        (ap (λ (x : Objects × Reply). x.1) called_so ∙ a.replies)

    one_call : ActsWithEntries given w S c [] (Some first)
    one_call =
        let k = answer.0.slot in
        record {
          outcome = first;
          acts = refl;
          sends = tt;
          entries = entry.Call a.task.id answer.0.op answer.1 ∷ [];
          marks = ap (λ (id : TaskId). marked (entry.Call id answer.0.op answer.1)) (sym a.named);
          next = next_state;
          leads = ap (option_and_then (λ (x : State). Some x)) leads;
          keeps = slot_changes_are_kept given w S next_state c [] first k a.task u st here (record {
            there = a.there;
            slots = refl;
            ready = omega (arith, times_last k (bodies w c).tasks.ready, st.calls.tasks.ready c k, ap (of_slot is_going) a.there, ap is_going a.waits);
            others = λ other ne. times_before other k (bodies w c).tasks.ready ne;
            number = refl;
            work = refl;
            words = refl;
            named = refl;
            counted = refl;
            was_not_asking = ap is_asking a.waits;
            not_asking = refl;
            letters = tt;
            sends = tt;
            memory = subst (SameMemory S.objects) (sym objects_are) (line_memory S.objects vector words (line_after answer.0.op words) there);
            stands = λ z. record {
              plain = went;
              there = put_there S next_state a.task.id stands.plain went stands.there refl;
              action = ap (λ (r : Running). (next given.program given.setup.steps (go_on r answer.1)).0) stands.running;
              running = ap (λ (r : Running). (next given.program given.setup.steps (go_on r answer.1)).1) stands.running;
              mode = refl;
            };
            plain = inr (record { old = stands.plain; new = went; there = stands.there; lives = ap going_on mode; lives_on = refl; tasks = λ id. refl });
          });
        }

  -- ---- one after another

  still : (b : Body) (k : ℕ) (u : Suspended) (words : List ℕ) (answers : List (WaitingCall × Reply)) → Each (λ other. other.0.slot ≢ k) answers → AreAnswered b vector words answers
      → AreAnswered (readied b k u) vector words answers
  still b k u words [] apart f = tt
  still b k u words (answer ∷ answers) apart f = (
    record {
      task = f.0.task;
      there = put_other b.tasks.slots k (Some u) answer.0.slot apart.0 ∙ f.0.there;
      waits = f.0.waits;
      named = f.0.named;
      due = f.0.due;
      of = f.0.of;
      replies = f.0.replies;
    },
    f.1,
    still b k u (line_after answer.0.op words) answers apart.1 f.2,
  )

  all_calls : (answers : List (WaitingCall × Reply)) (w : World) (S : State) (words : List ℕ) → Stands given w S → slice_get S.objects.things vector ≡ Some (line words)
      → AreAnswered (bodies w c) vector words answers → ActsWithEntries given w S c [] (Some (made (bodies w c) answers))
  unfolding one_call
  all_calls [] w S words st there f = quiet_outcomes_act given w S c [] (Some (quietly (bodies w c)))
      (record { outcome = quietly (bodies w c); acts = refl; sends = tt; marks = refl; keeps = nothing_happens given w S c st here })
  all_calls (answer ∷ answers) w S words st there f =
      let a : IsAnswered (bodies w c) vector words answer = f.0 in
      let k = answer.0.slot in
      let b : Body = readied (bodies w c) k (goes_on machine a.task answer.1) in
      let rest : Outcome = made b answers in
      let both = actions_follow given w S c [] (w.cores c) (first w S words answer st there a) rest here (record { body = refl; inbox = refl; buffers = refl })
      (one_call w S words answer st there a)
      (λ v is stv.
      let at : bodies v c ≡ b = ap (λ (x : ℕ → Body). x c) is ∙ put_same (bodies w) c b in
      subst (λ (x : Body). ActsWithEntries given v (next_state w S words answer st there a) c [] (Some (made x answers))) at
      (all_calls answers v (next_state w S words answer st there a) (line_after answer.0.op words) stv (next_line w S words answer st there a)
      (subst (λ (x : Body). AreAnswered x vector (line_after answer.0.op words) answers) (sym at) (still (bodies w c) k (goes_on machine a.task answer.1) (line_after answer.0.op words) answers f.1 f.2)))) in
      subst (λ (x : Body). ActsWithEntries given w S c [] (Some (record { body = x; sends = []; marks = call_marks (answer ∷ answers) })))
      (sym (ap (λ (o : Option Suspended). resumed_all machine (resumed_task machine (bodies w c) k answer.1 o) (wakes answers)) a.there)) both

-- ---- the end of the turn

-- The same tasks are answered.
on_vector : (vector : ℕ) (x y : Body) → y.tasks ≡ x.tasks → (words : List ℕ) (answers : List (WaitingCall × Reply)) → AreAnswered x vector words answers → AreAnswered y vector words answers
on_vector vector x y e words [] f = tt
on_vector vector x y e words (answer ∷ answers) f = (
  record {
    task = f.0.task;
    there = ap (λ (t : Tasks). t.slots answer.0.slot) e ∙ f.0.there;
    waits = f.0.waits;
    named = f.0.named;
    due = f.0.due;
    of = f.0.of;
    replies = f.0.replies;
  },
  f.1,
  on_vector vector x y e (line_after answer.0.op words) answers f.2,
)

pub turns_finish : laws.TurnsFinish
turns_finish given w S c number vector turn ends sound st here tells =
    let machine = machine_in given in
    let b : Body = with_vector (bodies w c) number (record vector { groups = drop 1 vector.groups; turn = None }) in
    let answers = turn_replies turn in
    let last : Outcome = record { body = resumed_all machine b (wakes answers); sends = to (numbered_home machine number) (msg.Done number ends.head ends.tail); marks = [] } in
    let start : ActsWithEntries given w S c [] (Some (quietly b)) = record {
      outcome = quietly b;
      acts = refl;
      sends = tt;
      entries = [];
      marks = refl;
      next = S;
      leads = refl;
      keeps = leaves_kept given w S c [] (quietly b) st here (record { tasks = refl; work = refl; words = refl; letters = tt; sends = tt });
    } in
    let calls = actions_follow given w S c [] (w.cores c) (quietly b) (made given c number here b answers) here (record { body = refl; inbox = refl; buffers = refl }) start
    (λ v is stv.
    let at : bodies v c ≡ b = ap (λ (x : ℕ → Body). x c) is ∙ put_same (bodies w) c b in
    subst (λ (x : Body). ActsWithEntries given v S c [] (Some (made given c number here x answers))) at
    (all_calls given c number here answers v S tells.words stv tells.line (subst (λ (x : Body). AreAnswered x number tells.words answers) (sym at) (on_vector number (bodies w c) b refl tells.words answers tells.answers)))) in
    let whole = actions_follow given w S c [] (w.cores c) (followed (quietly b) (made given c number here b answers)) last here (record { body = refl; inbox = refl; buffers = refl }) calls
    (λ v is stv. quiet_outcomes_act given v calls.next c [] (Some last) (record {
      outcome = last;
      acts = refl;
      sends = (mod-lt number {m = given.setup.cores} (omega (arith, sound.cores)), tt);
      marks = refl;
      keeps =
          let at : bodies v c ≡ last.body = ap (λ (x : ℕ → Body). x c) is ∙ put_same (bodies w) c last.body in
          leaves_kept given v calls.next c [] last stv here (record {
            tasks = ap (λ (x : Body). x.tasks) (sym at);
            work = ap (λ (x : Body). x.work) (sym at);
            words = ap (λ (x : Body). x.words) (sym at);
            letters = tt;
            sends = (tt, tt);
          });
    })) in
    subst (λ (ms : List Mark). ActsWithEntries given w S c [] (Some (record { body = last.body; sends = last.sends; marks = ms }))) (append-nil (call_marks answers)) whole
