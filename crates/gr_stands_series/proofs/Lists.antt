-- The tasks of some calls wait for something else, or go on.
use Rattle.std.proofs.Common.{◌≡◌, ◌≢◌, ◌⊎◌, ◌<◌, ℕ, zero, suc, ◌+◌, List, [], ◌∷◌, inl, inr, sym, ◌∙◌, ap, subst, refl, arith, Option, Some, None}
use Rattle.std.proofs.lemmas.Bool.{cases_eq}
use Rattle.gr_lang.specs.declared.action.WaitingCall.{WaitingCall}
use Rattle.gr_lang.specs.States.{State}
use Rattle.gr_view.specs.Places.{put}
use Rattle.gr_batch.specs.declared.wakes.Woken.{Woken}
use Rattle.gr_net.specs.Sums.{Each}
use Rattle.gr_net.proofs.Spreads.{put_same, put_at, put_other}
use Rattle.gr_machine.specs.Machines.{Machine}
use Rattle.gr_machine.specs.declared.waits.Waits.{Waits}
use Rattle.gr_machine.specs.Slots.{waiting, readied, goes_on, rewaiting, rewaiting_task, resumed_all, resumed_task}
use Rattle.gr_machine.specs.States.{Suspended, Body}
use Rattle.gr_machine.specs.Outcomes.{Outcome, quietly}
use Rattle.gr_stands.specs.Worlds.{Given, machine_in, World, bodies}
use Rattle.gr_stands.specs.Calls.{StandsAt, mode_of, is_told, is_going, of_slot, times}
use Rattle.gr_stands.specs.Stands.{Stands}
use Rattle.gr_stands.proofs.Places.{times_last, times_before}
use Rattle.gr_stands_calls.specs.Acting.{Keeps}
use Rattle.gr_stands_calls.proofs.Common.{same_memory}
use Rattle.gr_stands_chains.proofs.Follows.{outcomes_follow_on}
use Rattle.gr_stands_changes.specs.Changes.{ChangesSlot}
use Rattle.gr_stands_changes.proofs.Slots.{slot_changes_are_kept}
use Rattle.gr_stands_changes.proofs.Leaves.{nothing_happens}
use Rattle.gr_stands_series.specs.Lists.{IsPending, MayWait, AllMayWait, MayGoOn, AllMayGoOn}
use Rattle.gr_stands_series.specs.Laws as laws

some_same : {X : Type 0} (x y : X) → Some x ≡ Some y → x ≡ y
some_same x y e = cc

-- ---- tasks that wait for something else

module _ (given : Given) (S : State) (c : ℕ) (here : c < given.setup.cores) (reason : Waits) (pending : IsPending reason) where
  wait_once : (w : World) (k : ℕ) (s : Suspended) → Stands given w S → (bodies w c).tasks.slots k ≡ Some s → MayWait reason s → Keeps given w c [] (quietly (waiting (bodies w c) k s reason)) S
  wait_once w k s st there may =
      let f = st.calls.tasks.slots c k s there in
      slot_changes_are_kept given w S S c [] (quietly (waiting (bodies w c) k s reason)) k s (record s { waits = reason }) st here (record {
        there = there;
        slots = refl;
        ready = st.calls.tasks.ready c k ∙ ap (of_slot is_going) there ∙ may.pending.not_going ∙ sym pending.not_going;
        others = λ other ne. refl;
        number = refl;
        work = refl;
        words = refl;
        named = refl;
        counted = refl;
        was_not_asking = may.pending.not_asking;
        not_asking = pending.not_asking;
        letters = tt;
        sends = tt;
        memory = same_memory S.objects;
        stands = λ z. let m = may.stands z in let p : StandsAt S s = f.stands m.0 in record { plain = p.plain; there = p.there; action = p.action; running = p.running; mode = p.mode ∙ m.1 };
        plain = inl refl;
      })

  still_may : (b : Body) (k : ℕ) (s : Suspended) → MayWait reason s → (calls : List WaitingCall) → AllMayWait reason b calls → AllMayWait reason (waiting b k s reason) calls
  still_may b k s may [] f = tt
  still_may b k s may (call ∷ calls) f = (
    λ t there. elim (cases_eq call.slot k) [
      | inl e ↦ subst (MayWait reason) (some_same (record s { waits = reason }) t (sym (put_at b.tasks.slots k (Some (record s { waits = reason })) call.slot e) ∙ there))
          (record { pending = pending; stands = λ z. (z, refl) })
      | inr ne ↦ f.0 t (sym (put_other b.tasks.slots k (Some (record s { waits = reason })) call.slot ne) ∙ there)
    ],
    still_may b k s may calls f.1,
  )

  rewaits : (calls : List WaitingCall) (w : World) → Stands given w S → AllMayWait reason (bodies w c) calls → Keeps given w c [] (quietly (rewaiting (bodies w c) reason calls)) S
  rewaits [] w st f = nothing_happens given w S c st here
  rewaits (call ∷ calls) w st f = by ((bodies w c).tasks.slots call.slot) refl (λ v stv g. rewaits calls v stv g)
    where
      More : Type 0
      More = (v : World) → Stands given v S → AllMayWait reason (bodies v c) calls → Keeps given v c [] (quietly (rewaiting (bodies v c) reason calls)) S

      by : (o : Option Suspended) → (bodies w c).tasks.slots call.slot ≡ o → More → Keeps given w c [] (quietly (rewaiting (rewaiting_task (bodies w c) call.slot reason o) reason calls)) S
      by None there more = more w st f.1
      by (Some s) there more =
          let b = waiting (bodies w c) call.slot s reason in
          outcomes_follow_on given w c [] (quietly b) (quietly (rewaiting b reason calls)) S S (wait_once w call.slot s st there (f.0 s there))
          (λ v is stv.
          let at : bodies v c ≡ b = ap (λ (x : ℕ → Body). x c) is ∙ put_same (bodies w) c b in
          subst (λ (x : Body). Keeps given v c [] (quietly (rewaiting x reason calls)) S) at
          (more v stv (subst (λ (x : Body). AllMayWait reason x calls) (sym at) (still_may (bodies w c) call.slot s (f.0 s there) calls f.1))))

pub waits_are_changed : laws.WaitsAreChanged
waits_are_changed given w S c reason calls st here pending f = rewaits given S c here reason pending calls w st f

-- ---- tasks that go on

module _ (given : Given) (S : State) (c : ℕ) (here : c < given.setup.cores) where
  abbrev machine : Machine
  machine = machine_in given

  go_once : (w : World) (wake : Woken) (s : Suspended) → Stands given w S → (bodies w c).tasks.slots wake.slot ≡ Some s → MayGoOn machine S wake s
      → Keeps given w c [] (quietly (readied (bodies w c) wake.slot (goes_on machine s wake.reply))) S
  go_once w wake s st there may =
      let k = wake.slot in
      slot_changes_are_kept given w S S c [] (quietly (readied (bodies w c) k (goes_on machine s wake.reply))) k s (goes_on machine s wake.reply) st here (record {
        there = there;
        slots = refl;
        ready = omega (arith, times_last k (bodies w c).tasks.ready, st.calls.tasks.ready c k, ap (of_slot is_going) there, may.pending.not_going);
        others = λ other ne. times_before other k (bodies w c).tasks.ready ne;
        number = refl;
        work = refl;
        words = refl;
        named = refl;
        counted = refl;
        was_not_asking = may.pending.not_asking;
        not_asking = refl;
        letters = tt;
        sends = tt;
        memory = same_memory S.objects;
        stands = λ z. may.stands;
        plain = inl refl;
      })

  still_go : (b : Body) (k : ℕ) (u : Suspended) (wakes : List Woken) → Each (λ other. other.slot ≢ k) wakes → AllMayGoOn machine S b wakes → AllMayGoOn machine S (readied b k u) wakes
  still_go b k u [] apart f = tt
  still_go b k u (wake ∷ wakes) apart f = (
    λ t there. f.0 t (sym (put_other b.tasks.slots k (Some u) wake.slot apart.0) ∙ there),
    f.1,
    still_go b k u wakes apart.1 f.2,
  )

  resumes : (wakes : List Woken) (w : World) → Stands given w S → AllMayGoOn machine S (bodies w c) wakes → Keeps given w c [] (quietly (resumed_all machine (bodies w c) wakes)) S
  resumes [] w st f = nothing_happens given w S c st here
  resumes (wake ∷ wakes) w st f = by ((bodies w c).tasks.slots wake.slot) refl (λ v stv g. resumes wakes v stv g)
    where
      More : Type 0
      More = (v : World) → Stands given v S → AllMayGoOn machine S (bodies v c) wakes → Keeps given v c [] (quietly (resumed_all machine (bodies v c) wakes)) S

      by : (o : Option Suspended) → (bodies w c).tasks.slots wake.slot ≡ o → More → Keeps given w c [] (quietly (resumed_all machine (resumed_task machine (bodies w c) wake.slot wake.reply o) wakes)) S
      by None there more = more w st f.2
      by (Some s) there more =
          let u = goes_on machine s wake.reply in
          let b = readied (bodies w c) wake.slot u in
          outcomes_follow_on given w c [] (quietly b) (quietly (resumed_all machine b wakes)) S S (go_once w wake s st there (f.0 s there))
          (λ v is stv.
          let at : bodies v c ≡ b = ap (λ (x : ℕ → Body). x c) is ∙ put_same (bodies w) c b in
          subst (λ (x : Body). Keeps given v c [] (quietly (resumed_all machine x wakes)) S) at
          (more v stv (subst (λ (x : Body). AllMayGoOn machine S x wakes) (sym at) (still_go (bodies w c) wake.slot u wakes f.1 f.2))))

pub tasks_are_resumed : laws.TasksAreResumed
tasks_are_resumed given w S c wakes st here f = resumes given S c here wakes w st f
