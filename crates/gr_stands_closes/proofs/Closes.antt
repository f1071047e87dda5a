-- The calls that wait on an object go off.
use Rattle.std.proofs.Common.{◌≡◌, ◌≢◌, ◌⊎◌, ◌<◌, ℕ, zero, suc, ◌+◌, ◌/◌, ◌%◌, List, [], ◌∷◌, ◌++◌, inl, inr, sym, ◌∙◌, ap, subst, refl, arith, mod-lt, Option, Some, None}
use Rattle.std.proofs.lemmas.Bool.{cases_eq}
use Rattle.gr_lang.specs.declared.action.WaitingCall.{WaitingCall}
use Rattle.gr_lang.specs.Objects.{Object, array, keys, pairs, line}
use Rattle.gr_lang.specs.States.{State}
use Rattle.gr_view.specs.Places.{put}
use Rattle.gr_msg.specs.declared.message.Msg.TheVariants as msg
use Rattle.gr_batch.specs.Batches.{batches_of, rest_of}
use Rattle.gr_batch.specs.declared.combiner.Batch.{Batch}
use Rattle.gr_batch.specs.declared.combiner.Held.{Held}
use Rattle.gr_vector.specs.Groups.{group_of}
use Rattle.gr_net.specs.Sums.{Each}
use Rattle.gr_net.proofs.Spreads.{put_same, put_at, put_other, Each-append, Each-map}
use Rattle.gr_machine.specs.declared.mark.Mark.{Mark}
use Rattle.gr_machine.specs.declared.mark.Mark.TheVariants as mark
use Rattle.gr_machine.specs.Machines.{Machine, home, numbered_home, thing}
use Rattle.gr_machine.specs.declared.waits.Waits.{Waits}
use Rattle.gr_machine.specs.declared.waits.Waits.TheVariants as wait
use Rattle.gr_machine.specs.States.{Letter, Suspended, Vector, Body}
use Rattle.gr_machine.specs.Outcomes.{Send, Outcome, to, quietly, followed}
use Rattle.gr_machine.specs.Slots.{waiting, rewaiting, rewaiting_task}
use Rattle.gr_machine.specs.TurnServes.{with_vector}
use Rattle.gr_machine.specs.Closes.{batch_home, with_flying, batch_sent, batches_sent, with_combiner, closes_combiner, closes_vector, closes_as}
use Rattle.gr_stands.specs.Worlds.{Given, machine_in, World, bodies}
use Rattle.gr_stands.specs.Calls.{mode_of, is_told, is_going, is_asking}
use Rattle.gr_stands.specs.Stands.{IsSound, Stands}
use Rattle.gr_stands_calls.specs.Acting.{Keeps}
use Rattle.gr_stands_chains.proofs.Follows.{outcomes_follow_on}
use Rattle.gr_stands_changes.proofs.Leaves.{leaves_kept}
use Rattle.gr_stands_series.specs.Lists.{IsPending, MayWait, AllMayWait}
use Rattle.gr_stands_series.proofs.Lists.{waits_are_changed}
use Rattle.gr_stands_closes.specs.Closing.{IsNoEntry, ActsInside, AreHeld, CloseTells}
use Rattle.gr_stands_closes.specs.Laws as laws

some_same : {X : Type 0} (x y : X) → Some x ≡ Some y → x ≡ y
some_same x y e = cc

-- ---- tasks that are neither ready nor wait for a reply

abbrev ArePending : Body → List WaitingCall → Type 0
ArePending body calls = Each (λ call. (task : Suspended) → body.tasks.slots call.slot ≡ Some task → IsPending task.waits) calls

held_pending : (w : Waits) (object : ℕ) → w ≡ wait.Close object → IsPending w
held_pending w object e = record { not_going = ap is_going e; not_asking = ap is_asking e }

are_pending : (b : Body) (object : ℕ) (calls : List WaitingCall) → AreHeld b object calls → ArePending b calls
are_pending b object [] f = tt
are_pending b object (call ∷ calls) f = (λ t there. held_pending t.waits object (f.0 t there), are_pending b object calls f.1)

may_fly : (b : Body) (n : ℕ) (calls : List WaitingCall) → ArePending b calls → AllMayWait (wait.Batch n) b calls
may_fly b n [] f = tt
may_fly b n (call ∷ calls) f = (λ t there. record { pending = f.0 t there; stands = λ z. absurd (one z) }, may_fly b n calls f.1)
  where
    one : suc zero ≡ zero → ⊥
    one z = omega arith

may_turn : (b : Body) (object : ℕ) (calls : List WaitingCall) → AreHeld b object calls → AllMayWait (wait.Turn object) b calls
may_turn b object [] f = tt
may_turn b object (call ∷ calls) f = (
  λ t there. record { pending = held_pending t.waits object (f.0 t there); stands = λ z. (ap is_told (f.0 t there), ap (λ w. mode_of w t.action) (f.0 t there)) },
  may_turn b object calls f.1,
)

module _ (reason : Waits) (pending : IsPending reason) where
  once_pending : (b : Body) (k : ℕ) (o : Option Suspended) (calls : List WaitingCall) → ArePending b calls → ArePending (rewaiting_task b k reason o) calls
  once_pending b k None calls f = f
  once_pending b k (Some s) [] f = tt
  once_pending b k (Some s) (call ∷ calls) f = (
    λ t there. elim (cases_eq call.slot k) [
      | inl e ↦ subst (λ (x : Suspended). IsPending x.waits) (some_same (record s { waits = reason }) t (sym (put_at b.tasks.slots k (Some (record s { waits = reason })) call.slot e) ∙ there)) pending
      | inr ne ↦ f.0 t (sym (put_other b.tasks.slots k (Some (record s { waits = reason })) call.slot ne) ∙ there)
    ],
    once_pending b k (Some s) calls f.1,
  )

  pending_kept : (done : List WaitingCall) (b : Body) (calls : List WaitingCall) → ArePending b calls → ArePending (rewaiting b reason done) calls
  pending_kept [] b calls f = f
  pending_kept (call ∷ done) b calls f = pending_kept done (rewaiting_task b call.slot reason (b.tasks.slots call.slot)) calls (once_pending b call.slot (b.tasks.slots call.slot) calls f)

-- ---- homes

module _ (given : Given) (sound : IsSound given) where
  abbrev machine : Machine
  machine = machine_in given

  home_is : (at : ℕ) → home machine at < given.setup.cores
  home_is at = mod-lt (at / given.setup.block) {m = given.setup.cores} (omega (arith, sound.cores))

  pub number_is : (number : ℕ) → numbered_home machine number < given.setup.cores
  number_is number = mod-lt number {m = given.setup.cores} (omega (arith, sound.cores))

  batch_is : (o : Option Object) (key : ℕ) → batch_home machine o key < given.setup.cores
  batch_is (Some (keys held)) key = number_is key
  batch_is (Some (pairs held)) key = number_is key
  batch_is (Some (array from count)) key = home_is key
  batch_is (Some (line words)) key = home_is key
  batch_is None key = home_is key

  -- ---- batches

  module _ (S : State) (c object : ℕ) (here : c < given.setup.cores) where
    batch_keeps : (w : World) (batch : Batch) → Stands given w S → ArePending (bodies w c) batch.calls → Keeps given w c [] (batch_sent machine (bodies w c) object batch) S
    batch_keeps w batch st f =
        let number : ℕ = (bodies w c).batches.next in
        let r : Body = rewaiting (bodies w c) (wait.Batch number) batch.calls in
        let second : Outcome = record {
          body = with_flying r batch.calls;
          sends = to (batch_home machine (thing machine object) batch.key) (msg.Batch object batch.key batch.effect number);
          marks = mark.Closed number batch.calls ∷ [];
        } in
        outcomes_follow_on given w c [] (quietly r) second S S
        (waits_are_changed given w S c (wait.Batch number) batch.calls st here (record { not_going = refl; not_asking = refl }) (may_fly (bodies w c) number batch.calls f))
        (λ v is stv.
        let at : bodies v c ≡ r = ap (λ (x : ℕ → Body). x c) is ∙ put_same (bodies w) c r in
        leaves_kept given v S c [] second stv here (record {
          tasks = ap (λ (b : Body). b.tasks) (sym at);
          work = ap (λ (b : Body). b.work) (sym at);
          words = ap (λ (b : Body). b.words) (sym at);
          letters = tt;
          sends = (tt, tt);
        }))

    abbrev AllPending : Body → List Batch → Type 0
    AllPending b batches = Each (λ (batch : Batch). ArePending b batch.calls) batches

    record Sent (w : World) (e : Outcome) : Type 0 where
      sends : Each (λ send. send.to < given.setup.cores) e.sends
      marks : Each IsNoEntry e.marks
      keeps : Keeps given w c [] e S

    one_more : (w : World) (e : Outcome) (batch : Batch) → ArePending e.body batch.calls → Sent w e → Sent w (followed e (batch_sent machine e.body object batch))
    one_more w e batch f s = record {
      sends = Each-append (λ (x : Send). x.to < given.setup.cores) e.sends (batch_sent machine e.body object batch).sends s.sends (batch_is (thing machine object) batch.key, tt);
      marks = Each-append IsNoEntry e.marks (batch_sent machine e.body object batch).marks s.marks (tt, tt);
      keeps = outcomes_follow_on given w c [] e (batch_sent machine e.body object batch) S S s.keeps (λ v is stv.
          let at : bodies v c ≡ e.body = ap (λ (x : ℕ → Body). x c) is ∙ put_same (bodies w) c e.body in
          subst (λ (b : Body). Keeps given v c [] (batch_sent machine b object batch) S) at (batch_keeps v batch stv (subst (λ (b : Body). ArePending b batch.calls) (sym at) f)));
    }

    after_one : (b : Body) (batch : Batch) (batches : List Batch) → AllPending b batches → AllPending (with_flying (rewaiting b (wait.Batch b.batches.next) batch.calls) batch.calls) batches
    after_one b batch batches f = Each-map (λ (other : Batch). ArePending b other.calls) (λ (other : Batch). ArePending (rewaiting b (wait.Batch b.batches.next) batch.calls) other.calls)
        (λ other g. pending_kept (wait.Batch b.batches.next) (record { not_going = refl; not_asking = refl }) batch.calls b other.calls g) batches f

    all_sent : (w : World) (batches : List Batch) (e : Outcome) → AllPending e.body batches → Sent w e → Sent w (batches_sent machine object e batches)
    all_sent w [] e f s = s
    all_sent w (batch ∷ batches) e f s = all_sent w batches (followed e (batch_sent machine e.body object batch)) (after_one e.body batch batches f.1) (one_more w e batch f.0 s)

    -- ---- a Close

    pub combiner_closes : (w : World) → Stands given w S → (held : List Held) → Each (λ (batch : Batch). AreHeld (bodies w c) object batch.calls) (batches_of held)
        → ActsInside given w S c [] (closes_combiner machine (bodies w c) object held)
    combiner_closes w st held f =
        let b : Body = with_combiner (bodies w c) object (rest_of held) in
        let r : Sent w (closes_combiner machine (bodies w c) object held) = all_sent w (batches_of held) (quietly b)
        (Each-map (λ (batch : Batch). AreHeld (bodies w c) object batch.calls) (λ (batch : Batch). ArePending b batch.calls) (λ batch g. are_pending (bodies w c) object batch.calls g) (batches_of held) f)
        (record { sends = tt; marks = tt; keeps = leaves_kept given w S c [] (quietly b) st here (record { tasks = refl; work = refl; words = refl; letters = tt; sends = tt }) }) in
        record { sends = r.sends; marks = r.marks; keeps = r.keeps }

    pub vector_closes : (w : World) → Stands given w S → (vector : Vector) (group : List WaitingCall) → AreHeld (bodies w c) object group
        → ActsInside given w S c [] (closes_vector machine (bodies w c) object vector group)
    vector_closes w st vector group f =
        let b : Body = with_vector (bodies w c) object (record vector { combiner = []; groups = vector.groups ++ group ∷ [] }) in
        let second : Body → Outcome = λ x. record { body = rewaiting x (wait.Turn object) group; sends = to (numbered_home machine object) (msg.Turn object); marks = [] } in
        record {
          sends = (number_is object, tt);
          marks = tt;
          keeps = outcomes_follow_on given w c [] (quietly b) (second b) S S
              (leaves_kept given w S c [] (quietly b) st here (record { tasks = refl; work = refl; words = refl; letters = tt; sends = tt }))
              (λ v is stv.
              let at : bodies v c ≡ b = ap (λ (x : ℕ → Body). x c) is ∙ put_same (bodies w) c b in
              subst (λ (x : Body). Keeps given v c [] (second x) S) at
              (turned v stv (subst (λ (x : Body). AllMayWait (wait.Turn object) x group) (sym at) (may_turn (bodies w c) object group f))));
        }
      where
        turned : (v : World) → Stands given v S → AllMayWait (wait.Turn object) (bodies v c) group
            → Keeps given v c [] (record { body = rewaiting (bodies v c) (wait.Turn object) group; sends = to (numbered_home machine object) (msg.Turn object); marks = [] }) S
        turned v stv g =
            let r : Body = rewaiting (bodies v c) (wait.Turn object) group in
            let last : Outcome = record { body = r; sends = to (numbered_home machine object) (msg.Turn object); marks = [] } in
            outcomes_follow_on given v c [] (quietly r) last S S
            (waits_are_changed given v S c (wait.Turn object) group stv here (record { not_going = refl; not_asking = refl }) g)
            (λ u is stu.
            let at : bodies u c ≡ r = ap (λ (x : ℕ → Body). x c) is ∙ put_same (bodies v) c r in
            leaves_kept given u S c [] last stu here (record {
              tasks = ap (λ (x : Body). x.tasks) (sym at);
              work = ap (λ (x : Body). x.work) (sym at);
              words = ap (λ (x : Body). x.words) (sym at);
              letters = tt;
              sends = (tt, tt);
            }))

pub calls_go_off : laws.CallsGoOff
calls_go_off given w S c object sound st here tells = by ((bodies w c).vectors.vectors object) refl
  where
    by : (o : Option Vector) → (bodies w c).vectors.vectors object ≡ o → ActsInside given w S c [] (closes_as (machine_in given) (bodies w c) object o)
    by None e = combiner_closes given sound S c object here w st ((bodies w c).batches.combiners object) (tells.batches e)
    by (Some vector) e = vector_closes given sound S c object here w st vector (group_of vector.combiner) (tells.group vector e)
