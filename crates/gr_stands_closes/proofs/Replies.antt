-- The calls of a batch get their replies.
use Rattle.std.proofs.Common.{◌≡◌, ◌<◌, ℕ, Bool, true, false, if◌then◌else◌, List, [], ◌∷◌, sym, ◌∙◌, ap, subst, refl, Option, Some, None}
use Rattle.gr_lang.specs.declared.action.WaitingCall.{WaitingCall}
use Rattle.gr_lang.specs.States.{State}
use Rattle.gr_msg.specs.declared.message.Msg.TheVariants as msg
use Rattle.gr_batch.specs.Folding.{wakes_of}
use Rattle.gr_net.proofs.Spreads.{put_same}
use Rattle.gr_machine.specs.Machines.{Machine}
use Rattle.gr_machine.specs.States.{Body}
use Rattle.gr_machine.specs.Outcomes.{Outcome, quietly}
use Rattle.gr_machine.specs.Slots.{resumed_all}
use Rattle.gr_machine.specs.BatchServes.{without_batch, can_wake, batch_replied}
use Rattle.gr_stands.specs.Worlds.{Given, machine_in, World, bodies}
use Rattle.gr_stands.specs.Stands.{Stands}
use Rattle.gr_stands_calls.specs.Acting.{letter, Keeps, ActsQuietly}
use Rattle.gr_stands_chains.proofs.Follows.{outcomes_follow_on}
use Rattle.gr_stands_changes.proofs.Leaves.{leaves_kept}
use Rattle.gr_stands_series.specs.Lists.{AllMayGoOn}
use Rattle.gr_stands_series.proofs.Lists.{tasks_are_resumed}
use Rattle.gr_stands_closes.specs.Laws as laws

same_some : (x y : Outcome) → Some x ≡ Some y → x ≡ y
same_some x y e = cc

module _ (given : Given) (w : World) (S : State) (c from batch : ℕ) (before : Option ℕ) (e : Outcome) (st : Stands given w S) (here : c < given.setup.cores) where
  abbrev machine : Machine
  machine = machine_in given

  -- The tasks go on, and then the batch is gone.
  woken : (v : World) → Stands given v S → (calls : List WaitingCall) → AllMayGoOn machine S (bodies v c) (wakes_of calls before)
      → Keeps given v c [] (quietly (without_batch (resumed_all machine (bodies v c) (wakes_of calls before)) batch)) S
  woken v stv calls f =
      let r : Body = resumed_all machine (bodies v c) (wakes_of calls before) in
      outcomes_follow_on given v c [] (quietly r) (quietly (without_batch r batch)) S S (tasks_are_resumed given v S c (wakes_of calls before) stv here f)
      (λ u is stu.
      let at : bodies u c ≡ r = ap (λ (x : ℕ → Body). x c) is ∙ put_same (bodies v) c r in
      leaves_kept given u S c [] (quietly (without_batch r batch)) stu here (record {
        tasks = ap (λ (x : Body). x.tasks) (sym at);
        work = ap (λ (x : Body). x.work) (sym at);
        words = ap (λ (x : Body). x.words) (sym at);
        letters = tt;
        sends = tt;
      }))

  abbrev Acts : Type 0
  Acts = ActsQuietly given w S c (letter from (msg.BatchReply batch before) ∷ []) (Some e)

  by_calls : (o : Option (List WaitingCall)) → ((calls : List WaitingCall) → o ≡ Some calls → AllMayGoOn machine S (bodies w c) (wakes_of calls before))
      → batch_replied machine (bodies w c) batch before o ≡ Some e → Acts
  by_calls None f h = absurd (cc)
  by_calls (Some calls) f h = by (can_wake (bodies w c) batch before calls) h
    where
      row : ActsQuietly given w S c (letter from (msg.BatchReply batch before) ∷ []) (Some (quietly (without_batch (resumed_all machine (bodies w c) (wakes_of calls before)) batch)))
      row = record {
        outcome = quietly (without_batch (resumed_all machine (bodies w c) (wakes_of calls before)) batch);
        acts = refl;
        sends = tt;
        marks = refl;
        keeps = outcomes_follow_on given w c (letter from (msg.BatchReply batch before) ∷ []) (quietly (bodies w c))
            (quietly (without_batch (resumed_all machine (bodies w c) (wakes_of calls before)) batch)) S S
            (leaves_kept given w S c (letter from (msg.BatchReply batch before) ∷ []) (quietly (bodies w c)) st here (record { tasks = refl; work = refl; words = refl; letters = (tt, tt); sends = tt }))
            (λ v is stv.
            let at : bodies v c ≡ bodies w c = ap (λ (x : ℕ → Body). x c) is ∙ put_same (bodies w) c (bodies w c) in
            subst (λ (x : Body). Keeps given v c [] (quietly (without_batch (resumed_all machine x (wakes_of calls before)) batch)) S) at
            (woken v stv calls (subst (λ (x : Body). AllMayGoOn machine S x (wakes_of calls before)) (sym at) (f calls refl))));
      }

      by : (b : Bool) → (if b then Some (quietly (without_batch (resumed_all machine (bodies w c) (wakes_of calls before)) batch)) else None) ≡ Some e → Acts
      by false h = absurd (cc)
      by true h = subst (λ (x : Outcome). ActsQuietly given w S c (letter from (msg.BatchReply batch before) ∷ []) (Some x))
          (same_some (quietly (without_batch (resumed_all machine (bodies w c) (wakes_of calls before)) batch)) e h) row

pub batches_come_back : laws.BatchesComeBack
batches_come_back given w S c from batch before e st first tells h = by_calls given w S c from batch before e st first.here ((bodies w c).batches.flying batch) tells h
