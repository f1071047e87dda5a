-- A call is asked for, and a reply is taken.
use Rattle.std.proofs.Common.{◌≡◌, ◌≢◌, ℕ, zero, suc, ◌+◌, ◌<◌, ◌==◌, ◌&&◌, if◌then◌else◌, Bool, true, false, List, [], ◌∷◌, ◌++◌, sym, ◌∙◌, ap, subst, refl, arith, Option, Some, None}
use Rattle.gr_lang.specs.declared.action.Action.TheVariants as action
use Rattle.gr_lang.specs.declared.action.Op.{Op}
use Rattle.gr_lang.specs.declared.action.Op.TheVariants as op
use Rattle.gr_lang.specs.declared.action.Reply.{Reply}
use Rattle.gr_lang.specs.declared.action.TaskId.{TaskId}
use Rattle.gr_lang.specs.Effects.{reply}
use Rattle.gr_lang.specs.Objects.{address}
use Rattle.gr_lang.specs.States.{State}
use Rattle.gr_msg.specs.declared.message.Msg.TheVariants as msg
use Rattle.gr_machine.specs.Machines.{Machine, home}
use Rattle.gr_machine.specs.declared.waits.Waits.TheVariants as wait
use Rattle.gr_machine.specs.States.{Letter, Suspended, Body}
use Rattle.gr_machine.specs.Outcomes.{Outcome, quietly}
use Rattle.gr_machine.specs.Slots.{readied, goes_on, awaits_reply, named_awaits, task_awaits, same_id, resumed, resumed_task}
use Rattle.gr_machine.specs.Calls.{called, call_asked, word_asked}
use Rattle.gr_machine.specs.Runs.{acts, without_ready}
use Rattle.gr_machine.specs.Requests.{replied}
use Rattle.gr_stands.specs.Worlds.{Given, machine_in, World, bodies}
use Rattle.gr_stands.specs.Censuses.{of_held, is_task}
use Rattle.gr_stands.specs.Calls.{mode_of, is_going, is_asking, of_slot, times, IsRequest, AsksWord, AsksZero, ReplyFits, MessageFits}
use Rattle.gr_stands.specs.CallActs.{CallsAct}
use Rattle.gr_stands.specs.Stands.{IsSound, Stands}
use Rattle.gr_stands.proofs.Memories.{words_stay}
use Rattle.gr_stands.proofs.Calls.{slot_change}
use Rattle.gr_stands.proofs.Places.{same_id_self, none_elsewhere, times_last, times_before}
use Rattle.gr_stands_calls.specs.Acting.{IsFirst, letter, IsFirstLetter, ActsQuietly}
use Rattle.gr_stands_calls.specs.Laws as laws
use Rattle.gr_stands_calls.proofs.Slots.{of_slot_is, request_self, request_other, reply_self, reply_other, slot_census, ready_kept, fresh_kept, subst_slot}
use Rattle.gr_stands_calls.proofs.Common.{same_memory, first_fits, first_goes, rest_here, rest_other, first_stands, kept_by, request_to}

-- ---- the request of a call

module _ (machine : Machine) (body : Body) (slot : ℕ) (task : Suspended) (to operation x y z : ℕ) where
  abbrev asked_as : ℕ → ℕ → ℕ → ℕ → ℕ → Outcome
  asked_as core number at first second = call_asked body slot task core number at first second

  word_is : (object place number first second : ℕ) → AsksWord machine to object place number first second operation x y z
      → word_asked machine body slot task number first second (address machine.code.objects object place) ≡ asked_as to operation x y z
  word_is object place number first second a =
      ap (word_asked machine body slot task number first second) a.lies
      ∙ ap (λ (c : ℕ). asked_as c number x first second) (sym a.homed)
      ∙ ap (λ (n : ℕ). asked_as to n x first second) (sym a.numbered)
      ∙ ap (λ (n : ℕ). asked_as to operation x n second) (sym a.first_is)
      ∙ ap (asked_as to operation x y) (sym a.second_is)

  zero_is : (number word : ℕ) → AsksZero to number word operation x y z → asked_as 0 number word 0 0 ≡ asked_as to operation x y z
  zero_is number word a =
      ap (λ (c : ℕ). asked_as c number word 0 0) (sym a.homed)
      ∙ ap (λ (n : ℕ). asked_as to n word 0 0) (sym a.numbered)
      ∙ ap (λ (n : ℕ). asked_as to operation n 0 0) (sym a.word_is)
      ∙ ap (λ (n : ℕ). asked_as to operation x n 0) (sym a.first_is)
      ∙ ap (asked_as to operation x y) (sym a.second_is)

  pub called_is : (call : Op) → IsRequest machine to call operation x y z → called machine body slot task call ≡ asked_as to operation x y z
  called_is (op.Read object place) r = word_is object place 1 0 0 r
  called_is (op.Write object place word) r = word_is object place 2 word 0 r
  called_is (op.Add object place word) r = word_is object place 3 word 0 r
  called_is (op.Cas object place old new) r = word_is object place 4 old new r
  called_is (op.Alloc count) r = zero_is 5 count r
  called_is (op.Free place) r = zero_is 6 place r
  called_is (op.Print word) r = zero_is 7 word r
  called_is _ r = absurd r

asked_act : (given : Given) (w : World) (S : State) (c k : ℕ) (more : List ℕ) (s : Suspended) (call : Op) (to operation x y z : ℕ) → Stands given w S → c < given.setup.cores
    → IsFirst w c k more s → s.action ≡ action.Call call → IsRequest (machine_in given) to call operation x y z
    → CallsAct given w c [] (call_asked (without_ready (bodies w c)) k s to operation x y z) S S c k (Some (record s { waits = wait.Reply })) []
asked_act given w S c k more s call to operation x y z st here first next request =
    let e = call_asked (without_ready (bodies w c)) k s to operation x y z in
    let r : Suspended = record s { waits = wait.Reply } in
    let o : Option Suspended = Some r in
    let old = st.calls in
    let change = slot_change (bodies w) c k o e.body refl in
    let f = old.tasks.slots c k s first.there in
    let going = first_goes given w S c k more s st first in
    let stands = first_stands given w S c k more s st first in
    record {
      change = change;
      kept = λ id t other h. h;
      elsewhere = none_elsewhere given w (MessageFits given (bodies w) S) c k old.messages;
      new = λ u h. subst_slot given S c k r u h (record { here = f.here; low = f.low; counted = f.counted; stands = λ z. absurd (omega arith) });
      private = old.tasks.private c here;
      public = old.tasks.public c here;
      sends = (
        record {
          sender = here;
          task = r;
          asked = record { there = change.here; named = refl; waits = refl };
          call = call;
          next = next;
          request = request;
          stands = record { plain = stands.plain; there = stands.there; action = stands.action; running = stands.running; mode = stands.mode ∙ ap (λ q. mode_of q s.action) going };
        },
        tt,
      );
      ready = ready_kept (bodies w) c k o e.body change (rest_here given w S c k more s st first) (rest_other w c k more s first) old.tasks.ready;
      fresh = fresh_kept (bodies w) S S c e.body refl (λ id h. h) old.tasks.fresh;
      once = λ id. omega (arith, slot_census (is_task id) given.slots (bodies w c) e.body k o f.low refl refl, ap (of_held (is_task id).of_task) first.there);
      quiet = old.asked c k ∙ of_slot_is is_asking ((bodies w c).tasks.slots k) s wait.Going first.there going;
      asked = omega (arith, request_self c k to s.id operation x y z);
      others = λ i l ne. omega (arith, request_other i l c k to s.id operation x y z ne);
    }

pub calls_are_asked : laws.CallsAreAsked
calls_are_asked given w S c k more s call to operation x y z sound st here first next request =
    let e = call_asked (without_ready (bodies w c)) k s to operation x y z in
    record {
      outcome = e;
      acts = ap Some (ap (acts (machine_in given) c (without_ready (bodies w c)) k s) next ∙ called_is (machine_in given) (without_ready (bodies w c)) k s to operation x y z call request);
      sends = (request_to given sound to operation x y z call request, tt);
      marks = refl;
      keeps = kept_by given w S S c [] e c k (Some (record s { waits = wait.Reply })) [] st (asked_act given w S c k more s call to operation x y z st here first next request)
          (words_stay (machine_in given) (bodies w) c S.objects st.words e.body.words S.objects refl (same_memory S.objects));
    }

-- ---- a reply is taken

replied_is : (machine : Machine) (body : Body) (slot : ℕ) (id : TaskId) (word : Reply) (task : Suspended) → body.tasks.slots slot ≡ Some task → task.id ≡ id → task.waits ≡ wait.Reply
    → replied machine body slot id word ≡ Some (quietly (readied body slot (goes_on machine task word)))
replied_is machine body slot id word task there named waits =
    let waits_so : task_awaits awaits_reply body slot id ≡ true =
    ap (λ (o : Option Suspended). named_awaits awaits_reply id o) there
    ∙ ap (λ q. awaits_reply q && same_id task.id id) waits ∙ ap (λ (q : TaskId). same_id task.id q) (sym named) ∙ same_id_self task.id in
    ap (λ b. if b then Some (quietly (resumed machine body slot word)) else None) waits_so
    ∙ ap (λ (o : Option Suspended). Some (quietly (resumed_task machine body slot word o))) there

reply_act : (given : Given) (w : World) (S : State) (c from k : ℕ) (id : TaskId) (first second : ℕ) → Stands given w S → c < given.setup.cores
    → (f : ReplyFits given (bodies w) S c k id first second)
    → CallsAct given w c (letter from (msg.Reply k id first second) ∷ []) (quietly (readied (bodies w c) k (goes_on (machine_in given) f.task (reply first second)))) S S c k
    (Some (goes_on (machine_in given) f.task (reply first second))) []
reply_act given w S c from k id first second st here f =
    let s = f.task in
    let r : Suspended = goes_on (machine_in given) s (reply first second) in
    let o : Option Suspended = Some r in
    let e = quietly (readied (bodies w c) k r) in
    let old = st.calls in
    let change = slot_change (bodies w) c k o e.body refl in
    let fits = old.tasks.slots c k s f.asked.there in
    record {
      change = change;
      kept = λ id t other h. h;
      elsewhere = none_elsewhere given w (MessageFits given (bodies w) S) c k old.messages;
      new = λ u h. subst_slot given S c k r u h (record { here = fits.here; low = fits.low; counted = fits.counted; stands = λ z. f.stands });
      private = old.tasks.private c here;
      public = old.tasks.public c here;
      sends = tt;
      ready = ready_kept (bodies w) c k o e.body change
          (omega (arith, times_last k (bodies w c).tasks.ready, old.tasks.ready c k, of_slot_is is_going ((bodies w c).tasks.slots k) s wait.Reply f.asked.there f.asked.waits))
          (λ l ne. times_before l k (bodies w c).tasks.ready ne) old.tasks.ready;
      fresh = fresh_kept (bodies w) S S c e.body refl (λ id h. h) old.tasks.fresh;
      once = λ id. omega (arith, slot_census (is_task id) given.slots (bodies w c) e.body k o fits.low refl refl, ap (of_held (is_task id).of_task) f.asked.there);
      quiet = omega (arith, old.asked c k, of_slot_is is_asking ((bodies w c).tasks.slots k) s wait.Reply f.asked.there f.asked.waits, reply_self c k from id first second);
      asked = refl;
      others = λ i l ne. omega (arith, reply_other i l c k from id first second ne);
    }

pub replies_are_taken : laws.RepliesAreTaken
replies_are_taken given w S c from k id first second sound st letters =
    let f : ReplyFits given (bodies w) S c k id first second = first_fits given w S c from (msg.Reply k id first second) st letters in
    let e = quietly (readied (bodies w c) k (goes_on (machine_in given) f.task (reply first second))) in
    record {
      outcome = e;
      acts = replied_is (machine_in given) (bodies w c) k id (reply first second) f.task f.asked.there f.asked.named f.asked.waits;
      sends = tt;
      marks = refl;
      keeps = kept_by given w S S c (letter from (msg.Reply k id first second) ∷ []) e c k (Some (goes_on (machine_in given) f.task (reply first second))) [] st
          (reply_act given w S c from k id first second st letters.here f)
          (words_stay (machine_in given) (bodies w) c S.objects st.words e.body.words S.objects refl (same_memory S.objects));
    }
