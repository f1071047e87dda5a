-- The end of a vector's words, with the pushes that wait, grows by one at most with each step: outcome by outcome.
use Rattle.std.proofs.Common.{◌≡◌, ◌≤◌, ℕ, ◌+◌, ◌==◌, List, [], ◌∷◌, ◌++◌, refl, ap, arith}
use Rattle.std.specs.Prelude.{◌&&◌, Option, Some, None, drop}
use Rattle.gr_lang.specs.declared.action.Op.{Op}
use Rattle.gr_lang.specs.declared.action.Op.TheVariants as op
use Rattle.gr_lang.specs.declared.action.Action.{Action}
use Rattle.gr_lang.specs.declared.action.Action.TheVariants as action
use Rattle.gr_lang.specs.declared.action.WaitingCall.{WaitingCall}
use Rattle.gr_lang.specs.Objects.{address}
use Rattle.gr_view.specs.Places.{put}
use Rattle.gr_msg.specs.declared.message.Msg.{Msg}
use Rattle.gr_msg.specs.declared.message.Msg.TheVariants as msg
use Rattle.gr_vector.specs.declared.ends.Ends.{Ends}
use Rattle.gr_vector.specs.Groups.{group_of}
use Rattle.gr_vector.specs.Plans.{ends_after, plan_of}
use Rattle.gr_vector.specs.Turns.{Turns, asked, grant_on_asking, granted, ended, is_out}
use Rattle.gr_net.proofs.Spreads.{Each-append}
use Rattle.gr_machine.specs.Machines.{Machine, numbered_home, thing}
use Rattle.gr_machine.specs.States.{Tasks, Scopes, Turn, Suspended, Vector, Body}
use Rattle.gr_machine.specs.Openings.{is_vector, empty_vector, opening_body, first_tasks, first_scopes, no_tasks, no_scopes}
use Rattle.gr_machine.specs.Outcomes.{Send, Outcome, to}
use Rattle.gr_machine.specs.Slots.{dropped}
use Rattle.gr_machine.specs.Spawns.{trapped, spawns}
use Rattle.gr_machine.specs.ScopeRuns.{finishes, loops, arrives, ends}
use Rattle.gr_machine.specs.Calls.{call_asked, word_asked, waiting_call, is_reducer, key_joins, reduce_joins, vector_joins, called}
use Rattle.gr_machine.specs.Closes.{closes_combiner, closes_as, closes}
use Rattle.gr_machine.specs.TurnServes.{with_turns, grants, turn_asked, turn_ended, turn_done, with_vector, with_turn, turn_from, put_sends, get_sends, turn_begun, can_begin, group_granted, turn_granted, element_put, element_stored, element_got, element_fetched, put_answered, get_answered, element_answered, turn_answered, element_acked, turn_replies, wakes, turn_finished, settled_turn, settled_vector}
use Rattle.gr_machine.specs.Runs.{acts, without_ready, without_unit, taken_up}
use Rattle.gr_machine.specs.Serves.{serves, settles}
use Rattle.gr_machine.specs.Events.{asks, gives}
use Rattle.gr_machine.proofs.ActionFacts.{choice}
use Rattle.gr_bounds.specs.Outcomes.{Raises, RaisesIf, Rules, NoneKnown}
use Rattle.gr_bounds.proofs.Shares.{step_grows}
use Rattle.gr_bounds.proofs.Opening.{opens_at_one}
use Rattle.gr_bounds_tails.specs.Tails.{pushes, master_tail, line_tail, tail_held, TailAtMost, if_line, tails_told}
use Rattle.gr_bounds_tails.specs.Laws as laws
use Rattle.gr_bounds_tails.proofs.Quiet.{IsLight, QuietIf, all_resumed_same, rewaiting_same, give_quiet, closes_quiet, drops, words_quiet, reduces_quiet, keys_quiet, spawns_quiet, finishes_quiet, loops_quiet, arrives_quiet, ends_quiet, units_quiet, IsOfNoLine, serve_quiet}
use Rattle.gr_bounds_tails.proofs.Lines.{joined_pushes, group_pushes, tail_after_all, groups_joined, groups_behind, asked_tail, ended_tail, Within, WithinIf, light_sends, line_none, quiet_within, line_within, line_stays, turns_within, puts_light, gets_light}

module _ (number : ℕ) (machine : Machine) (me : ℕ) where
  quiet_if : (body : Body) (outcome : Option Outcome) (more : ℕ) → QuietIf body outcome → WithinIf number me body outcome more
  quiet_if body None more q = tt
  quiet_if body (Some outcome) more q = quiet_within number me body outcome more q

  -- ---- what a ready task does

  module _ (body : Body) (slot : ℕ) (task : Suspended) where
    abbrev W : Outcome → Type 0
    W outcome = Within number me body outcome 1

    joins_within : (call : Op) (object : ℕ) (found : Option Vector) → body.vectors.vectors object ≡ found → W (vector_joins body slot task call object found)
    joins_within call object None e = quiet_within number me body (dropped body slot) 1 (drops machine me body slot task)
    joins_within call object (Some vector) e = line_stays number me body (vector_joins body slot task call object (Some vector)) object
        (record vector { combiner = vector.combiner ++ waiting_call slot task call ∷ [] }) 1 refl tt
        (omega (arith, ap line_tail e, joined_pushes vector.combiner (waiting_call slot task call)))

    words_within : (operation y z : ℕ) (at : Option ℕ) → W (word_asked machine body slot task operation y z at)
    words_within operation y z at = quiet_within number me body (word_asked machine body slot task operation y z at) 1 (words_quiet machine me body slot task operation y z at)

    keys_within : (call : Op) (object key : ℕ) → W (key_joins machine body slot task call object key)
    keys_within call object key = quiet_within number me body (key_joins machine body slot task call object key) 1 (keys_quiet machine me body slot task call object key)

    calls_within : (call : Op) → W (called machine body slot task call)
    calls_within (op.Read object place) = words_within 1 0 0 (address machine.code.objects object place)
    calls_within (op.Write object place word) = words_within 2 word 0 (address machine.code.objects object place)
    calls_within (op.Add object place word) = words_within 3 word 0 (address machine.code.objects object place)
    calls_within (op.Cas object place old new) = words_within 4 old new (address machine.code.objects object place)
    calls_within (op.Reduce object reducer place word) = quiet_within number me body
        (reduce_joins body slot task (op.Reduce object reducer place word) object (is_reducer reducer) (address machine.code.objects object place)) 1
        (reduces_quiet machine me body slot task (op.Reduce object reducer place word) object (is_reducer reducer) (address machine.code.objects object place))
    calls_within (op.Insert object key) = keys_within (op.Insert object key) object key
    calls_within (op.Remove object key) = keys_within (op.Remove object key) object key
    calls_within (op.Has object key) = keys_within (op.Has object key) object key
    calls_within (op.Put object key word) = keys_within (op.Put object key word) object key
    calls_within (op.Get object key) = keys_within (op.Get object key) object key
    calls_within (op.Erase object key) = keys_within (op.Erase object key) object key
    calls_within (op.Merge object reducer key word) = keys_within (op.Merge object reducer key word) object key
    calls_within (op.Push object word) = joins_within (op.Push object word) object (body.vectors.vectors object) refl
    calls_within (op.Pop object) = joins_within (op.Pop object) object (body.vectors.vectors object) refl
    calls_within (op.Dequeue object) = joins_within (op.Dequeue object) object (body.vectors.vectors object) refl
    calls_within (op.Alloc words) = quiet_within number me body (call_asked body slot task 0 5 words 0 0) 1 (refl, (tt, tt))
    calls_within (op.Free place) = quiet_within number me body (call_asked body slot task 0 6 place 0 0) 1 (refl, (tt, tt))
    calls_within (op.Print word) = quiet_within number me body (call_asked body slot task 0 7 word 0 0) 1 (refl, (tt, tt))

    acts_within : (what : Action) → W (acts machine me body slot task what)
    acts_within (action.Call call) = calls_within call
    acts_within (action.Spawn way target args) = quiet_within number me body (spawns machine me body slot task way target args) 1 (spawns_quiet machine me body slot task way target args)
    acts_within action.Finish = quiet_within number me body (finishes machine me body slot task) 1 (finishes_quiet machine me body slot task)
    acts_within action.Arrive = quiet_within number me body (arrives machine body slot task task.opened) 1 (arrives_quiet machine me body slot task task.opened)
    acts_within (action.Loop lo hi grain target args) = quiet_within number me body (loops machine me body slot task lo hi grain target args) 1 (loops_quiet machine me body slot task lo hi grain target args)
    acts_within action.End = quiet_within number me body (ends machine body slot task) 1 (ends_quiet machine me body slot task)
    acts_within (action.Trap kind) = quiet_within number me body (trapped body slot task kind) 1 (refl, tt)

  -- ---- the calls of an object go off

  closes_within : (body : Body) (object : ℕ) (found : Option Vector) → body.vectors.vectors object ≡ found → Within number me body (closes_as machine body object found) 1
  closes_within body object None e = quiet_within number me body (closes_combiner machine body object (body.batches.combiners object)) 1 (closes_quiet machine me body object)
  closes_within body object (Some vector) e = line_stays number me body (closes_as machine body object (Some vector)) object grouped 1 (rewaiting_same (with_vector body object grouped) _ (group_of vector.combiner)) (tt, tt)
      (omega (arith, ap line_tail e, in_turn vector.turn, group_pushes vector.combiner))
    where
      grouped : Vector
      grouped = record vector { combiner = []; groups = vector.groups ++ group_of vector.combiner ∷ [] }

      in_turn : (turn : Option Turn) → line_tail (Some (record grouped { turn = turn })) ≤ line_tail (Some (record vector { combiner = []; turn = turn })) + pushes (group_of vector.combiner)
      in_turn None = omega (arith, groups_joined vector.groups (group_of vector.combiner))
      in_turn (Some turn) = omega (arith, groups_behind vector.groups (group_of vector.combiner))

  -- ---- messages of vectors

  module _ (body : Body) (from k : ℕ) where
    asked_within : (turns : Option Turns) → body.vectors.masters k ≡ turns → WithinIf number me body (turn_asked body from k turns) 1
    asked_within None e = tt
    asked_within (Some turns) e = omega (
      arith,
      line_none number k,
      turns_within number me body (record { body = with_turns body k (asked turns from); sends = grants k (grant_on_asking turns from); marks = [] }) k (asked turns from) (grant_on_asking turns from) 0 1 refl refl (omega (arith, ap master_tail e, asked_tail turns.head turns.tail turns.cores from)),
    )

    done_within : (head tail : ℕ) (turns : Option Turns) → WithinIf number me body (turn_done body k head tail turns) (if_line number k tail + 1)
    done_within head tail None = tt
    done_within head tail (Some turns) = choice (λ (o : Option Outcome). WithinIf number me body o (if_line number k tail + 1)) (is_out turns) _ _
        (turns_within number me body (turn_ended body k (ended turns head tail)) k (ended turns head tail) (granted (ended turns head tail)) tail 1 refl refl
        (omega (arith, ended_tail head tail (drop 1 turns.cores)))) tt

    begun_within : (head tail : ℕ) (vector : Vector) (calls : List WaitingCall) (groups : List (List WaitingCall)) → body.vectors.vectors k ≡ Some vector → vector.turn ≡ None → vector.groups ≡ calls ∷ groups
        → Within number me body (turn_begun machine body k vector calls head tail (plan_of calls head tail)) (if_line number k tail + 1)
    begun_within head tail vector calls groups e t g =
        line_within number me body (turn_begun machine body k vector calls head tail (plan_of calls head tail)) k
        (record vector { turn = Some (turn_from calls (record { head = head; tail = tail }) (plan_of calls head tail)) }) 0 tail 1 refl
        (omega (
          arith,
          line_none number k,
          light_sends number me (put_sends machine k (plan_of calls head tail).puts ++ get_sends machine k (plan_of calls head tail).gets)
              (Each-append (λ (send : Send). IsLight send.message) (put_sends machine k (plan_of calls head tail).puts) (get_sends machine k (plan_of calls head tail).gets) (puts_light number machine k (plan_of calls head tail).puts) (gets_light number machine k (plan_of calls head tail).gets)),
        ))
        (omega (arith, ap line_tail e, ap (λ (turn : Option Turn). line_tail (Some (record vector { turn = turn }))) t, ap (λ (gs : List (List WaitingCall)). line_tail (Some (record vector { turn = None; groups = gs }))) g, behind vector.groups g))
      where
        behind : (gs : List (List WaitingCall)) → gs ≡ calls ∷ groups → line_tail (Some (record empty_vector { groups = drop 1 gs })) ≡ line_tail (Some (record empty_vector { groups = groups }))
        behind gs q = ap (λ (x : List (List WaitingCall)). line_tail (Some (record empty_vector { groups = drop 1 x }))) q

    group_within : (head tail : ℕ) (vector : Vector) → body.vectors.vectors k ≡ Some vector → (turn : Option Turn) → vector.turn ≡ turn → (groups : List (List WaitingCall)) → vector.groups ≡ groups
        → WithinIf number me body (group_granted machine body k head tail vector turn groups) (if_line number k tail + 1)
    group_within head tail vector e None t (calls ∷ groups) g = choice (λ (o : Option Outcome). WithinIf number me body o (if_line number k tail + 1)) (can_begin body k head tail calls) _ _
        (begun_within head tail vector calls groups e t g) tt
    group_within head tail vector e None t [] g = tt
    group_within head tail vector e (Some turn) t groups g = tt

    grant_within : (head tail : ℕ) (found : Option Vector) → body.vectors.vectors k ≡ found → WithinIf number me body (turn_granted machine body k head tail found) (if_line number k tail + 1)
    grant_within head tail None e = tt
    grant_within head tail (Some vector) e = group_within head tail vector e vector.turn refl vector.groups refl

    put_within : (position word : ℕ) (vector : Vector) → body.vectors.vectors k ≡ Some vector → (there : Option ℕ) → WithinIf number me body (element_put body from k position word vector there) 1
    put_within position word vector e None = line_stays number me body
        (record { body = with_vector body k (record vector { part = put vector.part position (Some word) }); sends = to from (msg.ElemAck k position None); marks = [] }) k
        (record vector { part = put vector.part position (Some word) }) 1 refl (tt, tt) (omega (arith, ap line_tail e))
    put_within position word vector e (Some old) = tt

    stored_within : (position word : ℕ) (found : Option Vector) → body.vectors.vectors k ≡ found → WithinIf number me body (element_stored body from k position word found) 1
    stored_within position word None e = tt
    stored_within position word (Some vector) e = put_within position word vector e (vector.part position)

    got_within : (position : ℕ) (vector : Vector) → body.vectors.vectors k ≡ Some vector → (there : Option ℕ) → WithinIf number me body (element_got body from k position vector there) 1
    got_within position vector e None = tt
    got_within position vector e (Some word) = line_stays number me body
        (record { body = with_vector body k (record vector { part = put vector.part position None }); sends = to from (msg.ElemAck k position (Some word)); marks = [] }) k
        (record vector { part = put vector.part position None }) 1 refl (tt, tt) (omega (arith, ap line_tail e))

    fetched_within : (position : ℕ) (found : Option Vector) → body.vectors.vectors k ≡ found → WithinIf number me body (element_fetched body from k position found) 1
    fetched_within position None e = tt
    fetched_within position (Some vector) e = got_within position vector e (vector.part position)

    -- An answer leaves a turn's calls and ends.
    answer_within : (vector : Vector) → body.vectors.vectors k ≡ Some vector → (turn next : Turn) → vector.turn ≡ Some turn → next.calls ≡ turn.calls → next.ends ≡ turn.ends
        → Within number me body (record { body = with_turn body k vector next; sends = []; marks = [] }) 1
    answer_within vector e turn next t c d = line_stays number me body (record { body = with_turn body k vector next; sends = []; marks = [] }) k (record vector { turn = Some next }) 1 refl tt
        (omega (arith, ap line_tail e, ap (λ (it : Option Turn). line_tail (Some (record vector { turn = it }))) t, ap pushes c, ap (λ (it : Ends). it.tail) d))

    answered_within : (position : ℕ) (vector : Vector) → body.vectors.vectors k ≡ Some vector → (turn : Turn) → vector.turn ≡ Some turn → (got : Option ℕ)
        → WithinIf number me body (element_answered body k vector turn position got) 1
    answered_within position vector e turn t None = choice (λ (o : Option Outcome). WithinIf number me body o 1) (turn.puts position) _ _
        (answer_within vector e turn (put_answered turn position) t refl refl) tt
    answered_within position vector e turn t (Some word) = choice (λ (o : Option Outcome). WithinIf number me body o 1) (turn.gets position) _ _
        (answer_within vector e turn (get_answered turn position word) t refl refl) tt

    turn_within : (position : ℕ) (got : Option ℕ) (vector : Vector) → body.vectors.vectors k ≡ Some vector → (turn : Option Turn) → vector.turn ≡ turn
        → WithinIf number me body (turn_answered body k position got vector turn) 1
    turn_within position got vector e None t = tt
    turn_within position got vector e (Some turn) t = answered_within position vector e turn t got

    acked_within : (position : ℕ) (got : Option ℕ) (found : Option Vector) → body.vectors.vectors k ≡ found → WithinIf number me body (element_acked body k position got found) 1
    acked_within position got None e = tt
    acked_within position got (Some vector) e = turn_within position got vector e vector.turn refl

    -- The end of a turn: the master is told where the words stand.
    finished_within : (vector : Vector) → body.vectors.vectors k ≡ Some vector → (turn : Turn) → vector.turn ≡ Some turn
        → Within number me body (turn_finished machine body k vector turn (ends_after turn.calls turn.ends)) 0
    finished_within vector e turn t = omega (
      arith,
      line_none number k,
      line_within number me body (turn_finished machine body k vector turn (ends_after turn.calls turn.ends)) k (record vector { groups = drop 1 vector.groups; turn = None }) (ends_after turn.calls turn.ends).tail 0 0
          (all_resumed_same machine (with_vector body k (record vector { groups = drop 1 vector.groups; turn = None })) (wakes (turn_replies turn))) (omega arith)
          (omega (arith, ap line_tail e, ap (λ (it : Option Turn). line_tail (Some (record vector { turn = it }))) t, tail_after_all turn.calls turn.ends)),
    )

    settled_within : (found : Option Vector) → body.vectors.vectors k ≡ found → WithinIf number me body (settled_vector machine body k found) 0
    settled_within None e = tt
    settled_within (Some vector) e = here vector.turn refl
      where
        here : (turn : Option Turn) → vector.turn ≡ turn → WithinIf number me body (settled_turn machine body k vector turn) 0
        here None t = tt
        here (Some turn) t = choice (λ (o : Option Outcome). WithinIf number me body o 0) (turn.left == 0) _ _ (finished_within vector e turn t) tt

  plain_within : (body : Body) (from : ℕ) (message : Msg) → IsOfNoLine machine me body from message → WithinIf number me body (serves machine me body from message) (tails_told number from me message + 1)
  plain_within body from message i = quiet_if body (serves machine me body from message) (tails_told number from me message + 1) (serve_quiet machine me body from message i)

  serves_within : (body : Body) (from : ℕ) (message : Msg) → WithinIf number me body (serves machine me body from message) (tails_told number from me message + 1)
  serves_within body from (msg.Turn k) = asked_within body from k (body.vectors.masters k) refl
  serves_within body from (msg.Grant k head tail) = grant_within body from k head tail (body.vectors.vectors k) refl
  serves_within body from (msg.Done k head tail) = done_within body from k head tail (body.vectors.masters k)
  serves_within body from (msg.ElemPut k position word) = stored_within body from k position word (body.vectors.vectors k) refl
  serves_within body from (msg.ElemGet k position) = fetched_within body from k position (body.vectors.vectors k) refl
  serves_within body from (msg.ElemAck k position got) = acked_within body from k position got (body.vectors.vectors k) refl
  serves_within body from (msg.Request slot id operation x y z) = plain_within body from (msg.Request slot id operation x y z) tt
  serves_within body from (msg.Reply slot id first second) = plain_within body from (msg.Reply slot id first second) tt
  serves_within body from (msg.Spawn work) = plain_within body from (msg.Spawn work) tt
  serves_within body from (msg.Enrol scope) = plain_within body from (msg.Enrol scope) tt
  serves_within body from (msg.EnrolAck scope) = plain_within body from (msg.EnrolAck scope) tt
  serves_within body from (msg.Complete scope tasks) = plain_within body from (msg.Complete scope tasks) tt
  serves_within body from (msg.Leave scope) = plain_within body from (msg.Leave scope) tt
  serves_within body from msg.StealAsk = plain_within body from msg.StealAsk tt
  serves_within body from (msg.StealGive work) = plain_within body from (msg.StealGive work) tt
  serves_within body from (msg.Batch object key effect batch) = plain_within body from (msg.Batch object key effect batch) tt
  serves_within body from (msg.BatchReply batch before) = plain_within body from (msg.BatchReply batch before) tt

  settles_within : (body : Body) (message : Msg) → WithinIf number me body (settles machine body message) 0
  settles_within body (msg.Grant k head tail) = settled_within body me k (body.vectors.vectors k) refl
  settles_within body (msg.ElemAck k position got) = settled_within body me k (body.vectors.vectors k) refl
  settles_within body _ = tt

  raises : (body : Body) (outcome : Outcome) (more : ℕ) → Within number me body outcome more → Raises (TailAtMost number) (tails_told number) me body outcome more
  raises body outcome more w x fact = record { share = tail_held number outcome.body; body = omega arith; all = omega (arith, w, fact) }

  raises_if : (body : Body) (outcome : Option Outcome) (more : ℕ) → WithinIf number me body outcome more → RaisesIf (TailAtMost number) (tails_told number) me body outcome more
  raises_if body None more w = tt
  raises_if body (Some outcome) more w = raises body outcome more w

tail_rules : (number : ℕ) (machine : Machine) → Rules (TailAtMost number) (tails_told number) machine NoneKnown
tail_rules number machine = record {
  adds = λ from to scope one other. refl;
  not_ready = λ me body x fact. fact;
  no_unit = λ me body x fact. fact;
  run = λ me body known slot task there. raises number machine me (without_ready body) (acts machine me (without_ready body) slot task task.action) 1 (acts_within number machine me (without_ready body) slot task task.action);
  unit = λ me body known slot work e. raises number machine me body (taken_up machine me (without_unit body) slot work) 1 (quiet_within number me body (taken_up machine me (without_unit body) slot work) 1 (units_quiet machine me (without_unit body) slot work));
  serve = λ me body known from message. raises_if number machine me body (serves machine me body from message) (tails_told number from me message + 1) (serves_within number machine me body from message);
  close = λ me body known object. raises number machine me body (closes machine body object) 1 (closes_within number machine me body object (body.vectors.vectors object) refl);
  steal = λ me body victim. raises number machine me body (asks victim body) 1 (quiet_within number me body (asks victim body) 1 (refl, (tt, tt)));
  settle = λ me body message. raises_if number machine me body (settles machine body message) 0 (settles_within number machine me body message);
  give = λ me body. raises number machine me body (gives body) 0 (quiet_within number me body (gives body) 0 (give_quiet body));
}

-- ---- the opening

none_held : (number : ℕ) (machine : Machine) (me : ℕ) (tasks : Tasks) (scopes : Scopes) → tail_held number (opening_body machine me tasks scopes) ≡ 0
none_held number machine me tasks scopes = omega (
  arith,
  choice (λ (it : Option Turns). master_tail it ≡ 0) (is_vector (thing machine number) && numbered_home machine number == me) (Some (record { head = 0; tail = 0; cores = [] })) None refl refl,
  choice (λ (it : Option Vector). line_tail it ≡ 0) (is_vector (thing machine number)) (Some empty_vector) None refl refl,
)

pub tails_grow : laws.TailsGrow
tails_grow number = record {
  opens = λ machine slot. opens_at_one machine slot (TailAtMost number) (tails_told number) machine.setup.cores (omega (arith, none_held number machine 0 (first_tasks machine slot) first_scopes))
      (λ me. omega (arith, none_held number machine me no_tasks no_scopes));
  steps = λ machine before after me entry most h old. step_grows (TailAtMost number) (tails_told number) machine NoneKnown (tail_rules number machine) before after me entry most (λ core l. tt) h old;
}
