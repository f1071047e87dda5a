-- In each run a turn puts words only where the plan of its calls puts some: outcome by outcome.
use Rattle.std.proofs.Common.{◌≡◌, ℕ, ◌==◌, List, [], ◌∷◌, ◌++◌, refl, sym, ◌∙◌, ap, subst, arith}
use Rattle.std.specs.Prelude.{Bool, true, false, Option, Some, None, drop}
use Rattle.gr_lang.specs.declared.action.Op.{Op}
use Rattle.gr_lang.specs.declared.action.Op.TheVariants as op
use Rattle.gr_lang.specs.declared.action.Action.{Action}
use Rattle.gr_lang.specs.declared.action.Action.TheVariants as action
use Rattle.gr_lang.specs.declared.action.WaitingCall.{WaitingCall}
use Rattle.gr_lang.specs.Objects.{address}
use Rattle.gr_view.specs.Places.{put}
use Rattle.gr_msg.specs.declared.message.Msg.{Msg}
use Rattle.gr_msg.specs.declared.message.Msg.TheVariants as msg
use Rattle.gr_vector.specs.Groups.{group_of}
use Rattle.gr_vector.specs.Plans.{plan_of, ends_after}
use Rattle.gr_vector.specs.Turns.{Turns, is_out}
use Rattle.gr_net.proofs.Spreads.{put_each}
use Rattle.gr_machine.specs.Machines.{Machine, thing}
use Rattle.gr_machine.specs.States.{Tasks, Scopes, Turn, Suspended, Vector, Vectors, Body}
use Rattle.gr_machine.specs.Openings.{is_vector, empty_vector, opening_body, first_tasks, first_scopes, no_tasks, no_scopes}
use Rattle.gr_machine.specs.Outcomes.{Send, Outcome, to}
use Rattle.gr_machine.specs.Calls.{word_asked, is_reducer, vector_joins, called}
use Rattle.gr_machine.specs.Closes.{closes_as, closes}
use Rattle.gr_machine.specs.TurnServes.{turn_asked, turn_done, with_vector, with_turn, turn_from, turn_begun, can_begin, group_granted, turn_granted, element_put, element_stored, element_got, element_fetched, put_answered, get_answered, element_answered, turn_answered, element_acked, turn_replies, wakes, settled_turn, settled_vector, turn_finished}
use Rattle.gr_machine.specs.Runs.{acts, without_ready, without_unit, taken_up}
use Rattle.gr_machine.specs.Serves.{serves, settles}
use Rattle.gr_machine.specs.Events.{asks, gives}
use Rattle.gr_machine.proofs.ActionFacts.{choice}
use Rattle.gr_stands.specs.Worlds.{machine_in, of_sends}
use Rattle.gr_lines.specs.Lines.{vector_in}
use Rattle.gr_bounds.specs.Shares.{GrowsByOne}
use Rattle.gr_bounds.specs.Outcomes.{Raises, RaisesIf, Rules, NoneKnown}
use Rattle.gr_bounds.proofs.Shares.{step_grows}
use Rattle.gr_bounds.proofs.Opening.{opens_at_one}
use Rattle.gr_bounds.proofs.Measures.{grown}
use Rattle.gr_bounds_numbers.specs.Bounds.{weightless}
use Rattle.gr_bounds_tails.proofs.Quiet.{Quiet, QuietIf, all_resumed_same, rewaiting_same, give_quiet, closes_quiet, words_quiet, reduces_quiet, keys_quiet, spawns_quiet, finishes_quiet, loops_quiet, arrives_quiet, ends_quiet, units_quiet, IsOfNoLine, serve_quiet}
use Rattle.gr_elements_rests.specs.Laws.{PutsAsPlanned}
use Rattle.gr_stands_rests.specs.Laws as laws

-- What is known of one vector, and of those of a core.
abbrev OnePlanned : Option Vector → Type 0
OnePlanned found = (turn : Turn) → (vector_in found).turn ≡ Some turn → PutsAsPlanned turn

abbrev ArePlanned : (ℕ → Option Vector) → Type 0
ArePlanned vectors = (number : ℕ) → OnePlanned (vectors number)

abbrev Keeps : Body → Outcome → Type 0
Keeps body outcome = ArePlanned body.vectors.vectors → ArePlanned outcome.body.vectors.vectors

abbrev KeepsIf : Body → Option Outcome → Type 0
KeepsIf body None = Unit {0}
KeepsIf body (Some outcome) = Keeps body outcome

none_some : {X : Type 0} (x : X) → None ≡ Some x → ⊥
none_some x e = cc

some_same : {X : Type 0} (x y : X) → Some x ≡ Some y → x ≡ y
some_same x y e = cc

-- Vectors stay, and one changes.
stay : (body : Body) (outcome : Outcome) → outcome.body.vectors ≡ body.vectors → Keeps body outcome
stay body outcome e old = subst (λ (them : Vectors). ArePlanned them.vectors) (sym e) old

quiet_if : (body : Body) (outcome : Option Outcome) → QuietIf body outcome → KeepsIf body outcome
quiet_if body None q = tt
quiet_if body (Some outcome) q = stay body outcome q.0

one_changes : (body : Body) (outcome : Outcome) (k : ℕ) (vector : Vector) → outcome.body.vectors ≡ (with_vector body k vector).vectors
    → (ArePlanned body.vectors.vectors → OnePlanned (Some vector)) → Keeps body outcome
one_changes body outcome k vector e one old = subst (λ (them : Vectors). ArePlanned them.vectors) (sym e)
    (λ number. put_each (λ (i : ℕ) (it : Option Vector). OnePlanned it) body.vectors.vectors k (Some vector) number (λ q. one old) (λ q. old number))

-- Its turn is the same as before, or another one that puts as planned.
turn_stays : (body : Body) (outcome : Outcome) (k : ℕ) (vector next : Vector) → body.vectors.vectors k ≡ Some vector
    → outcome.body.vectors ≡ (with_vector body k next).vectors → next.turn ≡ vector.turn → Keeps body outcome
turn_stays body outcome k vector next there e same =
    one_changes body outcome k next e (λ old turn t. old k turn (ap (λ (it : Option Vector). (vector_in it).turn) there ∙ sym same ∙ t))

turn_is : (body : Body) (outcome : Outcome) (k : ℕ) (vector : Vector) (turn : Turn) → outcome.body.vectors ≡ (with_turn body k vector turn).vectors
    → (ArePlanned body.vectors.vectors → PutsAsPlanned turn) → Keeps body outcome
turn_is body outcome k vector turn e planned = one_changes body outcome k (record vector { turn = Some turn }) e
    (λ old other t. subst PutsAsPlanned (some_same turn other t) (planned old))

module _ (machine : Machine) (me : ℕ) where
  -- ---- what a ready task does

  module _ (body : Body) (slot : ℕ) (task : Suspended) where
    abbrev R : Outcome → Type 0
    R = Keeps body

    quiet_here : (outcome : Outcome) → Quiet body outcome → R outcome
    quiet_here outcome q = stay body outcome q.0

    joins_keep : (call : Op) (object : ℕ) (found : Option Vector) → body.vectors.vectors object ≡ found → R (vector_joins body slot task call object found)
    joins_keep call object None e = stay body (vector_joins body slot task call object None) refl
    joins_keep call object (Some vector) e = turn_stays body (vector_joins body slot task call object (Some vector)) object vector _ e refl refl

    words_keep : (operation y z : ℕ) (at : Option ℕ) → R (word_asked machine body slot task operation y z at)
    words_keep operation y z at = quiet_here (word_asked machine body slot task operation y z at) (words_quiet machine me body slot task operation y z at)

    call_here : (call : Op) → Quiet body (called machine body slot task call) → R (called machine body slot task call)
    call_here call q = stay body (called machine body slot task call) q.0

    calls_keep : (call : Op) → R (called machine body slot task call)
    calls_keep (op.Read object place) = words_keep 1 0 0 (address machine.code.objects object place)
    calls_keep (op.Write object place word) = words_keep 2 word 0 (address machine.code.objects object place)
    calls_keep (op.Add object place word) = words_keep 3 word 0 (address machine.code.objects object place)
    calls_keep (op.Cas object place old new) = words_keep 4 old new (address machine.code.objects object place)
    calls_keep (op.Reduce object reducer place word) = call_here (op.Reduce object reducer place word)
        (reduces_quiet machine me body slot task (op.Reduce object reducer place word) object (is_reducer reducer) (address machine.code.objects object place))
    calls_keep (op.Insert object key) = call_here (op.Insert object key) (keys_quiet machine me body slot task (op.Insert object key) object key)
    calls_keep (op.Remove object key) = call_here (op.Remove object key) (keys_quiet machine me body slot task (op.Remove object key) object key)
    calls_keep (op.Has object key) = call_here (op.Has object key) (keys_quiet machine me body slot task (op.Has object key) object key)
    calls_keep (op.Put object key word) = call_here (op.Put object key word) (keys_quiet machine me body slot task (op.Put object key word) object key)
    calls_keep (op.Get object key) = call_here (op.Get object key) (keys_quiet machine me body slot task (op.Get object key) object key)
    calls_keep (op.Erase object key) = call_here (op.Erase object key) (keys_quiet machine me body slot task (op.Erase object key) object key)
    calls_keep (op.Merge object reducer key word) = call_here (op.Merge object reducer key word) (keys_quiet machine me body slot task (op.Merge object reducer key word) object key)
    calls_keep (op.Push object word) = joins_keep (op.Push object word) object (body.vectors.vectors object) refl
    calls_keep (op.Pop object) = joins_keep (op.Pop object) object (body.vectors.vectors object) refl
    calls_keep (op.Dequeue object) = joins_keep (op.Dequeue object) object (body.vectors.vectors object) refl
    calls_keep (op.Alloc words) = λ old. old
    calls_keep (op.Free place) = λ old. old
    calls_keep (op.Print word) = λ old. old

    act_here : (what : Action) → Quiet body (acts machine me body slot task what) → R (acts machine me body slot task what)
    act_here what q = stay body (acts machine me body slot task what) q.0

    acts_keep : (what : Action) → R (acts machine me body slot task what)
    acts_keep (action.Call call) = calls_keep call
    acts_keep (action.Spawn way target args) = act_here (action.Spawn way target args) (spawns_quiet machine me body slot task way target args)
    acts_keep action.Finish = act_here action.Finish (finishes_quiet machine me body slot task)
    acts_keep action.Arrive = act_here action.Arrive (arrives_quiet machine me body slot task task.opened)
    acts_keep (action.Loop lo hi grain target args) = act_here (action.Loop lo hi grain target args) (loops_quiet machine me body slot task lo hi grain target args)
    acts_keep action.End = act_here action.End (ends_quiet machine me body slot task)
    acts_keep (action.Trap kind) = λ old. old

  -- ---- the calls of an object go off

  closes_keep : (body : Body) (object : ℕ) (found : Option Vector) → body.vectors.vectors object ≡ found → Keeps body (closes_as machine body object found)
  closes_keep body object None e = stay body (closes_as machine body object None) (closes_quiet machine me body object).0
  closes_keep body object (Some vector) e = turn_stays body (closes_as machine body object (Some vector)) object vector grouped e
      (rewaiting_same (with_vector body object grouped) _ (group_of vector.combiner)) refl
    where
      grouped : Vector
      grouped = record vector { combiner = []; groups = vector.groups ++ group_of vector.combiner ∷ [] }

  -- ---- messages of vectors

  module _ (body : Body) (from k : ℕ) where
    asked_keep : (turns : Option Turns) → KeepsIf body (turn_asked body from k turns)
    asked_keep None = tt
    asked_keep (Some turns) = λ old. old

    done_keep : (head tail : ℕ) (turns : Option Turns) → KeepsIf body (turn_done body k head tail turns)
    done_keep head tail None = tt
    done_keep head tail (Some turns) = choice (KeepsIf body) (is_out turns) _ _ (λ old. old) tt

    begun_keep : (head tail : ℕ) (vector : Vector) (calls : List WaitingCall)
        → Keeps body (turn_begun machine body k vector calls head tail (plan_of calls head tail))
    begun_keep head tail vector calls = turn_is body (turn_begun machine body k vector calls head tail (plan_of calls head tail)) k vector
        (turn_from calls (record { head = head; tail = tail }) (plan_of calls head tail)) refl (λ old position p. p)

    group_keep : (head tail : ℕ) (vector : Vector) (turn : Option Turn) (groups : List (List WaitingCall))
        → KeepsIf body (group_granted machine body k head tail vector turn groups)
    group_keep head tail vector None (calls ∷ groups) = choice (KeepsIf body) (can_begin body k head tail calls) _ _ (begun_keep head tail vector calls) tt
    group_keep head tail vector None [] = tt
    group_keep head tail vector (Some turn) groups = tt

    grant_keep : (head tail : ℕ) (found : Option Vector) → KeepsIf body (turn_granted machine body k head tail found)
    grant_keep head tail None = tt
    grant_keep head tail (Some vector) = group_keep head tail vector vector.turn vector.groups

    put_keep : (position word : ℕ) (vector : Vector) → body.vectors.vectors k ≡ Some vector
        → (there : Option ℕ) → KeepsIf body (element_put body from k position word vector there)
    put_keep position word vector e None = turn_stays body
        (record { body = with_vector body k (record vector { part = put vector.part position (Some word) }); sends = to from (msg.ElemAck k position None); marks = [] }) k vector (record vector { part = put vector.part position (Some word) }) e refl refl
    put_keep position word vector e (Some old) = tt

    stored_keep : (position word : ℕ) (found : Option Vector) → body.vectors.vectors k ≡ found → KeepsIf body (element_stored body from k position word found)
    stored_keep position word None e = tt
    stored_keep position word (Some vector) e = put_keep position word vector e (vector.part position)

    got_keep : (position : ℕ) (vector : Vector) → body.vectors.vectors k ≡ Some vector
        → (there : Option ℕ) → KeepsIf body (element_got body from k position vector there)
    got_keep position vector e None = tt
    got_keep position vector e (Some word) = turn_stays body
        (record { body = with_vector body k (record vector { part = put vector.part position None }); sends = to from (msg.ElemAck k position (Some word)); marks = [] }) k vector (record vector { part = put vector.part position None }) e refl refl

    fetched_keep : (position : ℕ) (found : Option Vector) → body.vectors.vectors k ≡ found → KeepsIf body (element_fetched body from k position found)
    fetched_keep position None e = tt
    fetched_keep position (Some vector) e = got_keep position vector e (vector.part position)

    -- A put that is answered isn't due any more.
    fewer : (turn : Turn) (position : ℕ) → PutsAsPlanned turn → PutsAsPlanned (put_answered turn position)
    fewer turn position planned other p = planned other
        (put_each (λ (i : ℕ) (b : Bool). b ≡ true → turn.puts i ≡ true) turn.puts position false other
        (λ q. λ wrong. absurd (false_true wrong)) (λ q. λ right. right) p)
      where
        false_true : false ≡ true → ⊥
        false_true e = cc

    answered_keep : (position : ℕ) (vector : Vector) → body.vectors.vectors k ≡ Some vector → (turn : Turn) → vector.turn ≡ Some turn
        → (got : Option ℕ) → KeepsIf body (element_answered body k vector turn position got)
    answered_keep position vector e turn t None = choice (KeepsIf body) (turn.puts position) _ _
        (turn_is body (record { body = with_turn body k vector (put_answered turn position); sends = []; marks = [] }) k vector
        (put_answered turn position) refl (λ old. fewer turn position (old k turn (ap (λ (it : Option Vector). (vector_in it).turn) e ∙ t)))) tt
    answered_keep position vector e turn t (Some word) = choice (KeepsIf body) (turn.gets position) _ _
        (turn_is body (record { body = with_turn body k vector (get_answered turn position word); sends = []; marks = [] }) k vector
        (get_answered turn position word) refl (λ old. old k turn (ap (λ (it : Option Vector). (vector_in it).turn) e ∙ t))) tt

    turn_keep : (position : ℕ) (got : Option ℕ) (vector : Vector) → body.vectors.vectors k ≡ Some vector → (turn : Option Turn) → vector.turn ≡ turn
        → KeepsIf body (turn_answered body k position got vector turn)
    turn_keep position got vector e None t = tt
    turn_keep position got vector e (Some turn) t = answered_keep position vector e turn t got

    acked_keep : (position : ℕ) (got : Option ℕ) (found : Option Vector) → body.vectors.vectors k ≡ found
        → KeepsIf body (element_acked body k position got found)
    acked_keep position got None e = tt
    acked_keep position got (Some vector) e = turn_keep position got vector e vector.turn refl

    -- At its end a turn is gone.
    settled_keep : (vector : Vector) (turn : Option Turn) → KeepsIf body (settled_turn machine body k vector turn)
    settled_keep vector None = tt
    settled_keep vector (Some turn) = choice (KeepsIf body) (turn.left == 0) _ _
        (one_changes body (turn_finished machine body k vector turn (ends_after turn.calls turn.ends)) k gone (all_resumed_same machine (with_vector body k gone) (wakes (turn_replies turn)))
        (λ old other t. absurd (none_some other t))) tt
      where
        gone : Vector
        gone = record vector { groups = drop 1 vector.groups; turn = None }

    vector_keep : (found : Option Vector) → KeepsIf body (settled_vector machine body k found)
    vector_keep None = tt
    vector_keep (Some vector) = settled_keep vector vector.turn

  plain_keep : (body : Body) (from : ℕ) (message : Msg) → IsOfNoLine machine me body from message → KeepsIf body (serves machine me body from message)
  plain_keep body from message i = quiet_if body (serves machine me body from message) (serve_quiet machine me body from message i)

  serves_keep : (body : Body) (from : ℕ) (message : Msg) → KeepsIf body (serves machine me body from message)
  serves_keep body from (msg.Turn k) = asked_keep body from k (body.vectors.masters k)
  serves_keep body from (msg.Grant k head tail) = grant_keep body from k head tail (body.vectors.vectors k)
  serves_keep body from (msg.Done k head tail) = done_keep body from k head tail (body.vectors.masters k)
  serves_keep body from (msg.ElemPut k position word) = stored_keep body from k position word (body.vectors.vectors k) refl
  serves_keep body from (msg.ElemGet k position) = fetched_keep body from k position (body.vectors.vectors k) refl
  serves_keep body from (msg.ElemAck k position got) = acked_keep body from k position got (body.vectors.vectors k) refl
  serves_keep body from (msg.Request slot id operation x y z) = plain_keep body from (msg.Request slot id operation x y z) tt
  serves_keep body from (msg.Reply slot id first second) = plain_keep body from (msg.Reply slot id first second) tt
  serves_keep body from (msg.Spawn work) = plain_keep body from (msg.Spawn work) tt
  serves_keep body from (msg.Enrol scope) = plain_keep body from (msg.Enrol scope) tt
  serves_keep body from (msg.EnrolAck scope) = plain_keep body from (msg.EnrolAck scope) tt
  serves_keep body from (msg.Complete scope tasks) = plain_keep body from (msg.Complete scope tasks) tt
  serves_keep body from (msg.Leave scope) = plain_keep body from (msg.Leave scope) tt
  serves_keep body from msg.StealAsk = plain_keep body from msg.StealAsk tt
  serves_keep body from (msg.StealGive work) = plain_keep body from (msg.StealGive work) tt
  serves_keep body from (msg.Batch object key effect batch) = plain_keep body from (msg.Batch object key effect batch) tt
  serves_keep body from (msg.BatchReply batch before) = plain_keep body from (msg.BatchReply batch before) tt

  settles_keep : (body : Body) (message : Msg) → KeepsIf body (settles machine body message)
  settles_keep body (msg.Grant k head tail) = vector_keep body me k (body.vectors.vectors k)
  settles_keep body (msg.ElemAck k position got) = vector_keep body me k (body.vectors.vectors k)
  settles_keep body _ = tt

-- ---- runs

-- As a share of any size, of which nothing is told.
abbrev PlannedAt : ℕ → Body → ℕ → Type 0
PlannedAt me body most = ArePlanned body.vectors.vectors

nothing_weighs : (me : ℕ) (sends : List Send) → of_sends weightless me sends ≡ 0
nothing_weighs me [] = refl
nothing_weighs me (send ∷ sends) = omega (arith, nothing_weighs me sends)

module _ (me : ℕ) (body : Body) where
  raises : (outcome : Outcome) (more : ℕ) → Keeps body outcome → Raises PlannedAt weightless me body outcome more
  raises outcome more keep x old = record { share = 0; body = keep old; all = omega (arith, nothing_weighs me outcome.sends) }

  raises_if : (outcome : Option Outcome) (more : ℕ) → KeepsIf body outcome → RaisesIf PlannedAt weightless me body outcome more
  raises_if None more keep = tt
  raises_if (Some outcome) more keep = raises outcome more keep

rules : (machine : Machine) → Rules PlannedAt weightless machine NoneKnown
rules machine = record {
  adds = λ from to scope one other. refl;
  not_ready = λ me body x old. old;
  no_unit = λ me body x old. old;
  run = λ me body known slot task there. raises me (without_ready body) (acts machine me (without_ready body) slot task task.action) 1
      (acts_keep machine me (without_ready body) slot task task.action);
  unit = λ me body known slot work e. raises me body (taken_up machine me (without_unit body) slot work) 1
      (stay body (taken_up machine me (without_unit body) slot work) (units_quiet machine me (without_unit body) slot work).0);
  serve = λ me body known from message. raises_if me body (serves machine me body from message) 1 (serves_keep machine me body from message);
  close = λ me body known object. raises me body (closes machine body object) 1 (closes_keep machine me body object (body.vectors.vectors object) refl);
  steal = λ me body victim. raises me body (asks victim body) 1 (λ old. old);
  settle = λ me body message. raises_if me body (settles machine body message) 0 (settles_keep machine me body message);
  give = λ me body. raises me body (gives body) 0 (stay body (gives body) (give_quiet body).0);
}

opens_planned : (machine : Machine) (me : ℕ) (tasks : Tasks) (scopes : Scopes) → ArePlanned (opening_body machine me tasks scopes).vectors.vectors
opens_planned machine me tasks scopes number =
    choice OnePlanned (is_vector (thing machine number)) (Some empty_vector) None (λ turn t. absurd (none_some turn t)) (λ turn t. absurd (none_some turn t))

planned_grow : GrowsByOne PlannedAt weightless
planned_grow = record {
  opens = λ machine slot. opens_at_one machine slot PlannedAt weightless machine.setup.cores (opens_planned machine 0 (first_tasks machine slot) first_scopes)
      (λ me. opens_planned machine me no_tasks no_scopes);
  steps = λ machine before after me entry most h old.
      step_grows PlannedAt weightless machine NoneKnown (rules machine) before after me entry most (λ core l. tt) h old;
}

pub runs_planned : laws.RunsPutAsPlanned
runs_planned given slot steps end run number core turn here out =
    (grown PlannedAt weightless planned_grow (machine_in given) slot steps end run).each core here number turn out
