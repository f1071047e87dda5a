-- Each event keeps the lines of its core.
use Rattle.std.proofs.Common.{◌≡◌, ℕ, ◌<◌, ◌==◌, List, [], ◌∷◌, sym, ◌∙◌, ap, refl, Option, Some, None}
use Rattle.gr_lang.specs.declared.action.Action.{Action}
use Rattle.gr_lang.specs.declared.action.Action.TheVariants as action
use Rattle.gr_lang.specs.declared.action.Op.{Op}
use Rattle.gr_lang.specs.declared.action.Op.TheVariants as op
use Rattle.gr_lang.specs.declared.action.WaitingCall.{WaitingCall}
use Rattle.gr_view.specs.Places.{put}
use Rattle.gr_msg.specs.declared.message.Msg.{Msg}
use Rattle.gr_msg.specs.declared.message.Msg.TheVariants as msg
use Rattle.gr_vector.specs.Groups.{vector_of}
use Rattle.gr_vector.specs.Plans.{plan_of, ends_after}
use Rattle.gr_vector.specs.Turns.{Turns, asked, ended, is_out}
use Rattle.gr_net.proofs.Spreads.{Each-append, Each-drop}
use Rattle.gr_machine.specs.Machines.{Machine}
use Rattle.gr_machine.specs.States.{Suspended, Turn, Vector, Body}
use Rattle.gr_machine.specs.Outcomes.{Outcome, quietly}
use Rattle.gr_machine.specs.Slots.{dropped}
use Rattle.gr_machine.specs.Calls.{vector_joins, called}
use Rattle.gr_machine.specs.Runs.{acts}
use Rattle.gr_machine.specs.TurnServes.{turn_asked, turn_ended, turn_done, can_begin, turn_from, turn_begun, group_granted, turn_granted, element_put, element_stored, element_got, element_fetched, put_answered, get_answered, turn_answered, element_acked, with_turn, with_vector, turn_finished, settled_turn, settled_vector}
use Rattle.gr_machine.specs.Serves.{serves, settles}
use Rattle.gr_machine.specs.Closes.{closes_as}
use Rattle.gr_stands.specs.Worlds.{Given, machine_in}
use Rattle.gr_stands.specs.Calls.{is_going}
use Rattle.gr_lines.specs.Waiting.{HasLines}
use Rattle.gr_lines.proofs.Kept.{has_still}
use Rattle.gr_lines_others.specs.Others.{HeapIsNoVector, IsOfNoVector}
use Rattle.gr_lines_others.proofs.Off.{off_there, off_going, Made, when, made_is}
use Rattle.gr_lines_others.proofs.Tasks.{drops, acts_leave}
use Rattle.gr_lines_others.proofs.Messages.{messages_leave}
use Rattle.gr_lines_others.proofs.Waits.{batches_leave}
use Rattle.gr_lines_calls.specs.Laws as laws
use Rattle.gr_lines_calls.proofs.Counts.{some_same, none_some}
use Rattle.gr_lines_calls.proofs.Changes.{calls_there, same_calls, has_turns}
use Rattle.gr_lines_calls.proofs.Joins.{joins_keep}
use Rattle.gr_lines_calls.proofs.Goes.{groups_keep}
use Rattle.gr_lines_calls.proofs.Ends.{ends_keep}

-- ---- tasks

module _ (given : Given) (me : ℕ) (body : Body) (slot : ℕ) (task : Suspended) (heap : HeapIsNoVector given) (old : HasLines given me body)
    (stood : body.tasks.slots slot ≡ Some task) (going : is_going task.waits ≡ 1) where
  abbrev machine : Machine
  machine = machine_in given

  joins_held : (call : Op) (number : ℕ) → task.action ≡ action.Call call → vector_of call ≡ Some number → (held : Option Vector) → body.vectors.vectors number ≡ held
      → HasLines given me (vector_joins body slot task call number held).body
  joins_held call number due of None there = has_still given me body (dropped body slot).body (drops given me body slot task (off_there given (body.tasks.slots slot) task stood (off_going given task.waits going))) old
  joins_held call number due of (Some vector) there = joins_keep given me body slot task call number vector old there stood going due of

  others : (due : Action) → IsOfNoVector due → HasLines given me (acts machine me body slot task due).body
  others due free = has_still given me body (acts machine me body slot task due).body
      (acts_leave given me body slot task (off_there given (body.tasks.slots slot) task stood (off_going given task.waits going)) heap due free) old

  calls : (call : Op) → task.action ≡ action.Call call → HasLines given me (called machine body slot task call).body
  calls (op.Push object word) due = joins_held (op.Push object word) object due refl (body.vectors.vectors object) refl
  calls (op.Pop object) due = joins_held (op.Pop object) object due refl (body.vectors.vectors object) refl
  calls (op.Dequeue object) due = joins_held (op.Dequeue object) object due refl (body.vectors.vectors object) refl
  calls (op.Read object place) due = others (action.Call (op.Read object place)) refl
  calls (op.Write object place word) due = others (action.Call (op.Write object place word)) refl
  calls (op.Add object place word) due = others (action.Call (op.Add object place word)) refl
  calls (op.Cas object place before after) due = others (action.Call (op.Cas object place before after)) refl
  calls (op.Reduce object reducer place word) due = others (action.Call (op.Reduce object reducer place word)) refl
  calls (op.Insert object key) due = others (action.Call (op.Insert object key)) refl
  calls (op.Remove object key) due = others (action.Call (op.Remove object key)) refl
  calls (op.Has object key) due = others (action.Call (op.Has object key)) refl
  calls (op.Put object key word) due = others (action.Call (op.Put object key word)) refl
  calls (op.Get object key) due = others (action.Call (op.Get object key)) refl
  calls (op.Erase object key) due = others (action.Call (op.Erase object key)) refl
  calls (op.Merge object reducer key word) due = others (action.Call (op.Merge object reducer key word)) refl
  calls (op.Alloc count) due = others (action.Call (op.Alloc count)) refl
  calls (op.Free place) due = others (action.Call (op.Free place)) refl
  calls (op.Print word) due = others (action.Call (op.Print word)) refl

  acts_keep : (due : Action) → task.action ≡ due → HasLines given me (acts machine me body slot task due).body
  acts_keep (action.Call call) due = calls call due
  acts_keep (action.Spawn way target args) due = others (action.Spawn way target args) tt
  acts_keep action.Finish due = others action.Finish tt
  acts_keep action.Arrive due = others action.Arrive tt
  acts_keep (action.Loop lo hi grain target args) due = others (action.Loop lo hi grain target args) tt
  acts_keep action.End due = others action.End tt
  acts_keep (action.Trap kind) due = others (action.Trap kind) tt

pub tasks_keep : laws.TasksKeepLines
tasks_keep given me body slot task heap old stood going = acts_keep given me body slot task heap old stood going task.action refl

-- ---- calls go off

pub closes_keep : laws.ClosesKeepLines
closes_keep given me body object old off = by (body.vectors.vectors object) refl
  where
    by : (held : Option Vector) → body.vectors.vectors object ≡ held → HasLines given me (closes_as (machine_in given) body object held).body
    by None there = has_still given me body (closes_as (machine_in given) body object None).body (batches_leave given body object (body.batches.combiners object) (off there)) old
    by (Some vector) there = groups_keep given me body object vector old there

-- ---- messages

module _ (given : Given) (me from : ℕ) (body : Body) (l : from < given.setup.cores) (old : HasLines given me body) where
  abbrev m : Machine
  m = machine_in given

  abbrev Keeps : Outcome → Type 0
  Keeps outcome = HasLines given me outcome.body

  asks : (number : ℕ) (held : Option Turns) → body.vectors.masters number ≡ held → Made Keeps (turn_asked body from number held)
  asks number None there = tt
  asks number (Some turns) there = has_turns given me number body turns (asked turns from) old there (Each-append (λ asker. asker < given.setup.cores) turns.cores (from ∷ []) (old.askers number turns there) (l, tt))

  dones : (number head tail : ℕ) (held : Option Turns) → body.vectors.masters number ≡ held → Made Keeps (turn_done body number head tail held)
  dones number head tail None there = tt
  dones number head tail (Some turns) there = when Keeps (is_out turns) (turn_ended body number (ended turns head tail))
      (λ q. has_turns given me number body turns (ended turns head tail) old there (Each-drop (λ asker. asker < given.setup.cores) 1 turns.cores (old.askers number turns there)))

  grants_to : (number head tail : ℕ) (vector : Vector) → body.vectors.vectors number ≡ Some vector → (turn : Option Turn) (groups : List (List WaitingCall)) → vector.groups ≡ groups
      → Made Keeps (group_granted m body number head tail vector turn groups)
  grants_to number head tail vector there None [] e = tt
  grants_to number head tail vector there (Some turn) [] e = tt
  grants_to number head tail vector there (Some turn) (calls ∷ groups) e = tt
  grants_to number head tail vector there None (calls ∷ groups) e =
      let plan = plan_of calls head tail in
      when Keeps (can_begin body number head tail calls) (turn_begun m body number vector calls head tail plan)
      (λ q. same_calls given me number body vector old there (record vector { turn = Some (turn_from calls (record { head = head; tail = tail }) plan) }) refl refl
      (λ other h. (groups, e ∙ ap (λ (x : Turn). x.calls ∷ groups) (some_same (turn_from calls (record { head = head; tail = tail }) plan) other h))))

  grants_in : (number head tail : ℕ) (held : Option Vector) → body.vectors.vectors number ≡ held → Made Keeps (turn_granted m body number head tail held)
  grants_in number head tail None there = tt
  grants_in number head tail (Some vector) there = grants_to number head tail vector there vector.turn vector.groups refl

  -- The vector with another part.
  parted : (number : ℕ) (vector : Vector) → body.vectors.vectors number ≡ Some vector → (part : ℕ → Option ℕ) → HasLines given me (with_vector body number (record vector { part = part }))
  parted number vector there part = same_calls given me number body vector old there (record vector { part = part }) refl refl (calls_there given me number body vector old there).oldest

  stores : (number position word : ℕ) (held : Option Vector) → body.vectors.vectors number ≡ held → Made Keeps (element_stored body from number position word held)
  stores number position word None there = tt
  stores number position word (Some vector) there = by (vector.part position)
    where
      by : (here : Option ℕ) → Made Keeps (element_put body from number position word vector here)
      by (Some before) = tt
      by None = parted number vector there (put vector.part position (Some word))

  fetches : (number position : ℕ) (held : Option Vector) → body.vectors.vectors number ≡ held → Made Keeps (element_fetched body from number position held)
  fetches number position None there = tt
  fetches number position (Some vector) there = by (vector.part position)
    where
      by : (here : Option ℕ) → Made Keeps (element_got body from number position vector here)
      by None = tt
      by (Some word) = parted number vector there (put vector.part position None)

  -- The vector with another turn, of the same calls.
  answers : (number : ℕ) (vector : Vector) → body.vectors.vectors number ≡ Some vector → (turn next : Turn) → vector.turn ≡ Some turn → next.calls ≡ turn.calls → HasLines given me (with_turn body number vector next)
  answers number vector there turn next mine same =
      let o = (calls_there given me number body vector old there).oldest turn mine in
      same_calls given me number body vector old there (record vector { turn = Some next }) refl refl
      (λ other h. (o.0, o.1 ∙ ap (λ (calls : List WaitingCall). calls ∷ o.0) (sym same) ∙ ap (λ (x : Turn). x.calls ∷ o.0) (some_same next other h)))

  acks : (number position : ℕ) (got : Option ℕ) (held : Option Vector) → body.vectors.vectors number ≡ held → Made Keeps (element_acked body number position got held)
  acks number position got None there = tt
  acks number position got (Some vector) there = by vector.turn refl got
    where
      by : (mine : Option Turn) → vector.turn ≡ mine → (got : Option ℕ) → Made Keeps (turn_answered body number position got vector mine)
      by None e got = tt
      by (Some turn) e None = when Keeps (turn.puts position) (quietly (with_turn body number vector (put_answered turn position))) (λ q. answers number vector there turn (put_answered turn position) e refl)
      by (Some turn) e (Some word) = when Keeps (turn.gets position) (quietly (with_turn body number vector (get_answered turn position word))) (λ q. answers number vector there turn (get_answered turn position word) e refl)

  served : (message : Msg) (e : Outcome) → serves m me body from message ≡ Some e → Keeps e
  served (msg.Turn number) e h = made_is Keeps (turn_asked body from number (body.vectors.masters number)) e (asks number (body.vectors.masters number) refl) h
  served (msg.Grant number head tail) e h = made_is Keeps (turn_granted m body number head tail (body.vectors.vectors number)) e (grants_in number head tail (body.vectors.vectors number) refl) h
  served (msg.Done number head tail) e h = made_is Keeps (turn_done body number head tail (body.vectors.masters number)) e (dones number head tail (body.vectors.masters number) refl) h
  served (msg.ElemPut number position word) e h = made_is Keeps (element_stored body from number position word (body.vectors.vectors number)) e (stores number position word (body.vectors.vectors number) refl) h
  served (msg.ElemGet number position) e h = made_is Keeps (element_fetched body from number position (body.vectors.vectors number)) e (fetches number position (body.vectors.vectors number) refl) h
  served (msg.ElemAck number position got) e h = made_is Keeps (element_acked body number position got (body.vectors.vectors number)) e (acks number position got (body.vectors.vectors number) refl) h
  served (msg.Request slot id operation x y z) e h = has_still given me body e.body (messages_leave given me from body (msg.Request slot id operation x y z) e tt h) old
  served (msg.Reply slot id first second) e h = has_still given me body e.body (messages_leave given me from body (msg.Reply slot id first second) e tt h) old
  served (msg.Spawn unit) e h = has_still given me body e.body (messages_leave given me from body (msg.Spawn unit) e tt h) old
  served (msg.Enrol scope) e h = has_still given me body e.body (messages_leave given me from body (msg.Enrol scope) e tt h) old
  served (msg.EnrolAck scope) e h = has_still given me body e.body (messages_leave given me from body (msg.EnrolAck scope) e tt h) old
  served (msg.Complete scope count) e h = has_still given me body e.body (messages_leave given me from body (msg.Complete scope count) e tt h) old
  served (msg.Leave scope) e h = has_still given me body e.body (messages_leave given me from body (msg.Leave scope) e tt h) old
  served msg.StealAsk e h = has_still given me body e.body (messages_leave given me from body msg.StealAsk e tt h) old
  served (msg.StealGive unit) e h = has_still given me body e.body (messages_leave given me from body (msg.StealGive unit) e tt h) old
  served (msg.Batch object key effect batch) e h = has_still given me body e.body (messages_leave given me from body (msg.Batch object key effect batch) e tt h) old
  served (msg.BatchReply batch before) e h = has_still given me body e.body (messages_leave given me from body (msg.BatchReply batch before) e tt h) old

pub messages_keep : laws.MessagesKeepLines
messages_keep given me from body message e l old h = served given me from body l old message e h

-- ---- a turn ends

module _ (given : Given) (me : ℕ) (body : Body) (old : HasLines given me body) where
  abbrev Ends : Outcome → Type 0
  Ends outcome = HasLines given me outcome.body

  settled : (number : ℕ) (held : Option Vector) → body.vectors.vectors number ≡ held → Made Ends (settled_vector (machine_in given) body number held)
  settled number None there = tt
  settled number (Some vector) there = by vector.turn refl
    where
      by : (mine : Option Turn) → vector.turn ≡ mine → Made Ends (settled_turn (machine_in given) body number vector mine)
      by None e = tt
      by (Some turn) e = when Ends (turn.left == 0) (turn_finished (machine_in given) body number vector turn (ends_after turn.calls turn.ends))
          (λ q. ends_keep given me body number vector turn (ends_after turn.calls turn.ends) old there e)

  settles_keep : (message : Msg) (e : Outcome) → settles (machine_in given) body message ≡ Some e → Ends e
  settles_keep (msg.Grant number head tail) e h = made_is Ends (settled_vector (machine_in given) body number (body.vectors.vectors number)) e (settled number (body.vectors.vectors number) refl) h
  settles_keep (msg.ElemAck number position got) e h = made_is Ends (settled_vector (machine_in given) body number (body.vectors.vectors number)) e (settled number (body.vectors.vectors number) refl) h
  settles_keep _ e h = absurd (none_some e h)

pub turns_keep : laws.TurnsKeepLines
turns_keep given me body message e old h = settles_keep given me body old message e h
