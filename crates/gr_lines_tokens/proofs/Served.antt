-- Messages of turns find something to act on; and messages, calls that go off and ends keep whose turn it is.
use Rattle.std.proofs.Common.{◌≡◌, ℕ, ◌+◌, ◌≤◌, ◌<◌, ◌==◌, ◌&&◌, ◌^◌, Bool, true, false, nat_lt, nat_le, if◌then◌else◌, List, [], ◌∷◌, length, inl, inr, sym, ◌∙◌, ap, subst, refl, arith, Option, Some, None}
use Rattle.std.proofs.lemmas.Bool.{cases_eq}
use Rattle.std.proofs.lemmas.Bool.Decides.{nat_tests}
use Rattle.std.specs.Option.{option_len}
use Rattle.gr_lang.specs.declared.action.TaskId.{TaskId}
use Rattle.gr_lang.specs.declared.action.WaitingCall.{WaitingCall}
use Rattle.gr_msg.specs.declared.message.Msg.{Msg}
use Rattle.gr_msg.specs.declared.message.Msg.TheVariants as msg
use Rattle.gr_vector.specs.declared.ends.Ends.{Ends}
use Rattle.gr_vector.specs.declared.kind.Kind.TheVariants as kind
use Rattle.gr_vector.specs.Groups.{calls_of}
use Rattle.gr_vector.specs.Plans.{ends_after, plan_of}
use Rattle.gr_vector.specs.Turns.{Turns, asked, grant_on_asking, ended, is_any, is_out}
use Rattle.gr_net.specs.Sums.{Each}
use Rattle.gr_machine.specs.declared.waits.Waits.{Waits}
use Rattle.gr_machine.specs.declared.waits.Waits.TheVariants as wait
use Rattle.gr_machine.specs.Machines.{Machine, numbered_home, thing}
use Rattle.gr_machine.specs.States.{Letter, Suspended, Turn, Vector, Body}
use Rattle.gr_machine.specs.Openings.{is_vector}
use Rattle.gr_machine.specs.Outcomes.{Outcome}
use Rattle.gr_machine.specs.Slots.{same_id, awaits_turn, task_awaits, named_awaits, calls_await}
use Rattle.gr_machine.specs.TurnServes.{grants as grant_sends, with_turns, turn_asked, turn_ended, turn_done, turn_begun, can_begin, group_granted, turn_granted, turn_finished, settled_turn, settled_vector}
use Rattle.gr_machine.specs.Serves.{serves}
use Rattle.gr_machine.specs.Closes.{closes_as}
use Rattle.gr_stands.specs.Worlds.{Given, machine_in, World, bodies, Acts}
use Rattle.gr_stands.proofs.Worlds.{facts_off}
use Rattle.gr_lines.specs.Lines.{waits_on, on_line, vector_in, tasks_on}
use Rattle.gr_lines.specs.Waiting.{IsWaiting, CallsWait, HasLines}
use Rattle.gr_lines_turns.specs.Tokens.{is_first, TokenStands, TurnStands}
use Rattle.gr_lines_turns.specs.TokenActs.{IsOfOther}
use Rattle.gr_lines_turns.proofs.Kept.{others_keep}
use Rattle.gr_lines_apart.proofs.Turns.{messages_leave}
use Rattle.gr_lines_apart.proofs.Closes.{closes_leave}
use Rattle.gr_lines_tokens.specs.Granting.{IsToken, PushesFit, GrantFits, IsMade, ends_behind}
use Rattle.gr_lines_tokens.specs.Laws as laws
use Rattle.gr_lines_tokens.proofs.Firsts.{none_some, some_same, none_is, self_eq}
use Rattle.gr_lines_tokens.proofs.Asked.{asked_keeps, done_keeps, masters_was, was_first}
use Rattle.gr_lines_tokens.proofs.Granted.{no_turn, has_group, where_granted, granted_keeps, closed_keeps}
use Rattle.gr_lines_tokens.proofs.Ended.{finished_keeps}

true_false : true ≡ false → ⊥
true_false e = cc

-- ---- what a core has of a vector

module _ (given : Given) (me number : ℕ) (body : Body) (lines : HasLines given me body) (is : is_vector (thing (machine_in given) number) ≡ true) where
  pub no_vector : body.vectors.vectors number ≡ None → ⊥
  no_vector e = none_is (body.vectors.vectors number) e (lines.vectors number ∙ is)

  pub no_master : me ≡ numbered_home (machine_in given) number → body.vectors.masters number ≡ None → ⊥
  no_master here e = none_is (body.vectors.masters number) e (lines.masters number ∙ ap (λ (b : Bool). b && numbered_home (machine_in given) number == me) is
      ∙ ap (λ (k : ℕ). numbered_home (machine_in given) number == k) here ∙ self_eq (numbered_home (machine_in given) number))

  pub calls_of_vector : (vector : Vector) → body.vectors.vectors number ≡ Some vector → CallsWait number vector (tasks_on number body)
  calls_of_vector vector there = subst (λ (o : Option Vector). CallsWait number (vector_in o) (tasks_on number body)) there (lines.calls number is)

-- ---- calls that wait for a turn await it

module _ (number : ℕ) (body : Body) where
  on_there : (held : Option Suspended) (task : Suspended) → on_line number held ≡ Some task → held ≡ Some task
  on_there None task e = absurd (none_some task e)
  on_there (Some u) task e = by (waits_on number u.waits) e
    where
      by : (b : Bool) → (if b then Some u else None) ≡ Some task → Some u ≡ Some task
      by true e = e
      by false e = absurd (none_some task e)

  same_name : (one other : TaskId) → one ≡ other → same_id one other ≡ true
  same_name one other e = subst (λ (x : TaskId). same_id x other ≡ true) (sym e) (both (other.core == other.core) (other.number == other.number) (self_eq other.core) (self_eq other.number))
    where
      both : (a b : Bool) → a ≡ true → b ≡ true → (a && b) ≡ true
      both a b p q = cc

  one_awaits_it : (call : WaitingCall) → IsWaiting (tasks_on number body) number (wait.Turn number) call → task_awaits (awaits_turn number) body call.slot call.id ≡ true
  one_awaits_it call w =
      ap (named_awaits (awaits_turn number) call.id) (on_there (body.tasks.slots call.slot) w.task w.there)
      ∙ ap (λ (x : Waits). awaits_turn number x && same_id w.task.id call.id) w.waits
      ∙ ap (λ (b : Bool). b && same_id w.task.id call.id) (self_eq number)
      ∙ same_name w.task.id call.id w.named

  all_await : (calls : List WaitingCall) → Each (IsWaiting (tasks_on number body) number (wait.Turn number)) calls → calls_await (awaits_turn number) body calls ≡ true
  all_await [] e = refl
  all_await (call ∷ calls) e = ap (λ (b : Bool). b && calls_await (awaits_turn number) body calls) (one_awaits_it call e.0) ∙ all_await calls e.1

below : (a b : ℕ) → a < b → nat_lt a b ≡ true
below a b l = grind (arith, nat_tests)

within : (a b : ℕ) → a ≤ b → nat_le a b ≡ true
within a b l = grind (arith, nat_tests)

all_three : (a b c : Bool) → a ≡ true → b ≡ true → c ≡ true → (a && b && c) ≡ true
all_three a b c p q r = cc

-- ---- messages of turns are served

module _ (given : Given) (w v : World) (number me from : ℕ) (ends : Ends) (lines : HasLines given me (bodies w me)) (is : is_vector (thing (machine_in given) number) ≡ true)
    (old : TurnStands given w number ends) where
  abbrev n : ℕ
  n = given.setup.cores

  abbrev machine : Machine
  machine = machine_in given

  abbrev body : Body
  body = bodies w me

  abbrev letter : Msg → List Letter
  letter message = record { from = from; message = message } ∷ []

  stood : (message : Msg) (e : Outcome) → Acts n w v me (letter message) e → TokenStands machine number ends from me message
  stood message e acts = (facts_off n w v me (letter message) e acts (TokenStands machine number ends) old.messages).0.0

  asks_made : (e : Outcome) → Acts n w v me (letter (msg.Turn number)) e → IsMade (turn_asked body from number (body.vectors.masters number))
  asks_made e acts = by (body.vectors.masters number) refl
    where
      by : (held : Option Turns) → body.vectors.masters number ≡ held → IsMade (turn_asked body from number held)
      by None there = absurd (no_master given me number body lines is (stood (msg.Turn number) e acts refl) there)
      by (Some turns) there = record { outcome = record { body = with_turns body number (asked turns from); sends = grant_sends number (grant_on_asking turns from); marks = [] }; is = refl }

  dones_made : (head tail : ℕ) (e : Outcome) → Acts n w v me (letter (msg.Done number head tail)) e → IsMade (turn_done body number head tail (body.vectors.masters number))
  dones_made head tail e acts = by (body.vectors.masters number) refl
    where
      here : me ≡ numbered_home machine number
      here = (stood (msg.Done number head tail) e acts refl).0

      out : (cores : List ℕ) → 1 ≤ is_first from cores → is_any cores ≡ true
      out [] l = absurd (omega (arith, l))
      out (core ∷ cores) l = refl

      by : (held : Option Turns) → body.vectors.masters number ≡ held → IsMade (turn_done body number head tail held)
      by None there = absurd (no_master given me number body lines is here there)
      by (Some turns) there =
          let was = masters_was given w v number me from ends old turns turns [] (sym here) there in
          record {
            outcome = turn_ended body number (ended turns head tail);
            is = ap (λ (b : Bool). if b then Some (turn_ended body number (ended turns head tail)) else None)
                (out turns.cores (subst (λ (t : Turns). 1 ≤ is_first from t.cores) was (was_first given w v number me from ends old head tail e acts)));
          }

  begins_made : (head tail : ℕ) (e : Outcome) → Acts n w v me (letter (msg.Grant number head tail)) e → PushesFit body number ends → IsMade (turn_granted machine body number head tail (body.vectors.vectors number))
  begins_made head tail e acts fits = by (body.vectors.vectors number) refl
    where
      at : (head ≡ ends.head) × (tail ≡ ends.tail)
      at = where_granted given w v number me ends old head tail from e acts

      to : (vector : Vector) → body.vectors.vectors number ≡ Some vector → (turn : Option Turn) → vector.turn ≡ turn → (groups : List (List WaitingCall)) → vector.groups ≡ groups
          → IsMade (group_granted machine body number head tail vector turn groups)
      to vector there (Some turn) mine groups g =
          absurd (omega (arith, no_turn given w v number me ends old head tail from e acts, ap (λ (o : Option Vector). option_len (vector_in o).turn) there, ap option_len mine))
      to vector there None mine [] g =
          absurd (omega (arith, has_group given w v number me ends old head tail from e acts, ap (λ (o : Option Vector). length (vector_in o).groups) there, ap (λ (x : List (List WaitingCall)). length x) g))
      to vector there None mine (calls ∷ groups) g =
          let waits = subst (Each (Each (IsWaiting (tasks_on number body) number (wait.Turn number)))) g (calls_of_vector given me number body lines is vector there).grouped in
          record {
            outcome = turn_begun machine body number vector calls head tail (plan_of calls head tail);
            is = ap (λ (b : Bool). if b then Some (turn_begun machine body number vector calls head tail (plan_of calls head tail)) else None)
                (all_three (calls_await (awaits_turn number) body calls) (nat_lt (tail + length (calls_of kind.Push calls)) (2 ^ 64)) (nat_le head tail)
                (all_await number body calls waits.0)
                (below (tail + length (calls_of kind.Push calls)) (2 ^ 64) (subst (λ (k : ℕ). k + length (calls_of kind.Push calls) < 2 ^ 64) (sym at.1) (fits calls groups (ap (λ (o : Option Vector). (vector_in o).groups) there ∙ g))))
                (within head tail (omega (arith, at.0, at.1, old.order))));
          }

      by : (held : Option Vector) → body.vectors.vectors number ≡ held → IsMade (turn_granted machine body number head tail held)
      by None there = absurd (no_vector given me number body lines is there)
      by (Some vector) there = to vector there vector.turn refl vector.groups refl

  abbrev Serves : Msg → Type 0
  Serves message = (e : Outcome) → Acts n w v me (letter message) e → GrantFits body number ends message → IsMade (serves machine me body from message)

  pub token_served : (message : Msg) → IsToken number message → Serves message
  token_served (msg.Turn vector) q = subst (λ (k : ℕ). Serves (msg.Turn k)) (sym q) (λ e acts fits. asks_made e acts)
  token_served (msg.Grant vector head tail) q = subst (λ (k : ℕ). Serves (msg.Grant k head tail)) (sym q) (begins_made head tail)
  token_served (msg.Done vector head tail) q = subst (λ (k : ℕ). Serves (msg.Done k head tail)) (sym q) (λ e acts fits. dones_made head tail e acts)
  token_served (msg.Request slot id operation x y z) q = absurd q
  token_served (msg.Reply slot id first second) q = absurd q
  token_served (msg.Spawn unit) q = absurd q
  token_served (msg.Enrol scope) q = absurd q
  token_served (msg.EnrolAck scope) q = absurd q
  token_served (msg.Complete scope count) q = absurd q
  token_served (msg.Leave scope) q = absurd q
  token_served msg.StealAsk q = absurd q
  token_served (msg.StealGive unit) q = absurd q
  token_served (msg.Batch object key effect batch) q = absurd q
  token_served (msg.BatchReply batch before) q = absurd q
  token_served (msg.ElemPut vector position word) q = absurd q
  token_served (msg.ElemGet vector position) q = absurd q
  token_served (msg.ElemAck vector position got) q = absurd q

  -- ---- and keep whose turn it is

  asks_keep : (held : Option Turns) → body.vectors.masters number ≡ held → (e : Outcome) → turn_asked body from number held ≡ Some e → Acts n w v me (letter (msg.Turn number)) e → TurnStands given v number ends
  asks_keep None there e h acts = absurd (none_some e h)
  asks_keep (Some turns) there e h acts = asked_keeps given w v number me from ends old turns there (subst (Acts n w v me (letter (msg.Turn number))) (sym (some_same (made turns) e h)) acts)
    where
      made : Turns → Outcome
      made turns = record { body = with_turns body number (asked turns from); sends = grant_sends number (grant_on_asking turns from); marks = [] }

  dones_keep : (head tail : ℕ) (held : Option Turns) → body.vectors.masters number ≡ held → (e : Outcome) → turn_done body number head tail held ≡ Some e → Acts n w v me (letter (msg.Done number head tail)) e → TurnStands given v number ends
  dones_keep head tail None there e h acts = absurd (none_some e h)
  dones_keep head tail (Some turns) there e h acts = by (is_out turns) h
    where
      by : (b : Bool) → (if b then Some (turn_ended body number (ended turns head tail)) else None) ≡ Some e → TurnStands given v number ends
      by true h = done_keeps given w v number me from ends old head tail turns there (subst (Acts n w v me (letter (msg.Done number head tail))) (sym (some_same (turn_ended body number (ended turns head tail)) e h)) acts)
      by false h = absurd (none_some e h)

  begins_keep : (head tail : ℕ) (vector : Vector) → body.vectors.vectors number ≡ Some vector → (turn : Option Turn) (groups : List (List WaitingCall)) (e : Outcome)
      → group_granted machine body number head tail vector turn groups ≡ Some e → Acts n w v me (letter (msg.Grant number head tail)) e → TurnStands given v number ends
  begins_keep head tail vector there None [] e h acts = absurd (none_some e h)
  begins_keep head tail vector there (Some turn) [] e h acts = absurd (none_some e h)
  begins_keep head tail vector there (Some turn) (calls ∷ groups) e h acts = absurd (none_some e h)
  begins_keep head tail vector there None (calls ∷ groups) e h acts = by (can_begin body number head tail calls) h
    where
      made : Outcome
      made = turn_begun machine body number vector calls head tail (plan_of calls head tail)

      by : (b : Bool) → (if b then Some made else None) ≡ Some e → TurnStands given v number ends
      by true h = granted_keeps given w v number me ends old head tail from vector there calls (plan_of calls head tail) (subst (Acts n w v me (letter (msg.Grant number head tail))) (sym (some_same made e h)) acts)
      by false h = absurd (none_some e h)

  grants_keep : (head tail : ℕ) (held : Option Vector) → body.vectors.vectors number ≡ held → (e : Outcome) → turn_granted machine body number head tail held ≡ Some e → Acts n w v me (letter (msg.Grant number head tail)) e → TurnStands given v number ends
  grants_keep head tail None there e h acts = absurd (none_some e h)
  grants_keep head tail (Some vector) there e h acts = begins_keep head tail vector there vector.turn vector.groups e h acts

  abbrev Keeps : Msg → Type 0
  Keeps message = (e : Outcome) → Acts n w v me (letter message) e → serves machine me body from message ≡ Some e → TurnStands given v number ends

  other_keeps : (message : Msg) → IsOfOther number message → Keeps message
  other_keeps message o e acts h = others_keep given w v number me (letter message) e ends acts (messages_leave machine number me from body message e o h) old

  pub message_keeps : (message : Msg) → Keeps message
  message_keeps (msg.Turn vector) = elim (cases_eq vector number) [
    | inl q ↦ subst (λ (k : ℕ). Keeps (msg.Turn k)) (sym q) (λ e acts h. asks_keep (body.vectors.masters number) refl e h acts)
    | inr ne ↦ other_keeps (msg.Turn vector) ne
  ]
  message_keeps (msg.Grant vector head tail) = elim (cases_eq vector number) [
    | inl q ↦ subst (λ (k : ℕ). Keeps (msg.Grant k head tail)) (sym q) (λ e acts h. grants_keep head tail (body.vectors.vectors number) refl e h acts)
    | inr ne ↦ other_keeps (msg.Grant vector head tail) ne
  ]
  message_keeps (msg.Done vector head tail) = elim (cases_eq vector number) [
    | inl q ↦ subst (λ (k : ℕ). Keeps (msg.Done k head tail)) (sym q) (λ e acts h. dones_keep head tail (body.vectors.masters number) refl e h acts)
    | inr ne ↦ other_keeps (msg.Done vector head tail) ne
  ]
  message_keeps (msg.Request slot id operation x y z) = other_keeps (msg.Request slot id operation x y z) tt
  message_keeps (msg.Reply slot id first second) = other_keeps (msg.Reply slot id first second) tt
  message_keeps (msg.Spawn unit) = other_keeps (msg.Spawn unit) tt
  message_keeps (msg.Enrol scope) = other_keeps (msg.Enrol scope) tt
  message_keeps (msg.EnrolAck scope) = other_keeps (msg.EnrolAck scope) tt
  message_keeps (msg.Complete scope count) = other_keeps (msg.Complete scope count) tt
  message_keeps (msg.Leave scope) = other_keeps (msg.Leave scope) tt
  message_keeps msg.StealAsk = other_keeps msg.StealAsk tt
  message_keeps (msg.StealGive unit) = other_keeps (msg.StealGive unit) tt
  message_keeps (msg.Batch object key effect batch) = other_keeps (msg.Batch object key effect batch) tt
  message_keeps (msg.BatchReply batch before) = other_keeps (msg.BatchReply batch before) tt
  message_keeps (msg.ElemPut vector position word) = other_keeps (msg.ElemPut vector position word) tt
  message_keeps (msg.ElemGet vector position) = other_keeps (msg.ElemGet vector position) tt
  message_keeps (msg.ElemAck vector position got) = other_keeps (msg.ElemAck vector position got) tt

pub tokens_served : laws.TokensAreServed
tokens_served given w v number me from message e ends acts lines is fits old token = token_served given w v number me from ends lines is old message token e acts fits

pub messages_keep : laws.MessagesKeepTurns
messages_keep given w v number me from message e ends acts h lines is old = message_keeps given w v number me from ends lines is old message e acts h

-- ---- calls go off

pub closes_keep : laws.ClosesKeepTurns
closes_keep given w v number me object ends acts lines is old = elim (cases_eq object number) [
  | inl q ↦ here (subst (λ (k : ℕ). Acts given.setup.cores w v me [] (closes_as (machine_in given) (bodies w me) k ((bodies w me).vectors.vectors k))) q acts)
  | inr ne ↦ others_keep given w v number me [] (closes_as (machine_in given) (bodies w me) object ((bodies w me).vectors.vectors object)) ends acts (closes_leave (machine_in given) number object (bodies w me) ne) old
]
  where
    by : (held : Option Vector) → (bodies w me).vectors.vectors number ≡ held → Acts given.setup.cores w v me [] (closes_as (machine_in given) (bodies w me) number held) → TurnStands given v number ends
    by None there acts = absurd (no_vector given me number (bodies w me) lines is there)
    by (Some vector) there acts = closed_keeps given w v number me ends old vector there acts

    here : Acts given.setup.cores w v me [] (closes_as (machine_in given) (bodies w me) number ((bodies w me).vectors.vectors number)) → TurnStands given v number ends
    here acts = by ((bodies w me).vectors.vectors number) refl acts

-- ---- a turn ends

pub ends_keep : laws.EndsKeepTurns
ends_keep given w v number me e ends acts h lines is old = by ((bodies w me).vectors.vectors number) refl h
  where
    machine : Machine
    machine = machine_in given

    with_turn : (vector : Vector) → (bodies w me).vectors.vectors number ≡ Some vector → (mine : Option Turn) → vector.turn ≡ mine → settled_turn machine (bodies w me) number vector mine ≡ Some e
        → TurnStands given v number (ends_behind mine ends)
    with_turn vector there None m h = absurd (none_some e h)
    with_turn vector there (Some turn) m h = ended (turn.left == 0) h
      where
        made : Outcome
        made = turn_finished machine (bodies w me) number vector turn (ends_after turn.calls turn.ends)

        ended : (b : Bool) → (if b then Some made else None) ≡ Some e → TurnStands given v number (if b then ends_after turn.calls turn.ends else ends)
        ended true h =
            let o = (calls_of_vector given me number (bodies w me) lines is vector there).oldest turn m in
            finished_keeps given w v number me ends old vector turn there m o.0 o.1 (subst (Acts given.setup.cores w v me []) (sym (some_same made e h)) acts)
        ended false h = absurd (none_some e h)

    by : (held : Option Vector) → (bodies w me).vectors.vectors number ≡ held → settled_vector machine (bodies w me) number held ≡ Some e
        → TurnStands given v number (ends_behind (vector_in held).turn ends)
    by None there h = absurd (none_some e h)
    by (Some vector) there h = with_turn vector there vector.turn refl h
