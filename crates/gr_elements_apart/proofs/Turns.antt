-- Messages of turns, and those of elements of other vectors, leave where words of a vector are.
use Rattle.std.proofs.Common.{◌≡◌, ◌≢◌, ℕ, ◌==◌, List, [], ◌∷◌, ◌++◌, drop, sym, ap, subst, refl, Option, Some, None}
use Rattle.gr_lang.specs.declared.action.WaitingCall.{WaitingCall}
use Rattle.gr_view.specs.Places.{put}
use Rattle.gr_msg.specs.declared.message.Msg.{Msg}
use Rattle.gr_msg.specs.declared.message.Msg.TheVariants as msg
use Rattle.gr_vector.specs.declared.ends.Ends.{Ends}
use Rattle.gr_vector.specs.declared.master.Granted.{Granted}
use Rattle.gr_vector.specs.declared.turn_plan.Plan.{Plan}
use Rattle.gr_vector.specs.Plans.{ends_after, plan_of}
use Rattle.gr_vector.specs.Turns.{Turns, asked, grant_on_asking, ended, granted, is_out}
use Rattle.gr_net.specs.Sums.{Each}
use Rattle.gr_net.proofs.Spreads.{Each-append}
use Rattle.gr_machine.specs.Machines.{Machine}
use Rattle.gr_machine.specs.States.{Letter, Turn, Vector, Vectors, Body}
use Rattle.gr_machine.specs.Outcomes.{Send, Outcome, quietly, to}
use Rattle.gr_machine.specs.TurnServes.{grants, turn_asked, turn_ended, turn_done, with_vector, with_turn, turn_from, put_sends, get_sends, turn_begun, can_begin, group_granted, turn_granted, element_put, element_stored, element_got, element_fetched, put_answered, get_answered, turn_answered, element_acked, turn_replies, wakes, turn_finished, settled_turn, settled_vector}
use Rattle.gr_machine.specs.Serves.{serves}
use Rattle.gr_lines_others.specs.Others.{IsOfNoTurn}
use Rattle.gr_lines_others.proofs.Off.{Made, when, made_is}
use Rattle.gr_elements.specs.ElementActs.{IsOfNoElement, LeavesElements}
use Rattle.gr_elements_apart.specs.Leaving.{IsMarkBehind, IsOffElements, LeavesBehind}
use Rattle.gr_elements_apart.specs.Laws as laws
use Rattle.gr_elements_apart.proofs.Apart.{IsNoElement, NoElements, all_none, IsApartWith, same_leaves, leaves_apart, other_leaves}
use Rattle.gr_elements_apart.proofs.Messages.{all_stay, served_apart}

-- Puts and gets of another vector.
puts_other : (m : Machine) (number vector : ℕ) → vector ≢ number → (pairs : List (ℕ × ℕ)) → Each (λ (s : Send). IsOfNoElement number s.message) (put_sends m vector pairs)
puts_other m number vector ne [] = tt
puts_other m number vector ne (pair ∷ pairs) = (ne, puts_other m number vector ne pairs)

gets_other : (m : Machine) (number vector : ℕ) → vector ≢ number → (positions : List ℕ) → Each (λ (s : Send). IsOfNoElement number s.message) (get_sends m vector positions)
gets_other m number vector ne [] = tt
gets_other m number vector ne (position ∷ positions) = (ne, gets_other m number vector ne positions)

begins_other : (m : Machine) (number vector : ℕ) → vector ≢ number → (plan : Plan) → Each (λ (s : Send). IsOfNoElement number s.message) (put_sends m vector plan.puts ++ get_sends m vector plan.gets)
begins_other m number vector ne plan =
    Each-append (λ (s : Send). IsOfNoElement number s.message) (put_sends m vector plan.puts) (get_sends m vector plan.gets) (puts_other m number vector ne plan.puts) (gets_other m number vector ne plan.gets)

module _ (machine : Machine) (number me from : ℕ) (body : Body) (message : Msg) (other : IsOfNoElement number message) where
  abbrev got : List Letter
  got = record { from = from; message = message } ∷ []

  abbrev Leaves : Outcome → Type 0
  Leaves outcome = LeavesBehind number body from message outcome

  letters : Each (λ (letter : Letter). IsOfNoElement number letter.message) got
  letters = (other, tt)

  pub of_apart : (o : Option Outcome) → Made (λ (x : Outcome). IsApartWith (IsMarkBehind from message) body x.body x.sends x.marks) o → Made Leaves o
  of_apart None a = tt
  of_apart (Some x) a = record { elements = same_leaves number body got x letters (all_none number x.sends a.sends) (ap (λ (y : Vectors). y.vectors number) a.vectors); marks = a.marks }

  -- ---- turns

  grants_none : (vector : ℕ) (grant : Option Granted) → NoElements (grants vector grant)
  grants_none vector None = tt
  grants_none vector (Some grant) = (tt, tt)

  turns_leave : (vector : ℕ) (turns : Turns) (grant : Option Granted) (outcome : Outcome) → outcome.body.vectors.vectors ≡ body.vectors.vectors → outcome.sends ≡ grants vector grant
      → outcome.marks ≡ [] → Leaves outcome
  turns_leave vector turns grant outcome vectors sends marks = record {
    elements = same_leaves number body got outcome letters (all_none number outcome.sends (subst NoElements (sym sends) (grants_none vector grant))) (ap (λ (f : ℕ → Option Vector). f number) vectors);
    marks = subst (Each (IsMarkBehind from message)) (sym marks) tt;
  }

  asks : (vector : ℕ) (held : Option Turns) → Made Leaves (turn_asked body from vector held)
  asks vector None = tt
  asks vector (Some turns) = turns_leave vector turns (grant_on_asking turns from)
      (record { body = (turn_ended body vector (asked turns from)).body; sends = grants vector (grant_on_asking turns from); marks = [] }) refl refl refl

  dones : (vector head tail : ℕ) (held : Option Turns) → Made Leaves (turn_done body vector head tail held)
  dones vector head tail None = tt
  dones vector head tail (Some turns) = when Leaves (is_out turns) (turn_ended body vector (ended turns head tail))
      (λ q. turns_leave vector turns (granted (ended turns head tail)) (turn_ended body vector (ended turns head tail)) refl refl refl)

  -- ---- another vector

  module _ (vector : ℕ) (ne : vector ≢ number) where
    -- It has another state, and what is sent is not of this one's elements.
    moves : (outcome : Outcome) (next : Vector) → Each (λ (send : Send). IsOfNoElement number send.message) outcome.sends → outcome.marks ≡ []
        → outcome.body.vectors.vectors ≡ put body.vectors.vectors vector (Some next) → Leaves outcome
    moves outcome next sends marks vectors = record { elements = other_leaves number vector body got outcome (Some next) ne letters sends vectors; marks = subst (Each (IsMarkBehind from message)) (sym marks) tt }

    begins : (head tail : ℕ) (v : Vector) (turn : Option Turn) (groups : List (List WaitingCall)) → Made Leaves (group_granted machine body vector head tail v turn groups)
    begins head tail v None [] = tt
    begins head tail v (Some turn) [] = tt
    begins head tail v (Some turn) (calls ∷ groups) = tt
    begins head tail v None (calls ∷ groups) =
        let plan = plan_of calls head tail in
        when Leaves (can_begin body vector head tail calls) (turn_begun machine body vector v calls head tail plan)
        (λ q. moves (turn_begun machine body vector v calls head tail plan) (record v { turn = Some (turn_from calls (record { head = head; tail = tail }) plan) }) (begins_other machine number vector ne plan) refl refl)

    granted_to : (head tail : ℕ) (held : Option Vector) → Made Leaves (turn_granted machine body vector head tail held)
    granted_to head tail None = tt
    granted_to head tail (Some v) = begins head tail v v.turn v.groups

    stores : (position word : ℕ) (held : Option Vector) → Made Leaves (element_stored body from vector position word held)
    stores position word None = tt
    stores position word (Some v) = by (v.part position)
      where
        by : (here : Option ℕ) → Made Leaves (element_put body from vector position word v here)
        by (Some before) = tt
        by None =
            let next : Vector = record v { part = put v.part position (Some word) } in
            moves (record { body = with_vector body vector next; sends = to from (msg.ElemAck vector position None); marks = [] }) next (ne, tt) refl refl

    fetches : (position : ℕ) (held : Option Vector) → Made Leaves (element_fetched body from vector position held)
    fetches position None = tt
    fetches position (Some v) = by (v.part position)
      where
        by : (here : Option ℕ) → Made Leaves (element_got body from vector position v here)
        by None = tt
        by (Some word) =
            let next : Vector = record v { part = put v.part position None } in
            moves (record { body = with_vector body vector next; sends = to from (msg.ElemAck vector position (Some word)); marks = [] }) next (ne, tt) refl refl

    answers : (v : Vector) (next : Turn) → Leaves (quietly (with_turn body vector v next))
    answers v next = moves (quietly (with_turn body vector v next)) (record v { turn = Some next }) tt refl refl

    acks : (position : ℕ) (word : Option ℕ) (held : Option Vector) → Made Leaves (element_acked body vector position word held)
    acks position word None = tt
    acks position word (Some v) = by v.turn word
      where
        by : (mine : Option Turn) (word : Option ℕ) → Made Leaves (turn_answered body vector position word v mine)
        by None word = tt
        by (Some turn) None = when Leaves (turn.puts position) (quietly (with_turn body vector v (put_answered turn position))) (λ q. answers v (put_answered turn position))
        by (Some turn) (Some word) = when Leaves (turn.gets position) (quietly (with_turn body vector v (get_answered turn position word))) (λ q. answers v (get_answered turn position word))

module _ (machine : Machine) (number me from : ℕ) (body : Body) where
  abbrev Left : Msg → Type 0
  Left message = Made (LeavesBehind number body from message) (serves machine me body from message)

  still : (message : Msg) → IsOfNoElement number message → IsOfNoTurn message → Left message
  still message o apart = of_apart machine number me from body message o (serves machine me body from message) (served_apart machine me from body message apart)

  served : (message : Msg) → IsOffElements number message → Left message
  served (msg.Turn vector) o = asks machine number me from body (msg.Turn vector) tt vector (body.vectors.masters vector)
  served (msg.Grant vector head tail) o = granted_to machine number me from body (msg.Grant vector head tail) tt vector o head tail (body.vectors.vectors vector)
  served (msg.Done vector head tail) o = dones machine number me from body (msg.Done vector head tail) tt vector head tail (body.vectors.masters vector)
  served (msg.ElemPut vector position word) o = stores machine number me from body (msg.ElemPut vector position word) o vector o position word (body.vectors.vectors vector)
  served (msg.ElemGet vector position) o = fetches machine number me from body (msg.ElemGet vector position) o vector o position (body.vectors.vectors vector)
  served (msg.ElemAck vector position got) o = acks machine number me from body (msg.ElemAck vector position got) o vector o position got (body.vectors.vectors vector)
  served (msg.Request slot id operation x y z) o = still (msg.Request slot id operation x y z) tt tt
  served (msg.Reply slot id first second) o = still (msg.Reply slot id first second) tt tt
  served (msg.Spawn unit) o = still (msg.Spawn unit) tt tt
  served (msg.Enrol scope) o = still (msg.Enrol scope) tt tt
  served (msg.EnrolAck scope) o = still (msg.EnrolAck scope) tt tt
  served (msg.Complete scope count) o = still (msg.Complete scope count) tt tt
  served (msg.Leave scope) o = still (msg.Leave scope) tt tt
  served msg.StealAsk o = still msg.StealAsk tt tt
  served (msg.StealGive unit) o = still (msg.StealGive unit) tt tt
  served (msg.Batch object key effect batch) o = still (msg.Batch object key effect batch) tt tt
  served (msg.BatchReply batch before) o = still (msg.BatchReply batch before) tt tt

pub messages_leave : laws.MessagesLeaveWords
messages_leave machine number me from body message e other h =
    made_is (LeavesBehind number body from message) (serves machine me body from message) e (served machine number me from body message other) h

no_element : (number : ℕ) (message : Msg) → IsOffElements number message → IsOfNoElement number message
no_element number (msg.Grant vector head tail) o = tt
no_element number (msg.Turn vector) o = o
no_element number (msg.Done vector head tail) o = o
no_element number (msg.ElemPut vector position word) o = o
no_element number (msg.ElemGet vector position) o = o
no_element number (msg.ElemAck vector position word) o = o
no_element number _ o = tt

pub nothing_leaves : laws.NothingLeavesWords
nothing_leaves number from body message other =
    leaves_apart number body (record { from = from; message = message } ∷ []) (quietly body) (no_element number message other, tt) (record { vectors = refl; sends = tt; marks = tt })

-- ---- a turn of another vector ends

module _ (machine : Machine) (number vector : ℕ) (body : Body) (ne : vector ≢ number) where
  finishes : (v : Vector) (turn : Turn) (ends : Ends) → LeavesElements number body [] (turn_finished machine body vector v turn ends)
  finishes v turn ends =
      let next : Vector = record v { groups = drop 1 v.groups; turn = None } in
      let stays = all_stay machine (with_vector body vector next) (wakes (turn_replies turn)) in
      other_leaves number vector body [] (turn_finished machine body vector v turn ends) (Some next) ne tt (tt, tt) (ap (λ (x : Vectors). x.vectors) stays)

  ended_turn : (v : Vector) (mine : Option Turn) → Made (LeavesElements number body []) (settled_turn machine body vector v mine)
  ended_turn v None = tt
  ended_turn v (Some turn) = when (LeavesElements number body []) (turn.left == 0) (turn_finished machine body vector v turn (ends_after turn.calls turn.ends)) (λ q. finishes v turn (ends_after turn.calls turn.ends))

  pub settled : (held : Option Vector) → Made (LeavesElements number body []) (settled_vector machine body vector held)
  settled None = tt
  settled (Some v) = ended_turn v v.turn

pub ends_leave : laws.EndsLeaveElements
ends_leave machine number vector body e ne h = made_is (LeavesElements number body []) (settled_vector machine body vector (body.vectors.vectors vector)) e
    (settled machine number vector body ne (body.vectors.vectors vector)) h
