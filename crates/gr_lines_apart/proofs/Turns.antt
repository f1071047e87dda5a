-- Messages of words of vectors, and of turns of other vectors, leave whose turn it is.
use Rattle.std.proofs.Common.{◌≡◌, ◌≢◌, ℕ, ◌==◌, List, [], ◌∷◌, ◌++◌, drop, sym, ◌∙◌, ap, subst, refl, Option, Some, None}
use Rattle.std.specs.Option.{option_len}
use Rattle.gr_lang.specs.declared.action.WaitingCall.{WaitingCall}
use Rattle.gr_view.specs.Places.{put}
use Rattle.gr_msg.specs.declared.message.Msg.{Msg}
use Rattle.gr_msg.specs.declared.message.Msg.TheVariants as msg
use Rattle.gr_vector.specs.declared.ends.Ends.{Ends}
use Rattle.gr_vector.specs.declared.master.Granted.{Granted}
use Rattle.gr_vector.specs.declared.turn_plan.Plan.{Plan}
use Rattle.gr_vector.specs.Plans.{ends_after, plan_of}
use Rattle.gr_vector.specs.Turns.{Turns, asked, grant_on_asking, ended, granted, is_out}
use Rattle.gr_net.specs.Sums.{Each}
use Rattle.gr_net.proofs.Spreads.{put_other, Each-append}
use Rattle.gr_machine.specs.Machines.{Machine}
use Rattle.gr_machine.specs.States.{Letter, Turn, Vector, Vectors, Body}
use Rattle.gr_machine.specs.Outcomes.{Send, Outcome, quietly, to}
use Rattle.gr_machine.specs.TurnServes.{grants, turn_asked, turn_ended, turn_done, with_vector, with_turn, turn_from, put_sends, get_sends, turn_begun, can_begin, group_granted, turn_granted, element_put, element_stored, element_got, element_fetched, put_answered, get_answered, turn_answered, element_acked, turn_replies, wakes, turn_finished, settled_turn, settled_vector}
use Rattle.gr_machine.specs.Serves.{serves}
use Rattle.gr_lines_turns.specs.TokenActs.{IsOfOther, LeavesTurns}
use Rattle.gr_lines_others.specs.Others.{IsOfNoTurn}
use Rattle.gr_lines_others.proofs.Off.{Made, when, made_is}
use Rattle.gr_lines_apart.specs.Laws as laws
use Rattle.gr_lines_apart.proofs.Apart.{IsNoToken, NoTokens, all_other, IsApart, leaves_apart, same_leaves, other_leaves, keeps_same, kept_leaves}
use Rattle.gr_lines_apart.proofs.Messages.{all_stay, served_apart}

some_same : {X : Type 0} (x y : X) → Some x ≡ Some y → x ≡ y
some_same x y e = cc

-- Puts and gets are of no turn.
pub puts_apart : (m : Machine) (vector : ℕ) (pairs : List (ℕ × ℕ)) → NoTokens (put_sends m vector pairs)
puts_apart m vector [] = tt
puts_apart m vector (pair ∷ pairs) = (tt, puts_apart m vector pairs)

pub gets_apart : (m : Machine) (vector : ℕ) (positions : List ℕ) → NoTokens (get_sends m vector positions)
gets_apart m vector [] = tt
gets_apart m vector (position ∷ positions) = (tt, gets_apart m vector positions)

pub begins_apart : (m : Machine) (vector : ℕ) (plan : Plan) → NoTokens (put_sends m vector plan.puts ++ get_sends m vector plan.gets)
begins_apart m vector plan = Each-append (λ (s : Send). IsNoToken s.message) (put_sends m vector plan.puts) (get_sends m vector plan.gets) (puts_apart m vector plan.puts) (gets_apart m vector plan.gets)

module _ (machine : Machine) (number me from : ℕ) (body : Body) (message : Msg) (other : IsOfOther number message) where
  abbrev got : List Letter
  got = record { from = from; message = message } ∷ []

  abbrev Leaves : Outcome → Type 0
  Leaves outcome = LeavesTurns number body got outcome

  letters : Each (λ (letter : Letter). IsOfOther number letter.message) got
  letters = (other, tt)

  pub of_apart : (o : Option Outcome) → Made (λ (x : Outcome). IsApart body x.body x.sends) o → Made Leaves o
  of_apart None a = tt
  of_apart (Some x) a = leaves_apart number body got x letters a

  -- ---- words of vectors

  stores : (vector position word : ℕ) (held : Option Vector) → body.vectors.vectors vector ≡ held → Made Leaves (element_stored body from vector position word held)
  stores vector position word None there = tt
  stores vector position word (Some v) there = by (v.part position)
    where
      by : (here : Option ℕ) → Made Leaves (element_put body from vector position word v here)
      by (Some before) = tt
      by None =
          let next : Vector = record v { part = put v.part position (Some word) } in
          kept_leaves number vector body got (record { body = with_vector body vector next; sends = to from (msg.ElemAck vector position None); marks = [] }) v next there (keeps_same v next refl refl) letters (tt, tt) refl refl

  fetches : (vector position : ℕ) (held : Option Vector) → body.vectors.vectors vector ≡ held → Made Leaves (element_fetched body from vector position held)
  fetches vector position None there = tt
  fetches vector position (Some v) there = by (v.part position)
    where
      by : (here : Option ℕ) → Made Leaves (element_got body from vector position v here)
      by None = tt
      by (Some word) =
          let next : Vector = record v { part = put v.part position None } in
          kept_leaves number vector body got (record { body = with_vector body vector next; sends = to from (msg.ElemAck vector position (Some word)); marks = [] }) v next there (keeps_same v next refl refl) letters (tt, tt) refl refl

  -- The vector has another state of the same turn.
  answers : (vector : ℕ) (v : Vector) → body.vectors.vectors vector ≡ Some v → (turn next : Turn) → v.turn ≡ Some turn → next.ends ≡ turn.ends → Leaves (quietly (with_turn body vector v next))
  answers vector v there turn next mine same =
      let after : Vector = record v { turn = Some next } in
      kept_leaves number vector body got (quietly (with_turn body vector v next)) v after there
      (record { turn = sym (ap option_len mine); ends = λ t h. (turn, mine, sym (ap (λ (x : Turn). x.ends) (some_same next t h)) ∙ same); groups = refl }) letters tt refl refl

  acks : (vector position : ℕ) (word : Option ℕ) (held : Option Vector) → body.vectors.vectors vector ≡ held → Made Leaves (element_acked body vector position word held)
  acks vector position word None there = tt
  acks vector position word (Some v) there = by v.turn refl word
    where
      by : (mine : Option Turn) → v.turn ≡ mine → (word : Option ℕ) → Made Leaves (turn_answered body vector position word v mine)
      by None e word = tt
      by (Some turn) e None = when Leaves (turn.puts position) (quietly (with_turn body vector v (put_answered turn position))) (λ q. answers vector v there turn (put_answered turn position) e refl)
      by (Some turn) e (Some word) = when Leaves (turn.gets position) (quietly (with_turn body vector v (get_answered turn position word))) (λ q. answers vector v there turn (get_answered turn position word) e refl)

  -- ---- turns of another vector

  module _ (vector : ℕ) (ne : vector ≢ number) where
    grants_other : (grant : Option Granted) → Each (λ (send : Send). IsOfOther number send.message) (grants vector grant)
    grants_other None = tt
    grants_other (Some grant) = (ne, tt)

    turns_leave : (next : Turns) (grant : Option Granted) (outcome : Outcome) → outcome.body.vectors.vectors ≡ body.vectors.vectors
        → outcome.body.vectors.masters ≡ put body.vectors.masters vector (Some next) → outcome.sends ≡ grants vector grant → Leaves outcome
    turns_leave next grant outcome vectors masters sends = same_leaves number body got outcome letters (subst (Each (λ (send : Send). IsOfOther number send.message)) (sym sends) (grants_other grant))
        (ap (λ (f : ℕ → Option Vector). f number) vectors)
        (ap (λ (f : ℕ → Option Turns). f number) masters ∙ put_other body.vectors.masters vector (Some next) number (λ q. ne (sym q)))

    asks : (held : Option Turns) → Made Leaves (turn_asked body from vector held)
    asks None = tt
    asks (Some turns) = turns_leave (asked turns from) (grant_on_asking turns from)
        (record { body = (turn_ended body vector (asked turns from)).body; sends = grants vector (grant_on_asking turns from); marks = [] }) refl refl refl

    dones : (head tail : ℕ) (held : Option Turns) → Made Leaves (turn_done body vector head tail held)
    dones head tail None = tt
    dones head tail (Some turns) = when Leaves (is_out turns) (turn_ended body vector (ended turns head tail))
        (λ q. turns_leave (ended turns head tail) (granted (ended turns head tail)) (turn_ended body vector (ended turns head tail)) refl refl refl)

    begins : (head tail : ℕ) (v : Vector) (turn : Option Turn) (groups : List (List WaitingCall)) → Made Leaves (group_granted machine body vector head tail v turn groups)
    begins head tail v None [] = tt
    begins head tail v (Some turn) [] = tt
    begins head tail v (Some turn) (calls ∷ groups) = tt
    begins head tail v None (calls ∷ groups) =
        let plan = plan_of calls head tail in
        when Leaves (can_begin body vector head tail calls) (turn_begun machine body vector v calls head tail plan)
        (λ q. other_leaves number vector body got (turn_begun machine body vector v calls head tail plan) (Some (record v { turn = Some (turn_from calls (record { head = head; tail = tail }) plan) })) ne letters
        (all_other number (put_sends machine vector plan.puts ++ get_sends machine vector plan.gets) (begins_apart machine vector plan)) refl refl)

    granted_to : (head tail : ℕ) (held : Option Vector) → Made Leaves (turn_granted machine body vector head tail held)
    granted_to head tail None = tt
    granted_to head tail (Some v) = begins head tail v v.turn v.groups

module _ (machine : Machine) (number me from : ℕ) (body : Body) where
  abbrev Left : Msg → Type 0
  Left message = Made (LeavesTurns number body (record { from = from; message = message } ∷ [])) (serves machine me body from message)

  still : (message : Msg) → IsOfOther number message → IsOfNoTurn message → Left message
  still message o apart = of_apart machine number me from body message o (serves machine me body from message) (served_apart machine me from body message apart)

  served : (message : Msg) → IsOfOther number message → Left message
  served (msg.Turn vector) o = asks machine number me from body (msg.Turn vector) o vector o (body.vectors.masters vector)
  served (msg.Grant vector head tail) o = granted_to machine number me from body (msg.Grant vector head tail) o vector o head tail (body.vectors.vectors vector)
  served (msg.Done vector head tail) o = dones machine number me from body (msg.Done vector head tail) o vector o head tail (body.vectors.masters vector)
  served (msg.ElemPut vector position word) o = stores machine number me from body (msg.ElemPut vector position word) o vector position word (body.vectors.vectors vector) refl
  served (msg.ElemGet vector position) o = fetches machine number me from body (msg.ElemGet vector position) o vector position (body.vectors.vectors vector) refl
  served (msg.ElemAck vector position got) o = acks machine number me from body (msg.ElemAck vector position got) o vector position got (body.vectors.vectors vector) refl
  served (msg.Request slot id operation x y z) o = still (msg.Request slot id operation x y z) o tt
  served (msg.Reply slot id first second) o = still (msg.Reply slot id first second) o tt
  served (msg.Spawn unit) o = still (msg.Spawn unit) o tt
  served (msg.Enrol scope) o = still (msg.Enrol scope) o tt
  served (msg.EnrolAck scope) o = still (msg.EnrolAck scope) o tt
  served (msg.Complete scope count) o = still (msg.Complete scope count) o tt
  served (msg.Leave scope) o = still (msg.Leave scope) o tt
  served msg.StealAsk o = still msg.StealAsk o tt
  served (msg.StealGive unit) o = still (msg.StealGive unit) o tt
  served (msg.Batch object key effect batch) o = still (msg.Batch object key effect batch) o tt
  served (msg.BatchReply batch before) o = still (msg.BatchReply batch before) o tt

pub messages_leave : laws.MessagesLeaveTurns
messages_leave machine number me from body message e other h =
    made_is (LeavesTurns number body (record { from = from; message = message } ∷ [])) (serves machine me body from message) e (served machine number me from body message other) h

pub nothing_leaves : laws.NothingLeavesTurns
nothing_leaves number from body message other = leaves_apart number body (record { from = from; message = message } ∷ []) (quietly body) (other, tt) (record { vectors = refl; sends = tt })

-- ---- a turn of another vector ends

module _ (machine : Machine) (number vector : ℕ) (body : Body) (ne : vector ≢ number) where
  finishes : (v : Vector) (turn : Turn) (ends : Ends) → LeavesTurns number body [] (turn_finished machine body vector v turn ends)
  finishes v turn ends =
      let next : Vector = record v { groups = drop 1 v.groups; turn = None } in
      let stays = all_stay machine (with_vector body vector next) (wakes (turn_replies turn)) in
      other_leaves number vector body [] (turn_finished machine body vector v turn ends) (Some next) ne tt (ne, tt)
      (ap (λ (x : Vectors). x.vectors) stays) (ap (λ (x : Vectors). x.masters) stays)

  ended_turn : (v : Vector) (mine : Option Turn) → Made (LeavesTurns number body []) (settled_turn machine body vector v mine)
  ended_turn v None = tt
  ended_turn v (Some turn) = when (LeavesTurns number body []) (turn.left == 0) (turn_finished machine body vector v turn (ends_after turn.calls turn.ends)) (λ q. finishes v turn (ends_after turn.calls turn.ends))

  pub settled : (held : Option Vector) → Made (LeavesTurns number body []) (settled_vector machine body vector held)
  settled None = tt
  settled (Some v) = ended_turn v v.turn

pub ends_leave : laws.EndsLeaveTurns
ends_leave machine number vector body e ne h = made_is (LeavesTurns number body []) (settled_vector machine body vector (body.vectors.vectors vector)) e
    (settled machine number vector body ne (body.vectors.vectors vector)) h
