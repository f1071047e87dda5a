-- Behind a message that comes first a turn of which nothing is left can be finished.
use Rattle.std.proofs.Common.{◌≡◌, ℕ, ◌/◌, ◌<◌, true, List, [], ◌∷◌, ◌∙◌, ap, subst, refl, arith, mod-lt, Option, Some, None}
use Rattle.gr_lang.specs.declared.action.WaitingCall.{WaitingCall}
use Rattle.gr_msg.specs.declared.message.Msg.{Msg}
use Rattle.gr_msg.specs.declared.message.Msg.TheVariants as msg
use Rattle.gr_agg.specs.Buffers.{add_last}
use Rattle.gr_vector.specs.declared.ends.Ends.{Ends}
use Rattle.gr_vector.specs.Plans.{plan_of, taken_by}
use Rattle.gr_vector.specs.Laws.{replies, replies_from}
use Rattle.gr_net.specs.Sums.{Each}
use Rattle.gr_net.specs.Worlds.{put_core, acted}
use Rattle.gr_net.proofs.Spreads.{put_same, Each-append}
use Rattle.gr_machine.specs.Machines.{thing}
use Rattle.gr_machine.specs.States.{Turn, Vector, Body}
use Rattle.gr_machine.specs.Openings.{is_vector}
use Rattle.gr_machine.specs.Outcomes.{Send, Outcome}
use Rattle.gr_machine.specs.Nets.{messages_in}
use Rattle.gr_machine.specs.Serves.{serves}
use Rattle.gr_machine.specs.TurnServes.{put_sends, get_sends, turn_begun, can_begin, group_granted, turn_granted, turn_answered, element_acked}
use Rattle.gr_stands.specs.Worlds.{Given, machine_in, World, bodies, Acts}
use Rattle.gr_stands.proofs.Worlds.{acted_bodies}
use Rattle.gr_stands_calls.specs.Acting.{letter, IsFirstLetter}
use Rattle.gr_stands_outcomes.specs.Inner.{outcome_of}
use Rattle.gr_stands_steps.specs.Telling.{message_outcome}
use Rattle.gr_lines.specs.Waiting.{HasLines}
use Rattle.gr_lines_others.proofs.Off.{Made, when}
use Rattle.gr_lines_steps.proofs.Ends.{ends_answered}
use Rattle.gr_lines_tokens.proofs.Served.{messages_keep}
use Rattle.gr_lines_turns.specs.Tokens.{TurnStands}
use Rattle.gr_elements_orders.specs.Orders.{OwnAreIn}
use Rattle.gr_elements.proofs.Kept.{own_kept}
use Rattle.gr_elements_acts.specs.Holding.{HasElements}
use Rattle.gr_elements_acts.proofs.Events as events
use Rattle.gr_elements_acts.proofs.Ends.{turns_reply}
use Rattle.gr_elements_steps.specs.Behind.{IsLast}
use Rattle.gr_elements_steps.specs.Laws as laws

-- ---- what such a message sends goes to cores that there are

module _ (given : Given) (me from : ℕ) (body : Body) (some : 0 < given.setup.cores) where
  abbrev There : Outcome → Type 0
  There e = Each (λ (s : Send). s.to < given.setup.cores) e.sends

  puts_there : (number : ℕ) (pairs : List (ℕ × ℕ)) → Each (λ (s : Send). s.to < given.setup.cores) (put_sends (machine_in given) number pairs)
  puts_there number [] = tt
  puts_there number (pair ∷ pairs) = (mod-lt (pair.0 / given.setup.block) {m = given.setup.cores} (omega (arith, some)), puts_there number pairs)

  gets_there : (number : ℕ) (positions : List ℕ) → Each (λ (s : Send). s.to < given.setup.cores) (get_sends (machine_in given) number positions)
  gets_there number [] = tt
  gets_there number (at ∷ positions) = (mod-lt (at / given.setup.block) {m = given.setup.cores} (omega (arith, some)), gets_there number positions)

  begins : (number head tail : ℕ) (vector : Vector) (turn : Option Turn) (groups : List (List WaitingCall)) → Made There (group_granted (machine_in given) body number head tail vector turn groups)
  begins number head tail vector None [] = tt
  begins number head tail vector (Some turn) [] = tt
  begins number head tail vector (Some turn) (calls ∷ groups) = tt
  begins number head tail vector None (calls ∷ groups) =
      let plan = plan_of calls head tail in
      when There (can_begin body number head tail calls) (turn_begun (machine_in given) body number vector calls head tail plan)
      (λ q. Each-append (λ (s : Send). s.to < given.setup.cores) (put_sends (machine_in given) number plan.puts) (get_sends (machine_in given) number plan.gets) (puts_there number plan.puts) (gets_there number plan.gets))

  grants : (number head tail : ℕ) (held : Option Vector) → Made There (turn_granted (machine_in given) body number head tail held)
  grants number head tail None = tt
  grants number head tail (Some vector) = begins number head tail vector vector.turn vector.groups

  acks : (number position : ℕ) (got : Option ℕ) (held : Option Vector) → Made There (element_acked body number position got held)
  acks number position got None = tt
  acks number position got (Some vector) = by vector.turn got
    where
      by : (mine : Option Turn) (got : Option ℕ) → Made There (turn_answered body number position got vector mine)
      by None got = tt
      by (Some turn) None = when There (turn.puts position) _ (λ q. tt)
      by (Some turn) (Some word) = when There (turn.gets position) _ (λ q. tt)

  any_there : (o : Option Outcome) → Made There o → There (outcome_of body o)
  any_there None m = tt
  any_there (Some e) m = m

  pub last_there : (number : ℕ) (message : Msg) → IsLast number message → There (outcome_of body (serves (machine_in given) me body from message))
  last_there number (msg.Grant vector head tail) q = any_there (serves (machine_in given) me body from (msg.Grant vector head tail)) (grants vector head tail (body.vectors.vectors vector))
  last_there number (msg.ElemAck vector position got) q = any_there (serves (machine_in given) me body from (msg.ElemAck vector position got)) (acks vector position got (body.vectors.vectors vector))
  last_there number (msg.ElemPut vector position word) q = absurd q
  last_there number (msg.ElemGet vector position) q = absurd q
  last_there number (msg.Request slot id operation x y z) q = absurd q
  last_there number (msg.Reply slot id first second) q = absurd q
  last_there number (msg.Spawn unit) q = absurd q
  last_there number (msg.Enrol scope) q = absurd q
  last_there number (msg.EnrolAck scope) q = absurd q
  last_there number (msg.Complete scope count) q = absurd q
  last_there number (msg.Leave scope) q = absurd q
  last_there number msg.StealAsk q = absurd q
  last_there number (msg.StealGive unit) q = absurd q
  last_there number (msg.Batch object key effect batch) q = absurd q
  last_there number (msg.BatchReply batch before) q = absurd q
  last_there number (msg.Turn vector) q = absurd q
  last_there number (msg.Done vector head tail) q = absurd q

-- ---- its turn, in the world behind it

module _ (given : Given) (w : World) (me from number : ℕ) (message : Msg) (ends : Ends) (words : List ℕ) (first : IsFirstLetter given w me from message) (lines : HasLines given me (bodies w me))
    (is : is_vector (thing (machine_in given) number) ≡ true) (own : OwnAreIn messages_in w) (turns : TurnStands given w number ends) (old : HasElements given w number ends words)
    (last : IsLast number message) (vector : Vector) (turn : Turn) (mine : vector.turn ≡ Some turn) (done : turn.left ≡ 0) where
  abbrev Same : Type 0
  Same = replies_from turn.answers (taken_by turn.calls turn.ends) ≡ replies turn.calls words

  same_made : (o : Option Outcome) → serves (machine_in given) me (bodies w me) from message ≡ o → (outcome_of (bodies w me) o).body.vectors.vectors number ≡ Some vector → Same
  same_made None h there = turns_reply given w number me ends words vector turn first.here own turns old there mine done
  same_made (Some e) h there =
      let v : World = put_core w me (acted add_last me first.core (Some e)) in
      let some : 0 < given.setup.cores = omega (arith, first.here) in
      let acts : Acts given.setup.cores w v me (letter from message ∷ []) e = record {
        here = first.here;
        core = first.core;
        without = first.without;
        sends = subst (λ (o : Option Outcome). Each (λ (s : Send). s.to < given.setup.cores) (outcome_of (bodies w me) o).sends) h (last_there given me from (bodies w me) some number message last);
        world = refl;
      } in
      let at : bodies v me ≡ e.body = ap (λ (b : ℕ → Body). b me) (acted_bodies given.setup.cores w v me (letter from message ∷ []) e acts) ∙ put_same (bodies w) me e.body in
      turns_reply given v number me ends words vector turn first.here (own_kept given w v me (letter from message ∷ []) e acts own)
      (messages_keep given w v number me from message e ends acts h lines is turns)
      (events.messages_keep given w v number me from message e ends words acts h lines is own turns old)
      (ap (λ (b : Body). b.vectors.vectors number) at ∙ there) mine done

  pub same_behind : (message_outcome given w me from message).body.vectors.vectors number ≡ Some vector → Same
  same_behind there = same_made (serves (machine_in given) me (bodies w me) from message) refl there

pub ends_told : laws.EndsAreTold
ends_told given w S me from number message ends words senders first lines turns old is last line between vector turn bodies_are there mine done = record {
  words = words number;
  line = line;
  answers = ends_answered given w between me from number message vector turn (words number) senders first lines bodies_are there mine
      (same_behind given w me from number message (ends number) (words number) first (lines me) is old.own (turns number is) (old.vectors number is) last vector turn mine done there);
}
