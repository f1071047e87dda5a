-- Each message keeps where the words of a vector are, and so does the end of a turn.
use Rattle.std.proofs.Common.{◌≡◌, ◌≢◌, ℕ, ◌==◌, Bool, true, false, if◌then◌else◌, List, [], ◌∷◌, inl, inr, sym, ◌∙◌, ap, subst, refl, arith, Option, Some, None}
use Rattle.std.proofs.lemmas.Bool.{cases_eq}
use Rattle.std.proofs.lemmas.Bool.Decides.{nat_tests}
use Rattle.gr_lang.specs.declared.action.WaitingCall.{WaitingCall}
use Rattle.gr_view.specs.Places.{put}
use Rattle.gr_msg.specs.declared.message.Msg.{Msg}
use Rattle.gr_msg.specs.declared.message.Msg.TheVariants as msg
use Rattle.gr_vector.specs.declared.ends.Ends.{Ends}
use Rattle.gr_vector.specs.Laws.{words_after}
use Rattle.gr_vector.specs.Plans.{ends_after, plan_of}
use Rattle.gr_net.specs.Sums.{Each}
use Rattle.gr_machine.specs.Machines.{thing}
use Rattle.gr_machine.specs.States.{Letter, Turn, Vector, Body}
use Rattle.gr_machine.specs.Openings.{is_vector}
use Rattle.gr_machine.specs.Outcomes.{Outcome, to, quietly}
use Rattle.gr_machine.specs.Nets.{messages_in}
use Rattle.gr_machine.specs.TurnServes.{with_vector, with_turn, turn_begun, can_begin, group_granted, turn_granted, element_put, element_stored, element_got, element_fetched, put_answered, get_answered, element_answered, turn_answered, element_acked, turn_finished, settled_turn, settled_vector}
use Rattle.gr_machine.specs.Serves.{serves}
use Rattle.gr_stands.specs.Worlds.{Given, machine_in, World, bodies, Acts}
use Rattle.gr_lines.specs.Lines.{vector_in, tasks_on}
use Rattle.gr_lines.specs.Waiting.{IsGroup, CallsWait, HasLines}
use Rattle.gr_lines_tokens.specs.Granting.{ends_behind}
use Rattle.gr_lines_tokens.proofs.Served.{calls_of_vector}
use Rattle.gr_lines_turns.specs.Tokens.{TurnStands}
use Rattle.gr_elements_orders.specs.Orders.{OwnAreIn}
use Rattle.gr_elements.specs.Elements.{ElementsStand}
use Rattle.gr_elements.proofs.Kept.{others_keep}
use Rattle.gr_elements_apart.specs.Leaving.{IsOffElements}
use Rattle.gr_elements_apart.proofs.Turns.{messages_leave}
use Rattle.gr_elements_acts.specs.Holding.{HasElements, words_behind}
use Rattle.gr_elements_acts.specs.Laws as laws
use Rattle.gr_elements_acts.proofs.Counts.{none_some, some_same}
use Rattle.gr_elements_acts.proofs.Words.{stored_keeps, fetched_keeps, put_acked_keeps, get_acked_keeps}
use Rattle.gr_elements_acts.proofs.Begins.{begun_keeps}
use Rattle.gr_elements_acts.proofs.Ends.{finished_keeps}

module _ (given : Given) (w v : World) (number me from : ℕ) (ends : Ends) (words : List ℕ) (held : ℕ → Option ℕ) (old : ElementsStand given w number ends words held)
    (turns : TurnStands given w number ends) (own : OwnAreIn messages_in w) (lines : HasLines given me (bodies w me)) (is : is_vector (thing (machine_in given) number) ≡ true) where
  abbrev n : ℕ
  n = given.setup.cores

  abbrev body : Body
  body = bodies w me

  abbrev letter : Msg → List Letter
  letter message = record { from = from; message = message } ∷ []

  abbrev Has : Type 0
  Has = HasElements given v number ends words

  has : ElementsStand given v number ends words held → Has
  has stand = record { held = held; stand = stand }

  stores : (position word : ℕ) (o : Option Vector) → body.vectors.vectors number ≡ o → (e : Outcome) → element_stored body from number position word o ≡ Some e
      → Acts n w v me (letter (msg.ElemPut number position word)) e → Has
  stores position word None there e h acts = absurd (none_some e h)
  stores position word (Some vector) there e h acts = by (vector.part position) refl h
    where
      made : Outcome
      made = record { body = with_vector body number (record vector { part = put vector.part position (Some word) }); sends = to from (msg.ElemAck number position None); marks = [] }

      by : (p : Option ℕ) → vector.part position ≡ p → element_put body from number position word vector p ≡ Some e → Has
      by (Some x) full h = absurd (none_some e h)
      by None empty h = has (stored_keeps given w v number me from ends words held old turns own vector there position word empty
          (subst (Acts n w v me (letter (msg.ElemPut number position word))) (sym (some_same made e h)) acts))

  fetches : (position : ℕ) (o : Option Vector) → body.vectors.vectors number ≡ o → (e : Outcome) → element_fetched body from number position o ≡ Some e
      → Acts n w v me (letter (msg.ElemGet number position)) e → Has
  fetches position None there e h acts = absurd (none_some e h)
  fetches position (Some vector) there e h acts = by (vector.part position) refl h
    where
      made : ℕ → Outcome
      made word = record { body = with_vector body number (record vector { part = put vector.part position None }); sends = to from (msg.ElemAck number position (Some word)); marks = [] }

      by : (p : Option ℕ) → vector.part position ≡ p → element_got body from number position vector p ≡ Some e → Has
      by None empty h = absurd (none_some e h)
      by (Some word) full h = has (fetched_keeps given w v number me from ends words held old turns own vector there position word full
          (subst (Acts n w v me (letter (msg.ElemGet number position))) (sym (some_same (made word) e h)) acts))

  acks : (position : ℕ) (got : Option ℕ) (o : Option Vector) → body.vectors.vectors number ≡ o → (e : Outcome) → element_acked body number position got o ≡ Some e
      → Acts n w v me (letter (msg.ElemAck number position got)) e → Has
  acks position got None there e h acts = absurd (none_some e h)
  acks position got (Some vector) there e h acts = by vector.turn refl got h acts
    where
      put_done : Turn → Outcome
      put_done turn = quietly (with_turn body number vector (put_answered turn position))

      get_done : Turn → ℕ → Outcome
      get_done turn word = quietly (with_turn body number vector (get_answered turn position word))

      puts : (turn : Turn) → vector.turn ≡ Some turn → (b : Bool) → turn.puts position ≡ b → (if b then Some (put_done turn) else None) ≡ Some e → Acts n w v me (letter (msg.ElemAck number position None)) e → Has
      puts turn mine false waits h acts = absurd (none_some e h)
      puts turn mine true waits h acts = has (put_acked_keeps given w v number me from ends words held old turns own vector there turn mine position waits
          (subst (Acts n w v me (letter (msg.ElemAck number position None))) (sym (some_same (put_done turn) e h)) acts))

      gets : (turn : Turn) → vector.turn ≡ Some turn → (word : ℕ) (b : Bool) → turn.gets position ≡ b → (if b then Some (get_done turn word) else None) ≡ Some e
          → Acts n w v me (letter (msg.ElemAck number position (Some word))) e → Has
      gets turn mine word false waits h acts = absurd (none_some e h)
      gets turn mine word true waits h acts = has (get_acked_keeps given w v number me from ends words held old turns own vector there turn mine position word waits
          (subst (Acts n w v me (letter (msg.ElemAck number position (Some word)))) (sym (some_same (get_done turn word) e h)) acts))

      by : (mine : Option Turn) → vector.turn ≡ mine → (got : Option ℕ) → turn_answered body number position got vector mine ≡ Some e → Acts n w v me (letter (msg.ElemAck number position got)) e → Has
      by None mine got h acts = absurd (none_some e h)
      by (Some turn) mine None h acts = puts turn mine (turn.puts position) refl h acts
      by (Some turn) mine (Some word) h acts = gets turn mine word (turn.gets position) refl h acts

  begins : (head tail : ℕ) (vector : Vector) → body.vectors.vectors number ≡ Some vector → (turn : Option Turn) (groups : List (List WaitingCall)) → vector.groups ≡ groups → (e : Outcome)
      → group_granted (machine_in given) body number head tail vector turn groups ≡ Some e → Acts n w v me (letter (msg.Grant number head tail)) e → Has
  begins head tail vector there None [] g e h acts = absurd (none_some e h)
  begins head tail vector there (Some turn) [] g e h acts = absurd (none_some e h)
  begins head tail vector there (Some turn) (calls ∷ groups) g e h acts = absurd (none_some e h)
  begins head tail vector there None (calls ∷ groups) g e h acts = by (can_begin body number head tail calls) h
    where
      made : Outcome
      made = turn_begun (machine_in given) body number vector calls head tail (plan_of calls head tail)

      group : IsGroup calls
      group = (subst (Each IsGroup) g (calls_of_vector given me number body lines is vector there).made).0

      by : (b : Bool) → (if b then Some made else None) ≡ Some e → Has
      by true h = begun_keeps given w v number me from ends words held old turns own vector there calls group head tail
          (subst (Acts n w v me (letter (msg.Grant number head tail))) (sym (some_same made e h)) acts)
      by false h = absurd (none_some e h)

  grants : (head tail : ℕ) (o : Option Vector) → body.vectors.vectors number ≡ o → (e : Outcome) → turn_granted (machine_in given) body number head tail o ≡ Some e
      → Acts n w v me (letter (msg.Grant number head tail)) e → Has
  grants head tail None there e h acts = absurd (none_some e h)
  grants head tail (Some vector) there e h acts = begins head tail vector there vector.turn vector.groups refl e h acts

  abbrev Keeps : Msg → Type 0
  Keeps message = (e : Outcome) → Acts n w v me (letter message) e → serves (machine_in given) me body from message ≡ Some e → Has

  other : (message : Msg) → IsOffElements number message → Keeps message
  other message o e acts h = has (others_keep given w v number me (letter message) e ends words held acts own (messages_leave (machine_in given) number me from body message e o h).elements old)

  pub message_keeps : (message : Msg) → Keeps message
  message_keeps (msg.Grant vector head tail) = elim (cases_eq vector number) [
    | inl q ↦ subst (λ (k : ℕ). Keeps (msg.Grant k head tail)) (sym q) (λ e acts h. grants head tail (body.vectors.vectors number) refl e h acts)
    | inr ne ↦ other (msg.Grant vector head tail) ne
  ]
  message_keeps (msg.ElemPut vector position word) = elim (cases_eq vector number) [
    | inl q ↦ subst (λ (k : ℕ). Keeps (msg.ElemPut k position word)) (sym q) (λ e acts h. stores position word (body.vectors.vectors number) refl e h acts)
    | inr ne ↦ other (msg.ElemPut vector position word) ne
  ]
  message_keeps (msg.ElemGet vector position) = elim (cases_eq vector number) [
    | inl q ↦ subst (λ (k : ℕ). Keeps (msg.ElemGet k position)) (sym q) (λ e acts h. fetches position (body.vectors.vectors number) refl e h acts)
    | inr ne ↦ other (msg.ElemGet vector position) ne
  ]
  message_keeps (msg.ElemAck vector position got) = elim (cases_eq vector number) [
    | inl q ↦ subst (λ (k : ℕ). Keeps (msg.ElemAck k position got)) (sym q) (λ e acts h. acks position got (body.vectors.vectors number) refl e h acts)
    | inr ne ↦ other (msg.ElemAck vector position got) ne
  ]
  message_keeps (msg.Turn vector) = other (msg.Turn vector) tt
  message_keeps (msg.Done vector head tail) = other (msg.Done vector head tail) tt
  message_keeps (msg.Request slot id operation x y z) = other (msg.Request slot id operation x y z) tt
  message_keeps (msg.Reply slot id first second) = other (msg.Reply slot id first second) tt
  message_keeps (msg.Spawn unit) = other (msg.Spawn unit) tt
  message_keeps (msg.Enrol scope) = other (msg.Enrol scope) tt
  message_keeps (msg.EnrolAck scope) = other (msg.EnrolAck scope) tt
  message_keeps (msg.Complete scope count) = other (msg.Complete scope count) tt
  message_keeps (msg.Leave scope) = other (msg.Leave scope) tt
  message_keeps msg.StealAsk = other msg.StealAsk tt
  message_keeps (msg.StealGive unit) = other (msg.StealGive unit) tt
  message_keeps (msg.Batch object key effect batch) = other (msg.Batch object key effect batch) tt
  message_keeps (msg.BatchReply batch before) = other (msg.BatchReply batch before) tt

pub messages_keep : laws.MessagesKeepElements
messages_keep given w v number me from message e ends words acts h lines is own turns old =
    message_keeps given w v number me from ends words old.held old.stand turns own lines is message e acts h

-- ---- a turn ends

zero_if : (a : ℕ) → (a == 0) ≡ true → a ≡ 0
zero_if a q = grind (arith, nat_tests, q)

pub ends_keep : laws.EndsKeepElements
ends_keep given w v number me e ends words acts h own turns old = by ((bodies w me).vectors.vectors number) refl h
  where
    with_turn_there : (vector : Vector) → (bodies w me).vectors.vectors number ≡ Some vector → (mine : Option Turn) → vector.turn ≡ mine
        → settled_turn (machine_in given) (bodies w me) number vector mine ≡ Some e → HasElements given v number (ends_behind mine ends) (words_behind mine words)
    with_turn_there vector there None m h = absurd (none_some e h)
    with_turn_there vector there (Some turn) m h = ended (turn.left == 0) refl h
      where
        made : Outcome
        made = turn_finished (machine_in given) (bodies w me) number vector turn (ends_after turn.calls turn.ends)

        ended : (b : Bool) → (turn.left == 0) ≡ b → (if b then Some made else None) ≡ Some e
            → HasElements given v number (if b then ends_after turn.calls turn.ends else ends) (if b then words_after turn.calls words else words)
        ended true zero h = finished_keeps given w v number me ends words old.held old.stand turns own vector turn there m (zero_if turn.left zero) (ends_after turn.calls turn.ends)
            (subst (Acts given.setup.cores w v me []) (sym (some_same made e h)) acts)
        ended false zero h = absurd (none_some e h)

    by : (held : Option Vector) → (bodies w me).vectors.vectors number ≡ held → settled_vector (machine_in given) (bodies w me) number held ≡ Some e
        → HasElements given v number (ends_behind (vector_in held).turn ends) (words_behind (vector_in held).turn words)
    by None there h = absurd (none_some e h)
    by (Some vector) there h = with_turn_there vector there vector.turn refl h
