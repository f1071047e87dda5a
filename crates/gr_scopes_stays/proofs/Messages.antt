-- Messages of calls, batches and turns, and questions for work.
use Rattle.std.proofs.Common.{◌≡◌, ℕ, ◌==◌, ◌&&◌, Bool, true, false, nat_lt, if◌then◌else◌, List, [], ◌∷◌, inl, sym, ◌∙◌, ap, subst, refl, Option, Some, None}
use Rattle.std.proofs.lemmas.Bool.{and_parts}
use Rattle.gr_lang.specs.declared.action.Op.{Op}
use Rattle.gr_lang.specs.declared.action.Reply.{Reply}
use Rattle.gr_lang.specs.declared.action.TaskId.{TaskId}
use Rattle.gr_lang.specs.declared.action.WaitingCall.{WaitingCall}
use Rattle.gr_lang.specs.Effects.{reply, word_after, word_reply}
use Rattle.gr_lang.specs.Objects.{Object, array, keys, pairs, line, start_in}
use Rattle.gr_lang.specs.declared.action.Effect.{Effect}
use Rattle.gr_syntax.specs.declared.limits.TheConstants.{HEAP}
use Rattle.gr_msg.specs.declared.message.Msg.{Msg}
use Rattle.gr_msg.specs.declared.message.Msg.TheVariants as msg
use Rattle.gr_net.specs.Sums.{Each}
use Rattle.gr_net.proofs.Spreads.{Each-append}
use Rattle.gr_vector.specs.Turns.{Turns, granted, grant_on_asking, ended, is_out}
use Rattle.gr_vector.specs.declared.master.Granted.{Granted}
use Rattle.gr_vector.specs.Plans.{plan_of}
use Rattle.gr_machine.specs.Machines.{Machine, home, place, thing}
use Rattle.gr_machine.specs.declared.waits.Waits.{Waits}
use Rattle.gr_machine.specs.declared.waits.Waits.TheVariants as wait
use Rattle.gr_machine.specs.States.{Suspended, Turn, Vector, Stops, Body}
use Rattle.gr_machine.specs.Outcomes.{Outcome, Send, quietly}
use Rattle.gr_machine.specs.Serves.{serves}
use Rattle.gr_machine.specs.Slots.{awaits_reply, named_awaits, task_awaits, same_id, goes_on, resumed, resumed_task}
use Rattle.gr_machine.specs.Requests.{answered, with_word, word_made, word_requested, word_call, named_at, allocated, freed, printed, made_at_zero, requested, replied}
use Rattle.gr_machine.specs.BatchServes.{applied, is_of_word, is_of_set, is_of_map, word_applied, word_batch, key_batch, batched}
use Rattle.gr_machine.specs.TurnServes.{grants, turn_asked, turn_ended, turn_done, can_begin, turn_begun, group_granted, turn_granted, element_put, element_stored, element_got, element_fetched, element_answered, turn_answered, element_acked, put_sends, get_sends, put_answered, get_answered, with_turn}
use Rattle.gr_stands.specs.Worlds.{Given, machine_in, bodies}
use Rattle.gr_stands_calls.specs.Acting.{letter}
use Rattle.gr_scopes.specs.Depths.{HasDepth}
use Rattle.gr_scopes.specs.Scopes.{WaitStands}
use Rattle.gr_scopes_stays.specs.Stays.{IsNoScope, SlotsStay, IsOfNoWork, IsOfOneCall}
use Rattle.gr_scopes_stays.specs.Laws as laws
use Rattle.gr_scopes_stays.proofs.Stays.{leaves_kept}
use Rattle.gr_scopes_stays.proofs.Slots.{one_changes, call_goes}

-- What such a message does at its core.
record Leaves (given : Given) (body : Body) (e : Outcome) : Type 0 where
  slots : SlotsStay given body.tasks.slots e.body.tasks.slots
  scopes : e.body.scopes ≡ body.scopes
  passed : e.body.stops.passed ≡ body.stops.passed
  work : e.body.work ≡ body.work
  sends : Each (λ (s : Send). IsOfNoWork s.message) e.sends

if_so : (b : Bool) (o e : Outcome) (P : Outcome → Type 0) → (b ≡ true → P o) → (if b then Some o else None) ≡ Some e → P e
if_so true o e P p h = subst P (same o e h) (p refl)
  where
    same : (x y : Outcome) → Some x ≡ Some y → x ≡ y
    same x y e = cc
if_so false o e P p h = absurd (cc)

some_so : (o e : Outcome) (P : Outcome → Type 0) → P o → Some o ≡ Some e → P e
some_so o e P p h = if_so true o e P (λ z. p) h

granted_go : (vector : ℕ) (o : Option Granted) → Each (λ (s : Send). IsOfNoWork s.message) (grants vector o)
granted_go vector None = tt
granted_go vector (Some g) = (tt, tt)

puts_go : (machine : Machine) (vector : ℕ) (puts : List (ℕ × ℕ)) → Each (λ (s : Send). IsOfNoWork s.message) (put_sends machine vector puts)
puts_go machine vector [] = tt
puts_go machine vector (p ∷ ps) = (tt, puts_go machine vector ps)

gets_go : (machine : Machine) (vector : ℕ) (gets : List ℕ) → Each (λ (s : Send). IsOfNoWork s.message) (get_sends machine vector gets)
gets_go machine vector [] = tt
gets_go machine vector (p ∷ ps) = (tt, gets_go machine vector ps)

module _ (given : Given) (me from : ℕ) (body : Body) where
  abbrev machine : Machine
  machine = machine_in given

  -- Tasks stay.
  simply : (b : Body) (sends : List Send) (e : Outcome) → b.tasks.slots ≡ body.tasks.slots → b.scopes ≡ body.scopes → b.stops ≡ body.stops → b.work ≡ body.work → Each (λ (s : Send). IsOfNoWork s.message) sends
      → e.body ≡ b → e.sends ≡ sends → Leaves given body e
  simply b sends e t s p x f is so = record {
    slots = λ l. inl (ap (λ (y : Body). y.tasks.slots l) is ∙ ap (λ (g : ℕ → Option Suspended). g l) t);
    scopes = ap (λ (y : Body). y.scopes) is ∙ s;
    passed = ap (λ (y : Body). y.stops.passed) is ∙ ap (λ (y : Stops). y.passed) p;
    work = ap (λ (y : Body). y.work) is ∙ x;
    sends = subst (Each (λ (s : Send). IsOfNoWork s.message)) (sym so) f;
  }

  of_answer : (b : Body) (slot : ℕ) (id : TaskId) (call : Op) (word : Reply) → b.tasks.slots ≡ body.tasks.slots → b.scopes ≡ body.scopes → b.stops ≡ body.stops → b.work ≡ body.work
      → Leaves given body (answered b from slot id call word)
  of_answer b slot id call word t s p x = simply b (answered b from slot id call word).sends (answered b from slot id call word) t s p x (tt, tt) refl refl

  of_request : (slot : ℕ) (id : TaskId) (operation x y z : ℕ) (e : Outcome) → requested machine me body from slot id operation x y z ≡ Some e → Leaves given body e
  of_request slot id operation x y z e h = low (nat_lt operation 5) h
    where
      on_word : (call : Op) (at : ℕ) (o : Option ℕ) → word_made body from slot id at call o ≡ Some e → Leaves given body e
      on_word call at None h = absurd (cc)
      on_word call at (Some word) h = some_so _ e (Leaves given body) (of_answer (with_word body at (Some (word_after call word))) slot id call (word_reply call word) refl refl refl refl) h

      homed : (b : Bool) → (if b then word_requested machine body from slot id operation x y z else None) ≡ Some e → Leaves given body e
      homed true h = on_word (word_call operation (named_at machine x) y z) (place machine x) (body.words.segment (place machine x)) h
      homed false h = absurd (cc)

      start_at : (o : Option ℕ) → Leaves given body (allocated body from slot id x o)
      start_at None = of_answer body slot id _ _ refl refl refl refl
      start_at (Some start) = of_answer _ slot id _ _ refl refl refl refl

      prints : (b : Bool) → (if b then Some (printed body from slot id x) else None) ≡ Some e → Leaves given body e
      prints b h = if_so b (printed body from slot id x) e (Leaves given body) (λ q. of_answer body slot id _ _ refl refl refl refl) h

      frees : (b : Bool) → (if b then Some (freed body from slot id x) else (if operation == 7 then Some (printed body from slot id x) else None)) ≡ Some e → Leaves given body e
      frees true h = some_so (freed body from slot id x) e (Leaves given body) (of_answer _ slot id _ _ refl refl refl refl) h
      frees false h = prints (operation == 7) h

      allocs : (b : Bool) → (if b then Some (allocated body from slot id x (start_in machine.code.objects.heap body.words.blocks x))
          else (if operation == 6 then Some (freed body from slot id x) else (if operation == 7 then Some (printed body from slot id x) else None))) ≡ Some e → Leaves given body e
      allocs true h = some_so (allocated body from slot id x (start_in machine.code.objects.heap body.words.blocks x)) e (Leaves given body) (start_at (start_in machine.code.objects.heap body.words.blocks x)) h
      allocs false h = frees (operation == 6) h

      zeroth : (b : Bool) → (if b then made_at_zero machine body from slot id operation x else None) ≡ Some e → Leaves given body e
      zeroth true h = allocs (operation == 5) h
      zeroth false h = absurd (cc)

      low : (b : Bool) → (if b then (if nat_lt 0 operation && home machine x == me then word_requested machine body from slot id operation x y z else None)
          else (if me == 0 then made_at_zero machine body from slot id operation x else None)) ≡ Some e → Leaves given body e
      low true h = homed (nat_lt 0 operation && home machine x == me) h
      low false h = zeroth (me == 0) h

  of_applied : (b : Body) (batch : ℕ) (before : Option ℕ) → b.tasks.slots ≡ body.tasks.slots → b.scopes ≡ body.scopes → b.stops ≡ body.stops → b.work ≡ body.work → Leaves given body (applied b from batch before)
  of_applied b batch before t s p x = simply b (applied b from batch before).sends (applied b from batch before) t s p x (tt, tt) refl refl

  of_word : (at : ℕ) (what : Effect) (batch : ℕ) (e : Outcome) → word_batch machine me body from at what batch ≡ Some e → Leaves given body e
  of_word at what batch e h = by (is_of_word what && home machine at == me) h
    where
      on_word : (o : Option ℕ) → word_applied body from (place machine at) what batch o ≡ Some e → Leaves given body e
      on_word None h = absurd (cc)
      on_word (Some word) h = some_so _ e (Leaves given body) (of_applied _ batch (Some word) refl refl refl refl) h

      by : (b : Bool) → (if b then word_applied body from (place machine at) what batch (body.words.segment (place machine at)) else None) ≡ Some e → Leaves given body e
      by true h = on_word (body.words.segment (place machine at)) h
      by false h = absurd (cc)

  of_key : (object key : ℕ) (what : Effect) (batch : ℕ) (b : Bool) (e : Outcome) → key_batch body from object key what batch b ≡ Some e → Leaves given body e
  of_key object key what batch true e h = some_so _ e (Leaves given body) (of_applied _ batch _ refl refl refl refl) h
  of_key object key what batch false e h = absurd (cc)

  of_batch : (object key : ℕ) (what : Effect) (batch : ℕ) (o : Option Object) (e : Outcome) → batched machine me body from object key what batch o ≡ Some e → Leaves given body e
  of_batch object key what batch (Some (array start count)) e h = of_word key what batch e h
  of_batch object key what batch (Some (keys held)) e h = of_key object key what batch (is_of_set what) e h
  of_batch object key what batch (Some (pairs held)) e h = of_key object key what batch (is_of_map what) e h
  of_batch object key what batch (Some (line words)) e h = absurd (cc)
  of_batch object key what batch None e h = by (object == HEAP) h
    where
      by : (b : Bool) → (if b then word_batch machine me body from key what batch else None) ≡ Some e → Leaves given body e
      by true h = of_word key what batch e h
      by false h = absurd (cc)

  of_turn : (vector : ℕ) (o : Option Turns) (e : Outcome) → turn_asked body from vector o ≡ Some e → Leaves given body e
  of_turn vector None e h = absurd (cc)
  of_turn vector (Some t) e h = some_so _ e (Leaves given body)
      (record { slots = λ l. inl refl; scopes = refl; passed = refl; work = refl; sends = granted_go vector (grant_on_asking t from) }) h

  of_done : (vector head tail : ℕ) (o : Option Turns) (e : Outcome) → turn_done body vector head tail o ≡ Some e → Leaves given body e
  of_done vector head tail None e h = absurd (cc)
  of_done vector head tail (Some t) e h = if_so (is_out t) (turn_ended body vector (ended t head tail)) e (Leaves given body)
      (λ z. record { slots = λ l. inl refl; scopes = refl; passed = refl; work = refl; sends = granted_go vector (granted (ended t head tail)) }) h

  of_grant : (vector head tail : ℕ) (o : Option Vector) (e : Outcome) → turn_granted machine body vector head tail o ≡ Some e → Leaves given body e
  of_grant vector head tail None e h = absurd (cc)
  of_grant vector head tail (Some v) e h = by v.turn v.groups h
    where
      by : (turn : Option Turn) (groups : List (List WaitingCall)) → group_granted machine body vector head tail v turn groups ≡ Some e → Leaves given body e
      by None (calls ∷ groups) h =
          let plan = plan_of calls head tail in
          if_so (can_begin body vector head tail calls) (turn_begun machine body vector v calls head tail plan) e (Leaves given body)
          (λ z. record {
            slots = λ l. inl refl;
            scopes = refl;
            passed = refl;
            work = refl;
            sends = Each-append (λ (s : Send). IsOfNoWork s.message) (put_sends machine vector plan.puts) (get_sends machine vector plan.gets) (puts_go machine vector plan.puts) (gets_go machine vector plan.gets);
          }) h
      by None [] h = absurd (cc)
      by (Some t) groups h = absurd (cc)

  of_put : (vector position word : ℕ) (o : Option Vector) (e : Outcome) → element_stored body from vector position word o ≡ Some e → Leaves given body e
  of_put vector position word None e h = absurd (cc)
  of_put vector position word (Some v) e h = by (v.part position) h
    where
      by : (old : Option ℕ) → element_put body from vector position word v old ≡ Some e → Leaves given body e
      by (Some old) h = absurd (cc)
      by None h = some_so _ e (Leaves given body) (record { slots = λ l. inl refl; scopes = refl; passed = refl; work = refl; sends = (tt, tt) }) h

  of_get : (vector position : ℕ) (o : Option Vector) (e : Outcome) → element_fetched body from vector position o ≡ Some e → Leaves given body e
  of_get vector position None e h = absurd (cc)
  of_get vector position (Some v) e h = by (v.part position) h
    where
      by : (old : Option ℕ) → element_got body from vector position v old ≡ Some e → Leaves given body e
      by None h = absurd (cc)
      by (Some word) h = some_so _ e (Leaves given body) (record { slots = λ l. inl refl; scopes = refl; passed = refl; work = refl; sends = (tt, tt) }) h

  of_ack : (vector position : ℕ) (got : Option ℕ) (o : Option Vector) (e : Outcome) → element_acked body vector position got o ≡ Some e → Leaves given body e
  of_ack vector position got None e h = absurd (cc)
  of_ack vector position got (Some v) e h = by v.turn h
    where
      answers : (t : Turn) (word : Option ℕ) → element_answered body vector v t position word ≡ Some e → Leaves given body e
      answers t None h = if_so (t.puts position) (quietly (with_turn body vector v (put_answered t position))) e (Leaves given body)
          (λ z. record { slots = λ l. inl refl; scopes = refl; passed = refl; work = refl; sends = tt }) h
      answers t (Some word) h = if_so (t.gets position) (quietly (with_turn body vector v (get_answered t position word))) e (Leaves given body)
          (λ z. record { slots = λ l. inl refl; scopes = refl; passed = refl; work = refl; sends = tt }) h

      by : (turn : Option Turn) → turn_answered body vector position got v turn ≡ Some e → Leaves given body e
      by None h = absurd (cc)
      by (Some t) h = answers t got h

  -- ---- a reply

  replies : (w : Waits) → awaits_reply w ≡ true → w ≡ wait.Reply
  replies wait.Reply e = refl
  replies _ e = absurd (cc)

  of_reply : ((l : ℕ) (u : Suspended) → body.tasks.slots l ≡ Some u → HasDepth given.program u × WaitStands given body l u u.waits) → (slot : ℕ) (id : TaskId) (word : Reply) (e : Outcome) → replied machine body slot id word ≡ Some e → Leaves given body e
  of_reply stands slot id word e h = if_so (task_awaits awaits_reply body slot id) (quietly (resumed machine body slot word)) e (Leaves given body) (λ z. by (body.tasks.slots slot) refl z) h
    where
      by : (o : Option Suspended) → body.tasks.slots slot ≡ o → named_awaits awaits_reply id o ≡ true → Leaves given body (quietly (resumed_task machine body slot word o))
      by None at z = absurd (cc)
      by (Some t) at z =
          let waits : t.waits ≡ wait.Reply = replies t.waits (and_parts (awaits_reply t.waits) (same_id t.id id) z).0 in
          let f = stands slot t at in
          record {
            slots = one_changes given body.tasks.slots _ slot t (goes_on machine t word) at refl
                (call_goes given t word (subst IsNoScope (sym waits) tt) (subst (WaitStands given body slot t) waits f.1) f.0);
            scopes = refl;
            passed = refl;
            work = refl;
            sends = tt;
          }

  -- ---- each kind

  each_leaves : ((l : ℕ) (u : Suspended) → body.tasks.slots l ≡ Some u → HasDepth given.program u × WaitStands given body l u u.waits)
      → (m : Msg) (e : Outcome) → IsOfOneCall m → serves machine me body from m ≡ Some e → Leaves given body e
  each_leaves stands (msg.Request slot id operation x y z) e q h = of_request slot id operation x y z e h
  each_leaves stands (msg.Reply slot id one other) e q h = of_reply stands slot id (reply one other) e h
  each_leaves stands msg.StealAsk e q h = some_so _ e (Leaves given body) (record { slots = λ l. inl refl; scopes = refl; passed = refl; work = refl; sends = tt }) h
  each_leaves stands (msg.Batch object key what batch) e q h = of_batch object key what batch (thing machine object) e h
  each_leaves stands (msg.Turn vector) e q h = of_turn vector (body.vectors.masters vector) e h
  each_leaves stands (msg.Grant vector head tail) e q h = of_grant vector head tail (body.vectors.vectors vector) e h
  each_leaves stands (msg.Done vector head tail) e q h = of_done vector head tail (body.vectors.masters vector) e h
  each_leaves stands (msg.ElemPut vector position word) e q h = of_put vector position word (body.vectors.vectors vector) e h
  each_leaves stands (msg.ElemGet vector position) e q h = of_get vector position (body.vectors.vectors vector) e h
  each_leaves stands (msg.ElemAck vector position got) e q h = of_ack vector position got (body.vectors.vectors vector) e h
  each_leaves stands _ e q h = absurd q

of_no_work : (m : Msg) → IsOfOneCall m → IsOfNoWork m
of_no_work (msg.BatchReply batch before) f = absurd f
of_no_work (msg.Spawn u) f = absurd f
of_no_work (msg.StealGive u) f = absurd f
of_no_work (msg.Complete s n) f = absurd f
of_no_work (msg.Leave s) f = absurd f
of_no_work (msg.Enrol s) f = absurd f
of_no_work (msg.EnrolAck s) f = absurd f
of_no_work _ f = tt

pub messages_keep_scopes : laws.MessagesKeepScopes
messages_keep_scopes given names w S me from m e st first q h =
    let f : Leaves given (bodies w me) e = each_leaves given me from (bodies w me) (λ l u at. let g = (st.scopes.cores me).slots l u at in (g.depth, g.waits)) m e q h in
    leaves_kept given names w S me (letter from m ∷ []) e st first.here (record { slots = f.slots; scopes = f.scopes; passed = f.passed; work = f.work; letters = (of_no_work m q, tt); sends = f.sends })
