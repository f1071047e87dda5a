-- The calls of a batch get their replies, calls go off, and turns are finished.
use Rattle.std.proofs.Common.{◌≡◌, ◌≢◌, ℕ, ◌<◌, ◌&&◌, Bool, true, false, if◌then◌else◌, List, [], ◌∷◌, ◌++◌, drop, inl, sym, ◌∙◌, ap, subst, refl, Option, Some, None}
use Rattle.std.proofs.lemmas.Bool.{and_parts}
use Rattle.gr_lang.specs.declared.action.Reply.{Reply}
use Rattle.gr_lang.specs.declared.action.WaitingCall.{WaitingCall}
use Rattle.gr_lang.specs.Effects.{after, effect_of, line_after}
use Rattle.gr_lang.specs.States.{State}
use Rattle.gr_msg.specs.declared.message.Msg.TheVariants as msg
use Rattle.gr_batch.specs.declared.wakes.Woken.{Woken}
use Rattle.gr_batch.specs.Batches.{batches_of, rest_of}
use Rattle.gr_batch.specs.declared.combiner.Batch.{Batch}
use Rattle.gr_batch.specs.Folding.{wakes_of}
use Rattle.gr_vector.specs.Groups.{group_of}
use Rattle.gr_vector.specs.declared.ends.Ends.{Ends}
use Rattle.gr_net.specs.Sums.{Each}
use Rattle.gr_net.proofs.Spreads.{Each-append}
use Rattle.gr_machine.specs.Machines.{Machine}
use Rattle.gr_machine.specs.declared.waits.Waits.{Waits}
use Rattle.gr_machine.specs.declared.waits.Waits.TheVariants as wait
use Rattle.gr_machine.specs.States.{Suspended, Stops, Turn, Vector, Body}
use Rattle.gr_machine.specs.Outcomes.{Outcome, Send, quietly, followed}
use Rattle.gr_machine.specs.Slots.{awaits_batch, named_awaits, task_awaits, calls_await, same_id, resumed_all}
use Rattle.gr_machine.specs.BatchServes.{can_wake, without_batch, batch_replied}
use Rattle.gr_machine.specs.Closes.{with_combiner, batch_sent, batches_sent, closes_combiner, closes_vector, closes_as}
use Rattle.gr_machine.specs.TurnServes.{with_vector, turn_replies, wakes, turn_finished}
use Rattle.gr_stands.specs.Worlds.{Given, machine_in, World, bodies}
use Rattle.gr_stands_calls.specs.Acting.{letter}
use Rattle.gr_stands_closes.specs.Closing.{AreHeld, CloseTells}
use Rattle.gr_stands_turns.specs.Turning.{AreAnswered, TurnTells}
use Rattle.gr_scopes.specs.Trees.{tree_of, Names}
use Rattle.gr_scopes.specs.Scopes.{IsCall, WaitStands}
use Rattle.gr_scopes_opens.specs.Keeping.{KeepsScopes, StandsWith}
use Rattle.gr_scopes_opens.proofs.Common.{some_same}
use Rattle.gr_scopes_stays.specs.Stays.{IsNoScope, IsOfNoWork, AreApart}
use Rattle.gr_scopes_stays.specs.Laws as laws
use Rattle.gr_scopes_stays.proofs.Stays.{leaves_kept}
use Rattle.gr_scopes_stays.proofs.Slots.{Calls, CallsIn, OnlyTasks, only_both, Rewaited, rewaited_stay, rewaits_all, AllApart, resumes_all}

-- ---- what the core's tasks wait for

module _ (given : Given) (names : Names) (w : World) (S : State) (me : ℕ) (st : StandsWith given names w S) (here : me < given.setup.cores) where
  abbrev machine : Machine
  machine = machine_in given

  abbrev a : Body
  a = bodies w me

  calls_at : (t : Suspended) (k : ℕ) → a.tasks.slots k ≡ Some t → (r : Waits) → t.waits ≡ r → IsNoScope r → (WaitStands given a k t r → IsCall t.action) → Calls given t
  calls_at t k at r waits calm call =
      let f = (st.scopes.cores me).slots k t at in
      record { calm = subst IsNoScope (sym waits) calm; call = call (subst (WaitStands given a k t) waits f.waits); depth = f.depth }

  -- ---- replies of a batch

  awaited : (batch : ℕ) (x : Waits) → awaits_batch batch x ≡ true → (n : ℕ) × (x ≡ wait.Batch n)
  awaited batch (wait.Batch n) e = (n, refl)
  awaited batch _ e = absurd (cc)

  in_batch : (batch : ℕ) (call : WaitingCall) → task_awaits (awaits_batch batch) a call.slot call.id ≡ true → CallsIn given a.tasks.slots call.slot
  in_batch batch call e t at =
      let both : (awaits_batch batch t.waits && same_id t.id call.id) ≡ true = ap (named_awaits (awaits_batch batch) call.id) (sym at) ∙ e in
      let n = awaited batch t.waits (and_parts (awaits_batch batch t.waits) (same_id t.id call.id) both).0 in
      calls_at t call.slot at (wait.Batch n.0) n.1 tt (λ f. f)

  in_batches : (batch : ℕ) (calls : List WaitingCall) (before : Option ℕ) → calls_await (awaits_batch batch) a calls ≡ true → Each (λ (x : Woken). CallsIn given a.tasks.slots x.slot) (wakes_of calls before)
  in_batches batch [] before e = tt
  in_batches batch (call ∷ calls) before e =
      let p = and_parts (task_awaits (awaits_batch batch) a call.slot call.id) (calls_await (awaits_batch batch) a calls) e in
      (in_batch batch call p.0, in_batches batch calls (after (effect_of call.op) before) p.1)

  apart_from : (k : ℕ) (calls : List WaitingCall) (before : Option ℕ) → Each (λ (x : WaitingCall). x.slot ≢ k) calls → Each (λ (x : Woken). x.slot ≢ k) (wakes_of calls before)
  apart_from k [] before f = tt
  apart_from k (call ∷ calls) before f = (f.0, apart_from k calls (after (effect_of call.op) before) f.1)

  all_apart : (calls : List WaitingCall) (before : Option ℕ) → AreApart calls → AllApart (wakes_of calls before)
  all_apart [] before f = tt
  all_apart (call ∷ calls) before f = (apart_from call.slot calls (after (effect_of call.op) before) f.0, all_apart calls (after (effect_of call.op) before) f.1)

  untouched : (ws : List Woken) → Each (λ (x : Woken). a.tasks.slots x.slot ≡ a.tasks.slots x.slot) ws
  untouched [] = tt
  untouched (x ∷ ws) = (refl, untouched ws)

  batch_keeps : (from batch : ℕ) (before : Option ℕ) (e : Outcome) (calls : List WaitingCall) → AreApart calls → can_wake a batch before calls ≡ true
      → quietly (without_batch (resumed_all machine a (wakes_of calls before)) batch) ≡ e → KeepsScopes given w me (letter from (msg.BatchReply batch before) ∷ []) e names (tree_of S)
  batch_keeps from batch before e calls apart can is =
      let ws = wakes_of calls before in
      let r = resumes_all given a.tasks.slots ws a (λ l. inl refl) (untouched ws) (in_batches batch calls before (and_parts (calls_await (awaits_batch batch) a calls) _ can).0) (all_apart calls before apart) in
      subst (λ (x : Outcome). KeepsScopes given w me (letter from (msg.BatchReply batch before) ∷ []) x names (tree_of S)) is
      (leaves_kept given names w S me (letter from (msg.BatchReply batch before) ∷ []) (quietly (without_batch (resumed_all machine a ws) batch)) st here (record {
        slots = r.0;
        scopes = r.1.scopes;
        passed = ap (λ (x : Stops). x.passed) r.1.stops;
        work = r.1.work;
        letters = (tt, tt);
        sends = tt;
      }))

  -- ---- the end of a turn

  module _ (number : ℕ) where
    in_turn : (answers : List (WaitingCall × Reply)) (words : List ℕ) → AreAnswered a number words answers → Each (λ (x : Woken). CallsIn given a.tasks.slots x.slot) (wakes answers)
    in_turn [] words f = tt
    in_turn (x ∷ answers) words f = (
      λ t at.
          let same : f.0.task ≡ t = some_same f.0.task t (sym f.0.there ∙ at) in
          calls_at t x.0.slot at (wait.Turn number) (ap (λ (u : Suspended). u.waits) (sym same) ∙ f.0.waits) tt (λ g. g),
      in_turn answers (line_after x.0.op words) f.2,
    )

    turn_from : (k : ℕ) (answers : List (WaitingCall × Reply)) → Each (λ (x : WaitingCall × Reply). x.0.slot ≢ k) answers → Each (λ (x : Woken). x.slot ≢ k) (wakes answers)
    turn_from k [] f = tt
    turn_from k (x ∷ answers) f = (f.0, turn_from k answers f.1)

    turn_apart : (answers : List (WaitingCall × Reply)) (words : List ℕ) → AreAnswered a number words answers → AllApart (wakes answers)
    turn_apart [] words f = tt
    turn_apart (x ∷ answers) words f = (turn_from x.0.slot answers f.1, turn_apart answers (line_after x.0.op words) f.2)

    turn_keeps : (vector : Vector) (turn : Turn) (ends : Ends) → TurnTells w S me number turn → KeepsScopes given w me [] (turn_finished machine a number vector turn ends) names (tree_of S)
    turn_keeps vector turn ends tells =
        let ws = wakes (turn_replies turn) in
        let b = with_vector a number (record vector { groups = drop 1 vector.groups; turn = None }) in
        let r = resumes_all given a.tasks.slots ws b (λ l. inl refl) (untouched ws) (in_turn (turn_replies turn) tells.words tells.answers) (turn_apart (turn_replies turn) tells.words tells.answers) in
        leaves_kept given names w S me [] (turn_finished machine a number vector turn ends) st here (record {
          slots = r.0;
          scopes = r.1.scopes;
          passed = ap (λ (x : Stops). x.passed) r.1.stops;
          work = r.1.work;
          letters = tt;
          sends = (tt, tt);
        })

  -- ---- calls go off

  held_calls : (object : ℕ) (calls : List WaitingCall) → AreHeld a object calls → Each (λ (x : WaitingCall). CallsIn given a.tasks.slots x.slot) calls
  held_calls object [] f = tt
  held_calls object (call ∷ calls) f = (λ t at. calls_at t call.slot at (wait.Close object) (f.0 t at) tt (λ g. g), held_calls object calls f.1)

  -- So far.
  record Gone (e : Outcome) : Type 0 where
    slots : Rewaited given a.tasks.slots e.body.tasks.slots
    only : OnlyTasks a e.body
    sends : Each (λ (s : Send). IsOfNoWork s.message) e.sends

  gone_keeps : (e : Outcome) → Gone e → KeepsScopes given w me [] e names (tree_of S)
  gone_keeps e g = leaves_kept given names w S me [] e st here (record {
    slots = rewaited_stay given a.tasks.slots e.body.tasks.slots g.slots;
    scopes = g.only.scopes;
    passed = ap (λ (x : Stops). x.passed) g.only.stops;
    work = g.only.work;
    letters = tt;
    sends = g.sends;
  })

  batch_gone : (object : ℕ) (e : Outcome) (batch : Batch) → AreHeld a object batch.calls → Gone e → Gone (followed e (batch_sent machine e.body object batch))
  batch_gone object e batch held g =
      let r = rewaits_all given a.tasks.slots (wait.Batch e.body.batches.next) (λ x f. f) batch.calls e.body g.slots (held_calls object batch.calls held) in
      record {
        slots = r.0;
        only = only_both a e.body _ g.only (record { scopes = r.1.scopes; stops = r.1.stops; work = r.1.work });
        sends = Each-append (λ (s : Send). IsOfNoWork s.message) e.sends (batch_sent machine e.body object batch).sends g.sends (tt, tt);
      }

  batches_gone : (object : ℕ) (batches : List Batch) (e : Outcome) → Each (λ (batch : Batch). AreHeld a object batch.calls) batches → Gone e → Gone (batches_sent machine object e batches)
  batches_gone object [] e held g = g
  batches_gone object (batch ∷ batches) e held g = batches_gone object batches (followed e (batch_sent machine e.body object batch)) held.1 (batch_gone object e batch held.0 g)

  closes_keep : (object : ℕ) (o : Option Vector) → a.vectors.vectors object ≡ o → CloseTells w me object → KeepsScopes given w me [] (closes_as machine a object o) names (tree_of S)
  closes_keep object None at tells =
      let held = a.batches.combiners object in
      gone_keeps (closes_combiner machine a object held)
      (batches_gone object (batches_of held) (quietly (with_combiner a object (rest_of held))) (tells.batches at)
      (record { slots = λ l. inl refl; only = record { scopes = refl; stops = refl; work = refl }; sends = tt }))
  closes_keep object (Some vector) at tells =
      let group = group_of vector.combiner in
      let b = with_vector a object (record vector { combiner = []; groups = vector.groups ++ group ∷ [] }) in
      let r = rewaits_all given a.tasks.slots (wait.Turn object) (λ x f. f) group b (λ l. inl refl) (held_calls object group (tells.group vector at)) in
      gone_keeps (closes_vector machine a object vector group) (record { slots = r.0; only = record { scopes = r.1.scopes; stops = r.1.stops; work = r.1.work }; sends = (tt, tt) })

-- ---- the laws

same_some : (x y : Outcome) → Some x ≡ Some y → x ≡ y
same_some x y e = cc

pub batch_replies_keep_scopes : laws.BatchRepliesKeepScopes
batch_replies_keep_scopes given names w S me from batch before e st first apart h = by ((bodies w me).batches.flying batch) refl h
  where
    by : (o : Option (List WaitingCall)) → (bodies w me).batches.flying batch ≡ o → batch_replied (machine_in given) (bodies w me) batch before o ≡ Some e
        → KeepsScopes given w me (letter from (msg.BatchReply batch before) ∷ []) e names (tree_of S)
    by None at h = absurd (cc)
    by (Some calls) at h = if_can (can_wake (bodies w me) batch before calls) refl h
      where
        if_can : (b : Bool) → can_wake (bodies w me) batch before calls ≡ b → (if b then Some (quietly (without_batch (resumed_all (machine_in given) (bodies w me) (wakes_of calls before)) batch)) else None) ≡ Some e
            → KeepsScopes given w me (letter from (msg.BatchReply batch before) ∷ []) e names (tree_of S)
        if_can true can h = batch_keeps given names w S me st first.here from batch before e calls (apart calls at) can
            (same_some (quietly (without_batch (resumed_all (machine_in given) (bodies w me) (wakes_of calls before)) batch)) e h)
        if_can false can h = absurd (cc)

pub closes_keep_scopes : laws.ClosesKeepScopes
closes_keep_scopes given names w S me object st here tells = closes_keep given names w S me st here object ((bodies w me).vectors.vectors object) refl tells

pub turn_ends_keep_scopes : laws.TurnEndsKeepScopes
turn_ends_keep_scopes given names w S me number vector turn ends st here tells = turn_keeps given names w S me st here number vector turn ends tells
