-- The calls that wait on an object go off, as batches one after another.
use Rattle.std.proofs.Common.{◌≡◌, ◌⊎◌, ℕ, zero, suc, ◌+◌, ◌<◌, ◌==◌, ◌&&◌, if◌then◌else◌, List, [], ◌∷◌, ◌++◌, sym, ◌∙◌, ap, subst, refl, inl, inr, arith, append-nil, Option, Some, None}
use Rattle.std.proofs.lemmas.Bool.Decides.{nat_tests}
use Rattle.std.proofs.lemmas.List.{append_assoc}
use Rattle.gr_lang.specs.declared.action.WaitingCall.{WaitingCall}
use Rattle.gr_lang.specs.States.{State}
use Rattle.gr_view.specs.Places.{put}
use Rattle.gr_view.proofs.Puts.{put_by, put_put}
use Rattle.gr_msg.specs.declared.message.Msg.TheVariants as msg
use Rattle.gr_batch.specs.Batches.{batches_of, rest_of}
use Rattle.gr_batch.specs.declared.combiner.Batch.{Batch}
use Rattle.gr_batch.specs.declared.combiner.Held.{Held}
use Rattle.gr_vector.specs.Groups.{group_of}
use Rattle.gr_net.specs.Sums.{Each}
use Rattle.gr_net.proofs.Spreads.{put_same, put_at, put_other, put_each, Each-map}
use Rattle.gr_machine.specs.declared.mark.Mark.{Mark}
use Rattle.gr_machine.specs.declared.mark.Mark.TheVariants as mark
use Rattle.gr_machine.specs.Machines.{Machine, thing}
use Rattle.gr_machine.specs.declared.waits.Waits.{Waits}
use Rattle.gr_machine.specs.declared.waits.Waits.TheVariants as wait
use Rattle.gr_machine.specs.States.{Suspended, Batches, Vector, Vectors, Body}
use Rattle.gr_machine.specs.Outcomes.{Send, Outcome, to, quietly, followed}
use Rattle.gr_machine.specs.Slots.{rewaiting, rewaiting_task}
use Rattle.gr_machine.specs.Closes.{batch_home, with_flying, batch_sent, batches_sent, with_combiner, closes_combiner, closes_as}
use Rattle.gr_machine.specs.Histories.{Sent}
use Rattle.gr_stands.specs.Worlds.{Given, machine_in, World, bodies, Acts}
use Rattle.gr_stands.specs.Calls.{StandsAt, mode_of, is_told}
use Rattle.gr_stands.specs.CallActs.{Apart}
use Rattle.gr_stands.specs.Stands.{Stands}
use Rattle.gr_stands.proofs.Worlds.{acted_bodies}
use Rattle.gr_stands.proofs.Calls.{place_cases}
use Rattle.gr_stands_calls.proofs.Slots.{some_same}
use Rattle.gr_stands_outcomes.specs.Marks.{sent_from}
use Rattle.gr_stands_outcomes.specs.Laws.{ComesApart}
use Rattle.gr_stands_outcomes.proofs.Inner.{outcomes_come_apart}
use Rattle.gr_batches.specs.Keys.{IsOn}
use Rattle.gr_batches.specs.Batches.{is_closing, IsCaller, IsHeld, CoreStands, StandsBefore, is_under_way, BatchesStand}
use Rattle.gr_batches.specs.BatchActs.{BatchesAct}
use Rattle.gr_batches.proofs.Kept.{batches_kept}
use Rattle.gr_batches.proofs.Cores.{closing_self}
use Rattle.gr_batches_takes.specs.Taking.{KeepsBatches}
use Rattle.gr_batches_events.proofs.Frame.{framed}
use Rattle.gr_batches_closes.proofs.Parts.{IsPart, are_parts}
use Rattle.gr_batches_events.proofs.Turned.{waited_batches, waited_vectors}
use Rattle.gr_batches_closes.specs.Laws as laws
use Rattle.gr_batches_closes.proofs.Held.{ordered, are_held, core_ordered}
use Rattle.gr_batches_closes.proofs.Groups.{group_closes}
use Rattle.gr_batches_closes.proofs.Sends.{held_for, held_of, sent_body, callers, move, now_is, core_sent}

-- ---- outcomes

both_followed : (machine : Machine) (object : ℕ) (batches : List Batch) (e : Outcome)
    → batches_sent machine object e batches ≡ followed e (batches_sent machine object (quietly e.body) batches)
both_followed machine object [] e = ap (λ (ss : List Send). record e { sends = ss }) (sym (append-nil e.sends))
    ∙ ap (λ (ms : List Mark). record { body = e.body; sends = e.sends ++ []; marks = ms }) (sym (append-nil e.marks))
both_followed machine object (batch ∷ batches) e =
    let one : Outcome = batch_sent machine e.body object batch in
    let rest : Outcome = batches_sent machine object (quietly one.body) batches in
    both_followed machine object batches (followed e one)
    ∙ ap (λ (ss : List Send). record { body = rest.body; sends = ss; marks = (e.marks ++ one.marks) ++ rest.marks }) (append_assoc e.sends one.sends rest.sends)
    ∙ ap (λ (ms : List Mark). record { body = rest.body; sends = e.sends ++ (one.sends ++ rest.sends); marks = ms }) (append_assoc e.marks one.marks rest.marks)
    ∙ ap (followed e) (sym (both_followed machine object batches one))

-- The calls that are held change nothing of tasks that wait for something else.
apart_once : (a : Body) (object k : ℕ) (held : List Held) (reason : Waits) (o : Option Suspended) → rewaiting_task (with_combiner a object held) k reason o ≡ with_combiner (rewaiting_task a k reason o) object held
apart_once a object k held reason None = refl
apart_once a object k held reason (Some task) = refl

apart_all : (a : Body) (object : ℕ) (held : List Held) (reason : Waits) (calls : List WaitingCall) → rewaiting (with_combiner a object held) reason calls ≡ with_combiner (rewaiting a reason calls) object held
apart_all a object held reason [] = refl
apart_all a object held reason (call ∷ calls) = ap (λ (x : Body). rewaiting x reason calls) (apart_once a object call.slot held reason (a.tasks.slots call.slot))
    ∙ apart_all (rewaiting_task a call.slot reason (a.tasks.slots call.slot)) object held reason calls

-- The core after a batch, where some calls are held, with others in their place.
body_is : (machine : Machine) (a : Body) (object : ℕ) (batch : Batch) (left rest : List Held)
    → with_combiner (sent_body a object batch.calls left) object rest ≡ (batch_sent machine (with_combiner a object rest) object batch).body
body_is machine a object batch left rest =
    let r : Body = rewaiting a (wait.Batch a.batches.next) batch.calls in
    ap (λ (g : ℕ → List Held). record r { batches = record { combiners = g; flying = put a.batches.flying a.batches.next (Some batch.calls); next = a.batches.next + 1 } })
    (put_put a.batches.combiners object left rest)
    ∙ ap (λ (x : Batches). record r { batches = record { combiners = put x.combiners object rest; flying = put x.flying x.next (Some batch.calls); next = x.next + 1 } })
    (sym (waited_batches (wait.Batch a.batches.next) batch.calls a))
    ∙ ap (λ (x : Body). with_flying x batch.calls) (sym (apart_all a object rest (wait.Batch a.batches.next) batch.calls))

mail_self : (me batch : ℕ) → (if me == me && batch == batch then suc zero else zero) ≡ suc zero
mail_self me batch = grind (arith, nat_tests)

mail_other : (me batch one number : ℕ) → ((one ≡ me) × (number ≡ batch) → ⊥) → (if me == one && batch == number then suc zero else zero) ≡ zero
mail_other me batch one number ne = grind (arith, nat_tests)

module _ (given : Given) (S : State) (me object : ℕ) (here : me < given.setup.cores) where
  abbrev machine : Machine
  machine = machine_in given

  abbrev On : Held → Type 0
  On one = IsOn machine object one.key one.call.op

  -- The calls of these batches are held, and after them those that stay.
  record Pending (sent : Sent) (w : World) (batches : List Batch) (rest : List Held) : Type 0 where
    old : BatchesStand given sent w S
    none : (bodies w me).vectors.vectors object ≡ None
    held : (bodies w me).batches.combiners object ≡ held_of batches ++ rest
    are : Each (IsPart On) batches
    stands : (slot : ℕ) (u : Suspended) → (bodies w me).tasks.slots slot ≡ Some u → u.waits ≡ wait.Close object → StandsAt S u

  stands_as : (n : ℕ) (u v : Suspended) → u.waits ≡ wait.Close object → v ≡ record u { waits = wait.Batch n } → StandsAt S u → StandsAt S v
  stands_as n u v waits e st = subst (StandsAt S) (sym e)
      (record { plain = st.plain; there = st.there; action = st.action; running = st.running; mode = st.mode ∙ ap (λ (q : Waits). mode_of q u.action) waits })

  -- ---- one batch

  module _ (sent : Sent) (w : World) (batch : Batch) (batches : List Batch) (rest : List Held) (p : Pending sent w (batch ∷ batches) rest) where
    abbrev a : Body
    a = bodies w me

    abbrev number : ℕ
    number = a.batches.next

    abbrev left : List Held
    left = held_of batches ++ rest

    abbrev e : Outcome
    e = record {
      body = sent_body a object batch.calls left;
      sends = to (batch_home machine (thing machine object) batch.key) (msg.Batch object batch.key batch.effect number);
      marks = mark.Closed number batch.calls ∷ [];
    }

    abbrev more : Sent
    more = put sent me (put (sent me) number batch.calls)

    abbrev B : ℕ → Body
    B = put (bodies w) me e.body

    held : a.batches.combiners object ≡ held_for batch.key batch.calls ++ left
    held = p.held ∙ append_assoc (held_for batch.key batch.calls) (held_of batches) rest

    core : CoreStands machine e.body
    core = core_sent machine a object batch.key batch.calls left (p.old.cores me) p.none held

    mine : B me ≡ e.body
    mine = put_same (bodies w) me e.body

    fresh : a.batches.flying number ≡ None
    fresh = (p.old.cores me).fresh number (omega arith)

    its : (B me).batches.flying number ≡ Some batch.calls
    its = ap (λ (x : Body). x.batches.flying number) mine ∙ put_same a.batches.flying number (Some batch.calls)

    others : (one other : ℕ) → Apart me number one other → (B one).batches.flying other ≡ (bodies w one).batches.flying other
    others one other ne = put_each (λ (i : ℕ) (x : Body). x.batches.flying other ≡ (bodies w i).batches.flying other) (bodies w) me e.body one
        (λ q. put_other a.batches.flying number (Some batch.calls) other (λ r. ne (q, r)) ∙ ap (λ (i : ℕ). (bodies w i).batches.flying other) (sym q)) (λ q. refl)

    -- A task in a slot: it was there before, or it waited for this and waits for the batch.
    slot_is : (slot : ℕ) (u : Suspended) → e.body.tasks.slots slot ≡ Some u
        → (a.tasks.slots slot ≡ Some u) ⊎ ((u.waits ≡ wait.Batch number) × StandsAt S u)
    slot_is slot u at = elim (move machine a object batch.key batch.calls left (p.old.cores me) p.none held slot) [
      | inl q ↦ inl (sym q.1 ∙ sym (now_is machine a object batch.key batch.calls left (p.old.cores me) p.none held slot) ∙ at)
      | inr h ↦ let is : h.new ≡ u = some_same h.new u (sym h.after ∙ sym (now_is machine a object batch.key batch.calls left (p.old.cores me) p.none held slot) ∙ at) in
          inr (
            ap (λ (x : Suspended). x.waits) (sym is) ∙ ap (λ (x : Suspended). x.waits) h.fact.goes,
            stands_as number h.old u h.fact.was (sym is ∙ h.fact.goes) (p.stands slot h.old h.there h.fact.was),
          )
    ]

    kept_slot : (slot other : ℕ) (u : Suspended) → a.tasks.slots slot ≡ Some u → u.waits ≡ wait.Batch other → e.body.tasks.slots slot ≡ Some u
    kept_slot slot other u at waits = elim (move machine a object batch.key batch.calls left (p.old.cores me) p.none held slot) [
      | inl q ↦ now_is machine a object batch.key batch.calls left (p.old.cores me) p.none held slot ∙ q.1 ∙ at
      | inr h ↦ absurd (omega (
        arith,
        ap (is_closing object) waits,
        ap (λ (x : Suspended). is_closing object x.waits) (some_same h.old u (sym h.there ∙ at)),
        ap (is_closing object) h.fact.was,
        closing_self object,
      ))
    ]

    all_before : (cs : List WaitingCall) → Each (IsCaller a (wait.Close object)) cs → Each (StandsBefore S (B me)) cs
    all_before [] f = tt
    all_before (call ∷ cs) f = (
      λ u at. elim (slot_is call.slot u (ap (λ (x : Body). x.tasks.slots call.slot) (sym mine) ∙ at)) [
        | inl q ↦ p.stands call.slot u q (ap (λ (x : Suspended). x.waits) (some_same u f.0.task (sym q ∙ f.0.there)) ∙ f.0.waits)
        | inr q ↦ q.1
      ],
      all_before cs f.1,
    )

    act : BatchesAct given sent more w me [] e S S me number (Some batch.calls) []
    act = record {
      stands = core;
      change = record { here = its; other = others };
      kept = λ id x other h. h;
      others_stay = λ one slot other u ne at waits. (
        put_each (λ (i : ℕ) (x : Body). x.tasks.slots slot ≡ Some u) (bodies w) me e.body one
            (λ q. kept_slot slot other u (ap (λ (i : ℕ). (bodies w i).tasks.slots slot) (sym q) ∙ at) waits) (λ q. at),
        tt,
      );
      sends = (
        record {
          sender = here;
          homed = refl;
          calls = batch.calls;
          there = its;
          some = p.are.0.some;
          on = p.are.0.calls;
          folds = p.are.0.folds;
          before = all_before batch.calls (callers machine a object batch.key batch.calls left (p.old.cores me) p.none held);
        },
        tt,
      );
      quiet = p.old.mail me number ∙ ap is_under_way fresh;
      mailed = omega (arith, mail_self me number);
      others = λ one other ne. omega (arith, mail_other me number one other ne);
      noted = λ one other some h. elim (place_cases one me other number) [
        | inl q ↦ ap (λ (x : ℕ → List WaitingCall). x other) (put_at sent me (put (sent me) number batch.calls) one q.0) ∙ put_at (sent me) number batch.calls other q.1
            ∙ some_same batch.calls some (sym its ∙ ap (λ (i : ℕ). (B i).batches.flying number) (sym q.0) ∙ ap (λ (n : ℕ). (B one).batches.flying n) (sym q.1) ∙ h)
        | inr ne ↦ put_each (λ (i : ℕ) (x : ℕ → List WaitingCall). i ≡ one → x other ≡ sent one other) sent me (put (sent me) number batch.calls) one
            (λ q r. put_other (sent me) number batch.calls other (λ z. ne (q, z)) ∙ ap (λ (i : ℕ). sent i other) (sym q)) (λ q r. refl) refl
            ∙ p.old.noted one other some (sym (others one other ne) ∙ h)
      ];
    }

    next : (v : World) → Acts given.setup.cores w v me [] e → Pending more v batches rest
    next v acts =
        let same : bodies v ≡ B = acted_bodies given.setup.cores w v me [] e acts in
        let at : bodies v me ≡ e.body = ap (λ (x : ℕ → Body). x me) same ∙ mine in
        record {
          old = batches_kept given sent more w v me [] e S S me number (Some batch.calls) [] acts act p.old;
          none = ap (λ (x : Body). x.vectors.vectors object) at ∙ ap (λ (x : Vectors). x.vectors object) (waited_vectors (wait.Batch number) batch.calls a) ∙ p.none;
          held = ap (λ (x : Body). x.batches.combiners object) at ∙ put_same a.batches.combiners object left;
          are = p.are.1;
          stands = λ slot u there waits. elim (slot_is slot u (ap (λ (x : Body). x.tasks.slots slot) (sym at) ∙ there)) [
            | inl q ↦ p.stands slot u q waits
            | inr q ↦ q.1
          ];
        }

  -- ---- all of them

  off : (batches : List Batch) (sent : Sent) (w : World) (rest : List Held) → Pending sent w batches rest → (v : World) (e : Outcome)
      → e ≡ batches_sent machine object (quietly (with_combiner (bodies w me) object rest)) batches → Acts given.setup.cores w v me [] e → BatchesStand given (sent_from sent me e.marks) v S
  off [] sent w rest p v e is acts =
      let a : Body = bodies w me in
      let same : with_combiner a object rest ≡ a = ap (λ (g : ℕ → List Held). record a { batches = record a.batches { combiners = g } })
      (sym (put_by a.batches.combiners a.batches.combiners object rest p.held (λ q n. refl))) in
      subst (λ (ms : List Mark). BatchesStand given (sent_from sent me ms) v S) (sym (ap (λ (x : Outcome). x.marks) is))
      (framed given sent w me [] (quietly a) S S [] (record {
        stands = p.old.cores me;
        flying = refl;
        slots = λ slot number u at waits. at;
        letters = tt;
        sends = tt;
        marks = tt;
        kept = λ id x other h. h;
        others = λ d l u at q. tt;
      }) p.old v (subst (Acts given.setup.cores w v me []) (is ∙ ap (λ (x : Body). quietly x) same) acts))
  off (batch ∷ batches) sent w rest p v e is acts =
      let n = given.setup.cores in
      let a : Body = bodies w me in
      let left : List Held = held_of batches ++ rest in
      let one : Outcome = batch_sent machine (with_combiner a object rest) object batch in
      let more : Outcome = batches_sent machine object (quietly one.body) batches in
      let first : Outcome = record { body = sent_body a object batch.calls left; sends = one.sends; marks = one.marks } in
      let parts : e ≡ followed first more = is ∙ both_followed machine object batches one in
      let both : Acts n w v me [] (followed first more) = subst (Acts n w v me []) parts acts in
      let comes : ComesApart n w v me [] first more = outcomes_come_apart n w v me [] first more both in
      let u : World = comes.between in
      let at : bodies u me ≡ first.body = ap (λ (x : ℕ → Body). x me) (acted_bodies n w u me [] first comes.begins) ∙ put_same (bodies w) me first.body in
      let rest_is : more ≡ batches_sent machine object (quietly (with_combiner (bodies u me) object rest)) batches
      = ap (λ (x : Body). batches_sent machine object (quietly x) batches) (sym (body_is machine a object batch left rest))
      ∙ ap (λ (x : Body). batches_sent machine object (quietly (with_combiner x object rest)) batches) (sym at) in
      subst (λ (ms : List Mark). BatchesStand given (sent_from sent me ms) v S) (sym (ap (λ (x : Outcome). x.marks) parts))
      (off batches (put sent me (put (sent me) a.batches.next batch.calls)) u rest (next sent w batch batches rest p u comes.begins) v more rest_is comes.follows)

  pub combiner_closes : (sent : Sent) (w : World) → Stands given w S → BatchesStand given sent w S → (bodies w me).vectors.vectors object ≡ None
      → (held : List Held) → (bodies w me).batches.combiners object ≡ held → KeepsBatches given sent w me [] (closes_combiner machine (bodies w me) object held) S
  combiner_closes sent w st bs none held is v acts =
      let n = given.setup.cores in
      let a : Body = bodies w me in
      let rest : List Held = rest_of held in
      let all : Outcome = closes_combiner machine a object held in
      let first : Body = with_combiner a object (ordered machine a object held (bs.cores me) none is) in
      let comes : ComesApart n w v me [] (quietly first) all = outcomes_come_apart n w v me [] (quietly first) all acts in
      let u : World = comes.between in
      let at : bodies u me ≡ first = ap (λ (x : ℕ → Body). x me) (acted_bodies n w u me [] (quietly first) comes.begins) ∙ put_same (bodies w) me first in
      let held_is : all ≡ batches_sent machine object (quietly (with_combiner (bodies u me) object rest)) (batches_of held)
      = ap (λ (g : ℕ → List Held). batches_sent machine object (quietly (record a { batches = record a.batches { combiners = g } })) (batches_of held))
      (sym (put_put a.batches.combiners object (ordered machine a object held (bs.cores me) none is) rest))
      ∙ ap (λ (x : Body). batches_sent machine object (quietly (with_combiner x object rest)) (batches_of held)) (sym at) in
      off (batches_of held) sent u rest (record {
        old = framed given sent w me [] (quietly first) S S [] (record {
          stands = core_ordered machine a object held (bs.cores me) none is;
          flying = refl;
          slots = λ slot number x there waits. there;
          letters = tt;
          sends = tt;
          marks = tt;
          kept = λ id x other h. h;
          others = λ d l x there q. tt;
        }) bs u comes.begins;
        none = ap (λ (x : Body). x.vectors.vectors object) at ∙ none;
        held = ap (λ (x : Body). x.batches.combiners object) at ∙ put_same a.batches.combiners object (ordered machine a object held (bs.cores me) none is);
        are = are_parts On held (Each-map (IsHeld machine first object) On (λ one g. g.on) held (are_held machine a object held (bs.cores me) none is));
        stands = λ slot x there waits. (st.calls.tasks.slots me slot x (ap (λ (y : Body). y.tasks.slots slot) (sym at) ∙ there)).stands (ap is_told waits);
      }) v all held_is comes.follows

pub closes_keep_batches : laws.ClosesKeepBatches
closes_keep_batches given sent w S me object sound st bs here tells = by ((bodies w me).vectors.vectors object) refl
  where
    by : (o : Option Vector) → (bodies w me).vectors.vectors object ≡ o → KeepsBatches given sent w me [] (closes_as (machine_in given) (bodies w me) object o) S
    by None e = combiner_closes given S me object here sent w st bs e ((bodies w me).batches.combiners object) refl
    by (Some vector) e = group_closes given sent w S me object vector e (group_of vector.combiner) (tells vector e) bs
