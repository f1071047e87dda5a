-- What batches tell of calls that come back, and of calls that go off.
use Rattle.std.proofs.Common.{◌≡◌, ◌≢◌, ℕ, zero, suc, ◌+◌, ◌≤◌, ◌==◌, if◌then◌else◌, List, [], ◌∷◌, sym, ◌∙◌, ap, subst, refl, arith, Option, Some, None}
use Rattle.std.proofs.lemmas.Bool.Decides.{nat_tests}
use Rattle.gr_lang.specs.declared.action.WaitingCall.{WaitingCall}
use Rattle.gr_lang.specs.Effects.{after, effect_of}
use Rattle.gr_lang.specs.States.{State}
use Rattle.gr_msg.specs.declared.message.Msg.TheVariants as msg
use Rattle.gr_batch.specs.Batches.{batches_of}
use Rattle.gr_batch.specs.Folding.{wakes_of}
use Rattle.gr_batch.specs.declared.combiner.Batch.{Batch}
use Rattle.gr_batch.specs.declared.combiner.Held.{Held}
use Rattle.gr_batch.specs.declared.wakes.Woken.{Woken}
use Rattle.gr_net.specs.Sums.{weigh, Each}
use Rattle.gr_net.proofs.Spreads.{Each-map}
use Rattle.gr_machine.specs.Machines.{Machine}
use Rattle.gr_machine.specs.declared.waits.Waits.{Waits}
use Rattle.gr_machine.specs.declared.waits.Waits.TheVariants as wait
use Rattle.gr_machine.specs.States.{Letter, Suspended, Body}
use Rattle.gr_machine.specs.Histories.{Sent}
use Rattle.gr_stands.specs.Worlds.{Given, machine_in, World, bodies}
use Rattle.gr_stands_calls.specs.Acting.{letter, IsFirstLetter}
use Rattle.gr_stands_calls.proofs.Slots.{some_same}
use Rattle.gr_stands_closes.specs.Closing.{AreHeld}
use Rattle.gr_stands_series.specs.Lists.{IsPending, MayGoOn, AllMayGoOn}
use Rattle.gr_scopes_stays.specs.Stays.{AreApart}
use Rattle.gr_batches.specs.Batches.{IsCaller, is_at, flying_at, IsHeld, CoreStands, StandsAfter, ReplyStands, MessageStands, BatchesStand}
use Rattle.gr_batches_takes.proofs.Names.{flying_le}
use Rattle.gr_batches_closes.proofs.Parts.{IsPart, are_parts}
use Rattle.gr_batches_tells.specs.Laws as laws

-- ---- calls in slots of their own

none_at : (slot : ℕ) (calls : List WaitingCall) → weigh (is_at slot) calls ≡ 0 → Each (λ call. call.slot ≢ slot) calls
none_at slot [] e = tt
none_at slot (call ∷ calls) e = (away call.slot slot (omega (arith, e)), none_at slot calls (omega (arith, e)))
  where
    away : (one other : ℕ) → (if one == other then suc zero else zero) ≡ 0 → one ≢ other
    away one other h q = grind (arith, nat_tests)

apart_of : (calls : List WaitingCall) → ((slot : ℕ) → weigh (is_at slot) calls ≤ 1) → AreApart calls
apart_of [] f = tt
apart_of (call ∷ calls) f =
    (none_at call.slot calls (omega (arith, f call.slot, itself call.slot)), apart_of calls (λ slot. omega (arith, f slot)))
  where
    itself : (slot : ℕ) → (if slot == slot then suc zero else zero) ≡ 1
    itself slot = grind (arith, nat_tests)

wakes_away : (slot : ℕ) (calls : List WaitingCall) (before : Option ℕ) → Each (λ call. call.slot ≢ slot) calls → Each (λ wake. wake.slot ≢ slot) (wakes_of calls before)
wakes_away slot [] before f = tt
wakes_away slot (call ∷ calls) before f = (f.0, wakes_away slot calls (after (effect_of call.op) before) f.1)

module _ (machine : Machine) (a : Body) (batch : ℕ) (old : CoreStands machine a) where
  apart_in : (calls : List WaitingCall) → a.batches.flying batch ≡ Some calls → AreApart calls
  apart_in calls there = apart_of calls
      (λ slot. omega (arith, ap (flying_at slot) there, old.each batch slot, flying_le batch (a.tasks.slots slot)))

  waits_so : (call : WaitingCall) (reason : Waits) → IsCaller a reason call → (task : Suspended) → a.tasks.slots call.slot ≡ Some task → task.waits ≡ reason
  waits_so call reason f task h = ap (λ (t : Suspended). t.waits) (some_same task f.task (sym h ∙ f.there)) ∙ f.waits

  pending : (waits : Waits) → waits ≡ wait.Batch batch → IsPending waits
  pending waits e = subst IsPending (sym e) (record { not_going = refl; not_asking = refl })

  all_go : (S : State) (calls : List WaitingCall) (before : Option ℕ) → Each (IsCaller a (wait.Batch batch)) calls → AreApart calls
      → Each (StandsAfter machine S a) (wakes_of calls before) → AllMayGoOn machine S a (wakes_of calls before)
  all_go S [] before f p g = tt
  all_go S (call ∷ calls) before f p g = (
    λ task h. record { pending = pending task.waits (waits_so call (wait.Batch batch) f.0 task h); stands = g.0 task h },
    wakes_away call.slot calls (after (effect_of call.op) before) p.0,
    all_go S calls (after (effect_of call.op) before) f.1 p.1 g.1,
  )

  held_so : (object : ℕ) (held : List Held) → Each (IsHeld machine a object) held → Each (λ batch. AreHeld a object batch.calls) (batches_of held)
  held_so object held f = Each-map (IsPart (IsHeld machine a object)) (λ b. AreHeld a object b.calls)
      (λ b part. Each-map (λ call. IsHeld machine a object (record { key = b.key; call = call })) (λ call. (task : Suspended) → a.tasks.slots call.slot ≡ Some task → task.waits ≡ wait.Close object)
      (λ call g task h. waits_so call (wait.Close object) g.caller task h) b.calls part.calls)
      (batches_of held) (are_parts (IsHeld machine a object) held f)

-- ---- the laws

came_back : (given : Given) (sent : Sent) (w : World) (S : State) (me from batch : ℕ) (before : Option ℕ) → BatchesStand given sent w S
    → IsFirstLetter given w me from (msg.BatchReply batch before) → ReplyStands given (bodies w) S me batch before
came_back given sent w S me from batch before bs first =
    (subst (Each (λ (l : Letter). MessageStands given (bodies w) S l.from me l.message)) first.without.inbox (bs.messages.inboxes me first.here)).0

replies_go : (given : Given) (sent : Sent) (w : World) (S : State) (me batch : ℕ) (before : Option ℕ) (calls : List WaitingCall) → BatchesStand given sent w S
    → (bodies w me).batches.flying batch ≡ Some calls → (f : ReplyStands given (bodies w) S me batch before)
    → AllMayGoOn (machine_in given) S (bodies w me) (wakes_of calls before)
replies_go given sent w S me batch before calls bs there f =
    all_go (machine_in given) (bodies w me) batch (bs.cores me) S calls before ((bs.cores me).callers batch calls there)
    (apart_in (machine_in given) (bodies w me) batch (bs.cores me) calls there)
    (subst (λ (cs : List WaitingCall). Each (StandsAfter (machine_in given) S (bodies w me)) (wakes_of cs before)) (some_same f.calls calls (sym f.there ∙ there)) f.after)

pub replies_tell : laws.RepliesTell
replies_tell given sent w S me from batch before bs first calls there =
    replies_go given sent w S me batch before calls bs there (came_back given sent w S me from batch before bs first)

pub batches_are_apart : laws.BatchesAreApart
batches_are_apart given sent w S me batch bs calls there = apart_in (machine_in given) (bodies w me) batch (bs.cores me) calls there

pub held_tell : laws.HeldTell
held_tell given sent w S me object bs none = held_so (machine_in given) (bodies w me) 0 (bs.cores me) object ((bodies w me).batches.combiners object) ((bs.cores me).combiners object none).held
