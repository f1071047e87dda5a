-- The tasks of the calls of a batch are no others.
use Rattle.std.proofs.Common.{◌≡◌, ℕ, List, [], ◌∷◌, sym, ◌∙◌, ap, subst, arith, Some}
use Rattle.gr_lang.specs.declared.action.TaskId.{TaskId}
use Rattle.gr_lang.specs.declared.action.WaitingCall.{WaitingCall}
use Rattle.gr_lang.specs.States.{State}
use Rattle.gr_msg.specs.declared.message.Msg.{Msg}
use Rattle.gr_msg.specs.declared.message.Msg.TheVariants as msg
use Rattle.gr_msg.specs.declared.message.Unit.{Unit as WorkUnit}
use Rattle.gr_msg.specs.declared.message.Unit.TheVariants as unit
use Rattle.gr_net.specs.Sums.{Each}
use Rattle.gr_net.proofs.Spreads.{Each-weaker}
use Rattle.gr_net.proofs.Flights.{every_with}
use Rattle.gr_machine.specs.declared.waits.Waits.{Waits}
use Rattle.gr_machine.specs.declared.waits.Waits.TheVariants as wait
use Rattle.gr_machine.specs.States.{Suspended}
use Rattle.gr_machine.specs.Nets.{messages_in}
use Rattle.gr_machine.specs.Slots.{same_id}
use Rattle.gr_stands.specs.Worlds.{Given, World, bodies}
use Rattle.gr_stands.specs.Censuses.{going_on}
use Rattle.gr_stands.specs.Calls.{CallsStand, StandsAt, mode_of, MessageFits}
use Rattle.gr_stands.specs.CallActs.{Apart, IsOther, IsOtherUnit, IsOtherIn, in_batch, AreElsewhere}
use Rattle.gr_stands.proofs.Places.{none_elsewhere}
use Rattle.gr_stands_calls.proofs.Slots.{some_same, alone}
use Rattle.gr_batches.specs.Batches.{IsCaller, StandsBefore}
use Rattle.gr_batches_takes.proofs.Names.{apart_names}
use Rattle.gr_batches_takes.proofs.Ran.{names}

same_number : (one other : ℕ) → wait.Batch one ≡ wait.Batch other → one ≡ other
same_number one other e = cc

-- ---- none of one task and none of some

both_unit : (id : TaskId) (ids : List TaskId) (u : WorkUnit) → IsOtherUnit (id ∷ []) u → IsOtherUnit ids u → IsOtherUnit (id ∷ ids) u
both_unit id ids (unit.Single target args scope origin name) p q = (p.0, q)
both_unit id ids (unit.Chunk target args scope origin owner lo hi grain) p q = tt

both_in : (id : TaskId) (ids : List TaskId) (from to : ℕ) (m : Msg) → IsOtherIn (id ∷ []) m → IsOtherIn ids m → IsOtherIn (id ∷ ids) m
both_in id ids from to (msg.Spawn u) p q = both_unit id ids u p q
both_in id ids from to (msg.StealGive u) p q = both_unit id ids u p q
both_in id ids from to _ p q = tt

-- Words weigh nothing.

module _ (given : Given) (w : World) (S : State) (old : CallsStand given w S) (from batch : ℕ) where
  in_this : (i l k : ℕ) (task u : Suspended) → (bodies w from).tasks.slots k ≡ Some task → task.waits ≡ wait.Batch batch → (bodies w i).tasks.slots l ≡ Some u
      → (i ≡ from) × (l ≡ k) → in_batch u.waits ≡ 0 → ⊥
  in_this i l k task u there waits at q z =
      let same : task ≡ u = some_same task u (sym there ∙ sym (ap (λ (i : ℕ). (bodies w i).tasks.slots l) q.0 ∙ ap (bodies w from).tasks.slots q.1) ∙ at) in
      omega (arith, z, ap (λ (x : Suspended). in_batch x.waits) same, ap in_batch waits)

  pub elsewhere : (cs : List WaitingCall) → Each (IsCaller (bodies w from) (wait.Batch batch)) cs → Each (StandsBefore S (bodies w from)) cs
      → AreElsewhere given w given.setup.cores 0 (names cs)
  elsewhere [] c b = none_elsewhere given w (MessageFits given (bodies w) S) given.setup.cores 0 old.messages
  elsewhere (one ∷ cs) c b =
      let n = given.setup.cores in
      let task : Suspended = c.0.task in
      let at : StandsAt S task = b.0 task c.0.there in
      let mode : going_on at.plain.mode ≡ 1 = ap going_on (at.mode ∙ ap (λ (q : Waits). mode_of q task.action) c.0.waits) in
      let it : AreElsewhere given w from one.slot (one.id ∷ [])
      = subst (λ (id : TaskId). AreElsewhere given w from one.slot (id ∷ [])) c.0.named (alone given w S from one.slot task at.plain old c.0.there at.there mode) in
      let rest : AreElsewhere given w n 0 (names cs) = elsewhere cs c.1 b.1 in
      record {
        slots = λ i l u ne there z. ((it.slots i l u (λ q. in_this i l one.slot task u c.0.there c.0.waits there q z) there z).0, rest.slots i l u ne there z);
        private = λ i l. Each-weaker (IsOtherUnit (one.id ∷ [])) (IsOtherUnit (names cs)) (IsOtherUnit (one.id ∷ names cs)) (both_unit one.id (names cs))
            (bodies w i).work.private (it.private i l) (rest.private i l);
        public = λ i l. Each-weaker (IsOtherUnit (one.id ∷ [])) (IsOtherUnit (names cs)) (IsOtherUnit (one.id ∷ names cs)) (both_unit one.id (names cs))
            (bodies w i).work.public (it.public i l) (rest.public i l);
        messages = every_with messages_in (λ from to m. IsOtherIn (one.id ∷ []) m) (λ from to m. IsOtherIn (names cs) m) (λ from to m. IsOtherIn (one.id ∷ names cs) m) n w
            (both_in one.id (names cs)) it.messages rest.messages;
      }

  pub in_others : (one slot number : ℕ) (u : Suspended) → Apart from batch one number → (bodies w one).tasks.slots slot ≡ Some u → u.waits ≡ wait.Batch number
      → (cs : List WaitingCall) → Each (IsCaller (bodies w from) (wait.Batch batch)) cs → IsOther (names cs) u.id
  in_others one slot number u ne at waits [] c = tt
  in_others one slot number u ne at waits (call ∷ cs) c = (
    ap (same_id u.id) (sym c.0.named) ∙ apart_names given w S old from call.slot c.0.task one slot u c.0.there at (λ q. ne (q.0, this q)),
    in_others one slot number u ne at waits cs c.1,
  )
    where
      this : (one ≡ from) × (slot ≡ call.slot) → number ≡ batch
      this q =
          let same : c.0.task ≡ u = some_same c.0.task u (sym c.0.there ∙ sym (ap (λ (i : ℕ). (bodies w i).tasks.slots slot) q.0 ∙ ap (bodies w from).tasks.slots q.1) ∙ at) in
          same_number number batch (sym waits ∙ ap (λ (x : Suspended). x.waits) (sym same) ∙ c.0.waits)
