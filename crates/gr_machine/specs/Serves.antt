-- Serve: what a core does with a message, by its kind.
use Rattle.std.specs.Prelude.{ℕ, Option, Some, None}
use Rattle.gr_lang.specs.Effects.{reply}
use Rattle.gr_msg.specs.declared.message.Msg.{Msg}
use Rattle.gr_msg.specs.declared.message.Msg.TheVariants as msg
use Rattle.gr_machine.specs.Machines.{Machine, thing}
use Rattle.gr_machine.specs.States.{Body}
use Rattle.gr_machine.specs.Outcomes.{Outcome}
use Rattle.gr_machine.specs.Requests.{requested, replied}
use Rattle.gr_machine.specs.ScopeServes.{spawned, core_enrolled, acked, tasks_completed, core_left, waits_here, given}
use Rattle.gr_machine.specs.BatchServes.{batched, batch_replied}
use Rattle.gr_machine.specs.TurnServes.{turn_asked, turn_granted, turn_done, element_stored, element_fetched, element_acked, settled_vector}

-- Each of the seventeen kinds, from a core. Nothing where there is nothing to act on.
abbrev pub serves : Machine → ℕ → Body → ℕ → Msg → Option Outcome
serves machine me body from (msg.Request slot id operation x y z) = requested machine me body from slot id operation x y z
serves machine me body from (msg.Reply slot id first second) = replied machine body slot id (reply first second)
serves machine me body from (msg.Spawn unit) = Some (spawned body unit)
serves machine me body from (msg.Enrol scope) = core_enrolled body from scope (body.scopes.masters scope)
serves machine me body from (msg.EnrolAck scope) = acked machine me body scope (body.scopes.counts scope)
serves machine me body from (msg.Complete scope count) = tasks_completed machine body scope count (body.scopes.counts scope)
serves machine me body from (msg.Leave scope) = core_left machine body scope (body.scopes.masters scope)
serves machine me body from msg.StealAsk = Some (waits_here body from)
serves machine me body from (msg.StealGive unit) = given body from unit
serves machine me body from (msg.Batch object key effect batch) = batched machine me body from object key effect batch (thing machine object)
serves machine me body from (msg.BatchReply batch before) = batch_replied machine body batch before (body.batches.flying batch)
serves machine me body from (msg.Turn vector) = turn_asked body from vector (body.vectors.masters vector)
serves machine me body from (msg.Grant vector head tail) = turn_granted machine body vector head tail (body.vectors.vectors vector)
serves machine me body from (msg.Done vector head tail) = turn_done body vector head tail (body.vectors.masters vector)
serves machine me body from (msg.ElemPut vector position word) = element_stored body from vector position word (body.vectors.vectors vector)
serves machine me body from (msg.ElemGet vector position) = element_fetched body from vector position (body.vectors.vectors vector)
serves machine me body from (msg.ElemAck vector position got) = element_acked body vector position got (body.vectors.vectors vector)

-- In the same event a turn of which nothing is left is finished. Only a Grant and an ElemAck can leave one.
abbrev pub settles : Machine → Body → Msg → Option Outcome
settles machine body (msg.Grant vector head tail) = settled_vector machine body vector (body.vectors.vectors vector)
settles machine body (msg.ElemAck vector position got) = settled_vector machine body vector (body.vectors.vectors vector)
settles machine body _ = None
