-- Serve: messages of each kind keep the part of scopes.
use Rattle.std.proofs.Common.{◌≡◌, ℕ, ◌&&◌, Bool, true, false, if◌then◌else◌, List, [], ◌∷◌, inl, ap, refl, Option, Some, None}
use Rattle.gr_lang.specs.States.{State}
use Rattle.gr_msg.specs.declared.message.Msg.{Msg}
use Rattle.gr_msg.specs.declared.message.Msg.TheVariants as msg
use Rattle.gr_msg.specs.declared.message.ScopeId.{ScopeId}
use Rattle.gr_msg.specs.declared.message.Unit.{Unit as WorkUnit}
use Rattle.gr_view.specs.Places.{put}
use Rattle.gr_event.specs.Counts.{completed, left_of}
use Rattle.gr_event.specs.declared.counts.LocalLeft.{LocalLeft}
use Rattle.gr_event.specs.declared.counts.LocalLeft.TheVariants as rest
use Rattle.gr_machine.specs.Machines.{Machine, is_core}
use Rattle.gr_machine.specs.States.{Letter, Body}
use Rattle.gr_machine.specs.Outcomes.{Outcome, quietly}
use Rattle.gr_machine.specs.Histories.{Sent}
use Rattle.gr_machine.specs.Serves.{serves}
use Rattle.gr_machine.specs.Spawns.{private_first, with_count}
use Rattle.gr_machine.specs.ScopeRuns.{can_complete}
use Rattle.gr_machine.specs.ScopeServes.{spawned, can_enrol_one, core_enrolled_at, completed_to}
use Rattle.gr_stands.specs.Worlds.{Given, World, machine_in, bodies}
use Rattle.gr_stands_calls.specs.Acting.{letter, IsFirstLetter}
use Rattle.gr_stands_outcomes.specs.Inner.{outcome_of}
use Rattle.gr_scopes.specs.Trees.{Names, tree_of}
use Rattle.gr_scopes_opens.specs.Keeping.{KeepsScopes, StandsWith}
use Rattle.gr_scopes_leaves.proofs.Completed.{completes_keep_scopes}
use Rattle.gr_scopes_enrols.proofs.Asked.{enrols_find_masters, enrols_keep_scopes}
use Rattle.gr_scopes_stays.specs.Stays.{IsOfNoWork, IsOfOneCall}
use Rattle.gr_scopes_stays.proofs.Stays.{leaves_kept}
use Rattle.gr_scopes_stays.proofs.Messages.{messages_keep_scopes}
use Rattle.gr_scopes_stays.proofs.Several.{batch_replies_keep_scopes}
use Rattle.gr_scopes_units.proofs.Moved.{spawns_arrive, gifts_arrive}
use Rattle.gr_scopes_entries.specs.Marks.{LeavesCalls}
use Rattle.gr_scopes_entries.proofs.Served.{if_made, messages_leave_calls, batch_replies_leave_none}
use Rattle.gr_scopes_runs.specs.Leading.{KeepsLeading}
use Rattle.gr_scopes_runs.proofs.Leads.{leads_none}
use Rattle.gr_scopes_serves.specs.Serving.{ServeTells}
use Rattle.gr_scopes_serves.specs.Laws as laws
use Rattle.gr_scopes_serves.proofs.Served.{leads_calls, leads_made, made_calls}
use Rattle.gr_scopes_serves.proofs.Acks.{enrolments_lead}
use Rattle.gr_scopes_serves.proofs.Leaves.{leaves_lead}

no_work : (m : Msg) → IsOfOneCall m → IsOfNoWork m
no_work (msg.BatchReply batch before) is = absurd is
no_work (msg.Spawn work) is = absurd is
no_work (msg.StealGive work) is = absurd is
no_work (msg.Complete scope tasks) is = absurd is
no_work (msg.Leave scope) is = absurd is
no_work (msg.Enrol scope) is = absurd is
no_work (msg.EnrolAck scope) is = absurd is
no_work _ is = tt

completes_none : (a : Body) (s : ScopeId) (left : LocalLeft) → LeavesCalls (Some (completed_to a s left))
completes_none a s rest.More = tt
completes_none a s rest.Zero = tt

module _ (given : Given) (sent : Sent) (names : Names) (w : World) (S : State) (me from : ℕ) (st : StandsWith given names w S) where
  abbrev machine : Machine
  machine = machine_in given

  abbrev a : Body
  a = bodies w me

  abbrev got : Msg → List Letter
  got m = letter from m ∷ []

  abbrev Leads : Msg → Type 0
  Leads m = KeepsLeading given sent names w S me (got m) (outcome_of a (serves machine me a from m))

  -- What finds nothing to act on is gone.
  gone : (m : Msg) → IsFirstLetter given w me from m → IsOfNoWork m → KeepsLeading given sent names w S me (got m) (quietly a)
  gone m first calm = leads_none given sent names w S me (got m) (quietly a) refl
      (leaves_kept given names w S me (got m) (quietly a) st first.here (record { slots = λ k. inl refl; scopes = refl; passed = refl; work = refl; letters = (calm, tt); sends = tt }))

  -- Where it keeps the part if it acts, and its marks are of calls.
  either : (m : Msg) → IsFirstLetter given w me from m → IsOfNoWork m → LeavesCalls (serves machine me a from m)
      → ((e : Outcome) → serves machine me a from m ≡ Some e → KeepsScopes given w me (got m) e names (tree_of S)) → Leads m
  either m first calm are keeps = by (serves machine me a from m) refl are
    where
      by : (o : Option Outcome) → serves machine me a from m ≡ o → LeavesCalls o → KeepsLeading given sent names w S me (got m) (outcome_of a o)
      by None is f = gone m first calm
      by (Some e) is f = leads_calls given sent names w S me (got m) e f (keeps e is)

  call_leads : (m : Msg) → IsFirstLetter given w me from m → IsOfOneCall m → Leads m
  call_leads m first is = either m first (no_work m is) (messages_leave_calls machine me from a m is) (λ e h. messages_keep_scopes given names w S me from m e st first is h)

  -- The unit that comes is the first, and the core may ask again.
  abbrev gift : WorkUnit → Outcome
  gift work = quietly (record (private_first a work) { steals = record a.steals { asked = put a.steals.asked from false } })

  gift_leads : (work : WorkUnit) → IsFirstLetter given w me from (msg.StealGive work) → a.steals.asked from ≡ true → Leads (msg.StealGive work)
  gift_leads work first asked =
      let is : serves machine me a from (msg.StealGive work) ≡ Some (gift work) = ap (λ (b : Bool). if b then Some (gift work) else None) asked in
      leads_made given sent names w S me (got (msg.StealGive work)) a (serves machine me a from (msg.StealGive work)) (gift work) is
      (leads_none given sent names w S me (got (msg.StealGive work)) (gift work) refl (gifts_arrive given names w S me from work (gift work) st first is))

  enrol_leads : (s : ScopeId) → IsFirstLetter given w me from (msg.Enrol s) → ServeTells w me from (msg.Enrol s) → Leads (msg.Enrol s)
  enrol_leads s first fits =
      let found = enrols_find_masters given names w S me from s st first in
      made_calls given sent names w S me (got (msg.Enrol s)) a (serves machine me a from (msg.Enrol s))
      (if_made (can_enrol_one (a.scopes.masters s)) (Some (core_enrolled_at a from s (a.scopes.masters s))) tt)
      (enrols_keep_scopes given names w S me from s found.0 st first found.1 (fits found.0 found.1))

  complete_leads : (s : ScopeId) (n : ℕ) → IsFirstLetter given w me from (msg.Complete s n) → Leads (msg.Complete s n)
  complete_leads s n first =
      let c = a.scopes.counts s in
      made_calls given sent names w S me (got (msg.Complete s n)) a (serves machine me a from (msg.Complete s n))
      (if_made (is_core machine s.core && can_complete c n) (Some (completed_to (with_count a s (completed c n)) s (left_of c n))) (completes_none (with_count a s (completed c n)) s (left_of c n)))
      (completes_keep_scopes given names w S me from s n st first)

  message_leads : (m : Msg) → IsFirstLetter given w me from m → ServeTells w me from m → Leads m
  message_leads (msg.Spawn work) first tells =
      leads_none given sent names w S me (got (msg.Spawn work)) (spawned a work) refl (spawns_arrive given names w S me from work st first)
  message_leads (msg.StealGive work) first tells = gift_leads work first tells
  message_leads (msg.Enrol s) first tells = enrol_leads s first tells
  message_leads (msg.EnrolAck s) first tells = enrolments_lead given sent names w S me from s st first
  message_leads (msg.Complete s n) first tells = complete_leads s n first
  message_leads (msg.Leave s) first tells = leaves_lead given sent names w S me from s st first
  message_leads (msg.BatchReply batch before) first tells =
      either (msg.BatchReply batch before) first tt (batch_replies_leave_none machine me from a batch before)
      (λ e h. batch_replies_keep_scopes given names w S me from batch before e st first tells h)
  message_leads (msg.Request slot id operation x y z) first tells = call_leads (msg.Request slot id operation x y z) first tt
  message_leads (msg.Reply slot id one two) first tells = call_leads (msg.Reply slot id one two) first tt
  message_leads msg.StealAsk first tells = call_leads msg.StealAsk first tt
  message_leads (msg.Batch object key effect batch) first tells = call_leads (msg.Batch object key effect batch) first tt
  message_leads (msg.Turn vector) first tells = call_leads (msg.Turn vector) first tt
  message_leads (msg.Grant vector head tail) first tells = call_leads (msg.Grant vector head tail) first tt
  message_leads (msg.Done vector head tail) first tells = call_leads (msg.Done vector head tail) first tt
  message_leads (msg.ElemPut vector position word) first tells = call_leads (msg.ElemPut vector position word) first tt
  message_leads (msg.ElemGet vector position) first tells = call_leads (msg.ElemGet vector position) first tt
  message_leads (msg.ElemAck vector position taken) first tells = call_leads (msg.ElemAck vector position taken) first tt

pub messages_lead : laws.MessagesLead
messages_lead given sent names w S me from m st first tells = message_leads given sent names w S me from st m first tells
