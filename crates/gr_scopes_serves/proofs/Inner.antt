-- The end of a turn, gifts, Closes and Steals keep the part of scopes.
use Rattle.std.proofs.Common.{◌≡◌, ℕ, ◌<◌, ◌==◌, Bool, true, false, if◌then◌else◌, [], inl, refl, Option, Some, None}
use Rattle.std.proofs.lemmas.Bool.{eqb-true}
use Rattle.gr_lang.specs.States.{State}
use Rattle.gr_msg.specs.declared.message.Msg.TheVariants as msg
use Rattle.gr_vector.specs.Plans.{ends_after}
use Rattle.gr_machine.specs.Machines.{Machine}
use Rattle.gr_machine.specs.States.{Turn, Vector, Body}
use Rattle.gr_machine.specs.Outcomes.{Outcome, quietly}
use Rattle.gr_machine.specs.Histories.{Sent}
use Rattle.gr_machine.specs.Closes.{closes}
use Rattle.gr_machine.specs.Events.{gives, asks}
use Rattle.gr_machine.specs.TurnServes.{turn_replies, turn_finished, settled_turn, settled_vector}
use Rattle.gr_stands.specs.Worlds.{Given, World, machine_in, bodies}
use Rattle.gr_stands_outcomes.specs.Inner.{outcome_of}
use Rattle.gr_scopes.specs.Trees.{Names}
use Rattle.gr_scopes_opens.specs.Keeping.{StandsWith}
use Rattle.gr_scopes_stays.proofs.Stays.{leaves_kept}
use Rattle.gr_scopes_stays.proofs.Several.{closes_keep_scopes, turn_ends_keep_scopes}
use Rattle.gr_scopes_units.proofs.Moved.{gifts_go_off, steals_go_off}
use Rattle.gr_scopes_entries.proofs.Served.{marks_of_calls, closes_leave_calls}
use Rattle.gr_scopes_runs.specs.Leading.{KeepsLeading}
use Rattle.gr_scopes_runs.proofs.Leads.{leads_none}
use Rattle.gr_scopes_serves.specs.Serving.{TurnFinishes}
use Rattle.gr_scopes_serves.specs.Laws as laws
use Rattle.gr_scopes_serves.proofs.Served.{leads_calls}

module _ (given : Given) (sent : Sent) (names : Names) (w : World) (S : State) (me : ℕ) (st : StandsWith given names w S) (here : me < given.setup.cores) where
  abbrev machine : Machine
  machine = machine_in given

  abbrev a : Body
  a = bodies w me

  abbrev Leads : Outcome → Type 0
  Leads e = KeepsLeading given sent names w S me [] e

  -- Nothing is done.
  still : Leads (quietly a)
  still = leads_none given sent names w S me [] (quietly a) refl
      (leaves_kept given names w S me [] (quietly a) st here (record { slots = λ k. inl refl; scopes = refl; passed = refl; work = refl; letters = tt; sends = tt }))

  module _ (number : ℕ) (tells : TurnFinishes w S me number) where
    turn_leads : (vector : Vector) → a.vectors.vectors number ≡ Some vector → (turn : Turn) → vector.turn ≡ Some turn → (b : Bool) → (turn.left == 0) ≡ b
        → Leads (outcome_of a (if b then Some (turn_finished machine a number vector turn (ends_after turn.calls turn.ends)) else None))
    turn_leads vector there turn out false e = still
    turn_leads vector there turn out true e =
        leads_calls given sent names w S me [] (turn_finished machine a number vector turn (ends_after turn.calls turn.ends)) (marks_of_calls (turn_replies turn))
        (turn_ends_keep_scopes given names w S me number vector turn (ends_after turn.calls turn.ends) st here (tells vector turn there out (eqb-true turn.left 0 e)))

    any_turn_leads : (vector : Vector) → a.vectors.vectors number ≡ Some vector → (turn : Option Turn) → vector.turn ≡ turn → Leads (outcome_of a (settled_turn machine a number vector turn))
    any_turn_leads vector there None out = still
    any_turn_leads vector there (Some turn) out = turn_leads vector there turn out (turn.left == 0) refl

    vector_leads : (vector : Option Vector) → a.vectors.vectors number ≡ vector → Leads (outcome_of a (settled_vector machine a number vector))
    vector_leads None there = still
    vector_leads (Some vector) there = any_turn_leads vector there vector.turn refl

pub turn_ends_lead : laws.TurnEndsLead
turn_ends_lead given sent names w S me (msg.Grant vector head tail) st here tells = vector_leads given sent names w S me st here vector tells ((bodies w me).vectors.vectors vector) refl
turn_ends_lead given sent names w S me (msg.ElemAck vector position got) st here tells = vector_leads given sent names w S me st here vector tells ((bodies w me).vectors.vectors vector) refl
turn_ends_lead given sent names w S me _ st here tells = still given sent names w S me st here

pub gifts_lead : laws.GiftsLead
gifts_lead given sent names w S me st here = leads_none given sent names w S me [] (gives (bodies w me)) refl (gifts_go_off given names w S me st here)

pub closes_lead : laws.ClosesLead
closes_lead given sent names w S me object st here tells =
    leads_calls given sent names w S me [] (closes (machine_in given) (bodies w me) object) (closes_leave_calls (machine_in given) (bodies w me) object)
    (closes_keep_scopes given names w S me object st here tells)

pub steals_lead : laws.StealsLead
steals_lead given sent names w S me victim st here = leads_none given sent names w S me [] (asks victim (bodies w me)) refl (steals_go_off given names w S me victim st here)
