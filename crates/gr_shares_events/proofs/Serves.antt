-- A Serve, a Close, gifts and questions keep the part of work.
use Rattle.std.proofs.Common.{◌≡◌, ℕ, [], ◌∷◌, sym, ap, subst, refl, Option}
use Rattle.gr_lang.specs.States.{State}
use Rattle.gr_valid.specs.Valid.{IsValid}
use Rattle.gr_msg.specs.declared.message.Msg.{Msg}
use Rattle.gr_msg.specs.declared.message.Msg.TheVariants as msg
use Rattle.gr_msg.specs.declared.message.Unit.{Unit as WorkUnit}
use Rattle.gr_machine.specs.States.{Body}
use Rattle.gr_machine.specs.Outcomes.{Outcome}
use Rattle.gr_machine.specs.Histories.{Sent}
use Rattle.gr_machine.specs.Serves.{serves}
use Rattle.gr_machine.specs.ScopeServes.{given as answered_by}
use Rattle.gr_machine.proofs.ActionFacts.{choice}
use Rattle.gr_stands.specs.Worlds.{Given, machine_in, World, bodies}
use Rattle.gr_stands_calls.specs.Acting.{letter, IsFirstLetter}
use Rattle.gr_stands_outcomes.specs.Inner.{outcome_of}
use Rattle.gr_scopes.specs.Trees.{Names, NamesGrow}
use Rattle.gr_shares.specs.Loops.{loops_of}
use Rattle.gr_shares.specs.Shares.{MessageShares}
use Rattle.gr_shares_steals.specs.Sharing.{KeepsShares}
use Rattle.gr_shares_steals.proofs.Common.{first_has}
use Rattle.gr_shares_steals.proofs.Questions.{questions_are_asked, questions_wait, gifts_are_expected}
use Rattle.gr_shares_steals.proofs.Gifts.{gifts_keep_shares}
use Rattle.gr_shares_units.specs.Leaving.{IsOfNoShare}
use Rattle.gr_shares_rows.proofs.Serves.{messages_leave_work, turn_ends_leave_work}
use Rattle.gr_shares_rows.proofs.Closes.{closes_leave_work}
use Rattle.gr_shares_events.specs.Holding.{WorkHolds, Leads}
use Rattle.gr_shares_events.specs.Laws as laws
use Rattle.gr_shares_events.proofs.Common.{leaves_hold, quietly_holds}

-- ---- a message

no_marks : (body : Body) (from : ℕ) (work : WorkUnit) → (outcome_of body (answered_by body from work)).marks ≡ []
no_marks body from work = choice (λ (o : Option Outcome). (outcome_of body o).marks ≡ []) (body.steals.asked from) _ _ refl refl

module _ (given : Given) (sent : Sent) (names more : Names) (w v : World) (S T : State) (me from : ℕ) (valid : IsValid given.program S) (named : NamesGrow names more) (old : WorkHolds given names w S) where
  abbrev made : Msg → Outcome
  made m = outcome_of (bodies w me) (serves (machine_in given) me (bodies w me) from m)

  abbrev Led : Msg → Type 0
  Led m = Leads given sent w v S T me (letter from m ∷ []) (made m)

  -- One that has nothing to do with chunks and questions.
  leaves : (m : Msg) → IsOfNoShare m → Led m → WorkHolds given more v T
  leaves m n led = leaves_hold given sent names more w v S T me (letter from m ∷ []) (made m) led named old valid (messages_leave_work (machine_in given) me from (bodies w me) m n) (n, tt)

  pub served : (m : Msg) → IsFirstLetter given w me from m → Led m → WorkHolds given more v T
  served (msg.Spawn work) first led = leaves (msg.Spawn work) (first_has given w me from (msg.Spawn work) first (MessageShares given names (loops_of S)) old.shares.messages) led
  served msg.StealAsk first led = quietly_holds given sent names more w v S T me (letter from msg.StealAsk ∷ []) (made msg.StealAsk) led named old refl
      (questions_wait given names (loops_of S) w me from old.shares first)
  served (msg.StealGive work) first led =
      let row = (gifts_are_expected given names (loops_of S) w me from work old.shares first).1 in
      let body = bodies w me in
      quietly_holds given sent names more w v S T me (letter from (msg.StealGive work) ∷ []) (made (msg.StealGive work)) led named old (no_marks body from work)
      (subst (λ (e : Outcome). KeepsShares given w me (letter from (msg.StealGive work) ∷ []) e names (loops_of S)) (sym (ap (outcome_of body) row.acts)) row.keeps)
  served (msg.Request slot id operation x y z) first led = leaves (msg.Request slot id operation x y z) tt led
  served (msg.Reply slot id one two) first led = leaves (msg.Reply slot id one two) tt led
  served (msg.Enrol scope) first led = leaves (msg.Enrol scope) tt led
  served (msg.EnrolAck scope) first led = leaves (msg.EnrolAck scope) tt led
  served (msg.Complete scope count) first led = leaves (msg.Complete scope count) tt led
  served (msg.Leave scope) first led = leaves (msg.Leave scope) tt led
  served (msg.Batch object key effect batch) first led = leaves (msg.Batch object key effect batch) tt led
  served (msg.BatchReply batch before) first led = leaves (msg.BatchReply batch before) tt led
  served (msg.Turn vector) first led = leaves (msg.Turn vector) tt led
  served (msg.Grant vector head tail) first led = leaves (msg.Grant vector head tail) tt led
  served (msg.Done vector head tail) first led = leaves (msg.Done vector head tail) tt led
  served (msg.ElemPut vector position word) first led = leaves (msg.ElemPut vector position word) tt led
  served (msg.ElemGet vector position) first led = leaves (msg.ElemGet vector position) tt led
  served (msg.ElemAck vector position got) first led = leaves (msg.ElemAck vector position got) tt led

pub serves_keep_work : laws.ServesKeepWork
serves_keep_work given sent names more w v S T me from m first valid led named old = served given sent names more w v S T me from valid named old m first led

-- ---- all else

pub ends_keep_work : laws.EndsKeepWork
ends_keep_work given sent names more w v S T me m valid led named old =
    leaves_hold given sent names more w v S T me [] _ led named old valid (turn_ends_leave_work (machine_in given) (bodies w me) m) tt

pub closes_keep_work : laws.ClosesKeepWork
closes_keep_work given sent names more w v S T me object valid led named old =
    leaves_hold given sent names more w v S T me [] _ led named old valid (closes_leave_work (machine_in given) (bodies w me) object) tt

pub gives_keep_work : laws.GivesKeepWork
gives_keep_work given sent names more w v S T me led named old =
    quietly_holds given sent names more w v S T me [] _ led named old refl (gifts_keep_shares given names (loops_of S) w me old.shares led.acts.here)

pub steals_keep_work : laws.StealsKeepWork
steals_keep_work given sent names more w v S T me victim free led named old =
    quietly_holds given sent names more w v S T me [] _ led named old refl (questions_are_asked given names (loops_of S) w me victim old.shares led.acts.here free)
