-- The laws of what marks are of, and of what their entries do to trees.
use Rattle.std.specs.Prelude.{◌≡◌, ℕ, List, [], Option, Some}
use Rattle.gr_lang.specs.declared.action.Entry.{Entry}
use Rattle.gr_lang.specs.States.{State}
use Rattle.gr_msg.specs.declared.message.Msg.{Msg}
use Rattle.gr_msg.specs.declared.message.Msg.TheVariants as msg
use Rattle.gr_net.specs.Sums.{Each}
use Rattle.gr_machine.specs.declared.mark.Mark.{Mark}
use Rattle.gr_machine.specs.Machines.{Machine}
use Rattle.gr_machine.specs.States.{Body}
use Rattle.gr_machine.specs.Outcomes.{marked}
use Rattle.gr_machine.specs.Histories.{Sent}
use Rattle.gr_machine.specs.Serves.{serves, settles}
use Rattle.gr_machine.specs.Closes.{closes}
use Rattle.gr_stands.specs.Worlds.{Given}
use Rattle.gr_scopes.specs.Trees.{tree_of}
use Rattle.gr_scopes_stays.specs.Stays.{IsOfOneCall}
use Rattle.gr_scopes_trees.specs.Laws.{Leads}
use Rattle.gr_scopes_entries.specs.Marks.{IsOfCalls, LeavesCalls, LeadsBy}

-- Marks of calls alone leave the tree of the plain state to which they lead.
abbrev pub CallMarksLeaveTrees : Type 0
CallMarksLeaveTrees =
    (given : Given) (sent : Sent) (me : ℕ) (state next : State) (marks : List Mark)
    → Each IsOfCalls marks → LeadsBy given sent me state marks next → tree_of next ≡ tree_of state

-- The mark of one entry leads where the entry does.
abbrev pub OneMarkIsOneStep : Type 0
OneMarkIsOneStep =
    (given : Given) (sent : Sent) (me : ℕ) (state next : State) (what : Entry) → LeadsBy given sent me state (marked what) next → Leads given state what next

abbrev pub MessagesLeaveCalls : Type 0
MessagesLeaveCalls = (machine : Machine) (me from : ℕ) (body : Body) (message : Msg) → IsOfOneCall message → LeavesCalls (serves machine me body from message)

abbrev pub BatchRepliesLeaveNone : Type 0
BatchRepliesLeaveNone =
    (machine : Machine) (me from : ℕ) (body : Body) (batch : ℕ) (before : Option ℕ) → LeavesCalls (serves machine me body from (msg.BatchReply batch before))

abbrev pub TurnEndsLeaveCalls : Type 0
TurnEndsLeaveCalls = (machine : Machine) (body : Body) (message : Msg) → LeavesCalls (settles machine body message)

abbrev pub ClosesLeaveCalls : Type 0
ClosesLeaveCalls = (machine : Machine) (body : Body) (object : ℕ) → Each IsOfCalls (closes machine body object).marks
