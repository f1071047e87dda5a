-- What is served keeps the part, where its marks are of calls alone or there are none; and marks that come apart.
use Rattle.std.proofs.Common.{◌≡◌, ℕ, List, ◌++◌, sym, subst, Option, Some}
use Rattle.gr_lang.specs.declared.action.Entry.{Entry}
use Rattle.gr_lang.specs.States.{State}
use Rattle.gr_lang.specs.Histories.{after}
use Rattle.gr_net.specs.Sums.{Each}
use Rattle.gr_machine.specs.declared.mark.Mark.{Mark}
use Rattle.gr_machine.specs.States.{Letter, Body}
use Rattle.gr_machine.specs.Outcomes.{Outcome}
use Rattle.gr_machine.specs.Histories.{Sent}
use Rattle.gr_stands.specs.Worlds.{Given, World}
use Rattle.gr_stands_outcomes.specs.Inner.{outcome_of}
use Rattle.gr_stands_outcomes.specs.Marks.{sent_from, entries_from, LeadsBetween}
use Rattle.gr_stands_outcomes.proofs.Marks.{entries_come, entries_come_apart}
use Rattle.gr_scopes.specs.Trees.{tree_of, Names}
use Rattle.gr_scopes_opens.specs.Keeping.{KeepsScopes}
use Rattle.gr_scopes_leaves.specs.Served.{KeepsMade}
use Rattle.gr_scopes_entries.specs.Marks.{IsOfCalls, LeavesCalls, LeadsBy}
use Rattle.gr_scopes_entries.proofs.Trees.{call_marks_leave_trees}
use Rattle.gr_scopes_runs.specs.Leading.{KeepsLeading}
use Rattle.gr_scopes_runs.proofs.Leads.{grown}

module _ (given : Given) (sent : Sent) (names : Names) (w : World) (S : State) (me : ℕ) (got : List Letter) where
  -- Marks of calls alone leave the tree.
  pub leads_calls : (e : Outcome) → Each IsOfCalls e.marks → KeepsScopes given w me got e names (tree_of S) → KeepsLeading given sent names w S me got e
  leads_calls e are keeps T h = grown given sent names w S me got e T names (tree_of S) (λ number q f. f) (call_marks_leave_trees given sent me S T e.marks are h) keeps

  -- What is made is the outcome.
  pub leads_made : (a : Body) (o : Option Outcome) (e : Outcome) → o ≡ Some e → KeepsLeading given sent names w S me got e → KeepsLeading given sent names w S me got (outcome_of a o)
  leads_made a o e is f = subst (λ (x : Option Outcome). KeepsLeading given sent names w S me got (outcome_of a x)) (sym is) f

  pub made_calls : (a : Body) (o : Option Outcome) → LeavesCalls o → KeepsMade given w me got o names (tree_of S) → KeepsLeading given sent names w S me got (outcome_of a o)
  made_calls a o are made = leads_made a o made.outcome made.acts (leads_calls made.outcome (subst LeavesCalls made.acts are) made.keeps)

-- Marks, and more of them, lead on with a state between.
pub record Apart (given : Given) (sent : Sent) (me : ℕ) (S T : State) (marks more : List Mark) : Type 0 where
  pub state : State
  pub begins : LeadsBy given sent me S marks state
  pub follows : LeadsBy given (sent_from sent me marks) me state more T

pub leads_apart : (given : Given) (sent : Sent) (me : ℕ) (S T : State) (marks more : List Mark) → LeadsBy given sent me S (marks ++ more) T → Apart given sent me S T marks more
leads_apart given sent me S T marks more h =
    let r : LeadsBetween given S T (entries_from sent me marks) (entries_from (sent_from sent me marks) me more) =
    entries_come_apart given S T (entries_from sent me marks) (entries_from (sent_from sent me marks) me more)
    (subst (λ (es : List Entry). after given.program given.setup.cores given.setup.steps S es ≡ Some T) (entries_come sent me marks more) h) in
    record { state = r.middle; begins = r.first; follows = r.second }
