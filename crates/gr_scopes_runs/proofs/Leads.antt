-- An outcome that keeps the part with some names and a tree, where its marks lead to a state of that tree.
use Rattle.std.proofs.Common.{◌≡◌, ℕ, List, [], ◌∷◌, ◌++◌, sym, ◌∙◌, ap, subst, refl, Option, Some, None}
use Rattle.std.specs.Option.{option_and_then}
use Rattle.gr_lang.specs.declared.action.Entry.{Entry}
use Rattle.gr_lang.specs.States.{State}
use Rattle.gr_lang.specs.Steps.{step}
use Rattle.gr_lang.specs.Histories.{after}
use Rattle.gr_machine.specs.declared.mark.Mark.{Mark}
use Rattle.gr_machine.specs.States.{Letter}
use Rattle.gr_machine.specs.Outcomes.{Outcome, marked}
use Rattle.gr_machine.specs.Histories.{Sent}
use Rattle.gr_stands.specs.Worlds.{Given, World}
use Rattle.gr_scopes.specs.Trees.{Tree, Names, tree_of, NamesGrow}
use Rattle.gr_scopes.specs.Scopes.{ScopesStand}
use Rattle.gr_scopes_opens.specs.Keeping.{KeepsScopes}
use Rattle.gr_scopes_opens.proofs.Common.{some_same}
use Rattle.gr_scopes_trees.specs.Laws.{Leads}
use Rattle.gr_scopes_entries.specs.Marks.{LeadsBy}
use Rattle.gr_scopes_entries.proofs.Trees.{one_mark_is_one_step}
use Rattle.gr_scopes_runs.specs.Leading.{KeepsGrown, KeepsLeading}

module _ (given : Given) (sent : Sent) (names : Names) (w : World) (S : State) (me : ℕ) (got : List Letter) (e : Outcome) where
  pub grown : (T : State) (more : Names) (tree : Tree) → NamesGrow names more → tree_of T ≡ tree → KeepsScopes given w me got e more tree → KeepsGrown given names w me got e T
  grown T more tree grows same keeps = record { more = more; grown = grows; keeps = λ v acts. subst (ScopesStand given more v) (sym same) (keeps v acts) }

  pub leads_as : (T : State) (marks : List Mark) → e.marks ≡ marks → LeadsBy given sent me S e.marks T → LeadsBy given sent me S marks T
  leads_as T marks is h = subst (λ (ms : List Mark). LeadsBy given sent me S ms T) is h

  -- Without a mark the state stays.
  pub leads_none : e.marks ≡ [] → KeepsScopes given w me got e names (tree_of S) → KeepsLeading given sent names w S me got e
  leads_none is keeps T h = grown T names (tree_of S) (λ number scope f. f) (ap tree_of (sym (some_same S T (leads_as T [] is h)))) keeps

  -- With the mark of one entry it is the entry's.
  pub leads_one : (what : Entry) (more : Names) (tree : Tree) → e.marks ≡ marked what → NamesGrow names more → ((T : State) → Leads given S what T → tree_of T ≡ tree)
      → KeepsScopes given w me got e more tree → KeepsLeading given sent names w S me got e
  leads_one what more tree is grows makes keeps T h = grown T more tree grows (makes T (one_mark_is_one_step given sent me S T what (leads_as T (marked what) is h))) keeps

-- Two entries lead on with a state between.
pub record Between (given : Given) (S T : State) (first second : Entry) : Type 0 where
  pub state : State
  pub begins : Leads given S first state
  pub follows : Leads given state second T

pub leads_two : (given : Given) (sent : Sent) (me : ℕ) (S T : State) (first second : Entry) → LeadsBy given sent me S (marked first ++ marked second) T → Between given S T first second
leads_two given sent me S T first second h = by (step given.program given.setup.cores given.setup.steps S first) refl h
  where
    by : (o : Option State) → step given.program given.setup.cores given.setup.steps S first ≡ o
        → option_and_then (λ next. after given.program given.setup.cores given.setup.steps next (second ∷ [])) o ≡ Some T → Between given S T first second
    by None e f = absurd (cc)
    by (Some M) e f = record { state = M; begins = e; follows = one_mark_is_one_step given sent me M T second f }
