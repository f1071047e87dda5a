-- What the entries of marks do to the tree of a plain state.
use Rattle.std.proofs.Common.{◌≡◌, ℕ, List, [], ◌∷◌, ◌++◌, map, sym, ◌∙◌, ap, subst, refl, Option, Some, None}
use Rattle.std.specs.List.{zip}
use Rattle.std.specs.Option.{option_and_then}
use Rattle.gr_lang.specs.declared.action.Entry.{Entry}
use Rattle.gr_lang.specs.declared.action.Entry.TheVariants as entry
use Rattle.gr_lang.specs.declared.action.WaitingCall.{WaitingCall}
use Rattle.gr_lang.specs.States.{State}
use Rattle.gr_lang.specs.Steps.{step}
use Rattle.gr_lang.specs.Histories.{after}
use Rattle.gr_batch.specs.declared.wakes.Woken.{Woken}
use Rattle.gr_batch.specs.Folding.{wakes_of}
use Rattle.gr_net.specs.Sums.{Each}
use Rattle.gr_net.proofs.Spreads.{Each-append}
use Rattle.gr_machine.specs.declared.mark.Mark.{Mark}
use Rattle.gr_machine.specs.declared.mark.Mark.TheVariants as mark
use Rattle.gr_machine.specs.Histories.{Sent, entries_of, sent_after}
use Rattle.gr_stands.specs.Worlds.{Given}
use Rattle.gr_stands_outcomes.specs.Marks.{entries_from}
use Rattle.gr_scopes.specs.Trees.{tree_of}
use Rattle.gr_scopes_opens.proofs.Common.{some_same}
use Rattle.gr_scopes_trees.proofs.Steps.{calls_leave_trees}
use Rattle.gr_scopes_entries.specs.Marks.{IsCallEntry, IsOfCalls}
use Rattle.gr_scopes_entries.specs.Laws as laws

-- ---- the entries of such marks

answers_are_calls : (answers : List (WaitingCall × Woken)) → Each IsCallEntry (map (λ answer. entry.Call answer.0.id answer.0.op answer.1.reply) answers)
answers_are_calls [] = tt
answers_are_calls (answer ∷ answers) = (tt, answers_are_calls answers)

entries_are_calls : (sent : Sent) (one : Mark) → IsOfCalls one → Each IsCallEntry (entries_of sent one)
entries_are_calls sent (mark.Entry what) is = (is, tt)
entries_are_calls sent (mark.Closed batch calls) is = tt
entries_are_calls sent (mark.Applied origin batch before) is = answers_are_calls (zip (sent origin batch) (wakes_of (sent origin batch) before))

all_are_calls : (sent : Sent) (me : ℕ) (marks : List Mark) → Each IsOfCalls marks → Each IsCallEntry (entries_from sent me marks)
all_are_calls sent me [] are = tt
all_are_calls sent me (one ∷ marks) are =
    Each-append IsCallEntry (entries_of sent one) (entries_from (sent_after sent me one) me marks) (entries_are_calls sent one are.0) (all_are_calls (sent_after sent me one) me marks are.1)

-- ---- steps

module _ (given : Given) where
  abbrev goes : State → List Entry → Option State
  goes = after given.program given.setup.cores given.setup.steps

  abbrev steps_to : State → Entry → Option State
  steps_to = step given.program given.setup.cores given.setup.steps

  one_call : (S T : State) (what : Entry) → IsCallEntry what → steps_to S what ≡ Some T → tree_of T ≡ tree_of S
  one_call S T (entry.Call id call word) is h = calls_leave_trees given S T id call word h
  one_call S T _ is h = absurd is

  calls_stay : (S T : State) (entries : List Entry) → Each IsCallEntry entries → goes S entries ≡ Some T → tree_of T ≡ tree_of S
  calls_stay S T [] are h = ap tree_of (sym (some_same S T h))
  calls_stay S T (what ∷ entries) are h = by (steps_to S what) refl h (λ M f. calls_stay M T entries are.1 f)
    where
      by : (o : Option State) → steps_to S what ≡ o → option_and_then (λ next. goes next entries) o ≡ Some T → ((M : State) → goes M entries ≡ Some T → tree_of T ≡ tree_of M) → tree_of T ≡ tree_of S
      by None e f more = absurd (cc)
      by (Some M) e f more = more M f ∙ one_call S M what are.0 e

pub call_marks_leave_trees : laws.CallMarksLeaveTrees
call_marks_leave_trees given sent me S T marks are h = calls_stay given S T (entries_from sent me marks) (all_are_calls sent me marks are) h

pub one_mark_is_one_step : laws.OneMarkIsOneStep
one_mark_is_one_step given sent me S T what h = by (step given.program given.setup.cores given.setup.steps S what) refl h
  where
    by : (o : Option State) → step given.program given.setup.cores given.setup.steps S what ≡ o → option_and_then (λ (next : State). Some next) o ≡ Some T → step given.program given.setup.cores given.setup.steps S what ≡ Some T
    by None e f = absurd (cc)
    by (Some M) e f = e ∙ f
