-- Entries one after another that leave what is left of each loop.
use Rattle.std.proofs.Common.{◌≡◌, ℕ, List, [], ◌∷◌, inl, inr, sym, ◌∙◌, ap, subst, refl, Option, Some, None}
use Rattle.std.specs.Prelude.{map}
use Rattle.std.specs.List.{zip}
use Rattle.gr_lang.specs.declared.action.Entry.{Entry}
use Rattle.gr_lang.specs.declared.action.Entry.TheVariants as entry
use Rattle.gr_lang.specs.declared.action.TaskId.{TaskId}
use Rattle.gr_lang.specs.declared.action.WaitingCall.{WaitingCall}
use Rattle.gr_lang.specs.States.{State}
use Rattle.gr_lang.specs.Steps.{step}
use Rattle.gr_lang.specs.Histories as lang
use Rattle.gr_batch.specs.declared.wakes.Woken.{Woken}
use Rattle.gr_batch.specs.Folding.{wakes_of}
use Rattle.gr_net.specs.Sums.{Each}
use Rattle.gr_net.proofs.Spreads.{Each-append}
use Rattle.gr_machine.specs.declared.mark.Mark.{Mark}
use Rattle.gr_machine.specs.declared.mark.Mark.TheVariants as mark
use Rattle.gr_machine.specs.Histories.{Sent, entries_of, sent_after}
use Rattle.gr_stands.specs.Worlds.{Given}
use Rattle.gr_stands.proofs.Places.{cases_id}
use Rattle.gr_stands_outcomes.specs.Marks.{entries_from}
use Rattle.gr_scopes.specs.Trees.{Names, NamesGrow}
use Rattle.gr_shares.specs.Loops.{Loop, Loops, loops_of, left_at, LoopsStand}
use Rattle.gr_shares_steals.proofs.Common.{keeps_same}
use Rattle.gr_shares_loops.specs.Changes.{new_loop, OpensLoop, PassesLoop}
use Rattle.gr_shares_loops.proofs.Tasks.{some_same, Found, found}
use Rattle.gr_shares_loops.proofs.Changed.{loops_are_opened, loops_are_passed}
use Rattle.gr_shares_units.specs.Leaving.{LeavesLeft}
use Rattle.gr_shares_units.proofs.Ranges.{keeps_pointwise, others_share, passes_share, keeps_opened, at_it, at_other}
use Rattle.gr_shares_rows.specs.Rows.{IsOfNoIndex, MarksNoIndex}
use Rattle.gr_shares_rows.specs.Laws as laws

-- ---- one after another

-- Loops that are left as they were, and then again.
pub left_follows : (names more : Names) (L M N : Loops) → LeavesLeft names names L M → LeavesLeft names more M N → LeavesLeft names more L N
left_follows names more L M N a b = record {
  keeps = record {
    named = b.keeps.named;
    kept = λ owner loop h. elim (a.keeps.kept owner loop h) [
      | inr z ↦ inr z
      | inl g ↦ elim (b.keeps.kept owner g.next g.there) [
        | inl f ↦ inl (record { next = f.next; there = f.there; number = f.number ∙ g.number; target = f.target ∙ g.target; args = f.args ∙ g.args })
        | inr z ↦ inr (λ index. sym (ap (λ (o : Option Loop). left_at o index) h) ∙ sym (a.left owner index) ∙ ap (λ (o : Option Loop). left_at o index) g.there ∙ z index)
      ]
    ];
    stands = b.keeps.stands;
  };
  left = λ owner index. b.left owner index ∙ a.left owner index;
}

pub left_same : (names : Names) (L : Loops) → LoopsStand L → LeavesLeft names names L L
left_same names L stands = record { keeps = keeps_same names L stands; left = λ owner index. refl }

-- More names.
named_more : (names more : Names) (L M : Loops) → NamesGrow names more → LeavesLeft names names L M → LeavesLeft names more L M
named_more names more L M named a = record { keeps = record { named = named; kept = a.keeps.kept; stands = a.keeps.stands }; left = a.left }

-- ---- entries

module _ (given : Given) (names : Names) where
  abbrev same_names : NamesGrow names names
  same_names = λ number scope h. h

  one_leaves : (S T : State) (what : Entry) → IsOfNoIndex what → LoopsStand (loops_of S) → step given.program given.setup.cores given.setup.steps S what ≡ Some T → LeavesLeft names names (loops_of S) (loops_of T)
  one_leaves S T (entry.Call id op reply) n stands e = others_share given names names S T (entry.Call id op reply) stands same_names tt e
  one_leaves S T (entry.Spawn id way target args kid) n stands e = others_share given names names S T (entry.Spawn id way target args kid) stands same_names tt e
  one_leaves S T (entry.Finish id) n stands e = others_share given names names S T (entry.Finish id) stands same_names tt e
  one_leaves S T (entry.Loop id lo hi grain target args) n stands e = absurd n
  one_leaves S T (entry.Begin owner index kid) n stands e = absurd n
  one_leaves S T (entry.Pass id) n stands e = passes_share given names names S T id stands same_names e
  one_leaves S T (entry.End id) n stands e = others_share given names names S T (entry.End id) stands same_names tt e
  one_leaves S T (entry.Trap id kind) n stands e = others_share given names names S T (entry.Trap id kind) stands same_names tt e
  one_leaves S T entry.Over n stands e = others_share given names names S T entry.Over stands same_names tt e

  all_leave : (entries : List Entry) (S T : State) → Each IsOfNoIndex entries → LoopsStand (loops_of S)
      → lang.after given.program given.setup.cores given.setup.steps S entries ≡ Some T → LeavesLeft names names (loops_of S) (loops_of T)
  all_leave [] S T n stands e = subst (λ (X : State). LeavesLeft names names (loops_of S) (loops_of X)) (some_same S T e) (left_same names (loops_of S) stands)
  all_leave (what ∷ entries) S T n stands e =
      let f = found (λ (X : State). lang.after given.program given.setup.cores given.setup.steps X entries) (step given.program given.setup.cores given.setup.steps S what) T e in
      let a = one_leaves S f.one what n.0 stands f.there in
      left_follows names names (loops_of S) (loops_of f.one) (loops_of T) a (all_leave entries f.one T n.1 a.keeps.stands f.made)

-- ---- the entries of marks

calls_begin_nothing : (answers : List (WaitingCall × Woken)) → Each IsOfNoIndex (map (λ answer. entry.Call answer.0.id answer.0.op answer.1.reply) answers)
calls_begin_nothing [] = tt
calls_begin_nothing (answer ∷ answers) = (tt, calls_begin_nothing answers)

one_mark : (sent : Sent) (one : Mark) → MarksNoIndex one → Each IsOfNoIndex (entries_of sent one)
one_mark sent (mark.Entry what) n = (n, tt)
one_mark sent (mark.Closed batch calls) n = tt
one_mark sent (mark.Applied origin batch before) n = calls_begin_nothing (zip (sent origin batch) (wakes_of (sent origin batch) before))

all_marks : (me : ℕ) (marks : List Mark) (sent : Sent) → Each MarksNoIndex marks → Each IsOfNoIndex (entries_from sent me marks)
all_marks me [] sent n = tt
all_marks me (one ∷ marks) sent n =
    Each-append IsOfNoIndex (entries_of sent one) (entries_from (sent_after sent me one) me marks) (one_mark sent one n.0) (all_marks me marks (sent_after sent me one) n.1)

pub marks_leave_loops : laws.MarksLeaveLoops
marks_leave_loops given sent names more S T me marks stands named n e =
    named_more names more (loops_of S) (loops_of T) named (all_leave given names (entries_from sent me marks) S T (all_marks me marks sent n) stands e)

-- ---- a loop over nothing

pub empty_loops_leave_loops : laws.EmptyLoopsLeaveLoops
empty_loops_leave_loops given names more S T id task lo hi grain target args stands named opened there due e = record {
  keeps = keeps_pointwise names more L N named stands same;
  left = λ owner index. ap (λ (o : Option Loop). left_at o index) (same owner);
}
  where
    L : Loops
    L = loops_of S

    N : Loops
    N = loops_of T

    f : Found (λ (X : State). lang.after given.program given.setup.cores given.setup.steps X (entry.Pass id ∷ [])) (step given.program given.setup.cores given.setup.steps S (entry.Loop id lo hi grain target args)) T
    f = found (λ (X : State). lang.after given.program given.setup.cores given.setup.steps X (entry.Pass id ∷ [])) (step given.program given.setup.cores given.setup.steps S (entry.Loop id lo hi grain target args)) T e

    g : Found (λ (X : State). Some X) (step given.program given.setup.cores given.setup.steps f.one (entry.Pass id)) T
    g = found (λ (X : State). Some X) (step given.program given.setup.cores given.setup.steps f.one (entry.Pass id)) T f.made

    o : OpensLoop S f.one id lo hi target args
    o = loops_are_opened given.program given.setup.cores given.setup.steps S f.one id task lo hi grain target args there due opened f.there

    passed : step given.program given.setup.cores given.setup.steps f.one (entry.Pass id) ≡ Some T
    passed = g.there ∙ g.made

    p : PassesLoop f.one T id
    p = loops_are_passed given.program given.setup.cores given.setup.steps f.one T id (keeps_opened names names S f.one id lo hi target args (λ number scope h. h) stands o).stands passed

    same : (q : TaskId) → N q ≡ L q
    same q = elim (cases_id q id) [
      | inl z ↦ at_it (loops_of f.one) N id None p.loops q z ∙ sym (ap L z ∙ o.none)
      | inr z ↦ at_other (loops_of f.one) N id None p.loops q z ∙ at_other L (loops_of f.one) id (Some (new_loop S lo hi target args)) o.loops q z
    ]
