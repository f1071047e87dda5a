-- Marks and their entries; outcomes with the gifts after them.
use Rattle.std.proofs.Common.{◌≡◌, ◌<◌, ℕ, List, [], ◌∷◌, sym, ◌∙◌, ap, subst, refl}
use Rattle.std.specs.Prelude.{Option, Some}
use Rattle.std.proofs.lemmas.List.{append-nil}
use Rattle.gr_lang.specs.declared.action.Entry.{Entry}
use Rattle.gr_lang.specs.States.{State}
use Rattle.gr_lang.specs.Histories.{after}
use Rattle.gr_msg.specs.declared.message.Unit.{Unit as WorkUnit}
use Rattle.gr_net.specs.Sums.{Each}
use Rattle.gr_net.proofs.Spreads.{put_same, Each-append}
use Rattle.gr_machine.specs.declared.mark.Mark.{Mark}
use Rattle.gr_machine.specs.declared.mark.Mark.TheVariants as mark
use Rattle.gr_machine.specs.States.{Letter, Body}
use Rattle.gr_machine.specs.Outcomes.{Send, Outcome}
use Rattle.gr_machine.specs.Histories.{Sent, sent_after}
use Rattle.gr_machine.specs.Events.{gives, gifts}
use Rattle.gr_stands.specs.Worlds.{Given, World, bodies}
use Rattle.gr_stands_calls.specs.Acting.{Keeps, ActsQuietly, ActsWithEntry}
use Rattle.gr_stands_calls.proofs.Stays.{units_are_given}
use Rattle.gr_stands_chains.specs.Chains.{marks_of, ActsWithEntries}
use Rattle.gr_stands_chains.proofs.Follows.{outcomes_follow_on, quiet_outcomes_act, entries_act}
use Rattle.gr_stands_outcomes.specs.Inner.{outcome_of}
use Rattle.gr_stands_outcomes.specs.Marks.{entries_from}
use Rattle.gr_stands_steps.specs.Entries.{ActsWithMarks}
use Rattle.gr_stands_steps.specs.Laws as laws

-- ---- marks

marked_entries : (sent : Sent) (me : ℕ) (xs : List Entry) → entries_from sent me (marks_of xs) ≡ xs
marked_entries sent me [] = refl
marked_entries sent me (x ∷ xs) = ap (λ (ys : List Entry). x ∷ ys) (marked_entries sent me xs)

-- A batch that has gone off.
abbrev pub IsClosed : Mark → Type 0
IsClosed (mark.Closed batch calls) = Unit
IsClosed _ = ⊥

pub closed_entries : (sent : Sent) (me : ℕ) (ms : List Mark) → Each IsClosed ms → entries_from sent me ms ≡ []
closed_entries sent me [] f = refl
closed_entries sent me (mark.Closed batch calls ∷ ms) f = closed_entries (sent_after sent me (mark.Closed batch calls)) me ms f.1
closed_entries sent me (_ ∷ ms) f = absurd f.0

-- ---- rows

made_is : (body : Body) (made : Option Outcome) (e : Outcome) → made ≡ Some e → outcome_of body made ≡ e
made_is body made e h = ap (outcome_of body) h

-- What acts with entries acts with marks, whatever batches have gone off.
pub of_entries : (given : Given) (sent : Sent) (w : World) (S : State) (me : ℕ) (got : List Letter) (body : Body) (made : Option Outcome)
    → ActsWithEntries given w S me got made → ActsWithMarks given sent w S me got (outcome_of body made)
of_entries given sent w S me got body made row =
    subst (ActsWithMarks given sent w S me got) (sym (made_is body made row.outcome row.acts)) (record {
      sends = row.sends;
      next = row.next;
      leads = ap (after given.program given.setup.cores given.setup.steps S) (ap (entries_from sent me) row.marks ∙ marked_entries sent me row.entries) ∙ row.leads;
      keeps = row.keeps;
    })

pub of_quiet : (given : Given) (sent : Sent) (w : World) (S : State) (me : ℕ) (got : List Letter) (body : Body) (made : Option Outcome)
    → ActsQuietly given w S me got made → ActsWithMarks given sent w S me got (outcome_of body made)
of_quiet given sent w S me got body made row = of_entries given sent w S me got body made (quiet_outcomes_act given w S me got made row)

pub of_entry : (given : Given) (sent : Sent) (w : World) (S : State) (me : ℕ) (got : List Letter) (body : Body) (made : Option Outcome)
    → ActsWithEntry given w S me got made → ActsWithMarks given sent w S me got (outcome_of body made)
of_entry given sent w S me got body made row = of_entries given sent w S me got body made (entries_act given w S me got made row)

-- ---- gifts

gifts_go : (n : ℕ) (cores : List ℕ) (units : List WorkUnit) → Each (λ core. core < n) cores → Each (λ (send : Send). send.to < n) (gifts cores units)
gifts_go n [] units e = tt
gifts_go n (core ∷ cores) [] e = tt
gifts_go n (core ∷ cores) (unit ∷ units) e = (e.0, gifts_go n cores units e.1)

pub gifts_follow : laws.GiftsFollow
gifts_follow given sent w S me got e here waiters row = record {
  sends = Each-append (λ (s : Send). s.to < given.setup.cores) e.sends (gives e.body).sends row.sends (gifts_go given.setup.cores e.body.steals.waiting e.body.work.public waiters);
  next = row.next;
  leads = ap (λ (ms : List Mark). after given.program given.setup.cores given.setup.steps S (entries_from sent me ms)) (append-nil e.marks) ∙ row.leads;
  keeps = outcomes_follow_on given w me got e (gives e.body) row.next row.next row.keeps
      (λ v is stands.
      let at : bodies v me ≡ e.body = ap (λ (x : ℕ → Body). x me) is ∙ put_same (bodies w) me e.body in
      subst (λ (b : Body). Keeps given v me [] (gives b) row.next) at (units_are_given given v row.next me stands here));
}
