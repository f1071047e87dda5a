-- What an outcome tells of its core's stops: its marks make them, and where the root is passed, it was before, or its end waited at a master here.
use Rattle.std.proofs.Common.{◌≡◌, ◌⊎◌, inl, inr, ℕ, ◌==◌, List, [], ◌∷◌, ◌++◌, sym, ◌∙◌, ap, subst, refl}
use Rattle.std.specs.Prelude.{Bool, true, false, Option, Some, None, if◌then◌else◌}
use Rattle.std.proofs.lemmas.List.{append-nil}
use Rattle.gr_msg.specs.declared.message.ScopeId.{ScopeId}
use Rattle.gr_event.specs.declared.masters.Master.{Master}
use Rattle.gr_event.specs.declared.masters.Waiter.TheVariants as waiter
use Rattle.gr_merge.specs.GlobalRuns.{of_core}
use Rattle.gr_machine.specs.declared.mark.Mark.{Mark}
use Rattle.gr_machine.specs.declared.journal.StampedMark.{StampedMark}
use Rattle.gr_machine.specs.States.{Stops, Body, Core}
use Rattle.gr_machine.specs.Outcomes.{Send, Outcome, sent, sent_all}
use Rattle.gr_machine.specs.Steppers.{stamped}
use Rattle.gr_machine.specs.Events.{Course, does}
use Rattle.gr_machine.proofs.ActionFacts.{choice}
use Rattle.gr_stands_stops.specs.Stops.{stop_by, stops_after, marks_at}

-- At the master of a scope the program's end waits.
pub record RootWaits (body : Body) : Type 0 where
  pub scope : ScopeId
  pub master : Master
  pub there : body.scopes.masters scope ≡ Some master
  pub waits : master.waiter ≡ Some waiter.Root

-- These marks make the later stops of the earlier ones; the root is passed then only if it was, or there is that reason.
pub record Told (Passes : Type 0) (before after : Stops) (marks : List Mark) : Type 0 where
  pub follows : after ≡ stops_after before marks
  pub passes : after.passed ≡ true → (before.passed ≡ true) ⊎ Passes

-- Of an outcome at a body, and of one that may not be made.
abbrev pub Row : Type 0 → Body → Outcome → Type 0
Row Passes body outcome = Told Passes body.stops outcome.body.stops outcome.marks

abbrev pub Made : Type 0 → Body → Option Outcome → Type 0
Made Passes body None = Unit
Made Passes body (Some outcome) = Row Passes body outcome

-- ---- marks one after another

pub stops_joined : (s : Stops) (xs ys : List Mark) → stops_after s (xs ++ ys) ≡ stops_after (stops_after s xs) ys
stops_joined s [] ys = refl
stops_joined s (x ∷ xs) ys = stops_joined (stop_by s x) xs ys

pub marks_joined : (core : ℕ) (xs ys : List (ℕ × StampedMark)) → marks_at core (xs ++ ys) ≡ marks_at core xs ++ marks_at core ys
marks_joined core [] ys = refl
marks_joined core (x ∷ xs) ys = by (x.0 == core) (marks_joined core xs ys)
  where
    by : (b : Bool) → marks_at core (xs ++ ys) ≡ marks_at core xs ++ marks_at core ys
        → (if b then x.1.mark ∷ marks_at core (xs ++ ys) else marks_at core (xs ++ ys))
        ≡ (if b then x.1.mark ∷ marks_at core xs else marks_at core xs) ++ marks_at core ys
    by true e = ap (λ (ms : List Mark). x.1.mark ∷ ms) e
    by false e = e

-- Of the marks of one step a core has all or none.
pub own_marks : (core me clock : ℕ) (ms : List Mark) → (me == core) ≡ true → marks_at core (of_core me (stamped clock ms)) ≡ ms
own_marks core me clock [] e = refl
own_marks core me clock (m ∷ ms) e =
    ap (λ (b : Bool). if b then m ∷ marks_at core (of_core me (stamped clock ms)) else marks_at core (of_core me (stamped clock ms))) e
    ∙ ap (λ (xs : List Mark). m ∷ xs) (own_marks core me clock ms e)

pub other_marks : (core me clock : ℕ) (ms : List Mark) → (me == core) ≡ false → marks_at core (of_core me (stamped clock ms)) ≡ []
other_marks core me clock [] e = refl
other_marks core me clock (m ∷ ms) e =
    ap (λ (b : Bool). if b then m ∷ marks_at core (of_core me (stamped clock ms)) else marks_at core (of_core me (stamped clock ms))) e
    ∙ other_marks core me clock ms e

-- ---- rows one after another

-- The stops stay, and the marks say nothing of them.
pub told_same : (Passes : Type 0) (s t : Stops) (ms : List Mark) → t ≡ s → stops_after s ms ≡ s → Told Passes s t ms
told_same Passes s t ms e q = record { follows = e ∙ sym q; passes = λ h. inl (ap (λ (x : Stops). x.passed) (sym e) ∙ h) }

pub told_calm : (Passes : Type 0) (s : Stops) (ms : List Mark) → stops_after s ms ≡ s → Told Passes s s ms
told_calm Passes s ms q = told_same Passes s s ms refl q

pub told_then : (Passes : Type 0) (s t u : Stops) (xs ys : List Mark) → Told Passes s t xs → Told Passes t u ys → Told Passes s u (xs ++ ys)
told_then Passes s t u xs ys first second = record {
  follows = second.follows ∙ ap (λ (x : Stops). stops_after x ys) first.follows ∙ sym (stops_joined s xs ys);
  passes = λ h. by (second.passes h);
}
  where
    by : (t.passed ≡ true) ⊎ Passes → (s.passed ≡ true) ⊎ Passes
    by (inl e) = first.passes e
    by (inr p) = inr p

pub told_none : (Passes : Type 0) (s t : Stops) (xs : List Mark) → Told Passes s t xs → Told Passes s t (xs ++ [])
told_none Passes s t xs told = record { follows = told.follows ∙ ap (stops_after s) (sym (append-nil xs)); passes = told.passes }

-- ---- courses

all_sent_body : (me : ℕ) (core : Core) (ss : List Send) → (sent_all me core ss).body ≡ core.body
all_sent_body me core [] = refl
all_sent_body me core (s ∷ ss) = all_sent_body me (sent me core s) ss ∙ choice (λ (after : Core). after.body ≡ core.body) (s.to == me) _ _ refl refl

-- A course that has told so of its core, and one outcome more.
abbrev pub Comes : Type 0 → Stops → Course → Type 0
Comes Passes before course = Told Passes before course.core.body.stops course.marks

pub does_tell : (Passes : Type 0) (me : ℕ) (s : Stops) (course : Course) (o : Option Outcome)
    → Comes Passes s course → Made Passes course.core.body o → Comes Passes s (does me course o)
does_tell Passes me s course None told made = told_none Passes s course.core.body.stops course.marks told
does_tell Passes me s course (Some e) told made =
    subst (λ (b : Body). Told Passes s b.stops (course.marks ++ e.marks)) (sym (all_sent_body me (record course.core { body = e.body }) e.sends))
    (told_then Passes s course.core.body.stops e.body.stops course.marks e.marks told made)
