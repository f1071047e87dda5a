-- The laws of what cores say of their stops.
use Rattle.std.proofs.Common.{◌≡◌, ◌≢◌, ◌⊎◌, inl, inr, ◌<◌, ◌==◌, ℕ, List, [], ◌∷◌, ◌++◌, ap, subst, sym, ◌∙◌, refl, eq-eqb, ne_eqb}
use Rattle.std.specs.Prelude.{true, Some}
use Rattle.std.proofs.lemmas.List.{append-nil}
use Rattle.gr_merge.specs.GlobalRuns.{of_core}
use Rattle.gr_net.specs.Sums.{Each}
use Rattle.gr_net.proofs.Spreads.{put_each, Each-append}
use Rattle.gr_machine.specs.declared.mark.Mark.{Mark}
use Rattle.gr_machine.specs.declared.journal.StampedMark.{StampedMark}
use Rattle.gr_machine.specs.Machines.{Machine}
use Rattle.gr_machine.specs.States.{Stops, Core}
use Rattle.gr_machine.specs.Steppers.{CountedCore, stamped}
use Rattle.gr_machine.specs.GlobalRuns as runs
use Rattle.gr_machine.specs.GlobalRuns.{Step, opening_world, global_run}
use Rattle.gr_machine.specs.Nets.{world_in}
use Rattle.gr_machine.proofs.ActionFacts.{choice}
use Rattle.gr_stands.specs.Worlds.{Given, machine_in, World, bodies}
use Rattle.gr_stands_histories.specs.Running.{AllSlotsFit}
use Rattle.gr_scopes.specs.Scopes.{WaiterStands, MasterStands}
use Rattle.gr_stands_stops.specs.Stops.{unstopped, stops_after, marks_at, HasScopes}
use Rattle.gr_stands_stops.specs.Laws as laws
use Rattle.gr_stands_stops.proofs.Marks.{RootWaits, stops_joined, marks_joined, own_marks, other_marks}
use Rattle.gr_stands_stops.proofs.Steps.{TellsOfStep, all_kept}
use Rattle.gr_stands_stops.proofs.Histories.{trapped_is_told, untrapped_is_told}

-- ---- stops follow marks

-- The stops of each core are what its marks make, and each mark is one of a core that there is.
record Follow (machine : Machine) (world : runs.World) : Type 0 where
  stops : (core : ℕ) → (world.states core).core.body.stops ≡ stops_after unstopped (marks_at core world.marks)
  cores : Each (λ m. m.0 < machine.setup.cores) world.marks

all_of : (count me : ℕ) (marks : List StampedMark) → me < count → Each (λ m. m.0 < count) (of_core me marks)
all_of count me [] l = tt
all_of count me (m ∷ marks) l = (l, all_of count me marks l)

steps_follow : (machine : Machine) (before after : runs.World) (me : ℕ)
    → Unit {0} → TellsOfStep machine before after me → Follow machine before → Follow machine after
steps_follow machine before after me tells step old = record {
  stops = λ core. subst (λ (states : ℕ → CountedCore). (states core).core.body.stops ≡ stops_after unstopped (marks_at core after.marks)) (sym step.states)
      (put_each (λ (i : ℕ) (c : CountedCore). c.core.body.stops ≡ stops_after unstopped (marks_at i after.marks)) before.states me step.core core
      (here core) (there core));
  cores = subst (Each (λ (m : ℕ × StampedMark). m.0 < machine.setup.cores)) (sym step.longer)
      (Each-append (λ (m : ℕ × StampedMark). m.0 < machine.setup.cores) before.marks (of_core me (stamped step.clock step.marks)) old.cores
      (all_of machine.setup.cores me (stamped step.clock step.marks) step.here));
}
  where
    new_marks : List (ℕ × StampedMark)
    new_marks = of_core me (stamped step.clock step.marks)

    later : (core : ℕ) (ms : List Mark) → marks_at core new_marks ≡ ms → marks_at core before.marks ++ ms ≡ marks_at core after.marks
    later core ms e =
        ap (λ (xs : List Mark). marks_at core before.marks ++ xs) (sym e)
        ∙ sym (marks_joined core before.marks new_marks)
        ∙ ap (marks_at core) (sym step.longer)

    here : (core : ℕ) → core ≡ me → step.core.core.body.stops ≡ stops_after unstopped (marks_at core after.marks)
    here core e =
        step.told.follows
        ∙ ap (λ (s : Stops). stops_after s step.marks)
        (subst (λ (i : ℕ). (before.states i).core.body.stops ≡ stops_after unstopped (marks_at core before.marks)) e (old.stops core))
        ∙ sym (stops_joined unstopped (marks_at core before.marks) step.marks)
        ∙ ap (stops_after unstopped) (later core step.marks (own_marks core me step.clock step.marks (eq-eqb me core (sym e))))

    there : (core : ℕ) → core ≢ me → (before.states core).core.body.stops ≡ stops_after unstopped (marks_at core after.marks)
    there core e =
        old.stops core
        ∙ ap (stops_after unstopped) (sym (append-nil (marks_at core before.marks))
        ∙ later core [] (other_marks core me step.clock step.marks (ne_eqb me core (λ q. e (sym q)))))

opening_follows : (machine : Machine) (slot : ℕ) → Follow machine (opening_world machine slot)
opening_follows machine slot = record {
  stops = λ core. choice (λ (c : Core). c.body.stops ≡ unstopped) (core == 0) _ _ refl refl;
  cores = tt;
}

follow : (machine : Machine) (slot : ℕ) (steps : List Step) (world : runs.World) → global_run machine slot steps ≡ Some world → Follow machine world
follow machine slot steps world h =
    all_kept machine (λ w. Unit {0}) (Follow machine) (steps_follow machine) steps (opening_world machine slot) world h
    (λ first later between is f. tt) (opening_follows machine slot)

pub stops_follow_marks : laws.StopsFollowMarks
stops_follow_marks given slot steps world h = (follow (machine_in given) slot steps world h).stops

-- ---- only core 0 passes the root

root_at_zero : (given : Given) (world : World) (me : ℕ) → HasScopes given world → RootWaits (bodies world me) → me ≡ 0
root_at_zero given world me scopes root =
    let m : MasterStands me (bodies world me) root.scope root.master = (scopes.stands.cores me).masters root.scope root.master root.there in
    sym m.home ∙ ap (λ scope. scope.core) (subst (WaiterStands (bodies world me) root.scope) root.waits m.waiter)

-- Each core that has passed the root is core 0.
abbrev ZeroPasses : runs.World → Type 0
ZeroPasses world = (core : ℕ) → (world.states core).core.body.stops.passed ≡ true → core ≡ 0

steps_pass : (given : Given) (before after : runs.World) (me : ℕ)
    → HasScopes given (world_in before) → TellsOfStep (machine_in given) before after me → ZeroPasses before → ZeroPasses after
steps_pass given before after me scopes step old core =
    subst (λ (states : ℕ → CountedCore). (states core).core.body.stops.passed ≡ true → core ≡ 0) (sym step.states)
    (put_each (λ (i : ℕ) (c : CountedCore). c.core.body.stops.passed ≡ true → i ≡ 0) before.states me step.core core
    (λ e h. e ∙ by (step.told.passes h)) (λ e. old core))
  where
    by : ((before.states me).core.body.stops.passed ≡ true) ⊎ RootWaits (before.states me).core.body → me ≡ 0
    by (inl e) = old me e
    by (inr root) = root_at_zero given (world_in before) me scopes root

opening_passes : (machine : Machine) (slot : ℕ) → ZeroPasses (opening_world machine slot)
opening_passes machine slot core = choice (λ (c : Core). c.body.stops.passed ≡ true → core ≡ 0) (core == 0) _ _ (λ h. absurd (cc)) (λ h. absurd (cc))

first_fit : (given : Given) (first later steps : List Step) → steps ≡ first ++ later → AllSlotsFit given steps → AllSlotsFit given first
first_fit given first later steps is fit = of_joined first later (subst (AllSlotsFit given) is fit)
  where
    of_joined : (xs ys : List Step) → AllSlotsFit given (xs ++ ys) → AllSlotsFit given xs
    of_joined [] ys f = tt
    of_joined (x ∷ xs) ys f = (f.0, of_joined xs ys f.1)

zero_passes : (given : Given) → laws.ScopesStandInRuns given
    → (slot : ℕ) (steps : List Step) (world : runs.World) → slot < given.slots → AllSlotsFit given steps
    → global_run (machine_in given) slot steps ≡ Some world → ZeroPasses world
zero_passes given scopes slot steps world low fit h =
    all_kept (machine_in given) (λ w. HasScopes given (world_in w)) ZeroPasses (steps_pass given) steps (opening_world (machine_in given) slot) world h
    (λ first later between is f. scopes slot first between low (first_fit given first later steps is fit) f) (opening_passes (machine_in given) slot)

-- ---- what stops tell

pub stops_tell_in_runs : laws.StopsTellInRuns
stops_tell_in_runs given sound scopes slot steps world low fit h =
    let f : Follow (machine_in given) world = follow (machine_in given) slot steps world h in
    record {
      zero = λ core l e. zero_passes given scopes slot steps world low fit h core e;
      trapped = λ core l e. trapped_is_told core world.marks _ (ap (λ (s : Stops). s.trapped) (sym (f.stops core)) ∙ e);
      untrapped = λ calm. untrapped_is_told given.setup.cores world.marks _ f.cores
          (λ core l. ap (λ (s : Stops). s.trapped) (sym (f.stops core)) ∙ calm core l);
    }
