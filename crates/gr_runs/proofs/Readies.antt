-- The first ready slot.
use Rattle.std.proofs.Common.{◌≡◌, ℕ, List, [], ◌∷◌, Some, refl, ap}
use Rattle.std.specs.Prelude.{true, false, slice_get}
use Rattle.gr_work.specs.Queues.{is_empty}
use Rattle.gr_machine.specs.Runs.{run_slot, without_ready}
use Rattle.gr_courses.specs.Courses.{ran_from}
use Rattle.gr_courses.specs.Seen.{Seen, does_to, with_body}

pub none_ready : (ready : List ℕ) → true ≡ is_empty ready → ready ≡ []
none_ready [] e = refl
none_ready (slot ∷ more) e = cc

pub one_ready : (ready : List ℕ) (slot : ℕ) → slice_get ready 0 ≡ Some slot → is_empty ready ≡ false
one_ready [] slot e = cc
one_ready (first ∷ more) slot e = refl

pub ran_ready : (s : Seen) (taken slot : ℕ) (ready : List ℕ) → slice_get ready 0 ≡ Some slot
    → ran_from s taken ready ≡ does_to (with_body s (without_ready s.core.body)) (run_slot s.machine s.me (without_ready s.core.body) slot (s.core.body.tasks.slots slot))
ran_ready s taken slot [] e = cc
ran_ready s taken slot (first ∷ more) e =
    let same : first ≡ slot = cc in
    ap (λ (k : ℕ). does_to (with_body s (without_ready s.core.body)) (run_slot s.machine s.me (without_ready s.core.body) k (s.core.body.tasks.slots k))) same

pub ruleset at_ready = (none_ready, one_ready, ran_ready)
