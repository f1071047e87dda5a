-- A global run as a fold is one as a relation.
use Rattle.std.proofs.Common.{◌≡◌, ℕ, List, [], ◌∷◌, ◌++◌, Option, Some, refl, sym, ap, ◌∙◌}
use Rattle.std.proofs.lemmas.List.{append-nil}
use Rattle.std.specs.Option.{option_map, option_and_then}
use mathlib.Core.Path.{fun_ext}
use Rattle.gr_merge.specs.Machines.{Kind, inner, takes, ships, Went, Machine, inner_step, take_step, ship_step, with_first, Marked}
use Rattle.gr_merge.specs.GlobalRuns.{World, of_core, put_pair, world_with, goes_at, fold_global, GlobalAt, GlobalRun, steps_in, all_marks}
use Rattle.gr_merge.proofs.Queues.{then_map, then_first}
use Rattle.gr_merge.proofs.LocalFolds.{noted_next, noted_before}

module _ {S E P M : Type 0} (machine : Machine S E P M) where
  -- What a fold over steps tells of the run.
  pub record Found (world : World S P M) (steps : List (ℕ × E)) (end : World S P M) : Type 0 where
    pub entries : List (ℕ × Marked E M)
    pub same : steps_in entries ≡ steps
    pub all_noted : world.marks ++ all_marks entries ≡ end.marks
    pub runs : GlobalRun machine world.states world.transit entries end.states end.transit

  record FoundAt (kind : Kind) (core : ℕ) (world : World S P M) (entry : E) (steps : List (ℕ × E)) (end : World S P M) : Type 0 where
    noted : List M
    entries : List (ℕ × Marked E M)
    same : steps_in entries ≡ steps
    all_noted : world.marks ++ (of_core core noted ++ all_marks entries) ≡ end.marks
    runs : GlobalAt machine kind core world.states world.transit (entry, noted) (λ states transit. GlobalRun machine states transit entries end.states end.transit)

  abbrev Finds : List (ℕ × E) → World S P M → Type 0
  Finds steps end = (world : World S P M) → fold_global machine world steps ≡ Some end → Found world steps end

  abbrev rest_of : List (ℕ × E) → World S P M → Option (World S P M)
  rest_of steps next = fold_global machine next steps

  found_at : (kind : Kind) (core : ℕ) (world : World S P M) (entry : E) (steps : List (ℕ × E)) (end : World S P M) → Finds steps end
      → option_and_then (rest_of steps) (goes_at machine kind core world entry) ≡ Some end → FoundAt kind core world entry steps end
  found_at inner core world entry steps end ih h =
      let w = then_map (rest_of steps) (world_with world core world.transit) (inner_step machine core (world.states core) entry) end h in
      let r = ih (world_with world core world.transit w.0) w.2 in
      record {
        noted = w.0.marks;
        entries = r.entries;
        same = r.same;
        all_noted = noted_before world.marks (of_core core w.0.marks) (all_marks r.entries) end.marks r.all_noted;
        runs = (w.0, w.1, refl, r.runs);
      }
  found_at (takes origin) core world entry steps end ih h =
      let f = then_first (rest_of steps) (world.transit origin core)
      (λ packet rest. option_map (world_with world core (put_pair world.transit origin core rest)) (take_step machine core (world.states core) entry packet)) end h in
      let transit : ℕ → ℕ → List P = put_pair world.transit origin core f.1 in
      let w = then_map (rest_of steps) (world_with world core transit) (take_step machine core (world.states core) entry f.0) end f.3 in
      let r = ih (world_with world core transit w.0) w.2 in
      record {
        noted = w.0.marks;
        entries = r.entries;
        same = r.same;
        all_noted = noted_before world.marks (of_core core w.0.marks) (all_marks r.entries) end.marks r.all_noted;
        runs = (w.0, f.0, f.1, f.2, w.1, refl, r.runs);
      }
  found_at (ships dest) core world entry steps end ih h =
      let after : Went S P M × P → World S P M = λ sent. world_with world core (put_pair world.transit core dest (world.transit core dest ++ sent.1 ∷ [])) sent.0 in
      let w = then_map (rest_of steps) after (ship_step machine core (world.states core) entry) end h in
      let r = ih (after w.0) w.2 in
      record {
        noted = w.0.0.marks;
        entries = r.entries;
        same = r.same;
        all_noted = noted_before world.marks (of_core core w.0.0.marks) (all_marks r.entries) end.marks r.all_noted;
        runs = (w.0.0, w.0.1, w.1, refl, r.runs);
      }

  pub global_found : (steps : List (ℕ × E)) (world end : World S P M) → fold_global machine world steps ≡ Some end → Found world steps end
  global_found [] world end h =
      let e : world ≡ end = cc in
      record {
        entries = [];
        same = refl;
        all_noted = append-nil world.marks ∙ ap (λ (w : World S P M). w.marks) e;
        runs = ((λ k. ap (λ (w : World S P M). w.states k) e), (λ a b. ap (λ (w : World S P M). w.transit a b) e));
      }
  global_found (step ∷ steps) world end h =
      let r = found_at (machine.kind step.1) step.0 world step.1 steps end (λ next q. global_found steps next end q) h in
      record {
        entries = (step.0, (step.1, r.noted)) ∷ r.entries;
        same = ap (λ es. step ∷ es) r.same;
        all_noted = r.all_noted;
        runs = r.runs;
      }

  abbrev make : (ℕ → S) → (ℕ → ℕ → List P) → List (ℕ × M) → World S P M
  make states transit marks = record { states = states; transit = transit; marks = marks }

  same_world : (world end : World S P M) → world.states ≡ end.states → world.transit ≡ end.transit → world.marks ≡ end.marks → world ≡ end
  same_world world end a b c =
      ap (λ s. make s world.transit world.marks) a ∙ ap (λ t. make end.states t world.marks) b ∙ ap (make end.states end.transit) c

  abbrev world_of : (ℕ → S) → (ℕ → ℕ → List P) → List (ℕ × M) → Option (World S P M)
  world_of states transit marks = Some (make states transit marks)

  abbrev Folds : List (ℕ × Marked E M) → (ℕ → S) → (ℕ → ℕ → List P) → Type 0
  Folds entries ends left = (world : World S P M) → GlobalRun machine world.states world.transit entries ends left
      → fold_global machine world (steps_in entries) ≡ world_of ends left (world.marks ++ all_marks entries)

  folded_at : (kind : Kind) (core : ℕ) (world : World S P M) (entry : Marked E M) (entries : List (ℕ × Marked E M)) (ends : ℕ → S) (left : ℕ → ℕ → List P)
      → Folds entries ends left
      → GlobalAt machine kind core world.states world.transit entry (λ states transit. GlobalRun machine states transit entries ends left)
      → option_and_then (rest_of (steps_in entries)) (goes_at machine kind core world entry.0) ≡ world_of ends left (world.marks ++ (of_core core entry.1 ++ all_marks entries))
  folded_at inner core world entry entries ends left ih l =
      ap (λ o. option_and_then (rest_of (steps_in entries)) (option_map (world_with world core world.transit) o)) l.1
      ∙ ih (world_with world core world.transit l.0) l.3
      ∙ ap (world_of ends left) (noted_next world.marks (of_core core l.0.marks) (of_core core entry.1) (all_marks entries) (ap (of_core core) l.2))
  folded_at (takes origin) core world entry entries ends left ih l =
      let after : P → List P → Option (World S P M) =
      λ packet rest. option_map (world_with world core (put_pair world.transit origin core rest)) (take_step machine core (world.states core) entry.0 packet) in
      let transit : ℕ → ℕ → List P = put_pair world.transit origin core l.2 in
      ap (λ packets. option_and_then (rest_of (steps_in entries)) (with_first packets after)) l.3
      ∙ ap (λ o. option_and_then (rest_of (steps_in entries)) (option_map (world_with world core transit) o)) l.4
      ∙ ih (world_with world core transit l.0) l.6
      ∙ ap (world_of ends left) (noted_next world.marks (of_core core l.0.marks) (of_core core entry.1) (all_marks entries) (ap (of_core core) l.5))
  folded_at (ships dest) core world entry entries ends left ih l =
      let after : Went S P M × P → World S P M = λ sent. world_with world core (put_pair world.transit core dest (world.transit core dest ++ sent.1 ∷ [])) sent.0 in
      ap (λ o. option_and_then (rest_of (steps_in entries)) (option_map after o)) l.2
      ∙ ih (after (l.0, l.1)) l.4
      ∙ ap (world_of ends left) (noted_next world.marks (of_core core l.0.marks) (of_core core entry.1) (all_marks entries) (ap (of_core core) l.3))

  pub global_folded : (entries : List (ℕ × Marked E M)) (ends : ℕ → S) (left : ℕ → ℕ → List P) (world : World S P M)
      → GlobalRun machine world.states world.transit entries ends left
      → fold_global machine world (steps_in entries) ≡ world_of ends left (world.marks ++ all_marks entries)
  global_folded [] ends left world l =
      ap Some (same_world world (make ends left (world.marks ++ [])) (fun_ext l.0) (fun_ext (λ a. fun_ext (λ b. l.1 a b))) (sym (append-nil world.marks)))
  global_folded (entry ∷ entries) ends left world l =
      folded_at (machine.kind entry.1.0) entry.0 world entry.1 entries ends left (λ next r. global_folded entries ends left next r) l
