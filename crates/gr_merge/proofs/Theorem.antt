-- The merge of the journals of local runs whose packets match is a global run.
use Rattle.std.proofs.Common.{◌≡◌, ℕ, zero, suc, All, map, List, [], ◌∷◌, length, slice_index_or, Option, Some, None, refl, sym, ap, ap₂, ◌∙◌, subst, arith, le_of_lt}
use Rattle.std.proofs.lemmas.List.Elements.{All-head, All-tail}
use Rattle.gr_view.specs.Places.{put}
use Rattle.gr_merge.specs.Machines.{Kind, inner, takes, ships, Went, Machine, Marked, entries_in, marks_in}
use Rattle.gr_merge.specs.LocalRuns.{starts, ended, fold_local, LocalAt, LocalRun}
use Rattle.gr_merge.specs.GlobalRuns.{World, opening, fold_global, steps_in, all_marks}
use Rattle.gr_merge.specs.Merges.{merge}
use Rattle.gr_merge.specs.Laws.{IsClocked, IsMatched}
use Rattle.gr_merge.proofs.Rising.{Each, NotBelow, Rises, below_less}
use Rattle.gr_merge.proofs.InOrder.{merge_core, from_rises}
use Rattle.gr_merge.proofs.LocalFolds.{fold_runs}
use Rattle.gr_merge.proofs.GlobalFolds.{global_folded}
use Rattle.gr_merge.proofs.Orders.{quiet_step, shipping_step, entry_clock, merges}
use Rattle.gr_merge.proofs.Marks.{Timed, marks_from, steps_from}

each_from_all : {X : Type 0} (P : X → Type 0) (xs : List X) → All P xs → Each P xs
each_from_all P [] h = tt
each_from_all P (x ∷ xs) h = (All-head P x xs h, each_from_all P xs (All-tail P x xs h))

no_entries : {E M : Type 0} (entries : List (Marked E M)) → entries_in entries ≡ [] → [] ≡ entries
no_entries [] h = refl
no_entries (x ∷ xs) h = absurd (cc)

-- Journals with their marks, of which entries and marks are given.
record Collected {E M : Type 0} (journals : List (List E)) (marks : List (List M)) (found : ℕ → List (Marked E M)) : Type 0 where
  lists : List (List (Marked E M))
  of_entries : map entries_in lists ≡ journals
  of_marks : map marks_in lists ≡ marks
  each : (k : ℕ) → slice_index_or lists k [] ≡ found k

collect : {E M : Type 0} (journals : List (List E)) (marks : List (List M)) (found : ℕ → List (Marked E M)) → length marks ≡ length journals
    → ((k : ℕ) → entries_in (found k) ≡ slice_index_or journals k []) → ((k : ℕ) → marks_in (found k) ≡ slice_index_or marks k [])
    → Collected journals marks found
collect [] [] found l h k = record { lists = []; of_entries = refl; of_marks = refl; each = λ j. no_entries (found j) (h j) }
collect [] (m ∷ marks) found l h k = absurd (omega (arith, l))
collect (j ∷ journals) [] found l h k = absurd (omega (arith, l))
collect {E} {M} (j ∷ journals) (m ∷ marks) found l h k =
    let rest = collect journals marks (λ i. found (suc i)) (omega (arith, l)) (λ i. h (suc i)) (λ i. k (suc i)) in
    record {
      lists = found 0 ∷ rest.lists;
      of_entries = ap₂ (λ x xs. x ∷ xs) (h 0) rest.of_entries;
      of_marks = ap₂ (λ x xs. x ∷ xs) (k 0) rest.of_marks;
      each = each_of rest.lists rest.each;
    }
  where
    each_of : (lists : List (List (Marked E M))) → ((i : ℕ) → slice_index_or lists i [] ≡ found (suc i)) → (i : ℕ) → slice_index_or (found 0 ∷ lists) i [] ≡ found i
    each_of lists q zero = refl
    each_of lists q (suc i) = q i

module _ {S E P M : Type 0} (machine : Machine S E P M) (time : S → ℕ) (noted : M → ℕ) (clocked : IsClocked machine time noted) where
  abbrev clock_of : Marked E M → ℕ
  clock_of = entry_clock machine time noted clocked

  -- What an entry of any kind has made.
  record Made (core : ℕ) (state : S) (entry : Marked E M) (rest : S → (ℕ → List P) → (ℕ → List P) → Type 0) : Type 0 where
    went : Went S P M
    taken : Option P
    untaken : ℕ → List P
    unsent : ℕ → List P
    step : machine.step core state entry.0 taken ≡ Some went
    marks : went.marks ≡ entry.1
    after : rest went.state untaken unsent

  made_at : (kind : Kind) (core : ℕ) (state : S) (received sent : ℕ → List P) (entry : Marked E M) (rest : S → (ℕ → List P) → (ℕ → List P) → Type 0)
      → LocalAt machine kind core state received sent entry rest → Made core state entry rest
  made_at inner core state received sent entry rest l = record {
    went = l.0;
    taken = None;
    untaken = received;
    unsent = sent;
    step = (quiet_step (machine.step core state entry.0 None) l.0 l.1).0;
    marks = l.2;
    after = l.3;
  }
  made_at (takes origin) core state received sent entry rest l = record {
    went = l.0;
    taken = Some l.1;
    untaken = put received origin l.2;
    unsent = sent;
    step = (quiet_step (machine.step core state entry.0 (Some l.1)) l.0 l.4).0;
    marks = l.5;
    after = l.6;
  }
  made_at (ships dest) core state received sent entry rest l = record {
    went = l.0;
    taken = None;
    untaken = received;
    unsent = put sent dest l.2;
    step = (shipping_step (machine.step core state entry.0 None) l.0 l.1 l.4).0;
    marks = l.5;
    after = l.6;
  }

  record Climbs (start : ℕ) (entries : List (Marked E M)) : Type 0 where
    above : NotBelow clock_of start entries
    rises : Rises clock_of entries
    timed : Each (Timed machine.clock noted) entries

  climbs : (entries : List (Marked E M)) (core : ℕ) (state end : S) (received sent : ℕ → List P) → LocalRun machine core state received sent entries end
      → Climbs (time state) entries
  climbs [] core state end received sent l = record { above = tt; rises = tt; timed = tt }
  climbs (x ∷ xs) core state end received sent l =
      let made = made_at (machine.kind x.0) core state received sent x (λ next untaken unsent. LocalRun machine core next untaken unsent xs end) l in
      let rest = climbs xs core made.went.state end made.untaken made.unsent made.after in
      let tick = clocked.ticks core state x.0 made.taken made.went made.step in
      let above : NotBelow clock_of (clock_of x) xs = subst (λ c. NotBelow clock_of c xs) tick.1 rest.above in
      record {
        above = (le_of_lt tick.0, below_less clock_of (time state) (clock_of x) xs (le_of_lt tick.0) above);
        rises = (above, rest.rises);
        timed = (
          subst (Each (λ mark. noted mark ≡ machine.clock x.0)) made.marks
              (each_from_all (λ mark. noted mark ≡ machine.clock x.0) made.went.marks (clocked.marks_then core state x.0 made.taken made.went made.step)),
          rest.timed,
        );
      }

  abbrev world : (ℕ → S) → (ℕ → ℕ → List P) → List (ℕ × M) → World S P M
  world ends left marks = record { states = ends; transit = left; marks = marks }

  pub merge_runs : (journals : List (List E)) (marks : List (List M)) (states ends : ℕ → S) (received sent left : ℕ → ℕ → List P) → length marks ≡ length journals
      → ((core : ℕ) → fold_local machine core (starts (states core) (received core)) (slice_index_or journals core []) ≡ Some (ended (ends core) (sent core) (slice_index_or marks core [])))
      → IsMatched sent received left
      → fold_global machine (opening states) (merge machine.clock journals) ≡ Some (record { states = ends; transit = left; marks = merge noted marks })
  merge_runs journals marks states ends received sent left l h matched =
      let found : ℕ → List (Marked E M) = λ k. (runs k).0 in
      let all = collect journals marks found l (λ k. (runs k).1) (λ k. (runs k).2) in
      let steps : List (ℕ × Marked E M) = merge clock_of all.lists in
      let climb : (k : ℕ) → Climbs (time (states k)) (found k) = λ k. climbs (found k) k (states k) (ends k) (received k) (sent k) (runs k).3 in
      let rises : (k : ℕ) → Rises clock_of (slice_index_or all.lists k []) = λ k. subst (Rises clock_of) (sym (all.each k)) (climb k).rises in
      let timed : (k : ℕ) → Each (Timed machine.clock noted) (slice_index_or all.lists k []) = λ k. subst (Each (Timed machine.clock noted)) (sym (all.each k)) (climb k).timed in
      let global = merges machine time noted clocked steps ends left (from_rises clock_of 0 all.lists rises) states (λ a b. []) received sent
      (λ k. subst (λ es. LocalRun machine k (states k) (received k) (sent k) es (ends k)) (sym (merge_core clock_of all.lists k ∙ all.each k)) (runs k).3) matched in
      let entries : steps_in steps ≡ merge machine.clock journals = steps_from machine.clock noted 0 all.lists ∙ ap (merge machine.clock) all.of_entries in
      let noted_all : all_marks steps ≡ merge noted marks = marks_from machine.clock noted 0 all.lists rises timed ∙ ap (merge noted) all.of_marks in
      ap (fold_global machine (opening states)) (sym entries) ∙ global_folded machine steps ends left (opening states) global
      ∙ ap (λ ms. Some (world ends left ms)) noted_all
    where
      runs : (k : ℕ) → (entries : List (Marked E M)) × (entries_in entries ≡ slice_index_or journals k []) × (marks_in entries ≡ slice_index_or marks k [])
          × LocalRun machine k (states k) (received k) (sent k) entries (ends k)
      runs k = fold_runs machine k (states k) (ends k) (received k) (sent k) (slice_index_or journals k []) (slice_index_or marks k []) (h k)
