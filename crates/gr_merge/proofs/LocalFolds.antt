-- A local run as a fold is one as a relation.
use Rattle.std.proofs.Common.{◌≡◌, ℕ, List, [], ◌∷◌, ◌++◌, Option, Some, refl, sym, ap, ap₂, ◌∙◌, subst}
use Rattle.std.proofs.lemmas.List.{append_assoc, append-nil}
use Rattle.std.specs.Option.{option_map, option_and_then}
use mathlib.Core.Path.{fun_ext}
use Rattle.gr_view.specs.Places.{put}
use Rattle.gr_view.proofs.Puts.{put_at}
use Rattle.gr_merge.specs.Machines.{Kind, inner, takes, ships, Went, Machine, inner_step, take_step, ship_step, with_first, with_last, Marked, entries_in, marks_in}
use Rattle.gr_merge.specs.LocalRuns.{Came, starts, ended, came_with, comes_at, fold_local, LocalAt, LocalRun}
use Rattle.gr_merge.specs.Laws.{joined}
use Rattle.gr_merge.proofs.Queues.{put_undo, put_whole, joined_nothing, joined_last, joined_next, then_map, then_first}

-- Lists of marks, one after another.
pub noted_next : {M : Type 0} (before went noted rest : List M) → went ≡ noted → before ++ went ++ rest ≡ before ++ (noted ++ rest)
noted_next before went noted rest e = append_assoc before went rest ∙ ap (λ xs. before ++ (xs ++ rest)) e

pub noted_before : {M : Type 0} (before went rest all : List M) → before ++ went ++ rest ≡ all → before ++ (went ++ rest) ≡ all
noted_before before went rest all e = sym (append_assoc before went rest) ∙ e

module _ {S E P M : Type 0} (machine : Machine S E P M) (core : ℕ) where
  -- What a fold over a journal tells of the run.
  pub record Found (came : Came S P M) (journal : List E) (end : Came S P M) : Type 0 where
    pub sent : ℕ → List P
    pub entries : List (Marked E M)
    pub same : entries_in entries ≡ journal
    pub all_sent : joined came.shipped sent ≡ end.shipped
    pub all_noted : came.marks ++ marks_in entries ≡ end.marks
    pub runs : LocalRun machine core came.state came.untaken sent entries end.state

  record FoundAt (kind : Kind) (came : Came S P M) (entry : E) (journal : List E) (end : Came S P M) : Type 0 where
    sent : ℕ → List P
    noted : List M
    entries : List (Marked E M)
    same : entries_in entries ≡ journal
    all_sent : joined came.shipped sent ≡ end.shipped
    all_noted : came.marks ++ (noted ++ marks_in entries) ≡ end.marks
    runs : LocalAt machine kind core came.state came.untaken sent (entry, noted) (λ state untaken unsent. LocalRun machine core state untaken unsent entries end.state)

  abbrev Finds : List E → Came S P M → Type 0
  Finds journal end = (came : Came S P M) → fold_local machine core came journal ≡ Some end → Found came journal end

  unsent_back : (sent : ℕ → List P) (dest : ℕ) (packets : List P) (state : S) (untaken : ℕ → List P) (entries : List (Marked E M)) (end : S)
      → LocalRun machine core state untaken sent entries end → LocalRun machine core state untaken (put (put sent dest packets) dest (sent dest)) entries end
  unsent_back sent dest packets state untaken entries end l =
      subst (λ unsent. LocalRun machine core state untaken unsent entries end) (sym (put_undo sent dest packets)) l

  found_at : (kind : Kind) (came : Came S P M) (entry : E) (journal : List E) (end : Came S P M) → Finds journal end
      → option_and_then (λ next. fold_local machine core next journal) (comes_at machine kind core came entry) ≡ Some end
      → FoundAt kind came entry journal end
  found_at inner came entry journal end ih h =
      let w = then_map (λ next. fold_local machine core next journal) (came_with came came.untaken came.shipped) (inner_step machine core came.state entry) end h in
      let r = ih (came_with came came.untaken came.shipped w.0) w.2 in
      record {
        sent = r.sent;
        noted = w.0.marks;
        entries = r.entries;
        same = r.same;
        all_sent = r.all_sent;
        all_noted = noted_before came.marks w.0.marks (marks_in r.entries) end.marks r.all_noted;
        runs = (w.0, w.1, refl, r.runs);
      }
  found_at (takes origin) came entry journal end ih h =
      let f = then_first (λ next. fold_local machine core next journal) (came.untaken origin)
      (λ packet rest. option_map (came_with came (put came.untaken origin rest) came.shipped) (take_step machine core came.state entry packet)) end h in
      let w = then_map (λ next. fold_local machine core next journal) (came_with came (put came.untaken origin f.1) came.shipped) (take_step machine core came.state entry f.0) end f.3 in
      let r = ih (came_with came (put came.untaken origin f.1) came.shipped w.0) w.2 in
      record {
        sent = r.sent;
        noted = w.0.marks;
        entries = r.entries;
        same = r.same;
        all_sent = r.all_sent;
        all_noted = noted_before came.marks w.0.marks (marks_in r.entries) end.marks r.all_noted;
        runs = (w.0, f.0, f.1, f.2, w.1, refl, r.runs);
      }
  found_at (ships dest) came entry journal end ih h =
      let after : Went S P M × P → Came S P M = λ sent. came_with came came.untaken (with_last came.shipped dest sent.1) sent.0 in
      let w = then_map (λ next. fold_local machine core next journal) after (ship_step machine core came.state entry) end h in
      let r = ih (after w.0) w.2 in
      let sent : ℕ → List P = put r.sent dest (w.0.1 ∷ r.sent dest) in
      record {
        sent = sent;
        noted = w.0.0.marks;
        entries = r.entries;
        same = r.same;
        all_sent = joined_next came.shipped r.sent dest w.0.1 end.shipped r.all_sent;
        all_noted = noted_before came.marks w.0.0.marks (marks_in r.entries) end.marks r.all_noted;
        runs = (
          w.0.0,
          w.0.1,
          r.sent dest,
          put_at r.sent dest (w.0.1 ∷ r.sent dest) dest refl,
          w.1,
          refl,
          unsent_back r.sent dest (w.0.1 ∷ r.sent dest) w.0.0.state came.untaken r.entries end.state r.runs,
        );
      }

  pub local_found : (journal : List E) (came end : Came S P M) → ((k : ℕ) → end.untaken k ≡ []) → fold_local machine core came journal ≡ Some end → Found came journal end
  local_found [] came end none h =
      let e : came ≡ end = cc in
      record {
        sent = λ dest. [];
        entries = [];
        same = refl;
        all_sent = joined_nothing came.shipped (λ dest. []) (λ k. refl) ∙ ap (λ (c : Came S P M). c.shipped) e;
        all_noted = append-nil came.marks ∙ ap (λ (c : Came S P M). c.marks) e;
        runs = (ap (λ (c : Came S P M). c.state) e, (λ k. ap (λ (c : Came S P M). c.untaken k) e ∙ none k), (λ k. refl));
      }
  local_found (entry ∷ journal) came end none h =
      let r = found_at (machine.kind entry) came entry journal end (λ next q. local_found journal next end none q) h in
      record {
        sent = r.sent;
        entries = (entry, r.noted) ∷ r.entries;
        same = ap (λ es. entry ∷ es) r.same;
        all_sent = r.all_sent;
        all_noted = r.all_noted;
        runs = r.runs;
      }

  abbrev make : S → (ℕ → List P) → (ℕ → List P) → List M → Came S P M
  make state untaken shipped marks = record { state = state; untaken = untaken; shipped = shipped; marks = marks }

  same_came : (came end : Came S P M) → came.state ≡ end.state → came.untaken ≡ end.untaken → came.shipped ≡ end.shipped → came.marks ≡ end.marks → came ≡ end
  same_came came end a b c d =
      ap (λ s. make s came.untaken came.shipped came.marks) a ∙ ap (λ g. make end.state g came.shipped came.marks) b
      ∙ ap (λ p. make end.state end.untaken p came.marks) c ∙ ap (make end.state end.untaken end.shipped) d

  abbrev came_to : Came S P M → (ℕ → List P) → List (Marked E M) → S → Option (Came S P M)
  came_to came sent entries end = Some (ended end (joined came.shipped sent) (came.marks ++ marks_in entries))

  abbrev Folds : List (Marked E M) → S → Type 0
  Folds entries end = (came : Came S P M) (sent : ℕ → List P) → LocalRun machine core came.state came.untaken sent entries end
      → fold_local machine core came (entries_in entries) ≡ came_to came sent entries end

  folded_at : (kind : Kind) (came : Came S P M) (sent : ℕ → List P) (entry : Marked E M) (entries : List (Marked E M)) (end : S) → Folds entries end
      → LocalAt machine kind core came.state came.untaken sent entry (λ state untaken unsent. LocalRun machine core state untaken unsent entries end)
      → option_and_then (λ next. fold_local machine core next (entries_in entries)) (comes_at machine kind core came entry.0) ≡ came_to came sent (entry ∷ entries) end
  folded_at inner came sent entry entries end ih l =
      ap (λ o. option_and_then (λ next. fold_local machine core next (entries_in entries)) (option_map (came_with came came.untaken came.shipped) o)) l.1
      ∙ ih (came_with came came.untaken came.shipped l.0) sent l.3
      ∙ ap (λ ms. Some (ended end (joined came.shipped sent) ms)) (noted_next came.marks l.0.marks entry.1 (marks_in entries) l.2)
  folded_at (takes origin) came sent entry entries end ih l =
      let after : P → List P → Option (Came S P M) = λ packet rest. option_map (came_with came (put came.untaken origin rest) came.shipped) (take_step machine core came.state entry.0 packet) in
      ap (λ packets. option_and_then (λ next. fold_local machine core next (entries_in entries)) (with_first packets after)) l.3
      ∙ ap (λ o. option_and_then (λ next. fold_local machine core next (entries_in entries)) (option_map (came_with came (put came.untaken origin l.2) came.shipped) o)) l.4
      ∙ ih (came_with came (put came.untaken origin l.2) came.shipped l.0) sent l.6
      ∙ ap (λ ms. Some (ended end (joined came.shipped sent) ms)) (noted_next came.marks l.0.marks entry.1 (marks_in entries) l.5)
  folded_at (ships dest) came sent entry entries end ih l =
      let after : Went S P M × P → Came S P M = λ sent. came_with came came.untaken (with_last came.shipped dest sent.1) sent.0 in
      let unsent : ℕ → List P = put sent dest l.2 in
      ap (λ o. option_and_then (λ next. fold_local machine core next (entries_in entries)) (option_map after o)) l.4
      ∙ ih (after (l.0, l.1)) unsent l.6
      ∙ ap₂ (λ ps ms. Some (ended end ps ms))
      (joined_last came.shipped unsent dest l.1 ∙ ap (joined came.shipped) (put_whole sent dest l.2 (l.1 ∷ unsent dest) (l.3 ∙ sym (ap (λ ps. l.1 ∷ ps) (put_at sent dest l.2 dest refl)))))
      (noted_next came.marks l.0.marks entry.1 (marks_in entries) l.5)

  pub local_folded : (entries : List (Marked E M)) (end : S) (came : Came S P M) (sent : ℕ → List P) → LocalRun machine core came.state came.untaken sent entries end
      → fold_local machine core came (entries_in entries) ≡ came_to came sent entries end
  local_folded [] end came sent l =
      ap Some (same_came came (ended end (joined came.shipped sent) (came.marks ++ [])) l.0 (fun_ext l.1) (sym (joined_nothing came.shipped sent l.2)) (sym (append-nil came.marks)))
  local_folded (entry ∷ entries) end came sent l =
      folded_at (machine.kind entry.0) came sent entry entries end (λ next unsent r. local_folded entries end next unsent r) l

  -- From the start.

  pub fold_runs : (start end : S) (received sent : ℕ → List P) (journal : List E) (marks : List M)
      → fold_local machine core (starts start received) journal ≡ Some (ended end sent marks)
      → (entries : List (Marked E M)) × (entries_in entries ≡ journal) × (marks_in entries ≡ marks) × LocalRun machine core start received sent entries end
  fold_runs start end received sent journal marks h =
      let r = local_found journal (starts start received) (ended end sent marks) (λ k. refl) h in
      (r.entries, r.same, r.all_noted, subst (λ ps. LocalRun machine core start received ps r.entries end) r.all_sent r.runs)

  pub run_folds : (start end : S) (received sent : ℕ → List P) (entries : List (Marked E M)) → LocalRun machine core start received sent entries end
      → fold_local machine core (starts start received) (entries_in entries) ≡ Some (ended end sent (marks_in entries))
  run_folds start end received sent entries l = local_folded entries end (starts start received) sent l
