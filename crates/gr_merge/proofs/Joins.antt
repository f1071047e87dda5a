-- Local runs one after another.
use Rattle.std.proofs.Common.{◌≡◌, ℕ, List, [], ◌∷◌, ◌++◌, Some, refl, sym, ap, ap₂, ◌∙◌, subst, inl, inr}
use Rattle.std.proofs.lemmas.List.{append_assoc, append-nil}
use Rattle.std.proofs.lemmas.Bool.{cases_eq}
use Rattle.gr_view.specs.Places.{put}
use Rattle.gr_view.proofs.Puts.{put_at, put_other}
use Rattle.gr_merge.specs.Machines.{Kind, inner, takes, ships, Went, Machine, inner_step, take_step, ship_step, with_last, Marked, entries_in, marks_in}
use Rattle.gr_merge.specs.LocalRuns.{starts, ended, fold_local, LocalAt, LocalRun}
use Rattle.gr_merge.specs.Laws.{joined}
use Rattle.gr_merge.proofs.Queues.{put_joined, joined_nothing, nothing_joined, joined_one}
use Rattle.gr_merge.proofs.LocalFolds.{fold_runs, run_folds}

pub entries_append : {E M : Type 0} (xs ys : List (Marked E M)) → entries_in (xs ++ ys) ≡ entries_in xs ++ entries_in ys
entries_append [] ys = refl
entries_append (x ∷ xs) ys = ap (λ es. x.0 ∷ es) (entries_append xs ys)

pub marks_append : {E M : Type 0} (xs ys : List (Marked E M)) → marks_in (xs ++ ys) ≡ marks_in xs ++ marks_in ys
marks_append [] ys = refl
marks_append (x ∷ xs) ys = ap (λ ms. x.1 ++ ms) (marks_append xs ys) ∙ sym (append_assoc x.1 (marks_in xs) (marks_in ys))

module _ {S E P M : Type 0} (machine : Machine S E P M) (core : ℕ) where
  appended_at : (kind : Kind) (start : S) (received sent later_received later_sent : ℕ → List P) (x : Marked E M) (xs ys : List (Marked E M)) (middle end : S)
      → ((start : S) (received sent : ℕ → List P) → LocalRun machine core start received sent xs middle
      → LocalRun machine core start (joined received later_received) (joined sent later_sent) (xs ++ ys) end)
      → LocalAt machine kind core start received sent x (λ state untaken unsent. LocalRun machine core state untaken unsent xs middle)
      → LocalAt machine kind core start (joined received later_received) (joined sent later_sent) x
      (λ state untaken unsent. LocalRun machine core state untaken unsent (xs ++ ys) end)
  appended_at inner start received sent later_received later_sent x xs ys middle end ih l = (l.0, l.1, l.2, ih l.0.state received sent l.3)
  appended_at (takes origin) start received sent later_received later_sent x xs ys middle end ih l = (
    l.0,
    l.1,
    l.2 ++ later_received origin,
    ap (λ ps. ps ++ later_received origin) l.3,
    l.4,
    l.5,
    subst (λ untaken. LocalRun machine core l.0.state untaken (joined sent later_sent) (xs ++ ys) end)
        (sym (put_joined received later_received origin l.2)) (ih l.0.state (put received origin l.2) sent l.6),
  )
  appended_at (ships dest) start received sent later_received later_sent x xs ys middle end ih l = (
    l.0,
    l.1,
    l.2 ++ later_sent dest,
    ap (λ ps. ps ++ later_sent dest) l.3,
    l.4,
    l.5,
    subst (λ unsent. LocalRun machine core l.0.state (joined received later_received) unsent (xs ++ ys) end)
        (sym (put_joined sent later_sent dest l.2)) (ih l.0.state received (put sent dest l.2) l.6),
  )

  -- Two local runs are one.
  pub appended : (xs ys : List (Marked E M)) (start middle end : S) (received sent later_received later_sent : ℕ → List P)
      → LocalRun machine core start received sent xs middle → LocalRun machine core middle later_received later_sent ys end
      → LocalRun machine core start (joined received later_received) (joined sent later_sent) (xs ++ ys) end
  appended [] ys start middle end received sent later_received later_sent l r =
      rw (nothing_joined received later_received l.1, nothing_joined sent later_sent l.2, l.0) r
  appended (x ∷ xs) ys start middle end received sent later_received later_sent l r =
      appended_at (machine.kind x.0) start received sent later_received later_sent x xs ys middle end
      (λ next untaken unsent q. appended xs ys next middle end untaken unsent later_received later_sent q r) l

  pub runs_join : (start middle end : S) (received sent later_received later_sent : ℕ → List P) (journal later : List E) (marks later_marks : List M)
      → fold_local machine core (starts start received) journal ≡ Some (ended middle sent marks)
      → fold_local machine core (starts middle later_received) later ≡ Some (ended end later_sent later_marks)
      → fold_local machine core (starts start (joined received later_received)) (journal ++ later) ≡ Some (ended end (joined sent later_sent) (marks ++ later_marks))
  runs_join start middle end received sent later_received later_sent journal later marks later_marks h k =
      let a = fold_runs machine core start middle received sent journal marks h in
      let b = fold_runs machine core middle end later_received later_sent later later_marks k in
      let both = run_folds machine core start end (joined received later_received) (joined sent later_sent) (a.0 ++ b.0)
      (appended a.0 b.0 start middle end received sent later_received later_sent a.3 b.3) in
      let es : entries_in (a.0 ++ b.0) ≡ journal ++ later = entries_append a.0 b.0 ∙ ap₂ (λ xs ys. xs ++ ys) a.1 b.1 in
      let ms : marks_in (a.0 ++ b.0) ≡ marks ++ later_marks = marks_append a.0 b.0 ∙ ap₂ (λ xs ys. xs ++ ys) a.2 b.2 in
      ap (fold_local machine core (starts start (joined received later_received))) (sym es) ∙ both ∙ ap (λ all. Some (ended end (joined sent later_sent) all)) ms

  -- One entry.

  emptied : (i : ℕ) (packet : P) (k : ℕ) → put (put (λ j. []) i (packet ∷ [])) i [] k ≡ []
  emptied i packet k = elim (cases_eq k i) [
    | inl e ↦ put_at (put (λ j. []) i (packet ∷ [])) i [] k e
    | inr n ↦ put_other (put (λ j. []) i (packet ∷ [])) i [] k n ∙ put_other (λ j. []) i (packet ∷ []) k n
  ]

  abbrev entry_at : Kind → S → (ℕ → List P) → (ℕ → List P) → E → List M → S → Type 0
  entry_at kind state received sent entry marks end = LocalAt machine kind core state received sent (entry, marks) (λ next untaken unsent. LocalRun machine core next untaken unsent [] end)

  one_runs : (kind : Kind) (state end : S) (received sent : ℕ → List P) (entry : E) (marks : List M) → machine.kind entry ≡ kind
      → entry_at kind state received sent entry marks end
      → fold_local machine core (starts state received) (entry ∷ []) ≡ Some (ended end sent marks)
  one_runs kind state end received sent entry marks e l =
      run_folds machine core state end received sent ((entry, marks) ∷ []) (subst (λ k. entry_at k state received sent entry marks end) (sym e) l)
      ∙ ap (λ ms. Some (ended end sent ms)) (append-nil marks)

  abbrev nothing : ℕ → List P
  nothing k = []

  -- A run with one more entry, where this takes and ships these packets.
  with_entry : (start state end : S) (received sent more_received more_sent received_all sent_all : ℕ → List P) (journal : List E) (marks noted : List M) (entry : E)
      → fold_local machine core (starts start received) journal ≡ Some (ended state sent marks)
      → fold_local machine core (starts state more_received) (entry ∷ []) ≡ Some (ended end more_sent noted)
      → joined received more_received ≡ received_all → joined sent more_sent ≡ sent_all
      → fold_local machine core (starts start received_all) (journal ++ entry ∷ []) ≡ Some (ended end sent_all (marks ++ noted))
  with_entry start state end received sent more_received more_sent received_all sent_all journal marks noted entry h k r s =
      ap (λ ps. fold_local machine core (starts start ps) (journal ++ entry ∷ [])) (sym r)
      ∙ runs_join start state end received sent more_received more_sent journal (entry ∷ []) marks noted h k
      ∙ ap (λ ps. Some (ended end ps (marks ++ noted))) s

  pub inner_goes_on : (start state : S) (received sent : ℕ → List P) (journal : List E) (marks : List M) (entry : E) (went : Went S P M)
      → fold_local machine core (starts start received) journal ≡ Some (ended state sent marks)
      → machine.kind entry ≡ inner → inner_step machine core state entry ≡ Some went
      → fold_local machine core (starts start received) (journal ++ entry ∷ []) ≡ Some (ended went.state sent (marks ++ went.marks))
  inner_goes_on start state received sent journal marks entry went h k step =
      with_entry start state went.state received sent nothing nothing received sent journal marks went.marks entry h
      (one_runs inner state went.state nothing nothing entry went.marks k (went, step, refl, (refl, (λ k. refl), (λ k. refl))))
      (joined_nothing received nothing (λ k. refl)) (joined_nothing sent nothing (λ k. refl))

  pub take_goes_on : (start state : S) (received sent : ℕ → List P) (journal : List E) (marks : List M) (entry : E) (origin : ℕ) (packet : P) (went : Went S P M)
      → fold_local machine core (starts start received) journal ≡ Some (ended state sent marks)
      → machine.kind entry ≡ takes origin → take_step machine core state entry packet ≡ Some went
      → fold_local machine core (starts start (with_last received origin packet)) (journal ++ entry ∷ []) ≡ Some (ended went.state sent (marks ++ went.marks))
  take_goes_on start state received sent journal marks entry origin packet went h k step =
      let got : ℕ → List P = put nothing origin (packet ∷ []) in
      with_entry start state went.state received sent got nothing (with_last received origin packet) sent journal marks went.marks entry h
      (one_runs (takes origin) state went.state got nothing entry went.marks k
      (went, packet, [], put_at nothing origin (packet ∷ []) origin refl, step, refl, (refl, emptied origin packet, (λ k. refl))))
      (joined_one received origin packet) (joined_nothing sent nothing (λ k. refl))

  pub ship_goes_on : (start state : S) (received sent : ℕ → List P) (journal : List E) (marks : List M) (entry : E) (dest : ℕ) (packet : P) (went : Went S P M)
      → fold_local machine core (starts start received) journal ≡ Some (ended state sent marks)
      → machine.kind entry ≡ ships dest → ship_step machine core state entry ≡ Some (went, packet)
      → fold_local machine core (starts start received) (journal ++ entry ∷ []) ≡ Some (ended went.state (with_last sent dest packet) (marks ++ went.marks))
  ship_goes_on start state received sent journal marks entry dest packet went h k step =
      let put_out : ℕ → List P = put nothing dest (packet ∷ []) in
      with_entry start state went.state received sent nothing put_out received (with_last sent dest packet) journal marks went.marks entry h
      (one_runs (ships dest) state went.state nothing put_out entry went.marks k
      (went, packet, [], put_at nothing dest (packet ∷ []) dest refl, step, refl, (refl, (λ k. refl), emptied dest packet)))
      (joined_nothing received nothing (λ k. refl)) (joined_one sent dest packet)
