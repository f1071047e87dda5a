-- A loop is waited at until all its indices have begun.
use Rattle.std.proofs.Common.{◌≡◌, ℕ, zero, suc, ◌<◌, true, false, List, [], ◌∷◌, length, slice_get, inl, inr, sym, ◌∙◌, ap, subst, refl, lt_irrefl, Some, None}
use Rattle.std.specs.Option.{option_and_then}
use Rattle.std.specs.FinSet as set
use Rattle.std.specs.FinSet.{contains-empty}
use Rattle.std.specs.Ordering.{nat_cmp}
use Rattle.std.proofs.lemmas.Option.{slice_get_within}
use Rattle.gr_syntax.specs.declared.syntax.Program.{Program}
use Rattle.gr_lang.specs.declared.action.Entry.{Entry}
use Rattle.gr_lang.specs.declared.action.Entry.TheVariants as entry
use Rattle.gr_lang.specs.declared.action.TaskId.{TaskId}
use Rattle.gr_lang.specs.States.{Range, Scope, State, root}
use Rattle.gr_lang.specs.Steps.{step, new_scope}
use Rattle.gr_lang.specs.Histories.{after}
use Rattle.gr_valid.specs.Valid.{AreOpened, IsValid}
use Rattle.gr_valid.proofs.States.{steps_valid}
use Rattle.gr_stands.proofs.Places.{cases_id}
use Rattle.gr_machine.specs.Slots.{same_id}
use Rattle.gr_shares.specs.Loops.{Loop, Loops, waits_at, loops_of, LoopsStand, BegunInside}
use Rattle.gr_shares_loops.specs.Changes.{put_loop, begun_at, IsOfNoLoop, ScopesAreThere, BeginsIndex, PassesLoop}
use Rattle.gr_shares_loops.proofs.Tasks.{some_same, none_some, found, no_loop_yet}
use Rattle.gr_shares_loops.proofs.Others.{entries_leave_loops}
use Rattle.gr_shares_loops.proofs.Changed.{loops_are_waited_at, opens_at, indices_are_begun, loops_are_passed}
use Rattle.gr_shares_units.proofs.Ranges.{at_it, at_other, keeps_begun}
use Rattle.gr_shares_ranges.specs.Ranges.{RangesStand}
use Rattle.gr_shares_ranges.specs.Laws as laws
use Rattle.gr_shares_ranges.proofs.Scopes.{OldRanges, others_old, passes_old, Opens, opens_so, last_or_old, Begins, begins_so, set_there}

-- ---- valid states

-- The innermost scope of a task is one that has been opened.
pub scopes_are_there : (program : Program) (S : State) → IsValid program S → ScopesAreThere S
scopes_are_there program S valid id task number outer there opened =
    let o : AreOpened S.scopes id task.scope (number ∷ outer) = subst (AreOpened S.scopes id task.scope) opened (valid.tasks id task there).opened in
    slice_get_within S.scopes number o.0.scope o.0.there

-- ---- loops that are others

abbrev Same : Loops → Loops → Type 0
Same L M = (q : TaskId) → M q ≡ L q

loops_same : (L M : Loops) → Same L M → LoopsStand L → LoopsStand M
loops_same L M same stands = record {
  apart = λ one other a b h k e. stands.apart one other a b (sym (same one) ∙ h) (sym (same other) ∙ k) e;
  inside = λ owner loop h. stands.inside owner loop (sym (same owner) ∙ h);
}

-- No scope with a range is new, and no loop another one.
ranges_same : (S T : State) → OldRanges S T → Same (loops_of S) (loops_of T) → RangesStand S → RangesStand T
ranges_same S T old same stands n scope range h k = elim (stands n scope range (old n scope range h k) k) [
  | inl w ↦ inl (record { owner = w.owner; there = same w.owner ∙ w.there })
  | inr z ↦ inr z
]

-- ---- one entry

module _ (program : Program) (cores limit : ℕ) (S T : State) (stands : LoopsStand (loops_of S)) (ranges : RangesStand S) where
  abbrev L : Loops
  L = loops_of S

  abbrev M : Loops
  M = loops_of T

  abbrev Kept : Type 0
  Kept = LoopsStand M × RangesStand T

  pub others_kept : (what : Entry) → IsOfNoLoop what → step program cores limit S what ≡ Some T → Kept
  others_kept what n e =
      let same = entries_leave_loops program cores limit S T what n e in
      (loops_same L M same stands, ranges_same S T (others_old program cores limit S T what n e) same ranges)

  pub passes_kept : (id : TaskId) → step program cores limit S (entry.Pass id) ≡ Some T → Kept
  passes_kept id e = (
    record {
      apart = λ one other a b h k g. stands.apart one other a b (was one a h) (was other b k) g;
      inside = λ owner loop h. stands.inside owner loop (was owner loop h);
    },
    λ n scope range h k. elim (ranges n scope range (passes_old program cores limit S T id e n scope range h k) k) [
      | inl w ↦ elim (cases_id w.owner id) [
        | inl q ↦ inr (p.begun (record { number = n; range = range }) (ap L (sym q) ∙ w.there))
        | inr q ↦ inl (record { owner = w.owner; there = at_other L M id None p.loops w.owner q ∙ w.there })
      ]
      | inr z ↦ inr z
    ],
  )
    where
      p : PassesLoop S T id
      p = loops_are_passed program cores limit S T id stands e

      was : (q : TaskId) (loop : Loop) → M q ≡ Some loop → L q ≡ Some loop
      was q loop h = elim (cases_id q id) [
        | inl g ↦ absurd (none_some loop (sym (at_it L M id None p.loops q g) ∙ h))
        | inr g ↦ sym (at_other L M id None p.loops q g) ∙ h
      ]

  pub opens_kept : (id : TaskId) → ScopesAreThere S → Opens S T id → Kept
  opens_kept id opened r = (
    record {
      apart = λ one other a b h k e. elim (cases_id one id) [
        | inl p ↦ elim (cases_id other id) [
          | inl q ↦ p ∙ sym q
          | inr q ↦ absurd (apart_from one a other b p h (theirs other b q k) e)
        ]
        | inr p ↦ elim (cases_id other id) [
          | inl q ↦ absurd (apart_from other b one a q k (theirs one a p h) (sym e))
          | inr q ↦ stands.apart one other a b (theirs one a p h) (theirs other b q k) e
        ]
      ];
      inside = λ owner loop h. elim (cases_id owner id) [
        | inl q ↦ subst (λ (x : Loop). BegunInside x.range) (mine owner loop q h) none_begun
        | inr q ↦ stands.inside owner loop (theirs owner loop q h)
      ];
    },
    λ n scope range h k. elim (last_or_old S.scopes x n scope (ap (λ (t : State). slice_get t.scopes n) r.is ∙ h)) [
      | inl old ↦ elim (ranges n scope range old k) [
        | inl w ↦ elim (cases_id w.owner id) [
          | inl q ↦ absurd (none_some (record { number = n; range = range }) (sym none ∙ ap L (sym q) ∙ w.there))
          | inr q ↦ inl (record { owner = w.owner; there = at_other L M id (Some new) loops w.owner q ∙ w.there })
        ]
        | inr z ↦ inr z
      ]
      | inr last ↦ inl (record {
        owner = id;
        there = at_it L M id (Some new) loops id refl ∙ ap Some (same_loop n range last.0 (some_same r.range range (ap (λ (s : Scope). s.range) last.1 ∙ k)));
      })
    ],
  )
    where
      new : Loop
      new = record { number = length S.scopes; range = r.range }

      x : Scope
      x = new_scope r.task id (Some r.range)

      same_loop : (n : ℕ) (range : Range) → n ≡ length S.scopes → r.range ≡ range → new ≡ record { number = n; range = range }
      same_loop n range p q = cc

      loops : (q : TaskId) → M q ≡ put_loop L id (Some new) q
      loops q = ap (λ (t : State). loops_of t q) (sym r.is) ∙ opens_at S id r.task r.range opened q

      none : L id ≡ None
      none = ap (option_and_then (waits_at S.scopes)) r.there ∙ no_loop_yet S.scopes r.task r.goes

      theirs : (q : TaskId) (loop : Loop) → same_id q id ≡ false → M q ≡ Some loop → L q ≡ Some loop
      theirs q loop e h = sym (at_other L M id (Some new) loops q e) ∙ h

      mine : (q : TaskId) (loop : Loop) → q ≡ id → M q ≡ Some loop → new ≡ loop
      mine q loop e h = some_same new loop (sym (at_it L M id (Some new) loops q e) ∙ h)

      true_false : true ≡ false → ⊥
      true_false e = cc

      none_begun : BegunInside r.range
      none_begun index c = absurd (true_false (sym c ∙ ap (λ (s : set.FinSet nat_cmp). set.contains s index) r.fresh ∙ contains-empty nat_cmp index))

      below : (q : TaskId) (loop : Loop) → L q ≡ Some loop → loop.number < length S.scopes
      below q loop h = let f = loops_are_waited_at S q loop h in slice_get_within S.scopes loop.number f.scope f.placed

      apart_from : (one : TaskId) (a : Loop) (other : TaskId) (b : Loop) → one ≡ id → M one ≡ Some a → L other ≡ Some b → a.number ≡ b.number → ⊥
      apart_from one a other b p h k e = lt_irrefl b.number (subst (λ (n : ℕ). b.number < n) (ap (λ (l : Loop). l.number) (mine one a p h) ∙ e) (below other b k))

  pub begins_kept : (owner : TaskId) (index : ℕ) → LoopsStand M → (r : BeginsIndex S T owner index) → Begins S T owner index → Kept
  begins_kept owner index after_stands r b = (
    after_stands,
    λ n scope range h k. elim (set_there S.scopes b.number n now scope (ap (λ (ss : List Scope). slice_get ss n) (sym b.scopes) ∙ h)) [
      | inl here ↦ inl (record {
        owner = owner;
        there = at_it L M owner (Some (begun_at r.loop index)) r.loops owner refl
            ∙ ap (λ (l : Loop). Some (begun_at l index)) same
            ∙ ap Some (same_loop n range here.0 (some_same (record b.range { begun = set.insert b.range.begun index }) range (ap (λ (s : Scope). s.range) here.1 ∙ k)));
      })
      | inr away ↦ elim (ranges n scope range away.1 k) [
        | inl w ↦ elim (cases_id w.owner owner) [
          | inl q ↦ absurd (away.0 (sym (ap (λ (l : Loop). l.number) (some_same (record { number = b.number; range = b.range }) (record { number = n; range = range }) (sym b.there ∙ ap L (sym q) ∙ w.there)))))
          | inr q ↦ inl (record { owner = w.owner; there = at_other L M owner (Some (begun_at r.loop index)) r.loops w.owner q ∙ w.there })
        ]
        | inr z ↦ inr z
      ]
    ],
  )
    where
      now : Scope
      now = record b.scope { range = Some (record b.range { begun = set.insert b.range.begun index }) }

      same : r.loop ≡ record { number = b.number; range = b.range }
      same = some_same r.loop (record { number = b.number; range = b.range }) (sym r.there ∙ b.there)

      same_loop : (n : ℕ) (range : Range) → n ≡ b.number → (record b.range { begun = set.insert b.range.begun index }) ≡ range
          → begun_at (record { number = b.number; range = b.range }) index ≡ record { number = n; range = range }
      same_loop n range p q = cc

-- ---- the laws

pub openings_have_ranges : laws.OpeningsHaveRanges
openings_have_ranges program limit zero scope range h k = absurd (none_some range (ap (λ (s : Scope). s.range) (some_same root scope h) ∙ k))
openings_have_ranges program limit (suc n) scope range h k = absurd (none_some scope h)

pub steps_keep_ranges : laws.StepsKeepRanges
steps_keep_ranges program cores limit S T (entry.Call id op reply) valid stands e ranges = others_kept program cores limit S T stands ranges (entry.Call id op reply) tt e
steps_keep_ranges program cores limit S T (entry.Spawn id way target args kid) valid stands e ranges = others_kept program cores limit S T stands ranges (entry.Spawn id way target args kid) tt e
steps_keep_ranges program cores limit S T (entry.Finish id) valid stands e ranges = others_kept program cores limit S T stands ranges (entry.Finish id) tt e
steps_keep_ranges program cores limit S T (entry.Loop id lo hi grain target args) valid stands e ranges =
    opens_kept program cores limit S T stands ranges id (scopes_are_there program S valid) (opens_so program cores limit S T id lo hi grain target args e)
steps_keep_ranges program cores limit S T (entry.Begin owner index kid) valid stands e ranges =
    let r = indices_are_begun program cores limit S T owner index kid stands e in
    begins_kept program cores limit S T stands ranges owner index (keeps_begun (λ number. None) S T owner index stands r).stands r
    (begins_so program cores limit S T owner index kid r.loop r.there e)
steps_keep_ranges program cores limit S T (entry.Pass id) valid stands e ranges = passes_kept program cores limit S T stands ranges id e
steps_keep_ranges program cores limit S T (entry.End id) valid stands e ranges = others_kept program cores limit S T stands ranges (entry.End id) tt e
steps_keep_ranges program cores limit S T (entry.Trap id kind) valid stands e ranges = others_kept program cores limit S T stands ranges (entry.Trap id kind) tt e
steps_keep_ranges program cores limit S T entry.Over valid stands e ranges = others_kept program cores limit S T stands ranges entry.Over tt e

pub entries_keep_ranges : laws.EntriesKeepRanges
entries_keep_ranges program cores limit S T [] valid stands e ranges = subst (λ (X : State). LoopsStand (loops_of X) × RangesStand X) (some_same S T e) (stands, ranges)
entries_keep_ranges program cores limit S T (what ∷ entries) valid stands e ranges =
    let f = found (λ (X : State). after program cores limit X entries) (step program cores limit S what) T e in
    let k = steps_keep_ranges program cores limit S f.one what valid stands f.there ranges in
    entries_keep_ranges program cores limit f.one T entries (steps_valid program cores limit S f.one what valid f.there) k.0 f.made k.1
