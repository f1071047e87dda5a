-- Loops that are opened, of which an index begins, or that are passed: others go on.
use Rattle.std.proofs.Common.{◌≡◌, ◌≢◌, ℕ, zero, suc, ◌+◌, ◌<◌, ◌==◌, ◌||◌, Bool, true, false, if◌then◌else◌, List, length, inl, inr, sym, ◌∙◌, ap, subst, refl, arith, lt_irrefl, Option, Some, None}
use Rattle.std.specs.FinSet as set
use Rattle.std.specs.FinSet.{contains-empty}
use Rattle.std.specs.Ordering.{nat_cmp}
use Rattle.std.proofs.lemmas.Bool.{cases_eq}
use Rattle.std.proofs.lemmas.Bool.Decides.{nat_tests}
use Rattle.std.proofs.lemmas.Option.{slice_get_within}
use Rattle.gr_lang.specs.declared.action.TaskId.{TaskId}
use Rattle.gr_lang.specs.States.{Range, State}
use Rattle.gr_machine.specs.Slots.{same_id}
use Rattle.gr_stands.proofs.Places.{cases_id}
use Rattle.gr_scopes.specs.Trees.{Names, NamesGrow}
use Rattle.gr_shares.specs.Loops.{Loop, Loops, loops_of, within, left_in, left_at, BegunInside, LoopsStand}
use Rattle.gr_shares.specs.ShareActs.{GoesOn, KeepsLoops}
use Rattle.gr_shares_loops.specs.Changes.{put_loop, new_loop, begun_at, OpensLoop, BeginsIndex, PassesLoop}
use Rattle.gr_shares_loops.proofs.Counting.{with_one, either_true}
use Rattle.gr_shares_loops.proofs.Tasks.{some_same, none_some, put_loop_at, put_loop_other}
use Rattle.gr_shares_loops.proofs.Others.{entries_leave_loops}
use Rattle.gr_shares_loops.proofs.Changed.{loops_are_waited_at, loops_are_passed}
use Rattle.gr_shares_units.specs.Laws as laws

-- ---- the same loops

pub keeps_pointwise : (names more : Names) (L M : Loops) → NamesGrow names more → LoopsStand L → ((q : TaskId) → M q ≡ L q) → KeepsLoops names more L M
keeps_pointwise names more L M named stands same = record {
  named = named;
  kept = λ owner loop h. inl (record { next = loop; there = same owner ∙ h; number = refl; target = refl; args = refl });
  stands = record {
    apart = λ one other a b h k e. stands.apart one other a b (sym (same one) ∙ h) (sym (same other) ∙ k) e;
    inside = λ owner loop h. stands.inside owner loop (sym (same owner) ∙ h);
  };
}

pub others_share : laws.OthersShare
others_share given names more S T what stands named none e =
    let same = entries_leave_loops given.program given.setup.cores given.setup.steps S T what none e in
    record {
      keeps = keeps_pointwise names more (loops_of S) (loops_of T) named stands same;
      left = λ owner index. ap (λ (o : Option Loop). left_at o index) (same owner);
    }

-- ---- one loop is another one

module _ (L M : Loops) (id : TaskId) (o : Option Loop) (loops : (q : TaskId) → M q ≡ put_loop L id o q) where
  pub at_it : (q : TaskId) → q ≡ id → M q ≡ o
  at_it q e = loops q ∙ ap (put_loop L id o) e ∙ put_loop_at L id o

  pub at_other : (q : TaskId) → same_id q id ≡ false → M q ≡ L q
  at_other q e = loops q ∙ put_loop_other L id o q e

  pub other_goes : (q : TaskId) (loop : Loop) → same_id q id ≡ false → L q ≡ Some loop → GoesOn M q loop
  other_goes q loop e h = record { next = loop; there = at_other q e ∙ h; number = refl; target = refl; args = refl }

-- ---- a loop is passed

pub passes_share : laws.PassesShare
passes_share given names more S T id stands named e = record {
  keeps = record {
    named = named;
    kept = λ owner loop h. elim (cases_id owner id) [
      | inl q ↦ inr (p.begun loop (ap L (sym q) ∙ h))
      | inr q ↦ inl (other_goes L M id None p.loops owner loop q h)
    ];
    stands = record {
      apart = λ one other a b h k g. stands.apart one other a b (was one a h) (was other b k) g;
      inside = λ owner loop h. stands.inside owner loop (was owner loop h);
    };
  };
  left = λ owner index. elim (cases_id owner id) [
    | inl q ↦ ap (λ (o : Option Loop). left_at o index) (at_it L M id None p.loops owner q) ∙ sym (ap (λ (i : TaskId). left_at (L i) index) q ∙ none_at index (L id) refl)
    | inr q ↦ ap (λ (o : Option Loop). left_at o index) (at_other L M id None p.loops owner q)
  ];
}
  where
    L : Loops
    L = loops_of S

    M : Loops
    M = loops_of T

    p : PassesLoop S T id
    p = loops_are_passed given.program given.setup.cores given.setup.steps S T id stands e

    was : (q : TaskId) (loop : Loop) → M q ≡ Some loop → L q ≡ Some loop
    was q loop h = elim (cases_id q id) [
      | inl g ↦ absurd (none_some loop (sym (at_it L M id None p.loops q g) ∙ h))
      | inr g ↦ sym (at_other L M id None p.loops q g) ∙ h
    ]

    none_at : (index : ℕ) (o : Option Loop) → L id ≡ o → left_at o index ≡ zero
    none_at index None h = refl
    none_at index (Some loop) h = p.begun loop h index

-- ---- a loop is opened

pub keeps_opened : (names more : Names) (S T : State) (id : TaskId) (lo hi target : ℕ) (args : List ℕ) → NamesGrow names more → LoopsStand (loops_of S) → OpensLoop S T id lo hi target args
    → KeepsLoops names more (loops_of S) (loops_of T)
keeps_opened names more S T id lo hi target args named stands r = record {
  named = named;
  kept = λ owner loop h. elim (cases_id owner id) [
    | inl q ↦ absurd (none_some loop (sym r.none ∙ ap L (sym q) ∙ h))
    | inr q ↦ inl (other_goes L M id (Some new) r.loops owner loop q h)
  ];
  stands = record {
    apart = λ one other a b h k e. elim (cases_id one id) [
      | inl p ↦ elim (cases_id other id) [
        | inl q ↦ p ∙ sym q
        | inr q ↦ absurd (lt_irrefl b.number (subst (λ (n : ℕ). b.number < n) (numbered one a p h ∙ e) (below other b (theirs other b q k))))
      ]
      | inr p ↦ elim (cases_id other id) [
        | inl q ↦ absurd (lt_irrefl a.number (subst (λ (n : ℕ). a.number < n) (numbered other b q k ∙ sym e) (below one a (theirs one a p h))))
        | inr q ↦ stands.apart one other a b (theirs one a p h) (theirs other b q k) e
      ]
    ];
    inside = λ owner loop h. elim (cases_id owner id) [
      | inl q ↦ subst (λ (x : Loop). BegunInside x.range) (mine owner loop q h) (λ index c. absurd (true_false (sym c ∙ contains-empty nat_cmp index)))
      | inr q ↦ stands.inside owner loop (theirs owner loop q h)
    ];
  };
}
  where
    L : Loops
    L = loops_of S

    M : Loops
    M = loops_of T

    new : Loop
    new = new_loop S lo hi target args

    true_false : true ≡ false → ⊥
    true_false e = cc

    mine : (q : TaskId) (loop : Loop) → q ≡ id → M q ≡ Some loop → new ≡ loop
    mine q loop e h = some_same new loop (sym (at_it L M id (Some new) r.loops q e) ∙ h)

    theirs : (q : TaskId) (loop : Loop) → same_id q id ≡ false → M q ≡ Some loop → L q ≡ Some loop
    theirs q loop e h = sym (at_other L M id (Some new) r.loops q e) ∙ h

    numbered : (q : TaskId) (loop : Loop) → q ≡ id → M q ≡ Some loop → length S.scopes ≡ loop.number
    numbered q loop e h = ap (λ (x : Loop). x.number) (mine q loop e h)

    below : (q : TaskId) (loop : Loop) → L q ≡ Some loop → loop.number < length S.scopes
    below q loop h = let f = loops_are_waited_at S q loop h in slice_get_within S.scopes loop.number f.scope f.placed

-- ---- an index begins

left_inside : (r : Range) (index : ℕ) → left_in r index ≡ 1 → within r.lo r.hi index ≡ 1
left_inside r index e = by (set.contains r.begun index) e
  where
    by : (b : Bool) → (if b then zero else within r.lo r.hi index) ≡ suc zero → within r.lo r.hi index ≡ suc zero
    by true e = absurd (omega arith)
    by false e = e

same_number : (q k : ℕ) → (q == k) ≡ true → q ≡ k
same_number q k e = grind (arith, nat_tests, e)

pub begun_inside : (r : Range) (index : ℕ) → left_in r index ≡ 1 → BegunInside r → BegunInside (record r { begun = set.insert r.begun index })
begun_inside r index e inside k h = elim (either_true (k == index) (set.contains r.begun k) (sym (with_one r.begun index k) ∙ h)) [
  | inl q ↦ ap (within r.lo r.hi) (same_number k index q) ∙ left_inside r index e
  | inr q ↦ inside k q
]

at_first : (lo hi : ℕ) → lo < hi → within lo hi lo ≡ 1 + within (lo + 1) hi lo
unfolding within
at_first lo hi l = grind (arith, nat_tests, l)

past : (lo hi i : ℕ) → i ≢ lo → within lo hi i ≡ within (lo + 1) hi i
unfolding within
past lo hi i ne = grind (arith, nat_tests, ne)

-- What an index that begins takes of what is left, and of the first chunk.
pub begun_left : (r : Range) (lo hi i : ℕ) → left_in r lo ≡ 1 → lo < hi
    → left_in (record r { begun = set.insert r.begun lo }) i + within lo hi i ≡ left_in r i + within (lo + 1) hi i
begun_left r lo hi i e l = elim (cases_eq i lo) [
  | inl q ↦ subst (λ (j : ℕ). left_in (record r { begun = set.insert r.begun lo }) j + within lo hi j ≡ left_in r j + within (lo + 1) hi j) (sym q) (omega (arith, now_begun, e, at_first lo hi l))
  | inr q ↦ omega (arith, as_before q, past lo hi i q)
]
  where
    itself : (n : ℕ) (b : Bool) → (n == n || b) ≡ true
    itself n b = grind (arith, nat_tests)

    other : (n k : ℕ) (b : Bool) → n ≢ k → (n == k || b) ≡ b
    other n k b ne = grind (arith, nat_tests)

    now_begun : left_in (record r { begun = set.insert r.begun lo }) lo ≡ 0
    now_begun = ap (λ (b : Bool). if b then 0 else within r.lo r.hi lo) (with_one r.begun lo lo ∙ itself lo (set.contains r.begun lo))

    as_before : i ≢ lo → left_in (record r { begun = set.insert r.begun lo }) i ≡ left_in r i
    as_before q = ap (λ (b : Bool). if b then 0 else within r.lo r.hi i) (with_one r.begun lo i ∙ other i lo (set.contains r.begun i) q)

-- A loop of before, of the same number.
record Was (L : Loops) (q : TaskId) (now : Loop) : Type 0 where
  loop : Loop
  there : L q ≡ Some loop
  number : loop.number ≡ now.number

pub keeps_begun : (names : Names) (S T : State) (owner : TaskId) (index : ℕ) → LoopsStand (loops_of S) → BeginsIndex S T owner index
    → KeepsLoops names names (loops_of S) (loops_of T)
keeps_begun names S T owner index stands r = record {
  named = λ number scope h. h;
  kept = λ q loop h. elim (cases_id q owner) [
    | inl e ↦ let same : r.loop ≡ loop = some_same r.loop loop (sym r.there ∙ ap L (sym e) ∙ h) in
        inl (record {
          next = begun_at r.loop index;
          there = at_it L M owner (Some (begun_at r.loop index)) r.loops q e;
          number = ap (λ (x : Loop). x.number) same;
          target = ap (λ (x : Loop). x.range.target) same;
          args = ap (λ (x : Loop). x.range.args) same;
        })
    | inr e ↦ inl (other_goes L M owner (Some (begun_at r.loop index)) r.loops q loop e h)
  ];
  stands = record {
    apart = λ one other a b h k e. let f = was one a h in let g = was other b k in stands.apart one other f.loop g.loop f.there g.there (f.number ∙ e ∙ sym g.number);
    inside = λ q loop h. elim (cases_id q owner) [
      | inl e ↦ subst (λ (x : Loop). BegunInside x.range) (mine q loop e h) (begun_inside r.loop.range index r.left (stands.inside owner r.loop r.there))
      | inr e ↦ stands.inside q loop (sym (at_other L M owner (Some (begun_at r.loop index)) r.loops q e) ∙ h)
    ];
  };
}
  where
    L : Loops
    L = loops_of S

    M : Loops
    M = loops_of T

    mine : (q : TaskId) (loop : Loop) → q ≡ owner → M q ≡ Some loop → begun_at r.loop index ≡ loop
    mine q loop e h = some_same (begun_at r.loop index) loop (sym (at_it L M owner (Some (begun_at r.loop index)) r.loops q e) ∙ h)

    was : (q : TaskId) (loop : Loop) → M q ≡ Some loop → Was L q loop
    was q loop h = elim (cases_id q owner) [
      | inl e ↦ record { loop = r.loop; there = ap L e ∙ r.there; number = ap (λ (x : Loop). x.number) (mine q loop e h) }
      | inr e ↦ record { loop = loop; there = sym (at_other L M owner (Some (begun_at r.loop index)) r.loops q e) ∙ h; number = refl }
    ]
