-- A chunk is split: its parts have its indices together.
use Rattle.std.proofs.Common.{◌≡◌, ◌⊎◌, ℕ, zero, suc, ◌+◌, ◌-◌, ◌/◌, ◌<◌, ◌≤◌, Bool, true, false, nat_lt, if◌then◌else◌, List, [], ◌∷◌, ◌++◌, map, inl, inr, sym, ◌∙◌, ap, subst, refl, arith, Option, Some, None}
use Rattle.std.proofs.lemmas.Bool.Decides.{nat_tests}
use Rattle.gr_lang.specs.declared.action.TaskId.{TaskId}
use Rattle.gr_lang.specs.States.{State}
use Rattle.gr_msg.specs.declared.message.ScopeId.{ScopeId}
use Rattle.gr_msg.specs.declared.message.Unit.{Unit as WorkUnit}
use Rattle.gr_msg.specs.declared.message.Unit.TheVariants as unit
use Rattle.gr_net.specs.Sums.{weigh, Each}
use Rattle.gr_net.proofs.Spreads.{weigh-append, Each-append}
use Rattle.gr_work.specs.Parts.{Range, middle, offered_in, kept_in, offered, kept_end, part}
use Rattle.gr_work.specs.Queues.{Queues, after_next}
use Rattle.gr_machine.specs.States.{Body}
use Rattle.gr_machine.specs.Outcomes.{Outcome}
use Rattle.gr_machine.specs.Runs.{first_unit, without_unit, splits}
use Rattle.gr_stands.specs.Worlds.{Given, World, bodies}
use Rattle.gr_scopes.specs.Trees.{Tree, tree_of, Names}
use Rattle.gr_scopes.specs.Sums.{if_scope, if_core, of_unit}
use Rattle.gr_scopes.specs.Scopes.{UnitStands}
use Rattle.gr_scopes.proofs.Counts.{if_scope_zero, if_core_zero}
use Rattle.gr_scopes.proofs.Kept.{adds_scope, adds_core}
use Rattle.gr_scopes_opens.specs.Keeping.{KeepsScopes, StandsWith}
use Rattle.gr_scopes_opens.proofs.Taken.{TakenApart, taken_apart}
use Rattle.gr_scopes_stays.proofs.Stays.{scopes_stay_put}
use Rattle.gr_scopes_units.specs.Laws as laws

-- ---- ranges

middle_within : (lo hi : ℕ) → lo ≤ hi → (lo ≤ middle lo hi) × (middle lo hi ≤ hi)
unfolding middle
middle_within lo hi l = (omega arith, omega (arith, l))

-- How many indices ranges have together.
abbrev many : List Range → ℕ
many = weigh (λ (r : Range). r.to - r.from)

-- The part that is kept ends in the range, and all parts have as many indices as the range.
halves_add : (grain : ℕ) (fuel lo hi : ℕ) → lo ≤ hi → (lo ≤ kept_in fuel grain lo hi) × ((kept_in fuel grain lo hi - lo) + many (offered_in fuel grain lo hi) ≡ hi - lo)
unfolding kept_in offered_in
halves_add grain zero lo hi l = (l, omega arith)
halves_add grain (suc fuel) lo hi l = by (nat_lt grain (hi - lo)) (halves_add grain fuel lo (middle lo hi) (middle_within lo hi l).0)
  where
    by : (b : Bool) → (lo ≤ kept_in fuel grain lo (middle lo hi)) × ((kept_in fuel grain lo (middle lo hi) - lo) + many (offered_in fuel grain lo (middle lo hi)) ≡ middle lo hi - lo)
        → (lo ≤ (if b then kept_in fuel grain lo (middle lo hi) else hi))
        × (((if b then kept_in fuel grain lo (middle lo hi) else hi) - lo) + many (if b then (record { from = middle lo hi; to = hi } ∷ offered_in fuel grain lo (middle lo hi)) else []) ≡ hi - lo)
    by true f = (f.0, omega (arith, f.1, middle_within lo hi l))
    by false f = (l, omega arith)

parts_add : (grain lo hi : ℕ) → lo ≤ hi → (kept_end grain lo hi - lo) + many (offered grain lo hi) ≡ hi - lo
unfolding kept_end offered
parts_add grain lo hi l = (halves_add grain (hi - lo) lo hi l).1

-- ---- units

module _ (target : ℕ) (args : List ℕ) (scope : ScopeId) (origin : ℕ) (owner : TaskId) (lo hi grain : ℕ) where
  abbrev whole : WorkUnit
  whole = unit.Chunk target args scope origin owner lo hi grain

  parts_weigh : (q : ScopeId) (i : ℕ) (rs : List Range) → weigh (of_unit q i) (map (part whole) rs) ≡ if_core i origin (if_scope q scope (many rs))
  parts_weigh q i [] = sym (ap (if_core i origin) (if_scope_zero q scope) ∙ if_core_zero i origin)
  parts_weigh q i (r ∷ rs) = omega (
    arith,
    parts_weigh q i rs,
    ap (if_core i origin) (adds_scope q scope (r.to - r.from) (many rs)),
    adds_core i origin (if_scope q scope (r.to - r.from)) (if_scope q scope (many rs)),
  )

  parts_stand : (given : Given) (names : Names) (tree : Tree) → UnitStands given names tree whole → (rs : List Range) → Each (UnitStands given names tree) (map (part whole) rs)
  parts_stand given names tree f [] = tt
  parts_stand given names tree f (r ∷ rs) = (f, parts_stand given names tree f rs)

pub chunks_split : laws.ChunksSplit
chunks_split given names w S me target args scope origin owner lo hi grain st here is l =
    let a = bodies w me in
    let P : WorkUnit → Type 0 = UnitStands given names (tree_of S) in
    let u = unit.Chunk target args scope origin owner lo hi grain in
    let left = after_next a.work.private a.work.public in
    let t : TakenApart P (record { private = a.work.private; public = a.work.public }) u = taken_apart P a.work.private a.work.public u is (st.scopes.private me here) (st.scopes.public me here) in
    scopes_stay_put given names w S me [] (splits (without_unit a) u) st here (record {
      slots = λ k. inl refl;
      scopes = refl;
      passed = refl;
      private = (t.one, t.private);
      public = Each-append P left.public (map (part u) (offered grain lo hi)) t.public (parts_stand target args scope origin owner lo hi grain given names (tree_of S) t.one (offered grain lo hi));
      letters = tt;
      sends = tt;
      units = λ q i. omega (
        arith,
        t.weighs (of_unit q i),
        weigh-append (of_unit q i) left.public (map (part u) (offered grain lo hi)),
        parts_weigh target args scope origin owner lo hi grain q i (offered grain lo hi),
        ap (λ (n : ℕ). if_core i origin (if_scope q scope n)) (parts_add grain lo hi (omega (arith, l))),
        ap (if_core i origin) (adds_scope q scope (kept_end grain lo hi - lo) (many (offered grain lo hi))),
        adds_core i origin (if_scope q scope (kept_end grain lo hi - lo)) (if_scope q scope (many (offered grain lo hi))),
      );
    })
