-- A chunk is split, and an index of one begins.
use Rattle.std.proofs.Common.{◌≡◌, ℕ, zero, suc, ◌+◌, ◌-◌, ◌<◌, ◌≤◌, Bool, true, false, cond, nat_lt, if◌then◌else◌, List, [], ◌∷◌, map, inl, inr, sym, ◌∙◌, ap, subst, refl, arith, ltb-true, Option, Some}
use Rattle.std.specs.Prelude.{count_by}
use Rattle.std.proofs.lemmas.Bool.Decides.{nat_tests}
use Rattle.std.proofs.lemmas.List.Sums.{sum_by-cons}
use Rattle.gr_lang.specs.declared.action.TaskId.{TaskId}
use Rattle.gr_lang.specs.States.{State}
use Rattle.gr_msg.specs.declared.message.ScopeId.{ScopeId}
use Rattle.gr_msg.specs.declared.message.Unit.{Unit as WorkUnit}
use Rattle.gr_msg.specs.declared.message.Unit.TheVariants as unit
use Rattle.gr_work.specs.Parts.{Range, middle, offered_in, offered, kept_end, part}
use Rattle.gr_work.specs.Laws.{holds}
use Rattle.gr_work.specs.Queues.{Queues, after_next}
use Rattle.gr_work.proofs.Halves.{inside}
use Rattle.gr_work.proofs.Covers.{parts_cover, kept_small}
use Rattle.gr_net.specs.Sums.{weigh, Each}
use Rattle.gr_net.proofs.Spreads.{weigh-append, Each-append, Each-weaker}
use Rattle.gr_machine.specs.Machines.{Machine}
use Rattle.gr_machine.specs.States.{Steals, Body}
use Rattle.gr_machine.specs.Outcomes.{Outcome}
use Rattle.gr_machine.specs.Openings.{new_task}
use Rattle.gr_machine.specs.Slots.{same_id, own_id, readied, numbered}
use Rattle.gr_machine.specs.Spawns.{private_first}
use Rattle.gr_machine.specs.Runs.{first_unit, without_unit, with_rest, splits, begins}
use Rattle.gr_stands.specs.Worlds.{Given, machine_in, World, bodies}
use Rattle.gr_stands.proofs.Places.{cases_id}
use Rattle.gr_stands_calls.proofs.Queues.{TakenFit, taken_weigh, taken_fit}
use Rattle.gr_scopes.specs.Trees.{Names}
use Rattle.gr_shares.specs.Loops.{Loop, Loops, loops_of, within, left_at}
use Rattle.gr_shares.specs.Shares.{if_owner, covers, UnitShares, SharesHold}
use Rattle.gr_shares.specs.ShareActs.{KeepsLoops}
use Rattle.gr_shares.proofs.Weights.{within_none, owner_self, owner_off, owner_adds}
use Rattle.gr_shares.proofs.Kept.{IsFree, unit_still, units_free, shares_kept}
use Rattle.gr_shares_steals.specs.Sharing.{KeepsShares}
use Rattle.gr_shares_steals.proofs.Common.{keeps_same, asked_same, waits_same}
use Rattle.gr_shares_loops.specs.Changes.{begun_at, BeginsIndex}
use Rattle.gr_shares_loops.proofs.Changed.{indices_are_begun}
use Rattle.gr_shares_units.specs.Laws as laws
use Rattle.gr_shares_units.proofs.Ranges.{at_it, at_other, begun_left, keeps_begun}

-- ---- the parts of a range

in_range : ℕ → Range → ℕ
in_range index range = within range.from range.to index

holds_is : (index : ℕ) (r : Range) → cond (holds index r) 1 0 ≡ within r.from r.to index
unfolding within
holds_is index r = refl

counted_in : (index : ℕ) (rs : List Range) → count_by (holds index) rs ≡ weigh (λ r. within r.from r.to index) rs
counted_in index [] = refl
counted_in index (r ∷ rs) = sum_by-cons (λ (range : Range). cond (holds index range) 1 0) r rs ∙ (omega (arith, holds_is index r, counted_in index rs))

whole_is : (lo hi index : ℕ) → (if holds index (record { from = lo; to = hi }) then 1 else 0) ≡ within lo hi index
unfolding within
whole_is lo hi index = refl

-- The kept part and those that are offered have each index of the range once.
parts_are : (grain lo hi index : ℕ) → lo ≤ hi → within lo (kept_end grain lo hi) index + weigh (λ (r : Range). within r.from r.to index) (offered grain lo hi) ≡ within lo hi index
parts_are grain lo hi index l =
    sym (counted_in index (record { from = lo; to = kept_end grain lo hi } ∷ offered grain lo hi)) ∙ parts_cover grain lo hi index l ∙ whole_is lo hi index

some_if : (b : Bool) (x : Range) (rest : List Range) → (b ≡ true → (x.from < x.to) × Each (λ r. r.from < r.to) rest) → Each (λ r. r.from < r.to) (if b then x ∷ rest else [])
some_if true x rest f = f refl
some_if false x rest f = tt

offers_some : (halvings grain lo hi : ℕ) → 0 < grain → Each (λ (r : Range). r.from < r.to) (offered_in halvings grain lo hi)
unfolding offered_in
offers_some zero grain lo hi g = tt
offers_some (suc halvings) grain lo hi g = some_if (nat_lt grain (hi - lo)) (record { from = middle lo hi; to = hi }) (offered_in halvings grain lo (middle lo hi))
    (λ t. ((inside lo hi (omega (arith, ltb-true grain (hi - lo) t))).1, offers_some halvings grain lo (middle lo hi) g))

offered_some : (grain lo hi : ℕ) → 0 < grain → Each (λ (r : Range). r.from < r.to) (offered grain lo hi)
unfolding offered
offered_some grain lo hi g = offers_some (hi - lo) grain lo hi g

-- ---- a chunk is taken up

owner_none : (id other : TaskId) → if_owner id other 0 ≡ 0
unfolding if_owner
owner_none id other = both (same_id other id)
  where
    both : (b : Bool) → (if b then zero else zero) ≡ zero
    both true = refl
    both false = refl

module _ (given : Given) (names : Names) (target : ℕ) (args : List ℕ) (scope : ScopeId) (origin : ℕ) (owner : TaskId) (lo hi grain : ℕ) where
  abbrev chunk : WorkUnit
  chunk = unit.Chunk target args scope origin owner lo hi grain

  part_stands : (loops : Loops) (from to : ℕ) → from < to → UnitShares given names loops chunk → UnitShares given names loops (unit.Chunk target args scope origin owner from to grain)
  part_stands loops from to l f = record {
    some = l;
    grained = f.grained;
    known = f.known;
    counted = f.counted;
    loop = f.loop;
    waits = f.waits;
    named = f.named;
    targets = f.targets;
    words = f.words;
  }

  parts_stand : (loops : Loops) (rs : List Range) → Each (λ r. r.from < r.to) rs → UnitShares given names loops chunk → Each (UnitShares given names loops) (map (part chunk) rs)
  parts_stand loops [] l f = tt
  parts_stand loops (r ∷ rs) l f = (part_stands loops r.from r.to l.0 f, parts_stand loops rs l.1 f)

  parts_weigh : (o : TaskId) (index : ℕ) (rs : List Range) → weigh (covers o index) (map (part chunk) rs) ≡ if_owner o owner (weigh (λ r. within r.from r.to index) rs)
  parts_weigh o index [] = sym (owner_none o owner)
  parts_weigh o index (r ∷ rs) = omega (arith, parts_weigh o index rs, owner_adds o owner (within r.from r.to index) (weigh (λ (r : Range). within r.from r.to index) rs))

  module _ (w : World) (me : ℕ) (here : me < given.setup.cores) where
    abbrev body : Body
    body = bodies w me

    abbrev after : Queues
    after = after_next body.work.private body.work.public

    pub splits_keep : (L : Loops) → SharesHold given names w L → first_unit body ≡ Some chunk → KeepsShares given w me [] (splits (without_unit body) chunk) names L
    splits_keep L hold is v acts =
        let t : TakenFit (UnitShares given names L) body.work.private body.work.public chunk = taken_fit (UnitShares given names L) body.work.private body.work.public chunk is (hold.private me here) (hold.public me here) in
        let f = t.first in
        let e : Outcome = splits (without_unit body) chunk in
        shares_kept given names names L L w v me [] e acts (record {
          private = (part_stands L lo (kept_end grain lo hi) (kept_small grain lo hi f.some f.grained).0 f, t.private_left);
          public = Each-append (UnitShares given names L) after.public (map (part chunk) (offered grain lo hi)) t.public_left (parts_stand L (offered grain lo hi) (offered_some grain lo hi f.grained) f);
          sends = tt;
          waiting = hold.waiting me;
          keeps = keeps_same names L hold.ranges;
          chunks = λ o index. omega (
            arith,
            taken_weigh (covers o index) body.work.private body.work.public chunk is,
            weigh-append (covers o index) after.public (map (part chunk) (offered grain lo hi)),
            parts_weigh o index (offered grain lo hi),
            owner_adds o owner (within lo (kept_end grain lo hi) index) (weigh (λ (r : Range). within r.from r.to index) (offered grain lo hi)),
            ap (if_owner o owner) (parts_are grain lo hi index (omega (arith, f.some))),
          );
          questions = λ a x. omega (arith, asked_same (bodies w) me e.body refl a x, waits_same (bodies w) me e.body refl a x);
        }) hold

    -- ---- the rest of a chunk

    record Rest (loops : Loops) (a b : Body) : Type 0 where
      private : (lo + 1 < hi → UnitShares given names loops (unit.Chunk target args scope origin owner (lo + 1) hi grain)) → Each (UnitShares given names loops) a.work.private → Each (UnitShares given names loops) b.work.private
      public : b.work.public ≡ a.work.public
      steals : b.steals ≡ a.steals
      weighs : (o : TaskId) (index : ℕ) → weigh (covers o index) b.work.private ≡ if_owner o owner (within (lo + 1) hi index) + weigh (covers o index) a.work.private

    rest_is : (loops : Loops) (a : Body) → Rest loops a (with_rest a target args scope origin owner (lo + 1) hi grain)
    rest_is loops a = by (nat_lt (lo + 1) hi) refl
      where
        less : (i j : ℕ) → nat_lt i j ≡ true → i < j
        less i j e = grind (arith, nat_tests, e)

        past : (i j : ℕ) → nat_lt i j ≡ false → j ≤ i
        past i j e = grind (arith, nat_tests, e)

        by : (b : Bool) → nat_lt (lo + 1) hi ≡ b → Rest loops a (if b then private_first a (unit.Chunk target args scope origin owner (lo + 1) hi grain) else a)
        by true e = record { private = λ f g. (f (less (lo + 1) hi e), g); public = refl; steals = refl; weighs = λ o index. refl }
        by false e = record {
          private = λ f g. g;
          public = refl;
          steals = refl;
          weighs = λ o index. omega (arith, ap (if_owner o owner) (within_none (lo + 1) hi index (past (lo + 1) hi e)), owner_none o owner);
        }

    -- ---- an index begins

    module _ (S T : State) (slot : ℕ) (hold : SharesHold given names w (loops_of S)) (is : first_unit body ≡ Some chunk) (r : BeginsIndex S T owner lo) where
      abbrev L : Loops
      L = loops_of S

      abbrev M : Loops
      M = loops_of T

      abbrev machine : Machine
      machine = machine_in given

      abbrev started : Body
      started = numbered (readied (without_unit body) slot (new_task (own_id me (without_unit body)) scope origin (machine.code.start target (lo ∷ args))))

      abbrev begun : Outcome
      begun = begins machine me (without_unit body) slot target args scope origin owner lo hi grain

      keeps : KeepsLoops names names L M
      keeps = keeps_begun names S T owner lo hold.ranges r

      still : (us : List WorkUnit) → Each (UnitShares given names L) us → Each (IsFree L) us → Each (UnitShares given names M) us
      still = Each-weaker (UnitShares given names L) (IsFree L) (UnitShares given names M) (unit_still given names names L M keeps)

      fits : TakenFit (UnitShares given names M) body.work.private body.work.public chunk
      fits =
          let free = units_free given names w L hold in
          taken_fit (UnitShares given names M) body.work.private body.work.public chunk is
          (still body.work.private (hold.private me here) (free.private me here)) (still body.work.public (hold.public me here) (free.public me here))

      -- Of the owner's loop the index is left no more; of others nothing changes.
      sums : (o : TaskId) (index : ℕ) → left_at (M o) index + if_owner o owner (within lo hi index) ≡ left_at (L o) index + if_owner o owner (within (lo + 1) hi index)
      sums o index = elim (cases_id o owner) [
        | inl q ↦ omega (
          arith,
          ap (λ (x : Option Loop). left_at x index) (at_it L M owner (Some (begun_at r.loop lo)) r.loops o q),
          ap (λ (i : TaskId). left_at (L i) index) q,
          ap (λ (x : Option Loop). left_at x index) r.there,
          begun_left r.loop.range lo hi index r.left fits.first.some,
          ap (λ (i : TaskId). if_owner i owner (within lo hi index)) q,
          owner_self owner (within lo hi index),
          ap (λ (i : TaskId). if_owner i owner (within (lo + 1) hi index)) q,
          owner_self owner (within (lo + 1) hi index),
        )
        | inr q ↦ omega (
          arith,
          ap (λ (x : Option Loop). left_at x index) (at_other L M owner (Some (begun_at r.loop lo)) r.loops o q),
          owner_off o owner (within lo hi index) (turned o owner q),
          owner_off o owner (within (lo + 1) hi index) (turned o owner q),
        )
      ]
        where
          turned : (a b : TaskId) → same_id a b ≡ false → same_id b a ≡ false
          turned a b e = grind (arith, nat_tests, e)

      pub begins_keep : KeepsShares given w me [] begun names M
      begins_keep v acts =
          let rest : Rest M started begun.body = rest_is M started in
          shares_kept given names names L M w v me [] begun acts (record {
            private = rest.private (λ l. part_stands M (lo + 1) hi l fits.first) fits.private_left;
            public = subst (Each (UnitShares given names M)) (sym rest.public) fits.public_left;
            sends = tt;
            waiting = subst (λ (s : Steals). Each (λ core. core < given.setup.cores) s.waiting) (sym rest.steals) (hold.waiting me);
            keeps = keeps;
            chunks = λ o index. omega (
              arith,
              taken_weigh (covers o index) body.work.private body.work.public chunk is,
              rest.weighs o index,
              ap (weigh (covers o index)) rest.public,
              sums o index,
            );
            questions = λ a x. omega (
              arith,
              asked_same (bodies w) me begun.body (ap (λ (s : Steals). s.asked) rest.steals) a x,
              waits_same (bodies w) me begun.body (ap (λ (s : Steals). s.waiting) rest.steals) a x,
            );
          }) hold

pub splits_share : laws.SplitsShare
splits_share given names L w me target args scope origin owner lo hi grain hold here is = splits_keep given names target args scope origin owner lo hi grain w me here L hold is

pub indices_share : laws.IndicesShare
indices_share given names w S T me slot target args scope origin owner lo hi grain kid hold here is e =
    begins_keep given names target args scope origin owner lo hi grain w me here S T slot hold is
    (indices_are_begun given.program given.setup.cores given.setup.steps S T owner lo kid hold.ranges e)
