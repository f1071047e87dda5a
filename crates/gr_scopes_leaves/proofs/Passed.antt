-- A task passes its innermost scope: its scopes afterwards, and those of the tree.
use Rattle.std.proofs.Common.{◌≡◌, ◌≢◌, ◌⊎◌, ℕ, zero, suc, ◌+◌, ◌<◌, ◌≤◌, Bool, true, false, List, [], ◌∷◌, map, drop, length, inl, inr, sym, ◌∙◌, ap, subst, refl, arith, Option, Some, None}
use Rattle.gr_lang.specs.declared.action.Action.{Action}
use Rattle.gr_lang.specs.declared.action.Action.TheVariants as action
use Rattle.gr_lang.specs.declared.action.TaskId.{TaskId}
use Rattle.gr_lang.specs.Effects.{nothing}
use Rattle.gr_lang.specs.States.{State}
use Rattle.gr_view.specs.Places.{put}
use Rattle.gr_msg.specs.declared.message.ScopeId.{ScopeId}
use Rattle.gr_net.specs.Sums.{Each}
use Rattle.gr_machine.specs.States.{Suspended, Body}
use Rattle.gr_machine.specs.Slots.{goes_on}
use Rattle.gr_stands.specs.Worlds.{Given, machine_in, World, bodies}
use Rattle.gr_stands.proofs.Places.{cases_id}
use Rattle.gr_scopes.specs.Trees.{Holder, Tree, tree_of, with_passed, Rises, Names, IsHeld}
use Rattle.gr_scopes.specs.Depths.{one_for_loop, at_loop, HasDepth}
use Rattle.gr_scopes.specs.Scopes.{WaitsThere, SlotStands, NamesStand, ScopesStand}
use Rattle.gr_scopes.specs.ScopeActs.{KeepsOthers}
use Rattle.gr_scopes.proofs.Depths.{depth_after, one_for_arrive}
use Rattle.gr_scopes.proofs.Cores.{named_same}
use Rattle.gr_scopes_opens.specs.Keeping.{StandsWith}
use Rattle.gr_scopes_opens.proofs.Common.{some_same, holder_at, holder_other}

pub homes_dropped : (me : ℕ) (ss : List ScopeId) → Each (λ (x : ScopeId). x.core ≡ me) ss → Each (λ (x : ScopeId). x.core ≡ me) (drop 1 ss)
homes_dropped me [] f = tt
homes_dropped me (x ∷ ss) f = f.1

rises_dropped : (scope top : ℕ) (xs : List ℕ) → Rises scope top xs → Rises scope top (drop 1 xs)
rises_dropped scope top [] r = r
rises_dropped scope top (x ∷ []) r = omega (arith, r.0, r.1)
rises_dropped scope top (x ∷ y ∷ xs) r = (omega (arith, r.0, r.1.0), r.1.1)

all_dropped : (names : Names) (xs : List ℕ) (ss : List ScopeId) → map names xs ≡ map Some ss → map names (drop 1 xs) ≡ map Some (drop 1 ss)
all_dropped names [] [] e = refl
all_dropped names [] (x ∷ ss) e = absurd (cc)
all_dropped names (x ∷ xs) [] e = absurd (cc)
all_dropped names (x ∷ xs) (y ∷ ss) e = cc

module _ (given : Given) (names : Names) (w : World) (S : State) (me k : ℕ) (t : Suspended) (holder : Holder) (st : StandsWith given names w S) (at : (bodies w me).tasks.slots k ≡ Some t) (held_as : (tree_of S).holders t.id ≡ Some holder) where
  abbrev pub inner : Suspended
  inner = record t { opened = drop 1 t.opened }

  abbrev pub gone_on : Suspended
  gone_on = goes_on (machine_in given) inner nothing

  abbrev pub inner_holder : Holder
  inner_holder = record holder { opened = drop 1 holder.opened }

  abbrev pub passed_tree : Tree
  passed_tree = with_passed (tree_of S) t.id holder

  abbrev fits : SlotStands given names (tree_of S) me (bodies w me) k t
  fits = (st.scopes.cores me).slots k t at

  pub keeps_passed : KeepsOthers names names (tree_of S) passed_tree (t.id ∷ [])
  keeps_passed = record { named = λ number q h. h; held = λ id x other h. holder_other (tree_of S).holders t.id inner_holder id other.0 ∙ h }

  pub held_passed : IsHeld names passed_tree t.id t.scope (drop 1 t.opened)
  held_passed =
      let h = fits.held in
      let same_holder : h.holder ≡ holder = some_same h.holder holder (sym h.there ∙ held_as) in
      record {
        holder = inner_holder;
        there = holder_at (tree_of S).holders t.id inner_holder;
        inside = ap (λ (x : Holder). names x.scope) (sym same_holder) ∙ h.inside;
        opens = all_dropped names holder.opened t.opened (ap (λ (x : Holder). map names x.opened) (sym same_holder) ∙ h.opens);
      }

  pub named_passed : (b : Body) → b.scopes.next ≡ (bodies w me).scopes.next → NamesStand given names (put (bodies w) me b) passed_tree
  named_passed b e =
      let old = named_same given names (tree_of S) (bodies w) me b e st.scopes.named in
      record {
        root = old.root;
        apart = old.apart;
        opened = old.opened;
        given_by = old.given_by;
        rises = λ id scope open_ones f. elim (cases_id id t.id) [
          | inl x ↦
              let same : inner_holder ≡ record { scope = scope; opened = open_ones } = some_same inner_holder (record { scope = scope; opened = open_ones }) (sym (ap passed_tree.holders x ∙ holder_at (tree_of S).holders t.id inner_holder) ∙ f) in
              subst (λ (y : Holder). Rises y.scope (tree_of S).count y.opened) same (rises_dropped holder.scope (tree_of S).count holder.opened (old.rises t.id holder.scope holder.opened held_as))
          | inr x ↦ old.rises id scope open_ones (sym (holder_other (tree_of S).holders t.id inner_holder id x) ∙ f)
        ];
      }

  -- Its action is the end of a finish, or its loop, at which it waits.
  pub depth_passed : (outer : List ScopeId) (s : ScopeId) → t.opened ≡ s ∷ outer → (x : Action) → t.action ≡ x → WaitsThere x → at_loop t.waits t.action ≡ one_for_loop x → HasDepth given.program gone_on
  depth_passed outer s open_ones x e z l = go x e z l
    where
      one_open : length t.opened ≡ length (drop 1 t.opened) + 1
      one_open = ap (λ (x : List ScopeId). length x) open_ones ∙ omega (arith, ap (λ (x : List ScopeId). length (drop 1 x)) open_ones)

      go : (x : Action) → t.action ≡ x → WaitsThere x → at_loop t.waits t.action ≡ one_for_loop x → HasDepth given.program gone_on
      go action.Arrive e z l = depth_after given t inner nothing action.Arrive fits.depth e (λ y. y) refl (omega (arith, one_open, l))
      go (action.Loop lo hi grain target args) e z l = depth_after given t inner nothing (action.Loop lo hi grain target args) fits.depth e (λ y. y) refl (omega (arith, one_open, l))
      go _ e z l = absurd z
