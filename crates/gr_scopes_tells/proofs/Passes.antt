-- A task whose innermost scope has nothing counted may pass it.
use Rattle.std.proofs.Common.{◌≡◌, ◌≢◌, ◌⊎◌, ℕ, zero, suc, ◌==◌, Bool, true, false, if◌then◌else◌, List, [], ◌∷◌, map, inl, inr, sym, ◌∙◌, ap, subst, refl, arith, Option, Some, None}
use Rattle.std.proofs.lemmas.Bool.{eqb-true}
use Rattle.std.specs.FinMap as fin
use Rattle.gr_lang.specs.States.{Task, State}
use Rattle.gr_msg.specs.declared.message.ScopeId.{ScopeId}
use Rattle.gr_event.specs.Masters.{released, release_of}
use Rattle.gr_event.specs.declared.masters.Master.{Master}
use Rattle.gr_event.specs.declared.masters.Waiter.{Waiter}
use Rattle.gr_event.specs.declared.masters.Release.TheVariants as release
use Rattle.gr_machine.specs.States.{Suspended}
use Rattle.gr_stands.specs.Worlds.{World, Given, bodies}
use Rattle.gr_stands_passes.specs.Passing.{CanPass}
use Rattle.gr_scopes.specs.Trees.{Holder, holder_of, tree_of, Names, IsHeld}
use Rattle.gr_scopes_opens.proofs.Common.{some_same, none_some}
use Rattle.gr_scopes_finished.specs.Counted.{NoneCounted}
use Rattle.gr_scopes_finished.proofs.Tasks.{scopes_are_finished}
use Rattle.gr_scopes_tells.specs.Told.{StandsTold}

-- What is released, and when.
pub record Releases (o : Option Master) (who : Waiter) : Type 0 where
  pub master : Master
  pub there : o ≡ Some master
  pub last : master.active ≡ 1
  pub waiter : master.waiter ≡ Some who

pub releases : (o : Option Master) (who : Waiter) → release_of (released o) ≡ release.Released who → Releases o who
releases None who e = absurd (cc)
releases (Some m) who e = by (m.active == 1) refl e
  where
    waits : (x : Option Waiter) → release_of x ≡ release.Released who → x ≡ Some who
    waits None e = absurd (cc)
    waits (Some y) e = cc

    by : (b : Bool) → (m.active == 1) ≡ b → release_of (if b then m.waiter else None) ≡ release.Released who → Releases (Some m) who
    by true q e = record { master = m; there = refl; last = eqb-true m.active 1 q; waiter = waits m.waiter e }
    by false q e = absurd (cc)

pub can_pass : (given : Given) (names : Names) (w : World) (S : State) (c k : ℕ) (t : Suspended) (s : ScopeId) (outer : List ScopeId) → StandsTold given names w S → (bodies w c).tasks.slots k ≡ Some t
    → t.opened ≡ s ∷ outer → NoneCounted given w s → (plain : Task) → fin.get S.tasks t.id ≡ Some plain → CanPass S plain
can_pass given names w S c k t s outer told at opened none plain there = go plain.opened refl (subst (λ (x : List ScopeId). map names plain.opened ≡ map Some x) opened opens)
  where
    held : IsHeld names (tree_of S) t.id t.scope t.opened
    held = ((told.stands.scopes.cores c).slots k t at).held

    holder : held.holder ≡ record { scope = plain.scope; opened = plain.opened }
    holder = some_same held.holder (record { scope = plain.scope; opened = plain.opened }) (sym held.there ∙ ap holder_of there)

    opens : map names plain.opened ≡ map Some t.opened
    opens = ap (λ (x : Holder). map names x.opened) (sym holder) ∙ held.opens

    go : (xs : List ℕ) → plain.opened ≡ xs → map names xs ≡ map Some (s ∷ outer) → CanPass S plain
    go [] e f = absurd (cc)
    go (x ∷ xs) e f =
        let named : names x ≡ Some s = cc in
        record {
          scope = x;
          outer = xs;
          opened = e;
          finished = scopes_are_finished given names w S x s told.stands told.valid told.indices named none (inr (record { id = t.id; task = plain; there = there; below = xs; opened = e }));
        }
