-- No work is left in a loop over nothing.
use Rattle.std.proofs.Common.{◌≡◌, ◌≢◌, ◌⊎◌, ℕ, zero, suc, ◌+◌, ◌-◌, ◌<◌, ◌||◌, Bool, true, false, nat_lt, List, [], ◌∷◌, length, slice_get, inl, inr, sym, ◌∙◌, ap, subst, refl, arith, Option, Some, None}
use Rattle.std.proofs.lemmas.Bool.Decides.{nat_tests}
use Rattle.std.specs.Option.{option_map_or}
use Rattle.std.specs.FinMap as fin
use Rattle.gr_lang.specs.declared.action.Action.TheVariants as action
use Rattle.gr_lang.specs.declared.action.Entry.TheVariants as entry
use Rattle.gr_lang.specs.declared.action.TaskId.{TaskId}
use Rattle.gr_lang.specs.States.{going, at_loop, Task, Range, Scope, State, range_left, left}
use Rattle.gr_lang.specs.Steps.{new_scope, open_scope}
use Rattle.gr_valid.specs.Valid.{IsValid}
use Rattle.gr_valid.specs.Work.{has_task, has_index}
use Rattle.gr_valid.proofs.Counts.{Worker, has_worker}
use Rattle.gr_valid.proofs.Direct.{work_direct}
use Rattle.gr_valid.proofs.Maps.{get_same, IsPut, found_put}
use Rattle.gr_valid.proofs.Scopes.{get_last}
use Rattle.gr_valid.proofs.States.{steps_valid}
use Rattle.gr_machine.specs.States.{Suspended}
use Rattle.gr_stands.specs.Worlds.{World, Given}
use Rattle.gr_stands.specs.Calls.{StandsAt}
use Rattle.gr_stands_calls.specs.Acting.{IsFirst}
use Rattle.gr_stands_calls.proofs.Common.{first_goes, first_stands, plain_goes}
use Rattle.gr_stands_births.proofs.Opened.{range_of, loop_leads}
use Rattle.gr_scopes.specs.Trees.{holder_of, Rises, Names}
use Rattle.gr_scopes_opens.proofs.Common.{some_same}
use Rattle.gr_scopes_tells.specs.Told.{StandsTold}

rises_low : (scope top : ℕ) (xs : List ℕ) → Rises scope top xs → scope < top
rises_low scope top [] r = r
rises_low scope top (x ∷ xs) r = omega (arith, r.0, rises_low scope x xs r.1)

none_between : (n lo hi : ℕ) → nat_lt lo hi ≡ false → nat_lt n (hi - lo) ≡ false
none_between n lo hi e = grind (arith, nat_tests, e)

module _ (given : Given) (names : Names) (w : World) (S : State) (me k : ℕ) (more : List ℕ) (t : Suspended) (told : StandsTold given names w S) (first : IsFirst w me k more t)
    (lo hi grain target : ℕ) (args : List ℕ) (plain : Task) (due : t.action ≡ action.Loop lo hi grain target args) (over : nat_lt lo hi ≡ false) (there : fin.get S.tasks t.id ≡ Some plain) where
  abbrev number : ℕ
  number = length S.scopes

  abbrev range : Option Range
  range = Some (range_of lo hi target args)

  abbrev opened : State
  opened = open_scope S t.id plain (record plain { mode = at_loop }) range

  abbrev inner : Task
  inner = record (record plain { mode = at_loop }) { opened = number ∷ plain.opened }

  stands : StandsAt S t
  stands = first_stands given w S me k more t told.stands.stands first

  same : stands.plain ≡ plain
  same = some_same stands.plain plain (sym stands.there ∙ there)

  mode : plain.mode ≡ going
  mode = ap (λ (x : Task). x.mode) (sym same) ∙ plain_goes S t stands (first_goes given w S me k more t told.stands.stands first)

  valid : IsValid given.program opened
  valid = steps_valid given.program given.setup.cores given.setup.steps S opened (entry.Loop t.id lo hi grain target args) told.valid
      (loop_leads given.program given.setup.cores given.setup.steps S t.id plain lo hi grain target args there mode (ap (λ (x : Task). x.action) (sym same) ∙ stands.action ∙ due))

  -- Each task stands in an older scope.
  older : (id : TaskId) (x : Task) → fin.get S.tasks id ≡ Some x → x.scope < number
  older id x at = rises_low x.scope number x.opened (told.stands.scopes.named.rises id x.scope x.opened (ap holder_of at))

  not_in : Worker opened number → ⊥
  not_in x = go (found_put S.tasks t.id x.id inner x.task x.there)
    where
      go : IsPut S.tasks t.id inner x.id x.task → ⊥
      go (inl e) = absurd (omega (arith, older t.id plain there, ap (λ (y : Task). y.scope) e.1, x.scope))
      go (inr e) = absurd (omega (arith, older x.id x.task e.1, x.scope))

  no_task : has_task opened number ≡ false
  no_task = go (has_task opened number) refl
    where
      go : (b : Bool) → has_task opened number ≡ b → has_task opened number ≡ false
      go false e = e
      go true e = absurd (not_in (has_worker opened number e))

  no_index : has_index opened number ≡ false
  no_index = ap (λ (o : Option Scope). option_map_or (λ x. range_left x.range) o false) (get_last S.scopes (new_scope plain t.id range)) ∙ none_between _ lo hi over

  pub nothing_left : left opened number ≡ false
  nothing_left =
      work_direct given.program opened number valid (inr (record { id = t.id; task = inner; there = get_same S.tasks t.id inner; below = plain.opened; opened = refl }))
      ∙ ap (λ (b : Bool). b || has_index opened number) no_task
      ∙ no_index
