-- The change that an entry makes is what its step does.
use Rattle.std.proofs.Common.{◌≡◌, ℕ, ◌+◌, true, false, ◌&&◌, List, [], ◌∷◌, Option, Some, None, refl, arith, length, length-append, length-set}
use Rattle.std.specs.Prelude.{◌==◌, not, IfSome, if◌then◌else◌, slice_get, nat_le, nat_lt}
use Rattle.std.specs.Str.{bytes_eq}
use Rattle.std.specs.Option.{option_map, option_and_then}
use Rattle.std.specs.FinMap as fin
use Rattle.std.specs.FinSet as set
use Rattle.gr_syntax.specs.declared.syntax.Program.{Program}
use Rattle.gr_lang.specs.declared.action.Action.{Action}
use Rattle.gr_lang.specs.declared.action.Action.TheVariants as a
use Rattle.gr_lang.specs.declared.action.Entry.{Entry}
use Rattle.gr_lang.specs.declared.action.Entry.TheVariants as e
use Rattle.gr_lang.specs.declared.action.TaskId.{TaskId}
use Rattle.gr_lang.specs.declared.action.How.{How}
use Rattle.gr_lang.specs.declared.action.Op.{Op}
use Rattle.gr_lang.specs.declared.action.Reply.{Reply}
use Rattle.gr_lang.specs.declared.action.TrapKind.{TrapKind}
use Rattle.gr_lang.specs.declared.action.TrapKind.TheVariants as trap
use Rattle.gr_lang.specs.Fields.{same_how, same_reply, same_trap}
use Rattle.gr_lang.specs.Parts.{same_op}
use Rattle.gr_lang.specs.Objects.{call}
use Rattle.gr_lang.specs.Effects.{nothing}
use Rattle.gr_lang.specs.States.{Mode, going, at_loop, ended, trapped, State, Task, Scope, Range, has_ended, is_going, is_at_loop, innermost, child, left}
use Rattle.gr_lang.specs.Steps.{step, goes_on, has_core, is_new, call_step, spawn_step, finish_step, loop_step, begin_step, begin_at, begin_in, pass_from, arrive_step, end_step, trap_step, over_step}
use Rattle.gr_tables.specs.Changes.{begins_in, ends_in}
use Rattle.gr_plain.specs.CountWords.{change_of}
use Rattle.gr_tables.specs.Stacks.{top_of}
use Rattle.gr_tables.specs.declared.counts.Change.TheVariants as c
use Rattle.gr_plain.proofs.Recounts.{Recount, on_task, on_going, on_when, kept, added, taken, still_new, goes, and_second, none_of}

-- A task in the place of one in the same scope, where neither has ended, in a state with as many scopes.
stays : (S T : State) (id : TaskId) (t u : Task) → fin.get S.tasks id ≡ Some t → has_ended t.mode ≡ false → u.scope ≡ t.scope → has_ended u.mode ≡ false
    → T.tasks ≡ fin.insert S.tasks id u → length T.scopes ≡ length S.scopes → Recount S c.Stays T
stays S T id t u there on same still is many = record {
  scopes = omega (arith, many);
  counts = λ s. rw is (omega (arith, kept S.tasks id t u s there on same still));
}

opens : (S T : State) (id : TaskId) (t u : Task) → fin.get S.tasks id ≡ Some t → has_ended t.mode ≡ false → u.scope ≡ t.scope → has_ended u.mode ≡ false
    → T.tasks ≡ fin.insert S.tasks id u → length T.scopes ≡ length S.scopes + 1 → Recount S c.Opens T
opens S T id t u there on same still is many = record {
  scopes = many;
  counts = λ s. rw is (omega (arith, kept S.tasks id t u s there on same still));
}

calls : (p : Program) (L : ℕ) (S : State) (id : TaskId) (t : Task) (act : Action) (op : Op) (w : Reply) → fin.get S.tasks id ≡ Some t → has_ended t.mode ≡ false
    → IfSome (call_step p L S id t act op w) (Recount S c.Stays)
calls p L S id t (a.Call due) op w there on = on_when (same_op due op && same_reply w (call op S.objects).1) _ (Recount S c.Stays) (λ _. stays S _ id t (goes_on p L t w) there on refl refl refl refl)
calls p L S id t _ op w there on = tt

spawns : (p : Program) (N L : ℕ) (S : State) (id : TaskId) (t : Task) (act : Action) (way : How) (target : ℕ) (args : List ℕ) (kid : TaskId) → fin.get S.tasks id ≡ Some t → has_ended t.mode ≡ false
    → IfSome (spawn_step p N L S id t act way target args kid) (Recount S (c.Begins (innermost t)))
spawns p N L S id t (a.Spawn due number words) way target args kid there on =
    let u : Task = goes_on p L t nothing in
    let k : Task = child p L (innermost t) number words in
    on_when (same_how due way && (number == target) && bytes_eq words args && has_core N due && is_new S kid) _ (Recount S (c.Begins (innermost t))) (λ h. record {
      scopes = omega arith;
      counts = λ s. omega (arith, kept S.tasks id t u s there on refl refl, added (fin.insert S.tasks id u) kid k s (still_new S id kid t u there (and_second _ _ h)) refl);
    })
spawns p N L S id t _ way target args kid there on = tt

finishes : (p : Program) (L : ℕ) (S : State) (id : TaskId) (t : Task) (act : Action) → fin.get S.tasks id ≡ Some t → has_ended t.mode ≡ false
    → IfSome (finish_step p L S id t act) (Recount S c.Opens)
finishes p L S id t a.Finish there on = opens S _ id t (record (goes_on p L t nothing) { opened = length S.scopes ∷ t.opened }) there on refl refl refl (length-append S.scopes _)
finishes p L S id t _ there on = tt

loops : (S : State) (id : TaskId) (t : Task) (act : Action) (lo hi grain target : ℕ) (args : List ℕ) → fin.get S.tasks id ≡ Some t → has_ended t.mode ≡ false
    → IfSome (loop_step S id t act lo hi grain target args) (Recount S c.Opens)
loops S id t (a.Loop low high size number words) lo hi grain target args there on =
    on_when (low == lo && high == hi && size == grain && number == target && bytes_eq words args) _ (Recount S c.Opens)
    (λ _. opens S _ id t (record t { mode = at_loop; opened = length S.scopes ∷ t.opened }) there on refl refl refl (length-append S.scopes _))
loops S id t _ lo hi grain target args there on = tt

range_begins : (p : Program) (L : ℕ) (S : State) (owner : TaskId) (s index : ℕ) (kid : TaskId) (scope : Scope) (range : Option Range)
    → IfSome (begin_in p L S owner s index kid scope range) (Recount S (c.Begins s))
range_begins p L S owner s index kid scope None = tt
range_begins p L S owner s index kid scope (Some r) =
    on_when (nat_le r.lo index && nat_lt index r.hi && not (set.contains r.begun index) && is_new S kid) _ (Recount S (c.Begins s)) (λ h. record {
      scopes = omega (arith, length-set S.scopes s (record scope { range = Some (record r { begun = set.insert r.begun index }) }));
      counts = λ q. omega (arith, added S.tasks kid (child p L s r.target (index ∷ r.args)) q (none_of _ (and_second _ _ h)) refl);
    })

begins : (p : Program) (L : ℕ) (S : State) (owner : TaskId) (index : ℕ) (kid : TaskId) (opened : List ℕ)
    → IfSome (begin_at p L S owner index kid opened) (Recount S (begins_in (top_of opened)))
begins p L S owner index kid [] = tt
begins p L S owner index kid (s ∷ ss) = elim (slice_get S.scopes s) as (λ o. IfSome (option_and_then (λ scope. begin_in p L S owner s index kid scope scope.range) o) (Recount S (c.Begins s))) [
  | None ↦ tt
  | Some scope ↦ range_begins p L S owner s index kid scope scope.range
]

passes : (p : Program) (L : ℕ) (S : State) (id : TaskId) (t : Task) (opened : List ℕ) → fin.get S.tasks id ≡ Some t → has_ended t.mode ≡ false
    → IfSome (pass_from p L S id t opened) (Recount S c.Stays)
passes p L S id t [] there on = tt
passes p L S id t (s ∷ ss) there on = on_when (not (left S s)) _ (Recount S c.Stays) (λ _. stays S _ id t (record (goes_on p L t nothing) { opened = ss }) there on refl refl refl refl)

arrives : (p : Program) (L : ℕ) (S : State) (id : TaskId) (t : Task) (act : Action) → fin.get S.tasks id ≡ Some t → has_ended t.mode ≡ false
    → IfSome (arrive_step p L S id t act) (Recount S c.Stays)
arrives p L S id t a.Arrive there on = passes p L S id t t.opened there on
arrives p L S id t _ there on = tt

ends : (S : State) (id : TaskId) (t : Task) (act : Action) → fin.get S.tasks id ≡ Some t → has_ended t.mode ≡ false
    → IfSome (end_step S id t act) (Recount S (c.Ends t.scope))
ends S id t a.End there on = record { scopes = omega arith; counts = λ s. omega (arith, taken S.tasks id t s there on) }
ends S id t _ there on = tt

traps : (N : ℕ) (S : State) (id : TaskId) (t : Task) (act : Action) (kind : TrapKind) → fin.get S.tasks id ≡ Some t → has_ended t.mode ≡ false
    → IfSome (trap_step N S id t act kind) (Recount S c.Stays)
traps N S id t (a.Trap due) kind there on = on_when (same_trap due kind) _ (Recount S c.Stays) (λ _. stays S _ id t (record t { mode = trapped }) there on refl refl refl refl)
traps N S id t (a.Spawn way target args) trap.Core there on = on_when (not (has_core N way)) _ (Recount S c.Stays) (λ _. stays S _ id t (record t { mode = trapped }) there on refl refl refl refl)
traps N S id t (a.Spawn way target args) _ there on = tt
traps N S id t _ kind there on = tt

-- Begin and Pass ask for the mode first.
begin_waits : (p : Program) (L : ℕ) (S : State) (owner : TaskId) (t : Task) (index : ℕ) (kid : TaskId)
    → IfSome (begin_step p L S owner t index kid) (Recount S (begins_in (top_of t.opened)))
begin_waits p L S owner t index kid = elim (is_at_loop t.mode) as (λ b. IfSome (if b then begin_at p L S owner index kid t.opened else None) (Recount S (begins_in (top_of t.opened)))) [
  | true ↦ begins p L S owner index kid t.opened
  | false ↦ tt
]

pass_waits : (p : Program) (L : ℕ) (S : State) (id : TaskId) (t : Task) (m : Mode) → t.mode ≡ m → fin.get S.tasks id ≡ Some t
    → IfSome (if is_at_loop m then pass_from p L S id t t.opened else (if is_going m then arrive_step p L S id t t.action else None)) (Recount S c.Stays)
pass_waits p L S id t at_loop m there = passes p L S id t t.opened there (rw m refl)
pass_waits p L S id t going m there = arrives p L S id t t.action there (rw m refl)
pass_waits p L S id t ended m there = tt
pass_waits p L S id t trapped m there = tt

overs : (S : State) → IfSome (over_step S) (Recount S c.Stays)
overs S = on_when (not S.passed && not (left S 0)) _ (Recount S c.Stays) (λ _. record { scopes = omega arith; counts = λ s. omega arith })

pub recounts : (p : Program) (N L : ℕ) (S : State) (x : Entry) → IfSome (step p N L S x) (Recount S (change_of S x))
recounts p N L S (e.Call id op w) = on_task S id _ (λ _. Recount S c.Stays) (λ t there. on_going t.mode _ (Recount S c.Stays) (λ m. calls p L S id t t.action op w there (goes t.mode m)))
recounts p N L S (e.Spawn id way target args kid) =
    on_task S id _ (λ o. Recount S (begins_in (option_map innermost o))) (λ t there. on_going t.mode _ (Recount S (c.Begins (innermost t))) (λ m. spawns p N L S id t t.action way target args kid there (goes t.mode m)))
recounts p N L S (e.Finish id) = on_task S id _ (λ _. Recount S c.Opens) (λ t there. on_going t.mode _ (Recount S c.Opens) (λ m. finishes p L S id t t.action there (goes t.mode m)))
recounts p N L S (e.Loop id lo hi grain target args) =
    on_task S id _ (λ _. Recount S c.Opens) (λ t there. on_going t.mode _ (Recount S c.Opens) (λ m. loops S id t t.action lo hi grain target args there (goes t.mode m)))
recounts p N L S (e.Begin owner index kid) = on_task S owner _ (λ o. Recount S (begins_in (option_and_then (λ t. top_of t.opened) o))) (λ t there. begin_waits p L S owner t index kid)
recounts p N L S (e.Pass id) = on_task S id _ (λ _. Recount S c.Stays) (λ t there. pass_waits p L S id t t.mode refl there)
recounts p N L S (e.End id) = on_task S id _ (λ o. Recount S (ends_in (option_map (λ t. t.scope) o))) (λ t there. on_going t.mode _ (Recount S (c.Ends t.scope)) (λ m. ends S id t t.action there (goes t.mode m)))
recounts p N L S (e.Trap id kind) = on_task S id _ (λ _. Recount S c.Stays) (λ t there. on_going t.mode _ (Recount S c.Stays) (λ m. traps N S id t t.action kind there (goes t.mode m)))
recounts p N L S e.Over = overs S
