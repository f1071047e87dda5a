-- Entries by which no loop is opened or passed leave all loops.
use Rattle.std.proofs.Common.{◌≡◌, ℕ, ◌==◌, ◌&&◌, Bool, true, false, not, is_none, List, sym, ◌∙◌, ap, refl, Option, Some, None}
use Rattle.std.specs.Option.{option_and_then}
use Rattle.std.specs.Str.{bytes_eq}
use Rattle.std.specs.FinMap as fin
use Rattle.gr_syntax.specs.declared.syntax.Program.{Program}
use Rattle.gr_lang.specs.declared.action.Action.{Action}
use Rattle.gr_lang.specs.declared.action.Action.TheVariants as action
use Rattle.gr_lang.specs.declared.action.Entry.TheVariants as entry
use Rattle.gr_lang.specs.declared.action.How.{How}
use Rattle.gr_lang.specs.declared.action.Op.{Op}
use Rattle.gr_lang.specs.declared.action.Reply.{Reply}
use Rattle.gr_lang.specs.declared.action.TaskId.{TaskId}
use Rattle.gr_lang.specs.declared.action.TrapKind.{TrapKind}
use Rattle.gr_lang.specs.declared.action.TrapKind.TheVariants as trap
use Rattle.gr_lang.specs.Effects.{nothing}
use Rattle.gr_lang.specs.Fields.{same_reply, same_how, same_trap}
use Rattle.gr_lang.specs.Objects.{call}
use Rattle.gr_lang.specs.Parts.{same_op}
use Rattle.gr_lang.specs.States.{Task, State, ended, trapped, child, innermost, is_going, left}
use Rattle.gr_lang.specs.Steps.{set_task, goes_on, new_scope, open_scope, has_core, is_new, called, call_step, spawn_step, finish_step, end_step, trap_step}
use Rattle.gr_shares.specs.Loops.{waits_at, loops_of}
use Rattle.gr_shares_loops.specs.Laws as laws
use Rattle.gr_shares_loops.proofs.Tasks.{some_same, none_some, when_holds, goes_in, no_loop_yet, loops_stay, loop_past}

-- No loop is another one.
abbrev Same : State → State → Type 0
Same S T = (q : TaskId) → loops_of T q ≡ loops_of S q

same_after : (S M T : State) → Same S M → M ≡ T → Same S T
same_after S M T s e q = ap (λ (x : State). loops_of x q) (sym e) ∙ s q

-- ---- one task goes on

module _ (S : State) (id : TaskId) (task : Task) (there : fin.get S.tasks id ≡ Some task) (goes : is_going task.mode ≡ true) where
  before : loops_of S id ≡ None
  before = ap (option_and_then (waits_at S.scopes)) there ∙ no_loop_yet S.scopes task goes

  -- It waits at no loop.
  set_one : (x : Task) → waits_at S.scopes x ≡ None → Same S (set_task S id x)
  set_one x e = loops_stay S (set_task S id x) id x refl before e (λ xs. refl)

  call_so : (program : Program) (limit : ℕ) (op : Op) (reply : Reply) (T : State) (a : Action) → call_step program limit S id task a op reply ≡ Some T → Same S T
  call_so program limit op reply T (action.Call due) e =
      let M = called program limit S id task op reply in
      same_after S M T (loops_stay S M id (goes_on program limit task reply) refl before refl (λ xs. refl))
      (when_holds (same_op due op && same_reply reply (call op S.objects).1) M T e).1
  call_so program limit op reply T _ e = absurd (none_some T e)

  finish_so : (program : Program) (limit : ℕ) (T : State) (a : Action) → finish_step program limit S id task a ≡ Some T → Same S T
  finish_so program limit T action.Finish e =
      let M = open_scope S id task (goes_on program limit task nothing) None in
      same_after S M T (loops_stay S M id _ refl before refl (loop_past S.scopes (new_scope task id None) refl)) (some_same M T e)
  finish_so program limit T _ e = absurd (none_some T e)

  end_so : (T : State) (a : Action) → end_step S id task a ≡ Some T → Same S T
  end_so T action.End e = same_after S (set_task S id (record task { mode = ended })) T (set_one (record task { mode = ended }) refl) (some_same _ T e)
  end_so T _ e = absurd (none_some T e)

  trap_so : (cores : ℕ) (kind : TrapKind) (T : State) (a : Action) → trap_step cores S id task a kind ≡ Some T → Same S T
  trap_so cores kind T (action.Trap due) e =
      let M = set_task S id (record task { mode = trapped }) in
      same_after S M T (set_one (record task { mode = trapped }) refl) (when_holds (same_trap due kind) M T e).1
  trap_so cores trap.Core T (action.Spawn way target args) e =
      let M = set_task S id (record task { mode = trapped }) in
      same_after S M T (set_one (record task { mode = trapped }) refl) (when_holds (not (has_core cores way)) M T e).1
  trap_so cores _ T _ e = absurd (none_some T e)

  -- A task that is made is new, and goes.
  new_of : (a b c d e : Bool) → (a && b && c && d && e) ≡ true → e ≡ true
  new_of true true true true e h = h
  new_of false b c d e h = absurd (cc)
  new_of true false c d e h = absurd (cc)
  new_of true true false d e h = absurd (cc)
  new_of true true true false e h = absurd (cc)

  is_none_so : (o : Option Task) → is_none o ≡ true → o ≡ None
  is_none_so None e = refl
  is_none_so (Some x) e = absurd (cc)

  spawn_so : (program : Program) (cores limit : ℕ) (way : How) (target : ℕ) (args : List ℕ) (kid : TaskId) (T : State) (a : Action)
      → spawn_step program cores limit S id task a way target args kid ≡ Some T → Same S T
  spawn_so program cores limit way target args kid T (action.Spawn due number words) e =
      let x = goes_on program limit task nothing in
      let M = set_task S id x in
      let born = child program limit (innermost task) number words in
      let last = set_task M kid born in
      let h = when_holds (same_how due way && (number == target) && bytes_eq words args && has_core cores due && is_new S kid) last T e in
      let new : fin.get S.tasks kid ≡ None = is_none_so (fin.get S.tasks kid) (new_of (same_how due way) (number == target) (bytes_eq words args) (has_core cores due) (is_new S kid) h.0) in
      let first : Same S M = set_one x refl in
      same_after S last T (λ q. loops_stay M last kid born refl (first kid ∙ ap (option_and_then (waits_at S.scopes)) new) refl (λ xs. refl) q ∙ first q) h.1
  spawn_so program cores limit way target args kid T _ e = absurd (none_some T e)

pub entries_leave_loops : laws.EntriesLeaveLoops
entries_leave_loops program cores limit S T (entry.Call id op reply) n e =
    let g = goes_in S id (λ task. call_step program limit S id task task.action op reply) T e in
    call_so S id g.task g.there g.goes program limit op reply T g.task.action g.made
entries_leave_loops program cores limit S T (entry.Spawn id way target args kid) n e =
    let g = goes_in S id (λ task. spawn_step program cores limit S id task task.action way target args kid) T e in
    spawn_so S id g.task g.there g.goes program cores limit way target args kid T g.task.action g.made
entries_leave_loops program cores limit S T (entry.Finish id) n e =
    let g = goes_in S id (λ task. finish_step program limit S id task task.action) T e in
    finish_so S id g.task g.there g.goes program limit T g.task.action g.made
entries_leave_loops program cores limit S T (entry.Loop id lo hi grain target args) n e = absurd n
entries_leave_loops program cores limit S T (entry.Begin owner index kid) n e = absurd n
entries_leave_loops program cores limit S T (entry.Pass id) n e = absurd n
entries_leave_loops program cores limit S T (entry.End id) n e =
    let g = goes_in S id (λ task. end_step S id task task.action) T e in
    end_so S id g.task g.there g.goes T g.task.action g.made
entries_leave_loops program cores limit S T (entry.Trap id kind) n e =
    let g = goes_in S id (λ task. trap_step cores S id task task.action kind) T e in
    trap_so S id g.task g.there g.goes cores kind T g.task.action g.made
entries_leave_loops program cores limit S T entry.Over n e =
    same_after S (record S { passed = true }) T (λ q. refl) (when_holds (not S.passed && not (left S 0)) (record S { passed = true }) T e).1
