-- A task opens a finish or a loop.
use Rattle.std.proofs.Common.{◌≡◌, ◌≢◌, ℕ, zero, suc, ◌+◌, ◌<◌, ◌≤◌, ◌==◌, ◌&&◌, Bool, true, false, if◌then◌else◌, bytes_eq, List, [], ◌∷◌, ◌++◌, length, sym, ◌∙◌, ap, subst, refl, arith, Option, Some, None}
use Rattle.std.specs.Option.{option_and_then}
use Rattle.std.specs.FinMap as fin
use Rattle.std.specs.FinSet as set
use Rattle.std.proofs.lemmas.Bool.Decides.{nat_tests}
use Rattle.std.proofs.lemmas.Slice.Eq.{bytes_eq-Decides}
use Rattle.gr_syntax.specs.declared.syntax.Program.{Program}
use Rattle.gr_lang.specs.declared.action.Action.{Action}
use Rattle.gr_lang.specs.declared.action.Action.TheVariants as action
use Rattle.gr_lang.specs.declared.action.Entry.TheVariants as entry
use Rattle.gr_lang.specs.declared.action.TaskId.{TaskId}
use Rattle.gr_lang.specs.Effects.{nothing}
use Rattle.gr_lang.specs.Next.{Running, next, go_on}
use Rattle.gr_lang.specs.States.{Mode, going, at_loop, Task, Range, State, is_going}
use Rattle.gr_lang.specs.Steps.{step, if_going, when, open_scope, finish_step, loop_step}
use Rattle.gr_lang.specs.Steps as steps
use Rattle.gr_view.specs.Places.{put}
use Rattle.gr_msg.specs.declared.message.ScopeId.{ScopeId}
use Rattle.gr_msg.specs.declared.message.Unit.{Unit as WorkUnit}
use Rattle.gr_work.specs.Queues.{Queues}
use Rattle.gr_net.specs.Sums.{weigh, Each}
use Rattle.gr_machine.specs.declared.waits.Waits.TheVariants as wait
use Rattle.gr_machine.specs.States.{Suspended, Body}
use Rattle.gr_machine.specs.Slots.{goes_on}
use Rattle.gr_machine.specs.ScopeRuns.{opens, finishes_in, loops_in}
use Rattle.gr_stands.specs.Worlds.{Given, machine_in, World, bodies}
use Rattle.gr_stands.specs.Censuses.{is_single, going_on}
use Rattle.gr_stands.specs.Calls.{StandsAt, scope_mode, is_asking, of_slot, times, UnitFits}
use Rattle.gr_stands.specs.CallActs.{IsOther, IsOtherUnit}
use Rattle.gr_stands.specs.Stands.{Stands}
use Rattle.gr_stands.proofs.Memories.{words_stay}
use Rattle.gr_stands.proofs.Places.{times_last, times_before}
use Rattle.gr_stands_calls.specs.Stays.{singles_in}
use Rattle.gr_stands_calls.proofs.Slots.{fresh_kept, put_there, put_kept, put_new, put_unended, alone, units_kept}
use Rattle.gr_stands_calls.proofs.Common.{same_memory, kept_by}
use Rattle.gr_stands_births.specs.Turning.{IsTurn}
use Rattle.gr_stands_births.specs.Laws as laws
use Rattle.gr_stands_births.proofs.Turns.{Turns, turn_stands, turn_act}

-- ---- entries

same_word : (n : ℕ) → (n == n) ≡ true
same_word n = grind (arith, nat_tests)

finish_leads : (program : Program) (cores limit : ℕ) (S : State) (id : TaskId) (t : Task) → fin.get S.tasks id ≡ Some t → t.mode ≡ going → t.action ≡ action.Finish
    → step program cores limit S (entry.Finish id) ≡ Some (open_scope S id t (steps.goes_on program limit t nothing) None)
finish_leads program cores limit S id t there mode next =
    ap (option_and_then (if_going (λ (x : Task). finish_step program limit S id x x.action))) there
    ∙ ap (λ (m : Mode). if is_going m then finish_step program limit S id t t.action else None) mode
    ∙ ap (finish_step program limit S id t) next

abbrev pub range_of : ℕ → ℕ → ℕ → List ℕ → Range
range_of lo hi target args = record { lo = lo; hi = hi; target = target; args = args; begun = set.empty }

pub loop_leads : (program : Program) (cores limit : ℕ) (S : State) (id : TaskId) (t : Task) (lo hi grain target : ℕ) (args : List ℕ) → fin.get S.tasks id ≡ Some t → t.mode ≡ going
    → t.action ≡ action.Loop lo hi grain target args
    → step program cores limit S (entry.Loop id lo hi grain target args) ≡ Some (open_scope S id t (record t { mode = at_loop }) (Some (range_of lo hi target args)))
loop_leads program cores limit S id t lo hi grain target args there mode next =
    ap (option_and_then (if_going (λ (x : Task). loop_step S id x x.action lo hi grain target args))) there
    ∙ ap (λ (m : Mode). if is_going m then loop_step S id t t.action lo hi grain target args else None) mode
    ∙ ap (λ (a : Action). loop_step S id t a lo hi grain target args) next
    ∙ ap (λ (b : Bool). when b (open_scope S id t (record t { mode = at_loop }) (Some (range_of lo hi target args)))) same
  where
    same : (lo == lo && hi == hi && grain == grain && target == target && bytes_eq args args) ≡ true
    same = rw (same_word lo, same_word hi, same_word grain, same_word target, (bytes_eq-Decides args args).1 refl) refl

-- ---- a finish

module _ (given : Given) (w : World) (S : State) (me slot : ℕ) (task : Suspended) (body : Body) (st : Stands given w S) (here : me < given.setup.cores) (turn : IsTurn w me slot task body) where
  abbrev stands : StandsAt S task
  stands = turn_stands given w S me slot task body st turn

  mode : stands.plain.mode ≡ going
  mode = stands.mode ∙ turn.goes

  -- The units of the core fit still, where the task alone is another one.
  module _ (T : State) (u : Task) (after : T.tasks ≡ fin.insert S.tasks task.id u) where
    pub still_fit : (pick : Queues → List WorkUnit) → Each (UnitFits given S) (pick (bodies w me).work) → Each (IsOtherUnit (task.id ∷ [])) (pick (bodies w me).work) → Each (UnitFits given T) (pick body.work)
    still_fit pick f o = subst (λ (q : Queues). Each (UnitFits given T) (pick q)) (sym turn.work)
        (units_kept given S T (task.id ∷ []) (put_kept S T task.id stands.plain u stands.there after) (pick (bodies w me).work) f o)

  abbrev went : Task
  went = steps.goes_on given.program given.setup.steps stands.plain nothing

  abbrev in_finish : Task
  in_finish = record went { opened = length S.scopes ∷ stands.plain.opened }

  abbrev finished : State
  finished = open_scope S task.id stands.plain went None

  finish_turns : (scope : ScopeId) → Turns given w S finished me slot task (goes_on (machine_in given) (opens task scope) nothing) (finishes_in (machine_in given) body slot task scope) (λ id. 0)
  finish_turns scope =
      let u = goes_on (machine_in given) (opens task scope) nothing in
      let e = finishes_in (machine_in given) body slot task scope in
      let apart = alone given w S me slot task stands.plain st.calls turn.there stands.there (ap going_on mode) in
      record {
        slots = ap (λ (f : ℕ → Option Suspended). put f slot (Some u)) turn.slots;
        ready_here = omega (arith, times_last slot body.tasks.ready, turn.not_ready);
        ready_other = λ l ne. times_before l slot body.tasks.ready ne ∙ turn.ready l ne;
        same_name = refl;
        same_origin = refl;
        not_asking = refl;
        stands = record {
          plain = in_finish;
          there = put_there S finished task.id stands.plain in_finish stands.there refl;
          action = ap (λ (r : Running). (next given.program given.setup.steps (go_on r nothing)).0) stands.running;
          running = ap (λ (r : Running). (next given.program given.setup.steps (go_on r nothing)).1) stands.running;
          mode = refl;
        };
        kept = put_kept S finished task.id stands.plain in_finish stands.there refl;
        fresh = fresh_kept (bodies w) S finished me e.body turn.next (put_new S finished task.id stands.plain in_finish stands.there refl) st.calls.tasks.fresh;
        unended = λ id. omega (arith, put_unended S finished task.id stands.plain in_finish stands.there refl (sym (ap going_on mode)) id);
        singles = λ id. omega (arith, ap (λ (q : Queues). weigh (is_single id) q.private + weigh (is_single id) q.public) turn.work);
        private = still_fit finished in_finish refl (λ q. q.private) (st.calls.tasks.private me here) (apart.private me here);
        public = still_fit finished in_finish refl (λ q. q.public) (st.calls.tasks.public me here) (apart.public me here);
        sends = tt;
      }

  -- ---- a loop

  abbrev in_loop : Task
  in_loop = record (record stands.plain { mode = at_loop }) { opened = length S.scopes ∷ stands.plain.opened }

  abbrev looping : Range → State
  looping range = open_scope S task.id stands.plain (record stands.plain { mode = at_loop }) (Some range)

  loop_turns : (scope : ScopeId) (lo hi grain target : ℕ) (args : List ℕ) → task.action ≡ action.Loop lo hi grain target args
      → Turns given w S (looping (range_of lo hi target args)) me slot task (record (opens task scope) { waits = wait.Scope scope })
      (loops_in me body slot task lo hi grain target args scope) (λ id. 0)
  loop_turns scope lo hi grain target args next =
      let u : Suspended = record (opens task scope) { waits = wait.Scope scope } in
      let T = looping (range_of lo hi target args) in
      let e = loops_in me body slot task lo hi grain target args scope in
      let apart = alone given w S me slot task stands.plain st.calls turn.there stands.there (ap going_on mode) in
      record {
        slots = ap (λ (f : ℕ → Option Suspended). put f slot (Some u)) turn.slots;
        ready_here = turn.not_ready;
        ready_other = turn.ready;
        same_name = refl;
        same_origin = refl;
        not_asking = refl;
        stands = record {
          plain = in_loop;
          there = put_there S T task.id stands.plain in_loop stands.there refl;
          action = stands.action;
          running = stands.running;
          mode = sym (ap scope_mode next);
        };
        kept = put_kept S T task.id stands.plain in_loop stands.there refl;
        fresh = fresh_kept (bodies w) S T me e.body turn.next (put_new S T task.id stands.plain in_loop stands.there refl) st.calls.tasks.fresh;
        unended = λ id. omega (arith, put_unended S T task.id stands.plain in_loop stands.there refl (sym (ap going_on mode)) id);
        singles = λ id. omega (arith, ap (λ (q : Queues). weigh (is_single id) q.private + weigh (is_single id) q.public) turn.work);
        private = (tt, still_fit T in_loop refl (λ q. q.private) (st.calls.tasks.private me here) (apart.private me here));
        public = still_fit T in_loop refl (λ q. q.public) (st.calls.tasks.public me here) (apart.public me here);
        sends = tt;
      }

pub finishes_open : laws.FinishesOpen
finishes_open given w S me slot task body scope st here turn next =
    let s = turn_stands given w S me slot task body st turn in
    let T = finished given w S me slot task body st here turn in
    let u = goes_on (machine_in given) (opens task scope) nothing in
    let e = finishes_in (machine_in given) body slot task scope in
    record {
      outcome = e;
      acts = refl;
      sends = tt;
      entry = entry.Finish task.id;
      marks = refl;
      after = T;
      leads = finish_leads given.program given.setup.cores given.setup.steps S task.id s.plain s.there (s.mode ∙ turn.goes) (s.action ∙ next);
      keeps = kept_by given w S T me [] e me slot (Some u) (task.id ∷ []) st
          (turn_act given w S T me slot task u body e (λ id. 0) st here turn (finish_turns given w S me slot task body st here turn scope))
          (words_stay (machine_in given) (bodies w) me S.objects st.words e.body.words S.objects turn.words (same_memory S.objects));
    }

pub loops_open : laws.LoopsOpen
loops_open given w S me slot task body scope lo hi grain target args st here turn next =
    let s = turn_stands given w S me slot task body st turn in
    let T = looping given w S me slot task body st here turn (range_of lo hi target args) in
    let u : Suspended = record (opens task scope) { waits = wait.Scope scope } in
    let e = loops_in me body slot task lo hi grain target args scope in
    record {
      outcome = e;
      acts = refl;
      sends = tt;
      entry = entry.Loop task.id lo hi grain target args;
      marks = refl;
      after = T;
      leads = loop_leads given.program given.setup.cores given.setup.steps S task.id s.plain lo hi grain target args s.there (s.mode ∙ turn.goes) (s.action ∙ next);
      keeps = kept_by given w S T me [] e me slot (Some u) (task.id ∷ []) st
          (turn_act given w S T me slot task u body e (λ id. 0) st here turn (loop_turns given w S me slot task body st here turn scope lo hi grain target args next))
          (words_stay (machine_in given) (bodies w) me S.objects st.words e.body.words S.objects turn.words (same_memory S.objects));
    }
