-- A task passes its innermost scope; a task that spawns at no core is trapped; the program ends.
use Rattle.std.proofs.Common.{◌≡◌, ◌≢◌, ◌⊎◌, ℕ, zero, suc, ◌+◌, ◌<◌, ◌&&◌, Bool, true, false, not, if◌then◌else◌, List, [], ◌∷◌, ◌++◌, drop, inl, inr, sym, ◌∙◌, ap, subst, refl, arith, Option, Some, None}
use Rattle.std.specs.Option.{option_and_then}
use Rattle.std.specs.FinMap as fin
use Rattle.gr_syntax.specs.declared.syntax.Program.{Program}
use Rattle.gr_lang.specs.declared.action.Action.{Action}
use Rattle.gr_lang.specs.declared.action.Action.TheVariants as action
use Rattle.gr_lang.specs.declared.action.Entry.TheVariants as entry
use Rattle.gr_lang.specs.declared.action.How.{How}
use Rattle.gr_lang.specs.declared.action.TaskId.{TaskId}
use Rattle.gr_lang.specs.declared.action.TrapKind.TheVariants as trap
use Rattle.gr_lang.specs.Effects.{nothing}
use Rattle.gr_lang.specs.Next.{Running, next, go_on}
use Rattle.gr_lang.specs.States.{Mode, going, at_loop, trapped, Task, State, is_going, is_at_loop, left}
use Rattle.gr_lang.specs.Steps.{step, if_going, when, set_task, pass_from, arrive_step, pass_step, trap_step, over_step, has_core}
use Rattle.gr_lang.specs.Steps as steps
use Rattle.gr_view.specs.Places.{put}
use Rattle.gr_machine.specs.declared.waits.Waits.TheVariants as wait
use Rattle.gr_machine.specs.States.{Suspended, Body}
use Rattle.gr_machine.specs.Outcomes.{Outcome}
use Rattle.gr_machine.specs.Slots as slots
use Rattle.gr_machine.specs.Spawns as spawns
use Rattle.gr_machine.specs.ScopeRuns.{passes}
use Rattle.gr_machine.specs.ScopeServes.{over}
use Rattle.gr_machine.specs.Runs.{acts, without_ready}
use Rattle.gr_stands.specs.Worlds.{Given, machine_in, World, bodies}
use Rattle.gr_stands.specs.Censuses.{going_on}
use Rattle.gr_stands.specs.Calls.{StandsAt, mode_of, is_told, is_asking, of_slot, times}
use Rattle.gr_stands.specs.Stands.{Stands}
use Rattle.gr_stands.proofs.Places.{times_last, times_before}
use Rattle.gr_stands_calls.specs.Acting.{IsFirst}
use Rattle.gr_stands_calls.proofs.Slots.{put_there}
use Rattle.gr_stands_calls.proofs.Common.{same_memory, first_goes, rest_here, rest_other, first_stands, plain_goes}
use Rattle.gr_stands_changes.specs.Changes.{ChangesSlot}
use Rattle.gr_stands_changes.proofs.Slots.{slot_changes_are_kept}
use Rattle.gr_stands_changes.proofs.Leaves.{leaving_is_kept}
use Rattle.gr_stands_passes.specs.Passing.{CanPass, IsAtEnd, IsPlaced}
use Rattle.gr_stands_passes.specs.Laws as laws

-- ---- the entry

pub pass_leads : (program : Program) (cores limit : ℕ) (S : State) (id : TaskId) (t : Task) → fin.get S.tasks id ≡ Some t → (t.mode ≡ at_loop) ⊎ ((t.mode ≡ going) × (t.action ≡ action.Arrive))
    → (p : CanPass S t) → step program cores limit S (entry.Pass id) ≡ Some (set_task S id (record (steps.goes_on program limit t nothing) { opened = p.outer }))
pass_leads program cores limit S id t there how p =
    ap (option_and_then (λ (x : Task). pass_step program limit S id x)) there ∙ at_mode how ∙ from_here
  where
    T : State
    T = set_task S id (record (steps.goes_on program limit t nothing) { opened = p.outer })

    from_here : pass_from program limit S id t t.opened ≡ Some T
    from_here = ap (pass_from program limit S id t) p.opened ∙ ap (λ (b : Bool). when (not b) T) p.finished

    at_mode : (t.mode ≡ at_loop) ⊎ ((t.mode ≡ going) × (t.action ≡ action.Arrive)) → pass_step program limit S id t ≡ pass_from program limit S id t t.opened
    at_mode (inl e) = ap (λ (m : Mode). if is_at_loop m then pass_from program limit S id t t.opened else (if is_going m then arrive_step program limit S id t t.action else None)) e
    at_mode (inr e) =
        ap (λ (m : Mode). if is_at_loop m then pass_from program limit S id t t.opened else (if is_going m then arrive_step program limit S id t t.action else None)) e.0
        ∙ ap (arrive_step program limit S id t) e.1

at_mode_lives : (m : Mode) (a : Action) → (m ≡ at_loop) ⊎ ((m ≡ going) × (a ≡ action.Arrive)) → going_on m ≡ 1
at_mode_lives m a (inl e) = ap going_on e
at_mode_lives m a (inr e) = ap going_on e.0

-- ---- a scope is passed

pub passes_act : laws.PassesAct
passes_act given w S c k got s b st here p letters at_end can =
    let machine = machine_in given in
    let stands : StandsAt S s = (st.calls.tasks.slots c k s p.there).stands p.not_told in
    let may : CanPass S stands.plain = can stands.plain stands.there in
    let how : (stands.plain.mode ≡ at_loop) ⊎ ((stands.plain.mode ≡ going) × (stands.plain.action ≡ action.Arrive)) = by stands at_end in
    let went : Task = record (steps.goes_on given.program given.setup.steps stands.plain nothing) { opened = may.outer } in
    let T : State = set_task S s.id went in
    let e : Outcome = passes machine b k s in
    let u : Suspended = slots.goes_on machine (record s { opened = drop 1 s.opened }) nothing in
    record {
      outcome = e;
      acts = refl;
      sends = tt;
      entry = entry.Pass s.id;
      marks = refl;
      after = T;
      leads = pass_leads given.program given.setup.cores given.setup.steps S s.id stands.plain stands.there how may;
      keeps = slot_changes_are_kept given w S T c got e k s u st here (record {
        there = p.there;
        slots = ap (λ (f : ℕ → Option Suspended). put f k (Some u)) p.slots;
        ready = omega (arith, times_last k b.tasks.ready, p.not_ready);
        others = λ l ne. times_before l k b.tasks.ready ne ∙ p.ready l ne;
        number = p.next;
        work = p.work;
        words = p.words;
        named = refl;
        counted = refl;
        was_not_asking = p.not_asking;
        not_asking = refl;
        letters = letters;
        sends = tt;
        memory = same_memory S.objects;
        stands = λ z. record {
          plain = went;
          there = put_there S T s.id stands.plain went stands.there refl;
          action = ap (λ (r : Running). (next given.program given.setup.steps (go_on r nothing)).0) stands.running;
          running = ap (λ (r : Running). (next given.program given.setup.steps (go_on r nothing)).1) stands.running;
          mode = refl;
        };
        plain = inr (record { old = stands.plain; new = went; there = stands.there; lives = at_mode_lives stands.plain.mode stands.plain.action how; lives_on = refl; tasks = λ id. refl });
      });
    }
  where
    by : (stands : StandsAt S s) → IsAtEnd s → (stands.plain.mode ≡ at_loop) ⊎ ((stands.plain.mode ≡ going) × (stands.plain.action ≡ action.Arrive))
    by stands (inl e) = inl (stands.mode ∙ e)
    by stands (inr e) = inr (stands.mode ∙ e.0, stands.action ∙ e.1)

-- ---- a trap

spawn_traps : (program : Program) (cores limit : ℕ) (S : State) (id : TaskId) (t : Task) (way : How) (target : ℕ) (args : List ℕ) → fin.get S.tasks id ≡ Some t → t.mode ≡ going
    → t.action ≡ action.Spawn way target args → has_core cores way ≡ false
    → step program cores limit S (entry.Trap id trap.Core) ≡ Some (set_task S id (record t { mode = trapped }))
spawn_traps program cores limit S id t way target args there mode due core =
    ap (option_and_then (if_going (λ (x : Task). trap_step cores S id x x.action trap.Core))) there
    ∙ ap (λ (m : Mode). if is_going m then trap_step cores S id t t.action trap.Core else None) mode
    ∙ ap (λ (a : Action). trap_step cores S id t a trap.Core) due
    ∙ ap (λ (b : Bool). when (not b) (set_task S id (record t { mode = trapped }))) core

pub spawns_are_trapped : laws.SpawnsAreTrapped
spawns_are_trapped given w S c k more s way target args st here first due core =
    let b = without_ready (bodies w c) in
    let e : Outcome = spawns.trapped b k s trap.Core in
    let waits = first_goes given w S c k more s st first in
    let stands : StandsAt S s = first_stands given w S c k more s st first in
    let mode : stands.plain.mode ≡ going = plain_goes S s stands waits in
    let stopped : Task = record stands.plain { mode = trapped } in
    let u : Suspended = record s { waits = wait.Nothing } in
    let T : State = set_task S s.id stopped in
    record {
      outcome = e;
      acts = ap Some (ap (acts (machine_in given) c b k s) due ∙ ap (λ (t : Bool). if t then spawns.spawns_under (machine_in given) c b k s way target args (b.scopes.counts (slots.innermost s)) else e) core);
      sends = tt;
      entry = entry.Trap s.id trap.Core;
      marks = refl;
      after = T;
      leads = spawn_traps given.program given.setup.cores given.setup.steps S s.id stands.plain way target args stands.there mode (stands.action ∙ due) core;
      keeps = slot_changes_are_kept given w S T c [] e k s u st here (record {
        there = first.there;
        slots = refl;
        ready = rest_here given w S c k more s st first;
        others = rest_other w c k more s first;
        number = refl;
        work = refl;
        words = refl;
        named = refl;
        counted = refl;
        was_not_asking = ap is_asking waits;
        not_asking = refl;
        letters = tt;
        sends = tt;
        memory = same_memory S.objects;
        stands = λ z. record { plain = stopped; there = put_there S T s.id stands.plain stopped stands.there refl; action = stands.action; running = stands.running; mode = refl };
        plain = inr (record { old = stands.plain; new = stopped; there = stands.there; lives = ap going_on mode; lives_on = refl; tasks = λ id. refl });
      });
    }

-- ---- the end

pub programs_end : laws.ProgramsEnd
programs_end given w S c got scope st here letters passed done =
    let T : State = record S { passed = true } in
    record {
      outcome = over (bodies w c) scope;
      acts = refl;
      sends = tt;
      entry = entry.Over;
      marks = refl;
      after = T;
      leads = ap (λ (b : Bool). when (not b && not (left S 0)) T) passed ∙ ap (λ (b : Bool). when (not b) T) done;
      keeps = leaving_is_kept given w S T c got (over (bodies w c) scope) st here (record { tasks = refl; work = refl; words = refl; letters = letters; sends = tt }) refl (same_memory S.objects);
    }
