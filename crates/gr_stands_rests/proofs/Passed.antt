-- Where the root is passed each task has ended, and so none waits for a turn: the calls of a turn are none.
use Rattle.std.proofs.Common.{◌≡◌, ℕ, List, [], ◌∷◌, Option, Some, None, true, sym, ◌∙◌, ap, subst, refl}
use Rattle.gr_lang.specs.declared.action.WaitingCall.{WaitingCall}
use Rattle.gr_lang.specs.States.{going, ended, State}
use Rattle.gr_net.specs.Sums.{Each}
use Rattle.gr_machine.specs.declared.waits.Waits.{Waits}
use Rattle.gr_machine.specs.declared.waits.Waits.TheVariants as wait
use Rattle.gr_machine.specs.Machines.{thing}
use Rattle.gr_machine.specs.States.{Turn, Suspended}
use Rattle.gr_machine.specs.Openings.{is_vector}
use Rattle.gr_machine.proofs.ActionFacts.{choice}
use Rattle.gr_stands.specs.Worlds.{Given, machine_in, World, bodies}
use Rattle.gr_stands.specs.Stands.{Stands}
use Rattle.gr_stands.specs.Calls.{is_told, mode_of, StandsAt}
use Rattle.gr_fits_scopes.specs.Scopes.{AllEnded}
use Rattle.gr_fits_scopes.specs.Laws.{PassedStatesAreDone}
use Rattle.gr_lines.specs.Lines.{waits_on, on_line, tasks_on}
use Rattle.gr_lines.specs.Waiting.{IsWaiting, LinesStand}
use Rattle.gr_lines_turns.specs.Tokens.{vector_at}
use Rattle.gr_elements_rests.proofs.Rests.{rests_found}
use Rattle.gr_stands_rests.specs.Laws as laws

none_some : {X : Type 0} (x : X) → None ≡ Some x → ⊥
none_some x e = cc

going_ended : going ≡ ended → ⊥
going_ended e = cc

held_so : (number : ℕ) (held : Option Suspended) (task : Suspended) → on_line number held ≡ Some task → held ≡ Some task
held_so number None task e = absurd (none_some task e)
held_so number (Some other) task e =
    choice (λ (on : Option Suspended). on ≡ Some task → Some other ≡ Some task) (waits_on number other.waits) _ _ (λ q. q) (λ q. absurd (none_some task q)) e

module _ (given : Given) (world : World) (state : State) (stands : Stands given world state) (lines : LinesStand given world) (over : AllEnded state) where
  none_waits : (core slot number : ℕ) (task : Suspended) → (bodies world core).tasks.slots slot ≡ Some task → task.waits ≡ wait.Turn number → ⊥
  none_waits core slot number task there waits =
      let s : StandsAt state task = (stands.calls.tasks.slots core slot task there).stands (ap is_told waits) in
      going_ended (sym (s.mode ∙ ap (λ (w : Waits). mode_of w task.action) waits) ∙ over task.id s.plain s.there)

  no_calls : (number core : ℕ) (turn : Turn) → is_vector (thing (machine_in given) number) ≡ true
      → (vector_at number (bodies world) core).turn ≡ Some turn → turn.calls ≡ []
  no_calls number core turn is out =
      let waiting = (lines core).calls number is in
      let oldest = waiting.oldest turn out in
      none turn.calls (subst (Each (Each (IsWaiting (tasks_on number (bodies world core)) number (wait.Turn number)))) oldest.1 waiting.grouped).0
    where
      none : (calls : List WaitingCall) → Each (IsWaiting (tasks_on number (bodies world core)) number (wait.Turn number)) calls → calls ≡ []
      none [] e = refl
      none (call ∷ calls) e = absurd (none_waits core call.slot number e.0.task
          (held_so number ((bodies world core).tasks.slots call.slot) e.0.task e.0.there) e.0.waits)

pub passed_rest : PassedStatesAreDone → laws.PassedRunsRest
passed_rest done given ends words world state reached stands rest passed =
    rests_found given world state ends words stands rest.lines rest.turns rest.elements rest.lists rest.planned
    (no_calls given world state stands rest.lines (done given state reached passed).0)
