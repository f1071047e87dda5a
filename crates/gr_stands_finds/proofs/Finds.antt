-- Whatever comes first at a core finds what it acts on.
use Rattle.std.proofs.Common.{◌≡◌, ◌<◌, ℕ, Bool, true, false, if◌then◌else◌, List, ◌∷◌, sym, ◌∙◌, ap, subst, refl, Option, Some, None, is_some}
use Rattle.gr_lang.specs.declared.action.WaitingCall.{WaitingCall}
use Rattle.gr_msg.specs.declared.message.Msg.{Msg}
use Rattle.gr_msg.specs.declared.message.Msg.TheVariants as msg
use Rattle.gr_net.specs.Sums.{Each}
use Rattle.gr_net.proofs.Spreads.{Each-map}
use Rattle.gr_machine.specs.declared.waits.Waits.TheVariants as wait
use Rattle.gr_machine.specs.States.{Letter, Suspended, Vector, Body}
use Rattle.gr_machine.specs.Outcomes.{Outcome}
use Rattle.gr_machine.specs.Nets.{world_in}
use Rattle.gr_machine.specs.Openings.{is_vector}
use Rattle.gr_machine.specs.Machines.{thing}
use Rattle.gr_machine.specs.Runs.{taken_up, without_unit}
use Rattle.gr_stands.specs.Worlds.{Given, machine_in, World, bodies}
use Rattle.gr_stands.specs.Calls.{is_told, times}
use Rattle.gr_stands_calls.specs.Acting.{IsFirst, IsFirstLetter}
use Rattle.gr_stands_calls.proofs.Common.{first_goes}
use Rattle.gr_stands_outcomes.specs.Inner.{outcome_of}
use Rattle.gr_stands_steps.specs.Telling.{PartsTell, message_outcome}
use Rattle.gr_stands_steps.proofs.Runs.{no_ready}
use Rattle.gr_shares_tells.proofs.Units.{units_are_sound}
use Rattle.gr_batches.specs.Batches.{IsCaller}
use Rattle.gr_lines.specs.Lines.{waits_on, on_line, vector_in, tasks_on}
use Rattle.gr_lines.specs.Waiting.{IsWaiting, CallsWait, HasLines}
use Rattle.gr_lines_steps.proofs.Lines.{serve_keeps}
use Rattle.gr_stands_parts.specs.Parts.{HasRoom}
use Rattle.gr_stands_parts.proofs.Told as parts
use Rattle.gr_fits.proofs.Reached.{slots_fit}
use Rattle.gr_stands_finds.specs.Finding.{TurnFinds, TasksFound, MessageFinds, ReadyFinds, FindsAll}
use Rattle.gr_stands_finds.specs.Laws as laws
use Rattle.gr_stands_finds.proofs.Runs.{HasRun, has_run}
use Rattle.gr_stands_finds.proofs.Messages.{served}
use Rattle.gr_stands_finds.proofs.Ready.{action_finds}

-- ---- the tasks of a turn's calls

module _ (number : ℕ) (body : Body) where
  on_there : (held : Option Suspended) (task : Suspended) → on_line number held ≡ Some task → held ≡ Some task
  on_there None task e = absurd (cc)
  on_there (Some other) task e = by (waits_on number other.waits) e
    where
      by : (b : Bool) → (if b then Some other else None) ≡ Some task → Some other ≡ Some task
      by true e = e
      by false e = absurd (cc)

  callers : (calls : List WaitingCall) → Each (IsWaiting (tasks_on number body) number (wait.Turn number)) calls → Each (IsCaller body (wait.Turn number)) calls
  callers = Each-map (IsWaiting (tasks_on number body) number (wait.Turn number)) (IsCaller body (wait.Turn number))
      (λ call f. record { task = f.task; there = on_there (body.tasks.slots call.slot) f.task f.there; named = f.named; waits = f.waits; next = f.due })

turn_finds : (given : Given) (me number : ℕ) (body : Body) → HasLines given me body → TurnFinds number body
turn_finds given me number body lines vector turn there mine =
    let is : is_vector (thing (machine_in given) number) ≡ true = sym (lines.vectors number) ∙ ap is_some there in
    let waits : CallsWait number vector (tasks_on number body) =
    subst (λ (held : Option Vector). CallsWait number (vector_in held) (tasks_on number body)) there (lines.calls number is) in
    let oldest = waits.oldest turn mine in
    callers number body turn.calls
    (subst (λ (groups : List (List WaitingCall)). Each (Each (IsWaiting (tasks_on number body) number (wait.Turn number))) groups) oldest.1 waits.grouped).0

-- ---- what comes first

module _ (given : Given) (w : World) (r : HasRun given w) where
  room : HasRoom given w
  room = record { bounds = r.guards.numbers; grants = r.guards.grants }

  module _ (me : ℕ) (here : me < given.setup.cores) where
    pub told : PartsTell given r.sent w r.state me
    told = parts.tells given r.sound r.accepted r.literals r.sent w r.state me 0 here r.all room r.parts

    lines_after : (from : ℕ) (m : Msg) → IsFirstLetter given w me from m → HasLines given me (message_outcome given w me from m).body
    lines_after from m first = serve_keeps given w me (r.parts.lines me) from m
        (subst (Each (λ (l : Letter). l.from < given.setup.cores)) first.without.inbox (r.all.senders.inboxes me here)).0

    tasks_found : (from : ℕ) (m : Msg) → IsFirstLetter given w me from m → TasksFound given w me (message_outcome given w me from m).body m
    tasks_found from (msg.EnrolAck scope) first = told.messages from (msg.EnrolAck scope) first
    tasks_found from (msg.Grant vector head tail) first =
        turn_finds given me vector (message_outcome given w me from (msg.Grant vector head tail)).body (lines_after from (msg.Grant vector head tail) first)
    tasks_found from (msg.ElemAck vector position got) first =
        turn_finds given me vector (message_outcome given w me from (msg.ElemAck vector position got)).body
        (lines_after from (msg.ElemAck vector position got) first)
    tasks_found from _ first = tt

    message_finds : (from : ℕ) (m : Msg) → IsFirstLetter given w me from m → MessageFinds given w me from m
    message_finds from m first =
        let made = served given w r me from m first in
        record {
          outcome = made.outcome;
          acts = made.is;
          tasks = subst (λ (o : Option Outcome). TasksFound given w me (outcome_of (bodies w me) o).body m) made.is (tasks_found from m first);
        }

    ready_finds : (slot : ℕ) (more : List ℕ) → (bodies w me).tasks.ready ≡ slot ∷ more → ReadyFinds given w me slot
    ready_finds slot more is =
        let at = no_ready slot more ((bodies w me).tasks.slots slot) (sym (ap (times slot) is) ∙ r.all.stands.calls.tasks.ready me slot) in
        let first : IsFirst w me slot more at.0 = record { ready = is; there = at.1 } in
        let waits = first_goes given w r.state me slot more at.0 r.all.stands first in
        record {
          task = at.0;
          there = at.1;
          stays = action_finds given w r.state me slot at.0 here told.vectors (r.all.stands.calls.tasks.slots me slot at.0 at.1).counted
              (told.scopes slot more at.0 first) at.0.action refl
              (slots_fit given w r.state me slot at.0 told.actions r.all.stands at.1 (ap is_told waits));
        }

  pub finds_all : FindsAll given w
  finds_all = record {
    messages = λ me from m first. message_finds me first.here from m first;
    units = λ me slot work here is. record {
      outcome = taken_up (machine_in given) me (without_unit (bodies w me)) slot work;
      is = (units_are_sound given r.parts.names w r.state me slot work r.all.stands r.parts.work.shares.hold here is).1;
    };
    ready = λ me slot more here is. ready_finds me here slot more is;
  }

pub nothing_finds_nothing : laws.NothingFindsNothing
nothing_finds_nothing given sound accepted short literals slot steps world low fit goes =
    finds_all given (world_in world) (has_run given sound accepted short literals slot steps world low fit goes)

pub messages_name_vectors : laws.MessagesNameVectors
messages_name_vectors given sound accepted short literals slot steps world low fit goes =
    (has_run given sound accepted short literals slot steps world low fit goes).named
