-- From the rows of events to events.
use Rattle.std.proofs.Common.{◌≡◌, ◌<◌, ◌++◌, ℕ, List, [], ◌∷◌, sym, ◌∙◌, ap, subst, refl, Some}
use Rattle.gr_lang.specs.States.{State}
use Rattle.gr_merge.specs.GlobalRuns.{of_core}
use Rattle.gr_msg.specs.declared.message.Unit.{Unit as WorkUnit}
use Rattle.gr_net.specs.Sums.{Each}
use Rattle.gr_net.proofs.Spreads.{put_same}
use Rattle.gr_machine.specs.declared.mark.Mark.{Mark}
use Rattle.gr_machine.specs.States.{Letter, Body}
use Rattle.gr_machine.specs.Outcomes.{Outcome, Send}
use Rattle.gr_machine.specs.Events.{gives, gifts}
use Rattle.gr_machine.specs.Steppers.{stamped}
use Rattle.gr_machine.specs.GlobalRuns as runs
use Rattle.gr_machine.specs.Nets.{world_in}
use Rattle.gr_machine.proofs.Clocks.{some_same}
use Rattle.gr_stands.specs.Worlds.{Given, machine_in, World, bodies}
use Rattle.gr_stands.specs.Stands.{Stands}
use Rattle.gr_stands.proofs.Worlds.{acted_bodies}
use Rattle.gr_stands_calls.specs.Acting.{Keeps, ActsQuietly, ActsWithEntry}
use Rattle.gr_stands_calls.proofs.Stays.{units_are_given}
use Rattle.gr_stands_events.specs.Laws as laws
use Rattle.gr_stands_events.specs.Laws.{ActsThenGives, WaitersAreCores}

gifts_go : (n : ℕ) (cores : List ℕ) (units : List WorkUnit) → Each (λ core. core < n) cores → Each (λ (send : Send). send.to < n) (gifts cores units)
gifts_go n [] units e = tt
gifts_go n (core ∷ cores) [] e = tt
gifts_go n (core ∷ cores) (unit ∷ units) e = (e.0, gifts_go n cores units e.1)

-- The outcome of the row is that of the event; then the units are given.
after_gifts : (given : Given) (before after : runs.World) (state : State) (me clock : ℕ) (got : List Letter) (outcome : Outcome)
    → ActsThenGives (machine_in given) before after me clock got outcome → Each (λ send. send.to < given.setup.cores) outcome.sends
    → Keeps given (world_in before) me got outcome state → WaitersAreCores given outcome.body → Stands given (world_in after) state
after_gifts given before after state me clock got outcome a sends keeps waiters =
    let acts = a.acts sends in
    let both = keeps a.middle acts in
    let stands : Stands given a.middle state = record { words = both.1; calls = both.0 } in
    let here : bodies a.middle me ≡ outcome.body = ap (λ (b : ℕ → Body). b me) (acted_bodies given.setup.cores (world_in before) a.middle me got outcome acts) ∙ put_same (bodies (world_in before)) me outcome.body in
    let goes = gifts_go given.setup.cores (bodies a.middle me).steals.waiting (bodies a.middle me).work.public (subst (λ (b : Body). Each (λ core. core < given.setup.cores) b.steals.waiting) (sym here) waiters) in
    let last = units_are_given given a.middle state me stands a.here (world_in after) (a.gives goes) in
    record { words = last.1; calls = last.0 }

pub entries_stand_on : laws.EntriesStandOn
entries_stand_on given before after state me clock got outcome a row waiters =
    let is : outcome ≡ row.outcome = some_same row.acts in
    record {
      entry = row.entry;
      marks = a.marks ∙ ap (λ (ms : List Mark). before.marks ++ of_core me (stamped clock ms)) (ap (λ (o : Outcome). o.marks) is ∙ row.marks);
      next = row.after;
      leads = row.leads;
      stands = after_gifts given before after row.after me clock got outcome a (subst (λ (o : Outcome). Each (λ send. send.to < given.setup.cores) o.sends) (sym is) row.sends)
          (subst (λ (o : Outcome). Keeps given (world_in before) me got o row.after) (sym is) row.keeps) waiters;
    }

pub quiet_events_stand : laws.QuietEventsStand
quiet_events_stand given before after state me clock got outcome a row waiters =
    let is : outcome ≡ row.outcome = some_same row.acts in
    after_gifts given before after state me clock got outcome a (subst (λ (o : Outcome). Each (λ send. send.to < given.setup.cores) o.sends) (sym is) row.sends)
    (subst (λ (o : Outcome). Keeps given (world_in before) me got o state) (sym is) row.keeps) waiters
