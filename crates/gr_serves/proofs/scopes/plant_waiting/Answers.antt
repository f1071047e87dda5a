use Rattle.std.proofs.Common.{◌∙◌, List, Option, Some, ap, sym, ℕ}
use Rattle.gr_event.specs.Counts.{counts_of, waiting_slots, when_acked}
use Rattle.gr_event.specs.declared.counts.LocalCount.{LocalCount}
use Rattle.gr_msg.specs.declared.message.ScopeId.{ScopeId}
use Rattle.gr_machine.specs.Spawns.{with_count}
use Rattle.gr_courses.specs.Seen.{Seen, with_body}
use Rattle.gr_state.specs.StateView.{seen_of}
use Rattle.gr_serves.proofs.Units.{units_made}
use Rattle.gr_serves.proofs.scopes.plant_waiting.Goals as goal

pub returns : goal.returns
returns c =
    let seen : Seen = seen_of c.args.state.now in
    let local : Option LocalCount = counts_of c.args.state.now.counts c.args.scope in
    let some : List ℕ → Option (List ℕ) = λ slots. Some slots in
    units_made c.plant_all.result seen _ _ (with_count seen.core.body c.args.scope (when_acked local)) (waiting_slots local) _
    (c.in_ok-slots.ensures.slots ∙ ap some (sym c.as_slice.ensures))
    (ap (λ (counts : ScopeId → Option LocalCount). with_body seen (record seen.core.body { scopes = record seen.core.body.scopes { counts = counts } }))
    c.in_ok-slots.ensures.rest)
    c.plant_all.ensures
