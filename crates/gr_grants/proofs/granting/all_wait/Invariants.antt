use Rattle.std.proofs.Common.{◌≡◌, drop}
use Rattle.gr_machine.specs.Slots.{awaits_turn, calls_await}
use Rattle.gr_state.specs.StateView.{seen_of}
use Rattle.gr_grants.proofs.granting.all_wait.Given as goal

abbrev pub invariant-loop-call : goal.invariant-loop-call
invariant-loop-call l = calls_await (awaits_turn l.vector) (seen_of l.state).core.body (drop l.call-index l.calls)
    ≡ calls_await (awaits_turn l.vector) (seen_of l.state).core.body l.calls
