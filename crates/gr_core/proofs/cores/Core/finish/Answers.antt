use Rattle.std.proofs.Common.{ap, subst, sym, List, []}
use Rattle.gr_view.specs.Places.{at_place}
use Rattle.gr_machine.specs.Events.{Packet}
use Rattle.gr_machine.specs.LocalRuns.{IsLocalRun}
use Rattle.gr_core.specs.CoreView.{run_in}
use Rattle.gr_core.specs.Runs.{IsRun, end_of}
use Rattle.gr_core.proofs.Going.{ends_local}
use Rattle.gr_core.proofs.cores.Core.finish.Goals as goal

pub returns-clause-run : goal.returns-clause-run
returns-clause-run c =
    let inner = c.into_inner-first.result in
    let received = at_place [] c.from_vec-2.result in
    let sent = at_place [] c.from_vec.result in
    subst (λ machine. IsLocalRun machine (record (end_of (run_in inner)) { core = c.me-core.result; received = received; sent = sent }))
    (ap (λ running. (run_in running).seen.machine) c.into_inner-first.ensures)
    (ends_local (run_in inner) c.me-core.result received sent (subst (λ running. IsRun (run_in running)) (sym c.into_inner-first.ensures) c.args.self.runs) c.me-core.ensures.value
    (ap (λ (lists : List (List Packet)). at_place [] lists) c.from_vec-2.ensures) (ap (λ (lists : List (List Packet)). at_place [] lists) c.from_vec.ensures))
