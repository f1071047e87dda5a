use Rattle.std.proofs.Common.{◌≡◌, ◌∙◌, [], ap, sym}
use Rattle.gr_lang.specs.Objects.{Heap}
use Rattle.gr_machine.specs.Machines.{Machine, machine_of}
use Rattle.gr_state.specs.StateView.{seen_of}
use Rattle.gr_view.specs.Places.{at_place}
use Rattle.gr_core.specs.CoreView.{run_in}
use Rattle.gr_core.specs.Runs.{Run, opened_run}
use Rattle.gr_core.proofs.Beginning.{opened_carries, opened_heap, opened_is, opened_runs}
use Rattle.gr_core.proofs.cores.Core.start.Goals as goal

pub invariant_of-result : goal.invariant_of-result
invariant_of-result c =
    let machine : Machine = machine_of c.args.setup c.args.code.now.program in
    let heap : Heap = (seen_of c.in_ok-state.state).heap in
    let run : Run = record {
      seen = seen_of c.in_ok-state.state;
      first = c.in_ok-state.first;
      journal = c.new.result;
      received = at_place [] c.in_ok-received.received.items;
      sent = at_place [] c.in_ok-sent.sent.items;
    } in
    let is : run_in c.in_ok-running.running.value ≡ opened_run machine c.args.me heap c.in_ok-state.first =
    ap run_in c.in_ok-running.ensures.ok ∙ opened_is machine c.args.me c.in_ok-state.first (seen_of c.in_ok-state.state) c.new.result run.received run.sent c.in_ok-state.ensures.seen c.new.ensures c.in_ok-received.ensures.empty c.in_ok-sent.ensures.empty in
    record {
      runs = opened_runs machine c.args.me c.in_ok-state.first heap (run_in c.in_ok-running.running.value) c.requires.core is;
      heap = opened_heap machine c.args.me c.in_ok-state.first heap (run_in c.in_ok-running.running.value) is c.in_ok-state.ensures.heap;
      carries = opened_carries machine c.args.me c.in_ok-state.first heap (run_in c.in_ok-running.running.value) c.args.mail is c.requires.mail;
      room = c.in_ok-left.ensures ∙ sym c.requires.mail.cores;
    }
