use Rattle.std.proofs.lemmas.Result.{on_ok_weaker}
use Rattle.gr_state.specs.StateView.{seen_of}
use Rattle.gr_core.specs.CoreView.{run_in}
use Rattle.gr_core.proofs.Inner.{run_made}
use Rattle.gr_core.proofs.running.Running.run.Goals as goal

pub returns : goal.returns
returns c =
    on_ok_weaker _ (run_made (run_in c.args.self.now) (run_in c.tick.new.self) (run_in c.count_call.new.self) (seen_of c.run.new.state)
    c.in_ok-slots.slots c.calls_next-is_call.result (run_in c.note.new.self) c.requires c.calls_next-is_call.ensures c.in_ok-tick.ensures
    c.in_ok-slots.ensures.slots c.in_ok-slots.ensures.ran c.in_ok-count_call.ensures)
    c.note.ensures
