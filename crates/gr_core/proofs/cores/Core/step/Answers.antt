use Rattle.std.proofs.Common.{◌∙◌, subst, sym}
use Rattle.gr_core.specs.CoreView.{run_in}
use Rattle.gr_core.specs.Runs.{MadeOr}
use Rattle.gr_core.proofs.Going.{made_or_knows, made_or_runs}
use Rattle.gr_core.proofs.cores.Core.step.Goals as goal

pub invariant_of-result : goal.invariant_of-result
invariant_of-result g c =
    let before = run_in c.args.self.running.value in
    let after = run_in c.make.new.running in
    let made : MadeOr before c.args.event after c.in_ok-done.done =
    subst (λ running. MadeOr (run_in running) c.args.event after c.in_ok-done.done) c.deref_mut.ensures.value c.in_ok-done.ensures.made in
    record {
      runs = made_or_runs before after c.args.event c.in_ok-done.done c.args.self.runs made;
      heap = made_or_knows before after c.args.event c.in_ok-done.done c.args.self.heap made;
      carries = c.in_ok-done.ensures.carries;
      room = c.args.self.room ∙ sym c.in_ok-done.ensures.rings.cores;
    }
