use Rattle.gr_cores.proofs.Worlds.{one_run_still}
use Rattle.gr_cores.proofs.world.World.step.Goals as goal

pub invariant_of-self-2 : goal.invariant_of-self-2
invariant_of-self-2 g c = record {
  run = one_run_still c.args.self.now.cores.items c.in_ok-cores.cores.items (rw c.replace-cores.ensures.value at c.in_ok-cores.ensures) c.args.self.now.run;
}
