use Rattle.gr_machine.specs.Machines.{machine_of}
use Rattle.gr_cores.proofs.Worlds.{of_cores_met}
use Rattle.gr_cores.proofs.world.World.start.Goals as goal

pub meet_all-requires : goal.meet_all-requires
meet_all-requires c = (machine_of c.args.setup c.args.code.now.program, c.in_ok-cores.ensures.cores)

pub invariant_of-result : goal.invariant_of-result
invariant_of-result c = record {
  run = of_cores_met (machine_of c.args.setup c.args.code.now.program) c.in_ok-cores.cores.items c.meet_all.new.cores.items c.meet_all.ensures.stayed
      c.in_ok-cores.ensures.cores;
}
