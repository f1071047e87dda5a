use Rattle.std.proofs.Common.{arith}
use Rattle.gr_cores.proofs.Worlds.{one_run, one_run_met}
use Rattle.gr_cores.proofs.world.World.meet.Goals as goal

pub meet_all-requires : goal.meet_all-requires
meet_all-requires c =
    let cores = c.args.self.now.cores in
    one_run cores.items (omega (arith, c.if-len-gt0.true, c.len.ensures, cores.ok.0)) c.args.self.now.run

pub invariant_of-self : goal.invariant_of-self
invariant_of-self c = record {
  run = one_run_met c.args.self.now.cores.items c.meet_all.new.cores.items c.meet_all.ensures.stayed c.args.self.now.run;
}
