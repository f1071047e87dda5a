use Rattle.std.proofs.Common.{◌<◌, length, arith}
use Rattle.gr_cores.proofs.Worlds.{met_run, one_run}
use Rattle.gr_cores.proofs.world.World.finish.Goals as goal

pub meet_all-requires : goal.meet_all-requires
meet_all-requires c =
    let cores = c.args.self.cores in
    let some : 0 < length cores.items = omega (arith, c.if-len-eq0.false, c.len.ensures, cores.ok.0) in
    one_run cores.items some c.args.self.run

pub finish-requires-clause-cores : goal.finish-requires-clause-cores
finish-requires-clause-cores c =
    let cores = c.args.self.cores in
    let some : 0 < length cores.items = omega (arith, c.if-len-eq0.false, c.len.ensures, cores.ok.0) in
    met_run cores.items c.meet_all.new.cores.items c.meet_all.ensures.stayed (one_run cores.items some c.args.self.run)
