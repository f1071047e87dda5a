use Rattle.gr_event.specs.declared.masters.Waiter.TheVariants as waiter
use Rattle.gr_event.specs.Masters.{masters_of}
use Rattle.gr_runs.proofs.Waiters.{begun_is_alone, begun_is_there, begun_is_waited}
use Rattle.gr_runs.proofs.scopes.begin_waited.Goals as goal

pub wait-requires-clause-there : goal.wait-requires-clause-there
wait-requires-clause-there c = begun_is_there (masters_of c.args.masters.now) (masters_of c.start.new.self) c.args.scope c.in_ok-start.ensures.ok

pub wait-requires-clause-alone : goal.wait-requires-clause-alone
wait-requires-clause-alone c = begun_is_alone (masters_of c.args.masters.now) (masters_of c.start.new.self) c.args.scope c.in_ok-start.ensures.ok

pub returns : goal.returns
returns c = begun_is_waited (masters_of c.args.masters.now) (masters_of c.start.new.self) (masters_of c.wait.new.self) c.args.scope (waiter.Task c.args.slot) c.in_ok-start.ensures.ok c.wait.ensures
