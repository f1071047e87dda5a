use Rattle.std.proofs.Common.{◌++◌}
use Rattle.gr_machine.specs.Machines.{machine_of}
use Rattle.gr_mail.specs.Boxes.{AreMailboxes}
use Rattle.gr_world.proofs.Opens.{AreStarted}
use Rattle.gr_world.proofs.starts.start.Given as goal

abbrev pub invariant-loop-mail : goal.invariant-loop-mail
invariant-loop-mail l = record {
  started : AreStarted (machine_of l.setup l.code.program) l.yielded l.cores.items;
  boxes : AreMailboxes l.setup.cores (l.yielded ++ l.mail-iterator.rest.items);
}
