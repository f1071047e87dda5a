use Rattle.gr_machine.specs.declared.waits.Waits.TheVariants as reason
use Rattle.gr_slots.specs.Held.{to_open, to_wait}
use Rattle.gr_slots.specs.SlotView.{held_in}
use Rattle.gr_runs.proofs.Opened.{changed_twice}
use Rattle.gr_runs.proofs.scopes.wait_in.Goals as goal

pub returns : goal.returns
returns c =
    changed_twice (to_open c.args.scope) (to_wait (reason.Scope c.args.scope)) (held_in c.args.slots.now) (held_in c.open.new.self) (held_in c.wait.new.self) c.args.slot c.in_ok-open.ensures c.wait.ensures
