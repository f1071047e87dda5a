use Rattle.gr_machine.specs.Machines.{machine_of}
use Rattle.gr_state.specs.StateView.{seen_of}
use Rattle.gr_state.proofs.Beginning.{main_begun}
use Rattle.gr_state.proofs.state.State.open.Goals as goal

pub returns-clause-seen : goal.returns-clause-seen
returns-clause-seen c =
    main_begun (machine_of c.args.setup c.args.code.now.program) c.in_ok-slot.slot c.args.me (seen_of c.in_ok-state.state) (seen_of c.begin_main.new.self)
    c.if-me-gt0.false c.in_ok-state.ensures.seen c.in_ok-slot.ensures
