use Rattle.gr_calls.proofs.packet_rows.answer.Goals as goal

pub encode-requires : goal.encode-requires
encode-requires c = c.packets_are_exact.ensures.in_range c.args.bytes.now c.in-Ok.opened c.in-Ok.ensures.spelled
