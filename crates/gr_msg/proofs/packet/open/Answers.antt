use Rattle.std.proofs.Common.{arith}
use Rattle.gr_format.proofs.Exact.{rest_is_shorter, opened_whole, opened_more}
use Rattle.gr_msg.specs.Messages.{packet}
use Rattle.gr_msg.proofs.Packed.{stops_within, stops_refused}
use Rattle.gr_msg.proofs.packet.open.Goals as goal

pub overflow_sub-at : goal.overflow_sub-at
overflow_sub-at c = rest_is_shorter packet c.args.bytes.now c.in-Ok.rest.now c.in-Ok.opened c.in-Ok.ensures

pub returns-then-left-eq0 : goal.returns-then-left-eq0
returns-then-left-eq0 c = opened_whole packet c.args.bytes.now c.in-Ok.rest.now c.in-Ok.opened c.in-Ok.ensures (omega arith)

pub returns-else-left-eq0 : goal.returns-else-left-eq0
returns-else-left-eq0 c = opened_more packet c.args.bytes.now c.in-Ok.rest.now c.in-Ok.opened c.in-Ok.ensures (omega arith)

pub refusal-requires : goal.refusal-requires
refusal-requires c = stops_within c.args.bytes.now c.in-Err.stopped c.in-Err.ensures

pub returns-in-Err : goal.returns-in-Err
returns-in-Err c = stops_refused c.args.bytes.now c.in-Err.stopped c.refusal.result c.in-Err.ensures c.refusal.ensures
