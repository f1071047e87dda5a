use Rattle.std.proofs.Common.{◌∙◌, List, ap, arith, length, take}
use Rattle.gr_msg.specs.declared.message.Msg.{Msg}
use Rattle.gr_msg.specs.declared.opened.Opened.{Opened}
use Rattle.gr_agg.proofs.Ends.{packed, take_slices}
use Rattle.gr_agg.proofs.buffer.Buffer.front.Goals as goal

pub encode_slices-requires : goal.encode_slices-requires
encode_slices-requires c =
    packed c.args.limit c.args.clock c.min-here.result c.min-there.result c.as_slices.result.0.now c.as_slices.result.1.now c.self.inside.queue.items
    c.min-here.ensures c.min-there.ensures c.as_slices.ensures.items c.self.invariant (omega (arith, ap length c.self.view_is, c.requires.some))
    (c.requires.limit.0) (c.requires.limit.1) c.requires.clock

pub returns : goal.returns
returns c =
    let packet : List Msg → Opened = λ messages. record { clock = c.args.clock; messages = messages } in
    c.in_ok-packet.ensures ∙ ap packet
    (take_slices c.args.limit c.min-here.result c.min-there.result c.as_slices.result.0.now c.as_slices.result.1.now c.min-here.ensures c.min-there.ensures
    ∙ ap (take c.args.limit) (c.as_slices.ensures.items ∙ c.self.view_is))
