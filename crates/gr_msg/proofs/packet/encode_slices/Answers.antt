use Rattle.std.proofs.Common.{◌≡◌, ◌+◌, ◌++◌, length, refl, arith, length-append}
use Rattle.gr_msg.specs.declared.opened.Opened.{Opened}
use Rattle.gr_msg.proofs.Packed.{written, spells, contents_are, holds}
use Rattle.gr_msg.proofs.packet.encode_slices.Goals as goal

pub overflow_add-count : goal.overflow_add-count
overflow_add-count c = omega (arith, c.requires.most, length-append c.args.front.now c.args.back.now)

pub invariant_of-result : goal.invariant_of-result
invariant_of-result c =
    let all : Opened = record { clock = c.args.clock; messages = c.args.front.now ++ c.args.back.now } in
    let counted : length c.args.front.now + length c.args.back.now ≡ length (c.args.front.now ++ c.args.back.now) = omega (arith, length-append c.args.front.now c.args.back.now) in
    let bytes = written c.args.clock (length c.args.front.now + length c.args.back.now) c.args.front.now c.args.back.now _ _ _ _ c.new-bytes.ensures.items c.in_ok-put.ensures c.in_ok-put_messages.ensures c.in_ok-put_messages-2.ensures counted in
    holds c.args.clock all c.put_messages-2.new.out.items refl (spells all c.put_messages-2.new.out.items c.requires bytes)

pub returns : goal.returns
returns c =
    let all : Opened = record { clock = c.args.clock; messages = c.args.front.now ++ c.args.back.now } in
    let counted : length c.args.front.now + length c.args.back.now ≡ length (c.args.front.now ++ c.args.back.now) = omega (arith, length-append c.args.front.now c.args.back.now) in
    let bytes = written c.args.clock (length c.args.front.now + length c.args.back.now) c.args.front.now c.args.back.now _ _ _ _ c.new-bytes.ensures.items c.in_ok-put.ensures c.in_ok-put_messages.ensures c.in_ok-put_messages-2.ensures counted in
    contents_are all c.put_messages-2.new.out.items (spells all c.put_messages-2.new.out.items c.requires bytes)
