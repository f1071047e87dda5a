use Rattle.std.proofs.Common.{◌≡◌, ◌++◌, List, ap, ◌∙◌, sym, refl, subst, arith, length, Option, Some, None, slice_set}
use Rattle.std.specs.Option.{option_copied_mut}
use mathlib.Core.List.{IsPrefix}
use Rattle.rtrb.specs.Ring.{IsPair, known_items, producer_capacity}
use Rattle.gr_msg.specs.declared.packet.Packet.{Packet}
use Rattle.gr_view.specs.Places.{at_place}
use Rattle.gr_mail.specs.declared.mail.TheConstants.{RING_PACKETS}
use Rattle.gr_mail.specs.Ends.{AreBoth, ReceivingEnd, SendingEnd, free_on, known_on, received_on, sent_on}
use Rattle.gr_mail.specs.Rings.{free_to, known_from}
use Rattle.gr_mail.proofs.Ends.{all_same_consumers, all_same_producers, ends_stay, ins_same, is_read, is_there, outs_same, prefix_self, put_self, room_stays, seen_at, seen_now, seen_others, seen_same}
use Rattle.gr_mail.proofs.meeting.meet_ring.Goals as goal

pub unreachable-requires : goal.unreachable-requires
unreachable-requires c =
    let one = c.args.one.now in
    is_there one.outs.len one.owner one.outs.items c.args.other.now.owner c.index_mut.result.now one.sends (omega arith) (λ e. c.requires.differ (sym e)) (omega arith) c.index_mut.ensures.value
    (sym c.as_mut.ensures.value ∙ ap option_copied_mut c.in-None.is)

pub unreachable-requires-in-None-as_mut : goal.unreachable-requires-in-None-as_mut
unreachable-requires-in-None-as_mut c =
    let other = c.args.other.now in
    is_there other.outs.len other.owner other.ins.items c.args.one.now.owner c.index_mut-in-Some.result.now other.receives (omega arith) c.requires.differ (omega arith) c.index_mut-in-Some.ensures.value
    (sym c.as_mut-in-Some.ensures.value ∙ ap option_copied_mut c.in-None-as_mut.is)

pub look-requires : goal.look-requires
look-requires c =
    let out = is_read c.args.one.now.outs.items c.args.other.now.owner c.index_mut.result.now c.as_mut.result c.in-Some.producer (omega arith) c.index_mut.ensures.value c.as_mut.ensures.value c.in-Some.is in
    let into = is_read c.args.other.now.ins.items c.args.one.now.owner c.index_mut-in-Some.result.now c.as_mut-in-Some.result c.in-Some-as_mut.consumer (omega arith) c.index_mut-in-Some.ensures.value c.as_mut-in-Some.ensures.value c.in-Some-as_mut.is in
    subst (λ (y : Option ReceivingEnd). AreBoth IsPair (Some c.in-Some.producer.now) y) into.is
    (subst (λ (x : Option SendingEnd). AreBoth IsPair x (at_place None c.args.other.now.ins.items c.args.one.now.owner)) out.is c.requires.ring)

pub invariant_of-one-clause-sends : goal.invariant_of-one-clause-sends
invariant_of-one-clause-sends c =
    let one = c.args.one.now in
    ends_stay one.outs.len one.owner one.outs.items c.args.other.now.owner c.look.new.producer (omega arith) (λ e. c.requires.differ (sym e)) one.sends

pub invariant_of-one-clause-rooms : goal.invariant_of-one-clause-rooms
invariant_of-one-clause-rooms c =
    let out = is_read c.args.one.now.outs.items c.args.other.now.owner c.index_mut.result.now c.as_mut.result c.in-Some.producer (omega arith) c.index_mut.ensures.value c.as_mut.ensures.value c.in-Some.is in
    room_stays c.args.one.now.outs.items c.args.other.now.owner c.in-Some.producer.now c.look.new.producer out (c.look.ensures.producer.0) c.args.one.now.rooms

pub invariant_of-other-clause-receives : goal.invariant_of-other-clause-receives
invariant_of-other-clause-receives c =
    let other = c.args.other.now in
    ends_stay other.outs.len other.owner other.ins.items c.args.one.now.owner c.look.new.consumer (omega arith) c.requires.differ other.receives

pub returns-clause-one : goal.returns-clause-one
returns-clause-one c =
    let out = is_read c.args.one.now.outs.items c.args.other.now.owner c.index_mut.result.now c.as_mut.result c.in-Some.producer (omega arith) c.index_mut.ensures.value c.as_mut.ensures.value c.in-Some.is in
    record {
      rings = record { owner = refl; cores = refl; outs = outs_same c.args.one.now.outs.items c.args.other.now.owner c.in-Some.producer.now c.look.new.producer out (c.look.ensures.producer.0); ins = all_same_consumers c.args.one.now.ins.items };
      sent = seen_same sent_on c.args.one.now.outs.items c.args.other.now.owner c.in-Some.producer.now c.look.new.producer out (c.look.ensures.producer.1);
      received = refl;
      free = seen_others free_on c.args.one.now.outs.items c.args.other.now.owner (Some c.look.new.producer) out.within;
      known = put_self (known_from c.args.one.now) c.args.other.now.owner;
      no_fewer = omega (arith, seen_at free_on c.args.one.now.outs.items c.args.other.now.owner c.in-Some.producer.now out, seen_now free_on c.args.one.now.outs.items c.args.other.now.owner c.in-Some.producer.now c.look.new.producer out, c.look.ensures.producer.2);
      still = prefix_self (known_from c.args.one.now c.args.other.now.owner);
    }

pub returns-clause-other : goal.returns-clause-other
returns-clause-other c =
    let into = is_read c.args.other.now.ins.items c.args.one.now.owner c.index_mut-in-Some.result.now c.as_mut-in-Some.result c.in-Some-as_mut.consumer (omega arith) c.index_mut-in-Some.ensures.value c.as_mut-in-Some.ensures.value c.in-Some-as_mut.is in
    record {
      rings = record { owner = refl; cores = refl; outs = all_same_producers c.args.other.now.outs.items; ins = ins_same c.args.other.now.ins.items c.args.one.now.owner c.in-Some-as_mut.consumer.now c.look.new.consumer into (c.look.ensures.consumer.0) };
      sent = refl;
      received = seen_same received_on c.args.other.now.ins.items c.args.one.now.owner c.in-Some-as_mut.consumer.now c.look.new.consumer into (c.look.ensures.consumer.1);
      free = put_self (free_to c.args.other.now) c.args.one.now.owner;
      known = seen_others known_on c.args.other.now.ins.items c.args.one.now.owner (Some c.look.new.consumer) into.within;
      no_fewer = omega arith;
      still = subst (λ (ks : List Packet). IsPrefix ks (known_on (at_place None (slice_set c.args.other.now.ins.items c.args.one.now.owner (Some c.look.new.consumer)) c.args.one.now.owner)))
          (sym (seen_at known_on c.args.other.now.ins.items c.args.one.now.owner c.in-Some-as_mut.consumer.now into))
          (subst (λ (ks : List Packet). IsPrefix (known_items c.in-Some-as_mut.consumer.now) ks) (sym (seen_now known_on c.args.other.now.ins.items c.args.one.now.owner c.in-Some-as_mut.consumer.now c.look.new.consumer into)) (c.look.ensures.consumer.2));
    }

pub returns-clause-met : goal.returns-clause-met
returns-clause-met c =
    let out = is_read c.args.one.now.outs.items c.args.other.now.owner c.index_mut.result.now c.as_mut.result c.in-Some.producer (omega arith) c.index_mut.ensures.value c.as_mut.ensures.value c.in-Some.is in
    let into = is_read c.args.other.now.ins.items c.args.one.now.owner c.index_mut-in-Some.result.now c.as_mut-in-Some.result c.in-Some-as_mut.consumer (omega arith) c.index_mut-in-Some.ensures.value c.as_mut-in-Some.ensures.value c.in-Some-as_mut.is in
    let room : producer_capacity c.in-Some.producer.now ≡ RING_PACKETS = c.args.one.now.rooms c.args.other.now.owner c.in-Some.producer.now out.is in
    record {
      known = seen_now (λ (end : Option ReceivingEnd). received_on end ++ known_on end) c.args.other.now.ins.items c.args.one.now.owner c.in-Some-as_mut.consumer.now c.look.new.consumer into ∙ c.look.ensures.known ∙ sym (seen_now sent_on c.args.one.now.outs.items c.args.other.now.owner c.in-Some.producer.now c.look.new.producer out);
      free = omega (arith, room, seen_now free_on c.args.one.now.outs.items c.args.other.now.owner c.in-Some.producer.now c.look.new.producer out, ap length (seen_now known_on c.args.other.now.ins.items c.args.one.now.owner c.in-Some-as_mut.consumer.now c.look.new.consumer into), c.look.ensures.free);
    }

pub returns-clause-received : goal.returns-clause-received
returns-clause-received c = (refl, refl)

pub returns-clause-sent : goal.returns-clause-sent
returns-clause-sent c = (refl, refl)
