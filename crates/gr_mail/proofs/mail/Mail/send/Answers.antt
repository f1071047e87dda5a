use Rattle.std.proofs.Common.{◌++◌, ◌∷◌, [], List, ap, ◌∙◌, sym, refl, arith, Some}
use Rattle.std.specs.Option.{option_copied_mut}
use Rattle.gr_msg.specs.declared.packet.Packet.{Packet}
use Rattle.gr_mail.specs.Ends.{free_on, sent_on}
use Rattle.gr_mail.proofs.Ends.{all_same_consumers, ends_stay, is_read, is_there, none_free, outs_same, room_stays, seen_at, seen_now, seen_others, seen_put}
use Rattle.gr_mail.proofs.mail.Mail.send.Goals as goal

pub unreachable-requires : goal.unreachable-requires
unreachable-requires c =
    let mail = c.args.self.now in
    is_there mail.outs.len mail.owner mail.outs.items c.args.dest c.index_mut.result.now mail.sends (c.requires.0) (c.requires.1) (omega arith) c.index_mut.ensures.value
    (sym c.as_mut.ensures.value ∙ ap option_copied_mut c.in-None.is)

pub invariant_of-self-clause-sends : goal.invariant_of-self-clause-sends
invariant_of-self-clause-sends c =
    let mail = c.args.self.now in
    ends_stay mail.outs.len mail.owner mail.outs.items c.args.dest c.push.new.self (omega arith) (c.requires.1) mail.sends

pub invariant_of-self-clause-rooms : goal.invariant_of-self-clause-rooms
invariant_of-self-clause-rooms c =
    let read = is_read c.args.self.now.outs.items c.args.dest c.index_mut.result.now c.as_mut.result c.in-Some.producer (omega arith) c.index_mut.ensures.value c.as_mut.ensures.value c.in-Some.is in
    room_stays c.args.self.now.outs.items c.args.dest c.in-Some.producer.now c.push.new.self read c.push.ensures.ring c.args.self.now.rooms

pub returns-in-Ok-clause-rings : goal.returns-in-Ok-clause-rings
returns-in-Ok-clause-rings c =
    let read = is_read c.args.self.now.outs.items c.args.dest c.index_mut.result.now c.as_mut.result c.in-Some.producer (omega arith) c.index_mut.ensures.value c.as_mut.ensures.value c.in-Some.is in
    record { owner = refl; cores = refl; outs = outs_same c.args.self.now.outs.items c.args.dest c.in-Some.producer.now c.push.new.self read c.push.ensures.ring; ins = all_same_consumers c.args.self.now.ins.items }

pub returns-in-Ok-clause-received : goal.returns-in-Ok-clause-received
returns-in-Ok-clause-received c = (refl, refl)

pub returns-in-Ok-clause-sent : goal.returns-in-Ok-clause-sent
returns-in-Ok-clause-sent c =
    let read = is_read c.args.self.now.outs.items c.args.dest c.index_mut.result.now c.as_mut.result c.in-Some.producer (omega arith) c.index_mut.ensures.value c.as_mut.ensures.value c.in-Some.is in
    seen_put sent_on (λ (sent : List Packet). sent ++ c.args.packet ∷ []) c.args.self.now.outs.items c.args.dest c.in-Some.producer.now c.push.new.self read c.in-Ok.ensures.ok.0

pub returns-in-Ok-clause-free : goal.returns-in-Ok-clause-free
returns-in-Ok-clause-free c = seen_others free_on c.args.self.now.outs.items c.args.dest (Some c.push.new.self) (omega arith)

pub returns-in-Ok-clause-used : goal.returns-in-Ok-clause-used
returns-in-Ok-clause-used c =
    let read = is_read c.args.self.now.outs.items c.args.dest c.index_mut.result.now c.as_mut.result c.in-Some.producer (omega arith) c.index_mut.ensures.value c.as_mut.ensures.value c.in-Some.is in
    λ _. omega (arith, seen_at free_on c.args.self.now.outs.items c.args.dest c.in-Some.producer.now read, seen_now free_on c.args.self.now.outs.items c.args.dest c.in-Some.producer.now c.push.new.self read, c.in-Ok.ensures.ok.1)

pub returns-in-Err-Full-clause-rings : goal.returns-in-Err-Full-clause-rings
returns-in-Err-Full-clause-rings c =
    let read = is_read c.args.self.now.outs.items c.args.dest c.index_mut.result.now c.as_mut.result c.in-Some.producer (omega arith) c.index_mut.ensures.value c.as_mut.ensures.value c.in-Some.is in
    record { owner = refl; cores = refl; outs = outs_same c.args.self.now.outs.items c.args.dest c.in-Some.producer.now c.push.new.self read c.push.ensures.ring; ins = all_same_consumers c.args.self.now.ins.items }

pub returns-in-Err-Full-clause-received : goal.returns-in-Err-Full-clause-received
returns-in-Err-Full-clause-received c = (refl, refl)

pub returns-in-Err-Full-clause-sent : goal.returns-in-Err-Full-clause-sent
returns-in-Err-Full-clause-sent c =
    let read = is_read c.args.self.now.outs.items c.args.dest c.index_mut.result.now c.as_mut.result c.in-Some.producer (omega arith) c.index_mut.ensures.value c.as_mut.ensures.value c.in-Some.is in
    seen_put sent_on (λ (sent : List Packet). sent) c.args.self.now.outs.items c.args.dest c.in-Some.producer.now c.push.new.self read c.in-Err-Full.ensures.full.1

pub returns-in-Err-Full-clause-free : goal.returns-in-Err-Full-clause-free
returns-in-Err-Full-clause-free c = seen_others free_on c.args.self.now.outs.items c.args.dest (Some c.push.new.self) (omega arith)

pub returns-in-Err-Full-clause-used : goal.returns-in-Err-Full-clause-used
returns-in-Err-Full-clause-used c = λ none. absurd none

pub returns-in-Err-Full-clause-full : goal.returns-in-Err-Full-clause-full
returns-in-Err-Full-clause-full c =
    let read = is_read c.args.self.now.outs.items c.args.dest c.index_mut.result.now c.as_mut.result c.in-Some.producer (omega arith) c.index_mut.ensures.value c.as_mut.ensures.value c.in-Some.is in (
      seen_at free_on c.args.self.now.outs.items c.args.dest c.in-Some.producer.now read ∙ none_free _ (λ some. let taken = c.in-Err-Full.ensures.succeeds some in cc),
      seen_now free_on c.args.self.now.outs.items c.args.dest c.in-Some.producer.now c.push.new.self read ∙ c.in-Err-Full.ensures.full.2,
    )
