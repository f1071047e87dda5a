use Rattle.std.proofs.Common.{◌++◌, ◌∷◌, [], List, ap, ◌∙◌, sym, refl, subst, slice_set, append-nil, arith, None, Some}
use Rattle.std.specs.Option.{option_copied_mut}
use mathlib.Core.List.{IsPrefix}
use Rattle.rtrb.specs.Ring.{known_items, received}
use Rattle.gr_msg.specs.declared.packet.Packet.{Packet}
use Rattle.gr_view.specs.Places.{at_place}
use Rattle.gr_mail.specs.Ends.{known_on, received_on}
use Rattle.gr_mail.proofs.Ends.{all_same_producers, ends_stay, ins_same, is_read, is_there, none_known, seen_at, seen_now, seen_others, seen_put}
use Rattle.gr_mail.proofs.mail.Mail.take.Goals as goal

pub unreachable-requires : goal.unreachable-requires
unreachable-requires c =
    let mail = c.args.self.now in
    is_there mail.outs.len mail.owner mail.ins.items c.args.from c.index_mut.result.now mail.receives (c.requires.0) (c.requires.1) (omega arith) c.index_mut.ensures.value
    (sym c.as_mut.ensures.value ∙ ap option_copied_mut c.in-None.is)

pub invariant_of-self-clause-receives : goal.invariant_of-self-clause-receives
invariant_of-self-clause-receives c =
    let mail = c.args.self.now in
    ends_stay mail.outs.len mail.owner mail.ins.items c.args.from c.pop.new.self (omega arith) (c.requires.1) mail.receives

pub returns-in-Ok-clause-rings : goal.returns-in-Ok-clause-rings
returns-in-Ok-clause-rings c =
    let read = is_read c.args.self.now.ins.items c.args.from c.index_mut.result.now c.as_mut.result c.in-Some.consumer (omega arith) c.index_mut.ensures.value c.as_mut.ensures.value c.in-Some.is in
    record { owner = refl; cores = refl; outs = all_same_producers c.args.self.now.outs.items; ins = ins_same c.args.self.now.ins.items c.args.from c.in-Some.consumer.now c.pop.new.self read c.pop.ensures.ring }

pub returns-in-Ok-clause-sent : goal.returns-in-Ok-clause-sent
returns-in-Ok-clause-sent c = (refl, refl)

pub returns-in-Ok-clause-received : goal.returns-in-Ok-clause-received
returns-in-Ok-clause-received c =
    let read = is_read c.args.self.now.ins.items c.args.from c.index_mut.result.now c.as_mut.result c.in-Some.consumer (omega arith) c.index_mut.ensures.value c.as_mut.ensures.value c.in-Some.is in
    seen_put received_on (λ (packets : List Packet). packets ++ c.in-Ok.packet ∷ []) c.args.self.now.ins.items c.args.from c.in-Some.consumer.now c.pop.new.self read c.in-Ok.ensures.ok.0

pub returns-in-Ok-clause-known : goal.returns-in-Ok-clause-known
returns-in-Ok-clause-known c = seen_others known_on c.args.self.now.ins.items c.args.from (Some c.pop.new.self) (omega arith)

pub returns-in-Err-clause-rings : goal.returns-in-Err-clause-rings
returns-in-Err-clause-rings c =
    let read = is_read c.args.self.now.ins.items c.args.from c.index_mut.result.now c.as_mut.result c.in-Some.consumer (omega arith) c.index_mut.ensures.value c.as_mut.ensures.value c.in-Some.is in
    record { owner = refl; cores = refl; outs = all_same_producers c.args.self.now.outs.items; ins = ins_same c.args.self.now.ins.items c.args.from c.in-Some.consumer.now c.pop.new.self read c.pop.ensures.ring }

pub returns-in-Err-clause-sent : goal.returns-in-Err-clause-sent
returns-in-Err-clause-sent c = (refl, refl)

pub returns-in-Err-clause-received : goal.returns-in-Err-clause-received
returns-in-Err-clause-received c =
    let read = is_read c.args.self.now.ins.items c.args.from c.index_mut.result.now c.as_mut.result c.in-Some.consumer (omega arith) c.index_mut.ensures.value c.as_mut.ensures.value c.in-Some.is in
    seen_put received_on (λ (packets : List Packet). packets ++ []) c.args.self.now.ins.items c.args.from c.in-Some.consumer.now c.pop.new.self read (c.in-Err.ensures.empty.0 ∙ sym (append-nil (received c.in-Some.consumer.now)))

pub returns-in-Err-clause-known : goal.returns-in-Err-clause-known
returns-in-Err-clause-known c = seen_others known_on c.args.self.now.ins.items c.args.from (Some c.pop.new.self) (omega arith)

pub returns-in-Ok-clause-next : goal.returns-in-Ok-clause-next
returns-in-Ok-clause-next c =
    let read = is_read c.args.self.now.ins.items c.args.from c.index_mut.result.now c.as_mut.result c.in-Some.consumer (omega arith) c.index_mut.ensures.value c.as_mut.ensures.value c.in-Some.is in
    subst (λ (ks : List Packet). IsPrefix ks (c.in-Ok.packet ∷ known_on (at_place None (slice_set c.args.self.now.ins.items c.args.from (Some c.pop.new.self)) c.args.from)))
    (sym (seen_at known_on c.args.self.now.ins.items c.args.from c.in-Some.consumer.now read))
    (subst (λ (ks : List Packet). IsPrefix (known_items c.in-Some.consumer.now) (c.in-Ok.packet ∷ ks)) (sym (seen_now known_on c.args.self.now.ins.items c.args.from c.in-Some.consumer.now c.pop.new.self read)) c.in-Ok.ensures.ok.1)

pub returns-in-Err-clause-none : goal.returns-in-Err-clause-none
returns-in-Err-clause-none c =
    let read = is_read c.args.self.now.ins.items c.args.from c.index_mut.result.now c.as_mut.result c.in-Some.consumer (omega arith) c.index_mut.ensures.value c.as_mut.ensures.value c.in-Some.is in (
      seen_at known_on c.args.self.now.ins.items c.args.from c.in-Some.consumer.now read ∙ none_known _ (λ some. let taken = c.in-Err.ensures.succeeds some in cc),
      seen_now known_on c.args.self.now.ins.items c.args.from c.in-Some.consumer.now c.pop.new.self read ∙ c.in-Err.ensures.empty.1,
    )
