use Rattle.std.proofs.Common.{◌∙◌, ◌-◌, ◌<◌, ◌≤◌, ap, sym, arith}
use Rattle.gr_msg.specs.declared.message.Unit.{Unit as WorkUnit}
use Rattle.gr_work.specs.Parts.{kept_end, part}
use Rattle.gr_work.proofs.Halves.{kept_more, middle_is, offered_rest, offered_step}
use Rattle.gr_work.proofs.parts.offer_halves.Goals as goal

pub halves-preserved : goal.halves-preserved
halves-preserved c =
    let more : c.args.grain < c.halves.end - c.args.lo = omega arith in
    let copied : WorkUnit → WorkUnit = λ unit. part unit (record { from = c.middle-half.result; to = c.halves.end }) in
    record {
      some = omega (arith, middle_is c.args.lo c.halves.end);
      same_end = ap (kept_end c.args.grain c.args.lo) c.middle-half.ensures ∙ sym (kept_more c.args.grain c.args.lo c.halves.end more) ∙ c.halves.invariant.same_end;
      same_offers = offered_step c.halves.units.items c.push_back.new.self.items _ (part c.args.chunk.now) c.part.result c.args.grain c.args.lo c.halves.end c.middle-half.result
          more c.middle-half.ensures (c.part.ensures ∙ ap copied c.in_ok-whole.ensures) c.in_ok-push_back.ensures.items c.halves.invariant.same_offers;
    }

pub returns-clause-offers : goal.returns-clause-offers
returns-clause-offers c =
    let done : c.halves.end - c.args.lo ≤ c.args.grain = omega arith in
    offered_rest c.halves.units.items _ (part c.args.chunk.now) c.args.grain c.args.lo c.halves.end done c.halves.invariant.same_offers
