use Rattle.std.proofs.Common.{◌≡◌, true, ◌∙◌, ap, sym}
use Rattle.std.proofs.lemmas.Result.{on_ok_weaker}
use Rattle.gr_turns.specs.LineView.{vector_in, vectors_in}
use Rattle.gr_machine.specs.TurnServes.{can_begin}
use Rattle.gr_state.specs.StateView.{seen_of}
use Rattle.gr_grants.proofs.Turning.{granted, none_there}
use Rattle.gr_grants.proofs.granting.grant.Goals as goal

pub returns : goal.returns
returns c =
    let before = seen_of c.args.state.now in
    let there = vector_in c.in-Some.there.now in
    let calls = c.in-Some-first_group.calls.now in
    let none = none_there _ c.turn.result (sym c.is_some.ensures ∙ c.if-is_some.false) ∙ c.turn.ensures in
    let can : can_begin before.core.body c.args.vector c.args.head c.args.tail calls ≡ true =
    ap (can_begin before.core.body c.args.vector c.args.head c.args.tail) (sym c.as_slice.ensures) ∙ sym c.can_begin.ensures ∙ c.if-not-can_begin.false in
    on_ok_weaker _ (granted before (seen_of c.send_gets.new.state) (seen_of c.send_puts.new.state) c.args.vector c.args.head c.args.tail there calls
    (vectors_in c.begin.new.self) c.in_ok-plan.plan c.as_slice-2.result.now c.as_slice-3.result.now
    c.in-Some.ensures none c.in-Some-first_group.ensures can c.in_ok-plan.ensures c.in_ok-begin.ensures c.as_slice-2.ensures c.as_slice-3.ensures
    c.in_ok-send_puts.ensures) c.send_gets.ensures
