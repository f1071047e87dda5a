use Rattle.std.proofs.Common.{◌≡◌, ◌++◌, ◌∷◌, []}
use Rattle.std.proofs.lemmas.Result.{err_from_is_err_and}
use Rattle.gr_format.specs.Formats.{reading, times}
use Rattle.gr_format.proofs.Loop.{goes_on, ends, is_done}
use Rattle.gr_msg.specs.Messages.{message}
use Rattle.gr_msg.proofs.kinds.messages.Goals as goal

pub returns : goal.returns
returns c = is_done message c.each.messages c.args.count c.each.counter c.each.rest.now (reading (times c.args.count message) c.args.bytes.now) c.each-test.false c.each.invariant

pub returns-in_err-message : goal.returns-in_err-message
returns-in_err-message c =
    let p = err_from_is_err_and c.from_residual.result c.from_residual.ensures.1 in
    rw (p.1, p.2) (ends c.in_err-message.field-0.0 message c.each.messages c.args.count c.each.counter c.each.rest.now (reading (times c.args.count message) c.args.bytes.now) c.each-test.true c.in_err-message.ensures c.each.invariant)

pub each-preserved : goal.each-preserved
each-preserved c =
    let e : c.push.new.self ≡ c.each.messages ++ c.in_ok-message.message ∷ [] = c.in_ok-push.ensures.ok in
    rw e (goes_on message c.each.messages c.args.count c.each.counter c.each.rest.now c.in_ok-message.behind.now c.in_ok-message.message (reading (times c.args.count message) c.args.bytes.now) c.each-test.true c.in_ok-message.ensures c.each.invariant)
