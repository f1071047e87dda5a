use Rattle.std.proofs.Common.{◌≡◌, ◌++◌, ◌∷◌, []}
use Rattle.std.proofs.lemmas.Result.{err_from_is_err_and}
use Rattle.gr_format.specs.Formats.{reading, times}
use Rattle.gr_format.proofs.Loop.{goes_on, ends, is_done}
use Rattle.gr_msg.specs.Parts.{any_word}
use Rattle.gr_msg.proofs.units.words.Goals as goal

pub returns : goal.returns
returns c = is_done any_word c.each.words c.args.count c.each.counter c.each.rest.now (reading (times c.args.count any_word) c.args.bytes.now) c.each-test.false c.each.invariant

pub returns-in_err-word : goal.returns-in_err-word
returns-in_err-word c =
    let p = err_from_is_err_and c.from_residual.result c.from_residual.ensures.1 in
    rw (p.1, p.2) (ends c.in_err-word.field-0.0 any_word c.each.words c.args.count c.each.counter c.each.rest.now (reading (times c.args.count any_word) c.args.bytes.now) c.each-test.true c.in_err-word.ensures c.each.invariant)

pub each-preserved : goal.each-preserved
each-preserved c =
    let e : c.push.new.self ≡ c.each.words ++ c.in_ok-word.word ∷ [] = c.in_ok-push.ensures.ok in
    rw e (goes_on any_word c.each.words c.args.count c.each.counter c.each.rest.now c.in_ok-word.behind.now c.in_ok-word.word (reading (times c.args.count any_word) c.args.bytes.now) c.each-test.true c.in_ok-word.ensures c.each.invariant)
