use Rattle.std.proofs.Common.{◌≡◌, arith}
use Rattle.std.specs.Prelude.{false, true}
use Rattle.std.proofs.lemmas.Bool.{not-false, not-true}
use Rattle.gr_slice.proofs.Going.{all_turned, has_ended, turned_more, turned_none}
use Rattle.gr_slice.proofs.Staying.{advanced_of, stayed_of}
use Rattle.gr_slice.proofs.slices.slice.Goals as goal

pub turns-init : goal.turns-init
turns-init g c = turned_none c.args.core

pub returns-then-not-advanced : goal.returns-then-not-advanced
returns-then-not-advanced g c =
    let advanced = c.in_ok-advanced.advanced in
    let ended : advanced.done ≡ false = not-true advanced.done c.if-not-advanced.true in
    has_ended c.turns.turn c.args.count c.args.core c.turns.core advanced.core (omega (arith, c.turns-test.true)) c.turns.invariant
    (stayed_of advanced.done c.turns.core advanced.core ended c.in_ok-advanced.ensures.tried) (c.in_ok-advanced.ensures.stopped ended)

pub turns-preserved : goal.turns-preserved
turns-preserved g c =
    let advanced = c.in_ok-advanced.advanced in
    let made : advanced.done ≡ true = not-false advanced.done c.if-not-advanced.false in
    turned_more c.turns.turn c.args.core c.turns.core advanced.core c.turns.invariant (advanced_of advanced.done c.turns.core advanced.core made c.in_ok-advanced.ensures.tried)

pub returns : goal.returns
returns g c = all_turned c.turns.turn c.args.count c.args.core c.turns.core (omega (arith, c.turns-test.false, c.turns.auto.turn-end)) c.turns.invariant
