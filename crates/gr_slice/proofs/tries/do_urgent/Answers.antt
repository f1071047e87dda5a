use Rattle.gr_slice.specs.declared.tries.Kind.TheVariants as kind
use Rattle.gr_slice.specs.Slices.{Stayed}
use Rattle.gr_slice.proofs.Staying.{none_before, stayed_of, still_stayed, tried_after}
use Rattle.gr_slice.proofs.tries.do_urgent.Goals as goal

pub returns-then-shipped-clause-tried : goal.returns-then-shipped-clause-tried
returns-then-shipped-clause-tried g c =
    let served = c.in_ok-served.served in
    let shipped = c.in_ok-shipped.shipped in
    tried_after shipped.done c.args.core served.core shipped.core (stayed_of served.done c.args.core served.core c.if-served.false c.in_ok-served.ensures.tried) c.in_ok-shipped.ensures

pub returns-clause-tried : goal.returns-clause-tried
returns-clause-tried g c =
    let served = c.in_ok-served.served in
    let shipped = c.in_ok-shipped.shipped in
    let first : Stayed c.args.core served.core = stayed_of served.done c.args.core served.core c.if-served.false c.in_ok-served.ensures.tried in
    let then : Stayed c.args.core shipped.core = still_stayed shipped.done c.args.core served.core shipped.core first c.if-shipped.false c.in_ok-shipped.ensures in
    tried_after c.in_ok-taken.taken.done c.args.core shipped.core c.in_ok-taken.taken.core then c.in_ok-taken.ensures.tried

pub returns-clause-none : goal.returns-clause-none
returns-clause-none g c =
    let served = c.in_ok-served.served in
    let shipped = c.in_ok-shipped.shipped in
    let first : Stayed c.args.core served.core = stayed_of served.done c.args.core served.core c.if-served.false c.in_ok-served.ensures.tried in
    let then : Stayed c.args.core shipped.core = still_stayed shipped.done c.args.core served.core shipped.core first c.if-shipped.false c.in_ok-shipped.ensures in
    λ not. record {
      serve = c.in_ok-served.ensures.none c.if-served.false;
      take = none_before kind.Take c.args.core shipped.core then (c.in_ok-taken.ensures.none not);
    }
