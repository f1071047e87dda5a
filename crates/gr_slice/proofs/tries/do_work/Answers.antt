use Rattle.gr_slice.specs.declared.tries.Kind.TheVariants as kind
use Rattle.gr_slice.specs.Slices.{Stayed}
use Rattle.gr_slice.proofs.Staying.{none_before, stayed_of, still_stayed, tried_after}
use Rattle.gr_slice.proofs.tries.do_work.Goals as goal

pub returns-then-closed-clause-tried : goal.returns-then-closed-clause-tried
returns-then-closed-clause-tried g c =
    let ran = c.in_ok-ran.ran in
    let closed = c.in_ok-closed.closed in
    tried_after closed.done c.args.core ran.core closed.core (stayed_of ran.done c.args.core ran.core c.if-ran.false c.in_ok-ran.ensures.tried) c.in_ok-closed.ensures.tried

pub returns-clause-tried : goal.returns-clause-tried
returns-clause-tried g c =
    let ran = c.in_ok-ran.ran in
    let closed = c.in_ok-closed.closed in
    let first : Stayed c.args.core ran.core = stayed_of ran.done c.args.core ran.core c.if-ran.false c.in_ok-ran.ensures.tried in
    let then : Stayed c.args.core closed.core = still_stayed closed.done c.args.core ran.core closed.core first c.if-closed.false c.in_ok-closed.ensures.tried in
    tried_after c.in_ok-shipped.shipped.done c.args.core closed.core c.in_ok-shipped.shipped.core then c.in_ok-shipped.ensures.tried

pub returns-clause-none : goal.returns-clause-none
returns-clause-none g c =
    let ran = c.in_ok-ran.ran in
    let closed = c.in_ok-closed.closed in
    let first : Stayed c.args.core ran.core = stayed_of ran.done c.args.core ran.core c.if-ran.false c.in_ok-ran.ensures.tried in
    let then : Stayed c.args.core closed.core = still_stayed closed.done c.args.core ran.core closed.core first c.if-closed.false c.in_ok-closed.ensures.tried in
    λ not. record {
      run = c.in_ok-ran.ensures.none c.if-ran.false;
      close = none_before kind.Close c.args.core ran.core first (c.in_ok-closed.ensures.none c.if-closed.false);
      ship = none_before kind.Ship c.args.core closed.core then (c.in_ok-shipped.ensures.none not);
    }
