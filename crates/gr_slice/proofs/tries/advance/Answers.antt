use Rattle.gr_slice.specs.declared.tries.Kind.TheVariants as kind
use Rattle.gr_slice.specs.Slices.{Stayed}
use Rattle.gr_slice.proofs.Staying.{asks_after, no_work_before, none_before, stayed_of, still_stayed, tried_after}
use Rattle.gr_slice.proofs.Stopping.{has_stopped, only_asks}
use Rattle.gr_slice.proofs.tries.advance.Goals as goal

pub returns-then-worked-clause-tried : goal.returns-then-worked-clause-tried
returns-then-worked-clause-tried g c =
    let first = c.in_ok-first.first in
    let worked = c.in_ok-worked.worked in
    tried_after worked.done c.args.core first.core worked.core (stayed_of first.done c.args.core first.core c.if-first.false c.in_ok-first.ensures.tried) c.in_ok-worked.ensures.tried

pub first_of-requires : goal.first_of-requires
first_of-requires g c =
    let first = c.in_ok-first.first in
    let worked = c.in_ok-worked.worked in
    let once : Stayed c.args.core first.core = stayed_of first.done c.args.core first.core c.if-first.false c.in_ok-first.ensures.tried in
    let twice : Stayed c.args.core worked.core = still_stayed worked.done c.args.core first.core worked.core once c.if-worked.false c.in_ok-worked.ensures.tried in
    λ number steals. asks_after c.args.core worked.core twice
    (only_asks c.args.core (c.in_ok-first.ensures.none c.if-first.false) (no_work_before c.args.core first.core once (c.in_ok-worked.ensures.none c.if-worked.false)))

pub returns-clause-tried : goal.returns-clause-tried
returns-clause-tried g c =
    let first = c.in_ok-first.first in
    let worked = c.in_ok-worked.worked in
    let once : Stayed c.args.core first.core = stayed_of first.done c.args.core first.core c.if-first.false c.in_ok-first.ensures.tried in
    let twice : Stayed c.args.core worked.core = still_stayed worked.done c.args.core first.core worked.core once c.if-worked.false c.in_ok-worked.ensures.tried in
    tried_after c.in_ok-asked.asked.done c.args.core worked.core c.in_ok-asked.asked.core twice c.in_ok-asked.ensures.tried

pub returns-clause-stopped : goal.returns-clause-stopped
returns-clause-stopped g c =
    let first = c.in_ok-first.first in
    let worked = c.in_ok-worked.worked in
    let once : Stayed c.args.core first.core = stayed_of first.done c.args.core first.core c.if-first.false c.in_ok-first.ensures.tried in
    let twice : Stayed c.args.core worked.core = still_stayed worked.done c.args.core first.core worked.core once c.if-worked.false c.in_ok-worked.ensures.tried in
    λ not. has_stopped c.args.core (c.in_ok-first.ensures.none c.if-first.false)
    (no_work_before c.args.core first.core once (c.in_ok-worked.ensures.none c.if-worked.false))
    (none_before kind.Steal c.args.core worked.core twice (c.in_ok-asked.ensures.none not))
