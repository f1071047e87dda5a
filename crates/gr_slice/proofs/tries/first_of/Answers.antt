use Rattle.std.proofs.Common.{ap, sym, subst, arith}
use Rattle.gr_slice.specs.Slices.{Stayed}
use Rattle.gr_slice.specs.TryWords.{MayMake, Tried, count_of}
use Rattle.gr_slice.proofs.Staying.{may_make, none_after_step, none_disabled, step_tried, still_stayed, tried_after}
use Rattle.gr_slice.proofs.Stopping.{none_of}
use Rattle.gr_slice.proofs.tries.first_of.Goals as goal
use Rattle.gr_slice.proofs.tries.first_of.Goals.{then-enabled+in_ok-tried+else-tried, else-enabled}

pub returns-then-tried-clause-tried : goal.returns-then-tried-clause-tried
returns-then-tried-clause-tried g c =
    let before = c.numbers.core in
    let tried = c.in_ok-tried.tried in
    let said = c.in_ok-tried.ensures in
    let may : MayMake before c.event-event.result = may_make c.args.kind c.args.core before c.event-event.result c.numbers.number c.numbers.invariant.stayed c.requires c.event-event.ensures in
    tried_after tried.done c.args.core before tried.core c.numbers.invariant.stayed
    (step_tried tried.done before tried.core c.event-event.result may said.made said.rings said.kept said.same)

pub numbers-preserved : goal.numbers-preserved
numbers-preserved g c =
    let kind = c.args.kind in
    let before = c.numbers.core in
    let event = c.event-event.result in
    let number = c.numbers.number in
    let stayed : Stayed c.args.core before = c.numbers.invariant.stayed in
    let may : MayMake before event = may_make kind c.args.core before event number stayed c.requires c.event-event.ensures in
    elim c.if-enabled.branch [
      | then-enabled+in_ok-tried+else-tried w ↦ (
          let tried = w.in_ok-tried.tried in
          let said = w.in_ok-tried.ensures in
          let step : Tried tried.done before tried.core = step_tried tried.done before tried.core event may said.made said.rings said.kept said.same in
          record {
            stayed = subst (Stayed c.args.core) (sym w.core-is) (still_stayed tried.done c.args.core before tried.core stayed w.if-tried.false step);
            none = none_after_step tried.done kind event c.args.core before number stayed c.numbers.invariant.none c.event-event.ensures said.waits w.if-tried.false;
          })
      | else-enabled w ↦ record {
        stayed = subst (Stayed c.args.core) (sym w.core-is) stayed;
        none = none_disabled c.enabled.result kind event c.args.core before number stayed c.numbers.invariant.none c.event-event.ensures c.enabled.ensures w.if-enabled.false;
      }
    ]

pub returns-clause-none : goal.returns-clause-none
returns-clause-none g c not =
    let enough = ap (count_of c.args.kind) c.cores.ensures in
    none_of c.args.kind c.args.core c.numbers.number (omega (arith, c.numbers-test.false, c.count-count.ensures, enough)) c.numbers.invariant.none
