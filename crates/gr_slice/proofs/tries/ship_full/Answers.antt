use Rattle.std.proofs.Common.{sym, subst}
use Rattle.gr_machine.specs.declared.event.Event.TheVariants as event
use Rattle.gr_slice.specs.Slices.{Stayed}
use Rattle.gr_slice.specs.TryWords.{Tried}
use Rattle.gr_slice.proofs.Staying.{step_tried, still_stayed, tried_after}
use Rattle.gr_slice.proofs.tries.ship_full.Goals as goal
use Rattle.gr_slice.proofs.tries.ship_full.Goals.{then-full+then-enabled+in_ok-shipped+else-shipped, else-full}

pub returns-then-shipped : goal.returns-then-shipped
returns-then-shipped g c =
    let before = c.dests.core in
    let shipped = c.in_ok-shipped.shipped in
    let said = c.in_ok-shipped.ensures in
    tried_after shipped.done c.args.core before shipped.core c.dests.invariant
    (step_tried shipped.done before shipped.core (event.Ship c.dests.dest) (λ steals. absurd (cc)) said.made said.rings said.kept said.same)

pub dests-preserved : goal.dests-preserved
dests-preserved g c = elim c.if-full.branch [
  | then-full+then-enabled+in_ok-shipped+else-shipped w ↦ (
      let before = c.dests.core in
      let shipped = w.in_ok-shipped.shipped in
      let said = w.in_ok-shipped.ensures in
      let step : Tried shipped.done before shipped.core =
      step_tried shipped.done before shipped.core (event.Ship c.dests.dest) (λ steals. absurd (cc)) said.made said.rings said.kept said.same in
      subst (Stayed c.args.core) (sym w.core-is) (still_stayed shipped.done c.args.core before shipped.core c.dests.invariant w.if-shipped.false step))
  | else-full w ↦ subst (Stayed c.args.core) (sym w.core-is) c.dests.invariant
]
