use Rattle.gr_round.proofs.Growing.{ok_more, one_more}
use Rattle.gr_round.proofs.rounds.collect.Goals as goal

pub loop-slice-preserved : goal.loop-slice-preserved
loop-slice-preserved c = record {
  ok = rw c.in_ok-push.ensures.items (ok_more _ _ _ _ c.loop-slice.invariant.ok c.in_ok-slice.was);
  so_far = one_more c.loop-slice.yielded c.loop-slice.slice-iterator.rest.items c.next.new.self.rest.items c.args.slices.items c.in-Some.slice c.in-Some.ensures.steps.0 c.loop-slice.invariant.so_far;
}
