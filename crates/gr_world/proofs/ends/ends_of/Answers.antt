use Rattle.std.proofs.Common.{◌++◌, ◌∷◌, [], ◌∙◌, ap, sym, subst, append_assoc, List}
use Rattle.gr_core.specs.declared.cores.Core.{Core}
use Rattle.gr_machine.specs.declared.core_end.CoreEnd.{CoreEnd}
use Rattle.gr_world.specs.Worlds.{AreEndsOf}
use Rattle.gr_world.proofs.Matches.{one_ended}
use Rattle.gr_world.proofs.ends.ends_of.Goals as goal

pub loop-core-preserved : goal.loop-core-preserved
loop-core-preserved c = record {
  done = subst (λ (ends : List CoreEnd). AreEndsOf (c.loop-core.yielded ++ c.in-Some.core ∷ []) ends) (sym c.in_ok-push.ensures.ok)
      (one_ended c.loop-core.yielded c.loop-core.ends c.in-Some.core c.finish.result c.loop-core.invariant.done
      (record { is = c.finish.ensures.end; left = c.finish.ensures.left }));
  rest = append_assoc c.loop-core.yielded (c.in-Some.core ∷ []) c.next.new.self.rest.items
      ∙ ap (λ (xs : List Core). c.loop-core.yielded ++ xs) (sym c.in-Some.ensures.steps.0) ∙ c.loop-core.invariant.rest;
}
