use Rattle.std.proofs.Common.{◌++◌, ◌∷◌, [], ◌∙◌, List, ap, arith, length}
use Rattle.std.proofs.lemmas.List.{length_push}
use Rattle.gr_msg.specs.declared.message.Msg.{Msg}
use Rattle.gr_view.specs.Places.{at_place}
use Rattle.gr_agg.proofs.Lists.{more_lists, no_lists}
use Rattle.gr_agg.proofs.aggregator.empty_buffers.Goals as goal

pub buffers-init : goal.buffers-init
buffers-init c = record {
  len = ap length c.new-buffers.ensures.items;
  empty = ap (λ (xs : List (List Msg)). at_place [] xs) c.new-buffers.ensures.items ∙ no_lists;
}

pub buffers-preserved : goal.buffers-preserved
buffers-preserved c =
    let before = c.buffers.buffers.items in
    record {
      len = omega (arith, ap length c.in_ok-push.ensures.items, length_push before c.new.result, c.buffers.invariant.len);
      empty = ap (λ (xs : List (List Msg)). at_place [] xs) c.in_ok-push.ensures.items
          ∙ ap (λ (x : List Msg). at_place [] (before ++ x ∷ [])) c.new.ensures ∙ more_lists before c.buffers.invariant.empty;
    }
