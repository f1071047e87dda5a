use Rattle.std.proofs.Common.{◌++◌, ◌∷◌, [], ◌∙◌, List, ap, arith, length}
use Rattle.std.proofs.lemmas.List.{length_push}
use Rattle.gr_machine.specs.Events.{Packet}
use Rattle.gr_view.specs.Places.{at_place}
use Rattle.gr_agg.proofs.Lists.{more_lists, no_lists}
use Rattle.gr_core.proofs.packets.no_packets.Goals as goal

pub cores-init : goal.cores-init
cores-init c = record {
  len = ap length c.new-lists.ensures.items;
  empty = ap (λ (xs : List (List Packet)). at_place [] xs) c.new-lists.ensures.items ∙ no_lists;
}

pub cores-preserved : goal.cores-preserved
cores-preserved c =
    let before = c.cores.lists.items in
    record {
      len = omega (arith, ap length c.in_ok-push.ensures.items, length_push before c.new.result, c.cores.invariant.len);
      empty = ap (λ (xs : List (List Packet)). at_place [] xs) c.in_ok-push.ensures.items
          ∙ ap (λ (x : List Packet). at_place [] (before ++ x ∷ [])) c.new.ensures ∙ more_lists before c.cores.invariant.empty;
    }
