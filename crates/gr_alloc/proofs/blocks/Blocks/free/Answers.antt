use Rattle.std.proofs.Common.{◌≡◌, false, true, None, sym, ap, ◌∙◌, is_some, length, rules}
use Rattle.std.specs.FinMap as fin
use Rattle.gr_alloc.specs.HeapBlocks.{HeapBlocks}
use Rattle.gr_alloc.specs.HoleView.{live_at}
use Rattle.gr_alloc.specs.BlockView.{live_below}
use Rattle.gr_alloc.proofs.LiveMap.{live_of_place, live_of_none, remove_none, is_some_none, changed_heap, address_of}
use Rattle.gr_alloc.proofs.blocks.Blocks.free.Goals as goal

pub returns-then-not-is_block-clause-answer : goal.returns-then-not-is_block-clause-answer
returns-then-not-is_block-clause-answer c =
    let none : false ≡ is_some (live_at c.self.inside.cuts c.self.inside.holes c.in-Some.place) = search rules in
    none
    ∙ ap is_some (sym (live_of_place c.self.inside.start c.self.inside.cuts c.self.inside.holes c.args.at c.in-Some.place (sym c.place_of.ensures.value ∙ c.in-Some.is)))
    ∙ ap (λ (b : HeapBlocks). is_some (fin.get b.live c.args.at)) c.self.view_is

pub returns-then-not-is_block-clause-value : goal.returns-then-not-is_block-clause-value
returns-then-not-is_block-clause-value c =
    let none = is_some_none (fin.get c.args.self.now.live c.args.at) (returns-then-not-is_block-clause-answer c) in
    λ i. record { heap = c.args.self.now.heap; live = remove_none c.args.self.now.live c.args.at none i }

pub returns-else-not-is_block-clause-answer : goal.returns-else-not-is_block-clause-answer
returns-else-not-is_block-clause-answer c =
    let some : true ≡ is_some (live_at c.self.inside.cuts c.self.inside.holes c.in-Some.place) = search rules in
    some
    ∙ ap is_some (sym (live_of_place c.self.inside.start c.self.inside.cuts c.self.inside.holes c.args.at c.in-Some.place (sym c.place_of.ensures.value ∙ c.in-Some.is)))
    ∙ ap (λ (b : HeapBlocks). is_some (fin.get b.live c.args.at)) c.self.view_is

pub returns-else-not-is_block-clause-value : goal.returns-else-not-is_block-clause-value
returns-else-not-is_block-clause-value c =
    let s = c.self.inside.cuts in
    let live = live_below c.self.inside.start s c.self.inside.holes (length s) in
    let address = address_of c.self.inside.start (length s) c.args.at c.in-Some.place (sym c.place_of.ensures.value ∙ c.in-Some.is) in
    changed_heap c.self.inside.start s c.self.inside.holes c.clear.new.cuts c.clear.new.holes c.in-Some.place None c.clear.ensures.live c.clear.ensures.len c.in-Some.ensures.inside
    ∙ (λ i. record { heap = record { from = c.self.inside.start; count = length s }; live = fin.remove live (address i) })
    ∙ ap (λ (b : HeapBlocks). record b { live = fin.remove b.live c.args.at }) c.self.view_is

pub returns-in-None-clause-answer : goal.returns-in-None-clause-answer
returns-in-None-clause-answer c =
    ap is_some (sym (live_of_none c.self.inside.start c.self.inside.cuts c.self.inside.holes c.args.at (sym c.place_of.ensures.value ∙ c.in-None.is)))
    ∙ ap (λ (b : HeapBlocks). is_some (fin.get b.live c.args.at)) c.self.view_is

pub returns-in-None-clause-value : goal.returns-in-None-clause-value
returns-in-None-clause-value c =
    let none = is_some_none (fin.get c.args.self.now.live c.args.at) (returns-in-None-clause-answer c) in
    λ i. record { heap = c.args.self.now.heap; live = remove_none c.args.self.now.live c.args.at none i }
