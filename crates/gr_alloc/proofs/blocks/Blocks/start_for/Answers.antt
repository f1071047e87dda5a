use Rattle.std.proofs.Common.{Some, None, sym, ap, ◌∙◌}
use Rattle.gr_lang.specs.Objects.{start_in}
use Rattle.gr_alloc.specs.HeapBlocks.{HeapBlocks}
use Rattle.gr_alloc.proofs.Starts.{start_found}
use Rattle.gr_alloc.proofs.blocks.Blocks.start_for.Goals as goal

pub returns-in-Some : goal.returns-in-Some
returns-in-Some c =
    start_found c.self.inside.start c.self.inside.cuts c.self.inside.holes c.args.count c.self.invariant.holes (Some c.in-Some.place) (sym c.in-Some.is ∙ c.first_place.ensures.value)
    ∙ ap (λ (b : HeapBlocks). start_in b.heap b.live c.args.count) c.self.view_is

pub returns-in-None : goal.returns-in-None
returns-in-None c =
    start_found c.self.inside.start c.self.inside.cuts c.self.inside.holes c.args.count c.self.invariant.holes None (sym c.in-None.is ∙ c.first_place.ensures.value)
    ∙ ap (λ (b : HeapBlocks). start_in b.heap b.live c.args.count) c.self.view_is
