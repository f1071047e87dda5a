use Rattle.std.proofs.Common.{◌+◌, Some, None, sym, ap, ◌∙◌, arith}
use Rattle.std.specs.FinMap as fin
use Rattle.gr_lang.specs.Objects.{start_in}
use Rattle.gr_alloc.specs.HeapBlocks.{HeapBlocks}
use Rattle.gr_alloc.proofs.LiveMap.{changed_heap}
use Rattle.gr_alloc.proofs.Starts.{start_found}
use Rattle.gr_alloc.proofs.blocks.Blocks.alloc.Goals as goal

pub returns-in-Some-clause-place : goal.returns-in-Some-clause-place
returns-in-Some-clause-place c =
    start_found c.self.inside.start c.self.inside.cuts c.self.inside.holes c.args.count c.self.invariant.holes (Some c.in-Some.place) (sym c.in-Some.is ∙ c.first_place.ensures.value)
    ∙ ap (λ (b : HeapBlocks). start_in b.heap b.live c.args.count) c.self.view_is

pub returns-in-Some-clause-value : goal.returns-in-Some-clause-value
returns-in-Some-clause-value c =
    changed_heap c.self.inside.start c.self.inside.cuts c.self.inside.holes c.fill.new.cuts c.fill.new.holes c.in-Some.place (Some c.args.count) c.fill.ensures.live c.fill.ensures.len (omega (arith, c.in-Some.ensures.inside, c.in-Some.ensures.some))
    ∙ ap (λ (b : HeapBlocks). record b { live = fin.insert b.live (c.self.inside.start + c.in-Some.place) c.args.count }) c.self.view_is

pub returns-in-None-clause-place : goal.returns-in-None-clause-place
returns-in-None-clause-place c =
    start_found c.self.inside.start c.self.inside.cuts c.self.inside.holes c.args.count c.self.invariant.holes None (sym c.in-None.is ∙ c.first_place.ensures.value)
    ∙ ap (λ (b : HeapBlocks). start_in b.heap b.live c.args.count) c.self.view_is
