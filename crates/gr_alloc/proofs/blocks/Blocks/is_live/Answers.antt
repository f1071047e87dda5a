use Rattle.std.proofs.Common.{sym, ap, ◌∙◌, is_some}
use Rattle.std.specs.FinMap as fin
use Rattle.gr_alloc.specs.HeapBlocks.{HeapBlocks}
use Rattle.gr_alloc.proofs.Apart.{blocks_apart, blocks_inside}
use Rattle.gr_alloc.proofs.LiveMap.{live_of_place, live_of_none}
use Rattle.gr_alloc.proofs.blocks.Blocks.is_live.Goals as goal

pub returns-in-Some-clause-value : goal.returns-in-Some-clause-value
returns-in-Some-clause-value c =
    c.is_block.ensures
    ∙ ap is_some (sym (live_of_place c.self.inside.start c.self.inside.cuts c.self.inside.holes c.args.at c.in-Some.place (sym c.place_of.ensures.value ∙ c.in-Some.is)))
    ∙ ap (λ (b : HeapBlocks). is_some (fin.get b.live c.args.at)) c.self.view_is

pub returns-in-Some-clause-inside : goal.returns-in-Some-clause-inside
returns-in-Some-clause-inside c = blocks_inside c.self.inside _ c.self.view_is c.self.invariant

pub returns-in-Some-clause-apart : goal.returns-in-Some-clause-apart
returns-in-Some-clause-apart c = blocks_apart c.self.inside _ c.self.view_is c.self.invariant

pub returns-in-None-clause-value : goal.returns-in-None-clause-value
returns-in-None-clause-value c =
    ap is_some (sym (live_of_none c.self.inside.start c.self.inside.cuts c.self.inside.holes c.args.at (sym c.place_of.ensures.value ∙ c.in-None.is)))
    ∙ ap (λ (b : HeapBlocks). is_some (fin.get b.live c.args.at)) c.self.view_is

pub returns-in-None-clause-inside : goal.returns-in-None-clause-inside
returns-in-None-clause-inside c = blocks_inside c.self.inside _ c.self.view_is c.self.invariant

pub returns-in-None-clause-apart : goal.returns-in-None-clause-apart
returns-in-None-clause-apart c = blocks_apart c.self.inside _ c.self.view_is c.self.invariant
