use Rattle.std.proofs.Common.{sym, ◌∙◌}
use Rattle.gr_store.specs.StoreView.{blocks_in}
use Rattle.gr_store.proofs.Openings.{heap_opens, words_open}
use Rattle.gr_store.proofs.store.Store.open.Goals as goal

pub returns-clause-words : goal.returns-clause-words
returns-clause-words c setup deals =
    words_open c.args.code.now.program setup c.args.layout.now.cores c.args.layout.now.block c.args.me _ deals.0 deals.1
    c.in_ok-segment.ensures c.in_ok-shards.ensures c.in_ok-blocks.ensures.live

pub returns-clause-heap : goal.returns-clause-heap
returns-clause-heap c zero =
    heap_opens c.args.code.now.program (blocks_in c.in_ok-blocks.blocks).heap (sym c.heap.ensures ∙ c.in_ok-blocks.ensures.heap zero)
