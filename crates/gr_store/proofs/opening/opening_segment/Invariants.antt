use Rattle.std.proofs.Common.{◌≡◌}
use Rattle.gr_lang.specs.Openings.{opening}
use Rattle.gr_addr.specs.Dealing.{linear_of}
use Rattle.gr_addr.specs.Segments.{words_of}
use Rattle.gr_store.specs.StoreView.{filled}
use Rattle.gr_store.proofs.opening.opening_segment.Given as goal

abbrev pub invariant-places : goal.invariant-places
invariant-places l = words_of l.segment ≡ filled (opening l.code.program).words (linear_of l.layout.cores l.layout.block l.me) l.share l.place
