use Rattle.gr_fits_words_heap.proofs.Heaps as heaps
use Rattle.gr_fits_words_heap.proofs.laws.heaps_fit.Goals as goal

pub returns-clause-heaps : goal.returns-clause-heaps
returns-clause-heaps c = heaps.heap_fits

pub returns-clause-literals : goal.returns-clause-literals
returns-clause-literals c = heaps.literals_fit
