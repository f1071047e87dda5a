use Rattle.gr_merge.proofs.InOrder.{merge_core, merge_below, merge_sorted, merge_rises}
use Rattle.gr_merge.proofs.laws.merges_are_in_order.Goals as goal

pub returns-clause-lists : goal.returns-clause-lists
returns-clause-lists g c = λ clock lists core. merge_core clock lists core

pub returns-clause-cores : goal.returns-clause-cores
returns-clause-cores g c = λ clock lists. merge_below clock lists

pub returns-clause-sorted : goal.returns-clause-sorted
returns-clause-sorted g c = λ clock lists h. merge_sorted clock lists h

pub returns-clause-clocks : goal.returns-clause-clocks
returns-clause-clocks g c = λ clock lists h. merge_rises clock lists h
