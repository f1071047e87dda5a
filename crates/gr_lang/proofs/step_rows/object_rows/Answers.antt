use Rattle.gr_lang.proofs.StepRows.{word_calls, set_calls, map_calls, vector_calls, heap_calls}
use Rattle.gr_lang.proofs.step_rows.object_rows.Goals as goal

pub returns-clause-words : goal.returns-clause-words
returns-clause-words c = word_calls

pub returns-clause-sets : goal.returns-clause-sets
returns-clause-sets c = set_calls

pub returns-clause-maps : goal.returns-clause-maps
returns-clause-maps c = map_calls

pub returns-clause-vectors : goal.returns-clause-vectors
returns-clause-vectors c = vector_calls

pub returns-clause-heap : goal.returns-clause-heap
returns-clause-heap c = heap_calls
