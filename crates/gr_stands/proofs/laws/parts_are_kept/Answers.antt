use Rattle.gr_stands.proofs.Memories.{words_kept, words_behind}
use Rattle.gr_stands.proofs.Calls.{calls_kept}
use Rattle.gr_stands.proofs.laws.parts_are_kept.Goals as goal

pub returns-clause-words : goal.returns-clause-words
returns-clause-words c = words_kept

pub returns-clause-no_words : goal.returns-clause-no_words
returns-clause-no_words c = words_behind

pub returns-clause-calls : goal.returns-clause-calls
returns-clause-calls c = calls_kept
