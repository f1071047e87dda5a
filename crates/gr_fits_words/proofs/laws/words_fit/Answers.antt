use Rattle.gr_fits_words.proofs.Calls as calls
use Rattle.gr_fits_words.proofs.Reached as reached
use Rattle.gr_fits_words.proofs.laws.words_fit.Goals as goal

pub returns-clause-calls : goal.returns-clause-calls
returns-clause-calls c = calls.calls_keep

pub returns-clause-words : goal.returns-clause-words
returns-clause-words c = reached.words_fit

pub returns-clause-loops : goal.returns-clause-loops
returns-clause-loops c = reached.loops_few
