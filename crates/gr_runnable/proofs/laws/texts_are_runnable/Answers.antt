use Rattle.gr_runnable.proofs.Spelled as spelled
use Rattle.gr_runnable.proofs.laws.texts_are_runnable.Goals as goal

pub returns : goal.returns
returns c = spelled.texts_run c.spelled_numbers_fit.ensures c.heaps_fit.ensures.literals c.spelled_objects_have_names.ensures c.actions_fit.ensures.names
