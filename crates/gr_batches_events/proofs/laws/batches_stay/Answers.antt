use Rattle.gr_batches_events.proofs.Frame as frame
use Rattle.gr_batches_events.proofs.laws.batches_stay.Goals as goal

pub returns-clause-stay : goal.returns-clause-stay
returns-clause-stay c = frame.batches_stay

pub returns-clause-others : goal.returns-clause-others
returns-clause-others c = frame.batched_tasks_are_others

pub returns-clause-new : goal.returns-clause-new
returns-clause-new c = frame.new_names_are_others
