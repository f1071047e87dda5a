use Rattle.gr_scopes_entries.proofs.Trees.{call_marks_leave_trees, one_mark_is_one_step}
use Rattle.gr_scopes_entries.proofs.laws.calls_leave_trees.Goals as goal

pub returns-clause-calls : goal.returns-clause-calls
returns-clause-calls c = call_marks_leave_trees

pub returns-clause-one : goal.returns-clause-one
returns-clause-one c = one_mark_is_one_step
