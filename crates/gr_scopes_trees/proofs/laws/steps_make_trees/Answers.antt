use Rattle.gr_scopes_trees.proofs.Steps.{calls_leave_trees, ends_leave_trees, traps_leave_trees, spawns_make_tasks, finishes_open_scopes, loops_open_scopes, empty_loops_leave_scopes, indices_make_tasks, passes_leave_scopes, over_leaves_the_root}
use Rattle.gr_scopes_trees.proofs.laws.steps_make_trees.Goals as goal

pub returns-clause-calls : goal.returns-clause-calls
returns-clause-calls c = calls_leave_trees

pub returns-clause-ends : goal.returns-clause-ends
returns-clause-ends c = ends_leave_trees

pub returns-clause-traps : goal.returns-clause-traps
returns-clause-traps c = traps_leave_trees

pub returns-clause-spawns : goal.returns-clause-spawns
returns-clause-spawns c = spawns_make_tasks

pub returns-clause-finishes : goal.returns-clause-finishes
returns-clause-finishes c = finishes_open_scopes

pub returns-clause-loops : goal.returns-clause-loops
returns-clause-loops c = loops_open_scopes

pub returns-clause-empty : goal.returns-clause-empty
returns-clause-empty c = empty_loops_leave_scopes

pub returns-clause-indices : goal.returns-clause-indices
returns-clause-indices c = indices_make_tasks

pub returns-clause-passes : goal.returns-clause-passes
returns-clause-passes c = passes_leave_scopes

pub returns-clause-over : goal.returns-clause-over
returns-clause-over c = over_leaves_the_root
