use Rattle.gr_machine.proofs.ProgramRows as rows
use Rattle.gr_machine.proofs.program_rows.programs_of_runs.Goals as goal

pub returns-clause-counter : goal.returns-clause-counter
returns-clause-counter c = rows.counter_complete

pub returns-clause-counter_script : goal.returns-clause-counter_script
returns-clause-counter_script c = rows.counter_plays

pub returns-clause-remote : goal.returns-clause-remote
returns-clause-remote c = rows.remote_complete

pub returns-clause-remote_script : goal.returns-clause-remote_script
returns-clause-remote_script c = rows.remote_plays

pub returns-clause-waits : goal.returns-clause-waits
returns-clause-waits c = rows.waits_complete

pub returns-clause-waits_script : goal.returns-clause-waits_script
returns-clause-waits_script c = rows.waits_play

pub returns-clause-loop_script : goal.returns-clause-loop_script
returns-clause-loop_script c = rows.looped_plays

pub returns-clause-batch : goal.returns-clause-batch
returns-clause-batch c = rows.batch_complete

pub returns-clause-batch_script : goal.returns-clause-batch_script
returns-clause-batch_script c = rows.batch_plays

pub returns-clause-turn : goal.returns-clause-turn
returns-clause-turn c = rows.turn_complete

pub returns-clause-turn_script : goal.returns-clause-turn_script
returns-clause-turn_script c = rows.turn_plays

pub returns-clause-enrolled : goal.returns-clause-enrolled
returns-clause-enrolled c = rows.enrolled_complete

pub returns-clause-enrolled_script : goal.returns-clause-enrolled_script
returns-clause-enrolled_script c = rows.enrolled_plays

pub returns-clause-reduced : goal.returns-clause-reduced
returns-clause-reduced c = rows.reduced_complete

pub returns-clause-reduced_script : goal.returns-clause-reduced_script
returns-clause-reduced_script c = rows.reduced_plays

pub returns-clause-nested : goal.returns-clause-nested
returns-clause-nested c = rows.nested_complete

pub returns-clause-nested_script : goal.returns-clause-nested_script
returns-clause-nested_script c = rows.nested_plays

pub returns-clause-trapped : goal.returns-clause-trapped
returns-clause-trapped c = rows.trapped_legal

pub returns-clause-trapped_script : goal.returns-clause-trapped_script
returns-clause-trapped_script c = rows.trapped_plays
