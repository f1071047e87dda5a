use Rattle.gr_machine.proofs.EventRows as rows
use Rattle.gr_machine.proofs.RunRows as rows2
use Rattle.gr_machine.proofs.run_rows.runs_on_two_cores.Goals as goal

pub returns-clause-remote : goal.returns-clause-remote
returns-clause-remote c = rows2.remote_run

pub returns-clause-remote_ends : goal.returns-clause-remote_ends
returns-clause-remote_ends c = rows2.remote_ends

pub returns-clause-waits : goal.returns-clause-waits
returns-clause-waits c = rows2.waits_run

pub returns-clause-waits_ends : goal.returns-clause-waits_ends
returns-clause-waits_ends c = rows2.waits_ends

pub returns-clause-looped : goal.returns-clause-looped
returns-clause-looped c = rows2.looped_run

pub returns-clause-looped_ends : goal.returns-clause-looped_ends
returns-clause-looped_ends c = rows2.looped_ends

pub returns-clause-turn : goal.returns-clause-turn
returns-clause-turn c = rows2.turn_run

pub returns-clause-turn_ends : goal.returns-clause-turn_ends
returns-clause-turn_ends c = rows2.turn_ends

pub returns-clause-enrolled : goal.returns-clause-enrolled
returns-clause-enrolled c = rows2.enrolled_run

pub returns-clause-enrolled_ends : goal.returns-clause-enrolled_ends
returns-clause-enrolled_ends c = rows2.enrolled_ends

pub returns-clause-reduced : goal.returns-clause-reduced
returns-clause-reduced c = rows2.reduced_run

pub returns-clause-reduced_ends : goal.returns-clause-reduced_ends
returns-clause-reduced_ends c = rows2.reduced_ends

pub returns-clause-enrolled_counts : goal.returns-clause-enrolled_counts
returns-clause-enrolled_counts c = rows2.enrolled_counts

pub returns-clause-merge : goal.returns-clause-merge
returns-clause-merge c = rows.remote_merge

pub returns-clause-merged : goal.returns-clause-merged
returns-clause-merged c = rows.merges_run
