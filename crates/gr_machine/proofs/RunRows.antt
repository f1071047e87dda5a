-- The worked runs hold, by computation.
use Rattle.std.proofs.Common.{refl}
use Rattle.gr_view.specs.Places.{put}
use Rattle.gr_event.specs.Scopes.{put_scope}
use Rattle.gr_work.specs.Parts.{middle, offered_in, kept_in, offered, kept_end}
use Rattle.gr_agg.specs.Buffers.{add_last}
use Rattle.gr_machine.specs.CounterRows as counter_rows
use Rattle.gr_machine.specs.BatchRows as batch_rows
use Rattle.gr_machine.specs.TrapRows as trapped_rows
use Rattle.gr_machine.specs.NestedRows as nested_rows
use Rattle.gr_machine.specs.RemoteRows as remote_rows
use Rattle.gr_machine.specs.WaitRows as waits_rows
use Rattle.gr_machine.specs.LoopRows as looped_rows
use Rattle.gr_machine.specs.TurnRows as turn_rows
use Rattle.gr_machine.specs.EnrolRows as enrolled_rows
use Rattle.gr_machine.specs.ReduceRows as reduced_rows

pub counter_run : counter_rows.CounterRun
unfolding put put_scope add_last middle offered_in kept_in offered kept_end
counter_run = record { goes = refl; tells = refl }

pub counter_ends : counter_rows.CounterEnds
unfolding put put_scope add_last middle offered_in kept_in offered kept_end
counter_ends = record { core0 = refl }

pub batch_run : batch_rows.BatchRun
unfolding put put_scope add_last middle offered_in kept_in offered kept_end
batch_run = record { goes = refl; tells = refl }

pub batch_ends : batch_rows.BatchEnds
unfolding put put_scope add_last middle offered_in kept_in offered kept_end
batch_ends = record { core0 = refl }

pub trapped_run : trapped_rows.TrappedRun
unfolding put put_scope add_last middle offered_in kept_in offered kept_end
trapped_run = record { goes = refl; tells = refl }

pub trapped_ends : trapped_rows.TrappedEnds
unfolding put put_scope add_last middle offered_in kept_in offered kept_end
trapped_ends = record { core0 = refl }

pub nested_run : nested_rows.NestedRun
unfolding put put_scope add_last middle offered_in kept_in offered kept_end
nested_run = record { goes = refl; tells = refl }

pub nested_ends : nested_rows.NestedEnds
unfolding put put_scope add_last middle offered_in kept_in offered kept_end
nested_ends = record { core0 = refl }

pub remote_run : remote_rows.RemoteRun
unfolding put put_scope add_last middle offered_in kept_in offered kept_end
remote_run = record { goes = refl; tells = refl }

pub remote_ends : remote_rows.RemoteEnds
unfolding put put_scope add_last middle offered_in kept_in offered kept_end
remote_ends = record { core0 = refl; core1 = refl }

pub waits_run : waits_rows.WaitsRun
unfolding put put_scope add_last middle offered_in kept_in offered kept_end
waits_run = record { goes = refl; tells = refl }

pub waits_ends : waits_rows.WaitsEnds
unfolding put put_scope add_last middle offered_in kept_in offered kept_end
waits_ends = record { core0 = refl; core1 = refl }

pub looped_run : looped_rows.LoopedRun
unfolding put put_scope add_last middle offered_in kept_in offered kept_end
looped_run = record { goes = refl; tells = refl }

pub looped_ends : looped_rows.LoopedEnds
unfolding put put_scope add_last middle offered_in kept_in offered kept_end
looped_ends = record { core0 = refl; core1 = refl }

pub turn_run : turn_rows.TurnRun
unfolding put put_scope add_last middle offered_in kept_in offered kept_end
turn_run = record { goes = refl; tells = refl }

pub turn_ends : turn_rows.TurnEnds
unfolding put put_scope add_last middle offered_in kept_in offered kept_end
turn_ends = record { core0 = refl; core1 = refl }

pub enrolled_run : enrolled_rows.EnrolledRun
unfolding put put_scope add_last middle offered_in kept_in offered kept_end
enrolled_run = record { goes = refl; tells = refl }

pub enrolled_ends : enrolled_rows.EnrolledEnds
unfolding put put_scope add_last middle offered_in kept_in offered kept_end
enrolled_ends = record { core0 = refl; core1 = refl }

pub reduced_run : reduced_rows.ReducedRun
unfolding put put_scope add_last middle offered_in kept_in offered kept_end
reduced_run = record { goes = refl; tells = refl }

pub reduced_ends : reduced_rows.ReducedEnds
unfolding put put_scope add_last middle offered_in kept_in offered kept_end
reduced_ends = record { core0 = refl; core1 = refl }

pub enrolled_counts : enrolled_rows.EnrolledCounts
unfolding put put_scope add_last middle offered_in kept_in offered kept_end
enrolled_counts = record { counts = refl; master = refl }
