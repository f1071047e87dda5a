-- The worked rows of merges, of enabled events and of what finds nothing to act on hold, by computation.
use Rattle.std.proofs.Common.{refl}
use Rattle.gr_view.specs.Places.{put}
use Rattle.gr_event.specs.Scopes.{put_scope}
use Rattle.gr_work.specs.Parts.{middle, offered_in, kept_in, offered, kept_end}
use Rattle.gr_agg.specs.Buffers.{add_last}
use Rattle.gr_machine.specs.MergeRows as merges
use Rattle.gr_machine.specs.EnabledRows as events
use Rattle.gr_machine.specs.StrayRows as strays

pub remote_merge : merges.RemoteMerge
unfolding put put_scope add_last middle offered_in kept_in offered kept_end
remote_merge = refl

pub merges_run : merges.MergesRun
unfolding put put_scope add_last middle offered_in kept_in offered kept_end
merges_run = record { remote = refl; waits = refl; looped = refl; turn = refl }

pub remote_enabled : events.RemoteEnabled
unfolding put put_scope add_last middle offered_in kept_in offered kept_end
remote_enabled = refl

pub batch_enabled : events.BatchEnabled
unfolding put put_scope add_last middle offered_in kept_in offered kept_end
batch_enabled = refl

pub calls_fill : events.CallsFill
unfolding put put_scope add_last middle offered_in kept_in offered kept_end
calls_fill = record { one = refl; two = refl; both = refl }

pub messages_fill : events.MessagesFill
unfolding put put_scope add_last middle offered_in kept_in offered kept_end
messages_fill = record { busy = refl; idle = refl; full = refl }

pub nothing_more : events.NothingMore
unfolding put put_scope add_last middle offered_in kept_in offered kept_end
nothing_more = record { trapped = refl; passed = refl; other = refl; spent = refl; last = refl }

pub strays_find_nothing : strays.StraysFindNothing
unfolding put put_scope add_last middle offered_in kept_in offered kept_end
strays_find_nothing = refl

pub stray_is_gone : strays.StrayIsGone
unfolding put put_scope add_last middle offered_in kept_in offered kept_end
stray_is_gone = refl

pub full_scope : strays.FullScopeFindsNothing
unfolding put put_scope add_last middle offered_in kept_in offered kept_end
full_scope = refl

pub units_dropped : strays.UnitsAreDropped
unfolding put put_scope add_last middle offered_in kept_in offered kept_end
units_dropped = refl

pub actions_dropped : strays.ActionsAreDropped
unfolding put put_scope add_last middle offered_in kept_in offered kept_end
actions_dropped = record { place = refl; no_set = refl; no_map = refl; reducer = refl; no_vector = refl; arrival = refl; spawn = refl }
