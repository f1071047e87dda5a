use Rattle.slab.proofs.Slab.TheSendSync as slab
use Rattle.gr_code.proofs.Crossing.{code_parts, stmt_sync, instruction_sync, accepted_sync}
use Rattle.gr_event.proofs.counts.LocalCounts.TheSendSync as counts
use Rattle.gr_event.proofs.masters.Masters.TheSendSync as masters
use Rattle.gr_work.proofs.work.Work.TheSendSync as work
use Rattle.gr_machine.proofs.counts.Counts.TheSendSync as done
use Rattle.gr_machine.proofs.journal.StampedMark.TheSendSync as mark
use Rattle.gr_slots.proofs.task.Task.TheSendSync as task
use Rattle.gr_posts.proofs.posts.Posts.TheSendSync as posts
use Rattle.gr_combining.proofs.combining.Combining.TheSendSync as combining
use Rattle.gr_turns.proofs.vectors.Vectors.TheSendSync as vectors
use Rattle.gr_store.proofs.store.Store.TheSendSync as store
use Rattle.gr_state.proofs.steals.Steals.TheSendSync as steals
use Rattle.gr_state.proofs.shared.states_are_shared.Goals as goal

ruleset parts_send = (slab.the_send, counts.the_send, masters.the_send, work.the_send, done.the_field_send, mark.the_field_send, task.the_send, posts.the_send, combining.the_send, vectors.the_send, store.the_send, steals.the_send)

ruleset parts_sync = (slab.the_sync, counts.the_sync, masters.the_sync, work.the_sync, done.the_field_sync, mark.the_field_sync, task.the_sync, posts.the_sync, combining.the_sync, vectors.the_sync, store.the_sync, steals.the_sync)

pub share-requires-send-T : goal.share-requires-send-T
share-requires-send-T c κs = search (code_parts, stmt_sync, instruction_sync, accepted_sync, parts_send) depth 60 fits 10000

pub share-requires-sync-T : goal.share-requires-sync-T
share-requires-sync-T c κs = search (parts_sync, accepted_sync, instruction_sync, stmt_sync, code_parts) depth 42 fits 10000
