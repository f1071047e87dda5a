-- A core may go to another thread: type by type, since a search through the whole tree breaks off.
use denote.Ref.{NamedLft}
use denote.Param.Send.{IsSend}
use Rattle.slab.proofs.Slab.TheSendSync as slab
use Rattle.gr_code.proofs.Crossing.{accepted_sync, code_parts, instruction_sync, stmt_sync}
use Rattle.gr_msg.proofs.packet.Packet.TheSendSync as packet
use Rattle.gr_event.proofs.counts.LocalCounts.TheSendSync as counts
use Rattle.gr_event.proofs.masters.Masters.TheSendSync as masters
use Rattle.gr_work.proofs.work.Work.TheSendSync as work
use Rattle.gr_machine.proofs.counts.Counts.TheSendSync as done
use Rattle.gr_machine.proofs.journal.Stamped.TheSendSync as entry
use Rattle.gr_machine.proofs.journal.StampedMark.TheSendSync as mark
use Rattle.gr_slots.proofs.task.Task.TheSendSync as task
use Rattle.gr_posts.proofs.posts.Posts.TheSendSync as posts
use Rattle.gr_combining.proofs.combining.Combining.TheSendSync as combining
use Rattle.gr_turns.proofs.vectors.Vectors.TheSendSync as vectors
use Rattle.gr_store.proofs.store.Store.TheSendSync as store
use Rattle.gr_state.proofs.steals.Steals.TheSendSync as steals
use Rattle.gr_mail.proofs.mail.Mail.TheSendSync as mail
use Rattle.gr_state.specs.contracts.state.State as state
use Rattle.gr_core.specs.contracts.running.Running as running
use Rattle.gr_core.specs.contracts.cores.Core as core

ruleset state_parts = (slab.the_send, counts.the_send, masters.the_send, work.the_send, done.the_field_send, mark.the_field_send, task.the_send, posts.the_send, combining.the_send, vectors.the_send, store.the_send, steals.the_send)

pub state_send : (κ : NamedLft) → IsSend (state.the_field κ).row
state_send κ = search (code_parts, stmt_sync, instruction_sync, accepted_sync, state_parts) depth 60 fits 10000

pub running_send : (κ : NamedLft) → IsSend (running.the_field κ).row
running_send κ = search (code_parts, state_send, entry.the_field_send, packet.the_send) depth 40 fits 10000

pub core_send : (κ : NamedLft) → IsSend (core.the_field κ).row
core_send κ = search (code_parts, running_send, mail.the_field_send) depth 30 fits 10000
