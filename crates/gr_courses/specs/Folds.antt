-- Batches that go off one after another, tasks that make the units for which they waited, and units that are given.
use Rattle.std.specs.Prelude.{ℕ, List, [], ◌∷◌, Some}
use Rattle.gr_msg.specs.declared.message.Unit.{Unit as WorkUnit}
use Rattle.gr_msg.specs.declared.message.Msg.TheVariants as msg
use Rattle.gr_batch.specs.declared.combiner.Batch.{Batch}
use Rattle.gr_machine.specs.States.{Body}
use Rattle.gr_machine.specs.Closes.{batch_sent}
use Rattle.gr_machine.specs.ScopeServes.{planted_in}
use Rattle.gr_courses.specs.Seen.{Seen, does_to, with_body, with_send}

abbrev pub batches_from : ℕ → Seen → List Batch → Seen
batches_from object seen [] = seen
batches_from object seen (batch ∷ batches) = batches_from object (does_to seen (Some (batch_sent seen.machine seen.core.body object batch))) batches

abbrev pub planted_from : Seen → List ℕ → Seen
planted_from seen [] = seen
planted_from seen (slot ∷ slots) = planted_from (does_to seen (Some (planted_in seen.machine seen.me seen.core.body slot (seen.core.body.tasks.slots slot)))) slots

-- These cores wait for units, and these units are there that others may take.
abbrev pub in_queues : Body → List ℕ → List WorkUnit → Body
in_queues body waiting public = record body { work = record body.work { public = public }; steals = record body.steals { waiting = waiting } }

-- The first core that waits is given the first unit.
abbrev pub gift_to : Seen → ℕ → List ℕ → WorkUnit → List WorkUnit → Seen
gift_to seen core cores unit units = with_send (with_body seen (in_queues seen.core.body cores units)) (record { to = core; message = msg.StealGive unit })
