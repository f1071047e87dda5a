-- The history of a run: its marks, in order, where a batch that took effect stands for its calls with their replies.
use Rattle.std.specs.Prelude.{ℕ, List, [], ◌∷◌, ◌++◌, map, Option}
use Rattle.std.specs.Option.{option_map}
use Rattle.std.specs.List.{zip}
use Rattle.gr_lang.specs.declared.action.Entry.{Entry}
use Rattle.gr_lang.specs.declared.action.Entry.TheVariants as entry
use Rattle.gr_lang.specs.declared.action.WaitingCall.{WaitingCall}
use Rattle.gr_view.specs.Places.{put}
use Rattle.gr_batch.specs.Folding.{wakes_of}
use Rattle.gr_machine.specs.declared.mark.Mark.{Mark}
use Rattle.gr_machine.specs.declared.mark.Mark.TheVariants as mark
use Rattle.gr_machine.specs.declared.journal.StampedMark.{StampedMark}
use Rattle.gr_machine.specs.Machines.{Machine}
use Rattle.gr_machine.specs.GlobalRuns.{Step, global_run}

-- The calls of the batches that have gone off, by core and number.
abbrev pub Sent : Type 0
Sent = ℕ → ℕ → List WaitingCall

-- The calls of a batch, in order, each with the reply that it has after those before it, from what stood there before the batch.
abbrev pub batch_entries : List WaitingCall → Option ℕ → List Entry
batch_entries calls before = map (λ answer. entry.Call answer.0.id answer.0.op answer.1.reply) (zip calls (wakes_of calls before))

abbrev pub entries_of : Sent → Mark → List Entry
entries_of sent (mark.Entry what) = what ∷ []
entries_of sent (mark.Closed batch calls) = []
entries_of sent (mark.Applied origin batch before) = batch_entries (sent origin batch) before

abbrev pub sent_after : Sent → ℕ → Mark → Sent
sent_after sent core (mark.Closed batch calls) = put sent core (put (sent core) batch calls)
sent_after sent core _ = sent

-- The entries of marks with their cores, where these batches have gone off.
abbrev pub history_from : Sent → List (ℕ × StampedMark) → List Entry
history_from sent [] = []
history_from sent (first ∷ marks) = entries_of sent first.1.mark ++ history_from (sent_after sent first.0 first.1.mark) marks

-- The history of the marks of a run, and of steps from the start, where main is in this slot of core 0.
abbrev pub history_of : List (ℕ × StampedMark) → List Entry
history_of marks = history_from (λ core batch. []) marks

abbrev pub history : Machine → ℕ → List Step → Option (List Entry)
history machine slot steps = option_map (λ world. history_of world.marks) (global_run machine slot steps)
