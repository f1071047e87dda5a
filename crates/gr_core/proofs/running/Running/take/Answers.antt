use Rattle.std.proofs.Common.{ℕ, List, [], ap, ◌∙◌}
use Rattle.std.specs.Prelude.{max}
use Rattle.std.proofs.lemmas.Result.{on_ok_weaker}
use Rattle.gr_view.specs.Places.{at_place}
use Rattle.gr_machine.specs.declared.event.Event.TheVariants as event
use Rattle.gr_core.specs.CoreView.{run_in}
use Rattle.gr_core.specs.EntryWords.{noted}
use Rattle.gr_core.proofs.Crossings.{take_made}
use Rattle.gr_core.proofs.running.Running.take.Goals as goal

pub returns-clause-made : goal.returns-clause-made
returns-clause-made c =
    on_ok_weaker _ (λ e. take_made (run_in c.args.self.now) (run_in c.tick.new.self) (run_in c.deliver.new.self) (run_in c.note.new.self) c.args.from c.max.result
    c.args.packet (at_place [] c.keep.new.lists.items) c.requires (c.max.ensures ∙ ap (λ (clock : ℕ). max c.args.self.now.state.clock clock) c.clock.ensures)
    c.in_ok-tick.ensures c.in_ok-deliver.ensures c.in_ok-keep.ensures
    (e ∙ ap (λ (slots : List ℕ). noted (record (run_in c.deliver.new.self) { received = at_place [] c.keep.new.lists.items }) (event.Take c.args.from) slots)
    c.new.ensures))
    c.note.ensures
