use Rattle.std.proofs.Common.{ℕ, List, [], ap, ◌∙◌}
use Rattle.std.specs.Prelude.{min}
use Rattle.std.proofs.lemmas.Result.{on_ok_weaker}
use Rattle.gr_view.specs.Places.{at_place}
use Rattle.gr_machine.specs.declared.setup.Setup.{Setup}
use Rattle.gr_machine.specs.declared.event.Event.TheVariants as event
use Rattle.gr_core.specs.CoreView.{run_in}
use Rattle.gr_core.specs.EntryWords.{noted}
use Rattle.gr_core.proofs.Crossings.{ship_count, ship_made}
use Rattle.gr_core.proofs.running.Running.ship.Goals as goal

pub returns-clause-made : goal.returns-clause-made
returns-clause-made c =
    on_ok_weaker _ (λ e. ship_made (run_in c.args.self.now) (run_in c.count_packet.new.self) (run_in c.tick.new.self) (run_in c.unload.new.self) (run_in c.note.new.self)
    c.args.dest c.min-count.result c.args.packet (at_place [] c.keep.new.lists.items) c.requires.enabled c.requires.packet
    (ship_count (run_in c.args.self.now) c.args.dest c.min-count.result c.args.packet c.requires.packet
    (c.min-count.ensures ∙ ap (λ (setup : Setup). min setup.limit c.waiting.result) c.setup-setup.ensures.value
    ∙ ap (λ (count : ℕ). min (run_in c.args.self.now).seen.machine.setup.limit count) c.waiting.ensures))
    c.in_ok-count_packet.ensures c.in_ok-tick.ensures c.unload.ensures c.in_ok-keep.ensures
    (e ∙ ap (λ (slots : List ℕ). noted (record (run_in c.unload.new.self) { sent = at_place [] c.keep.new.lists.items }) (event.Ship c.args.dest) slots)
    c.new.ensures))
    c.note.ensures
