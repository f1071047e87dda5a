use Rattle.std.proofs.Common.{ap, ◌∙◌}
use Rattle.std.specs.Option.{option_map}
use Rattle.gr_lang.specs.declared.action.Reply.{Reply}
use Rattle.gr_slots.specs.Held.{resumed_by, to_open}
use Rattle.gr_slots.specs.SlotView.{held_in}
use Rattle.gr_runs.proofs.Opened.{changed_and_resumed}
use Rattle.gr_runs.proofs.scopes.go_on_in.Goals as goal

pub returns : goal.returns
returns c =
    let held = held_in c.args.slots.now in
    changed_and_resumed c.args.steps (to_open c.args.scope) held (held_in c.open.new.self) (held_in c.resume.new.self) c.args.slot c.nothing.result c.in_ok-open.ensures c.in_ok-resume.ensures
    ∙ ap (λ (reply : Reply). resumed_by c.args.steps held c.args.slot reply (option_map (to_open c.args.scope) (held.tasks.slots c.args.slot))) c.nothing.ensures
