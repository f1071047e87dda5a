use Rattle.std.proofs.Common.{◌≡◌, length, arith, rules}
use Rattle.gr_cores.proofs.Worlds.{stepped_same}
use Rattle.gr_cores.proofs.world.step_at.Goals as goal

pub returns : goal.returns
returns g c =
    let before = c.args.cores.items in
    let rest = c.remove-core.new.self.items in
    let after = c.insert.new.self.items in
    let removed = c.remove-core.ensures in
    let made = c.in_ok-core.ensures in
    let back = c.in_ok-insert.ensures in
    let len : length after ≡ length before = omega (arith, back.len, c.insert.new.self.ok.0, removed.len, c.remove-core.new.self.ok.0, c.args.cores.ok.0) in
    stepped_same before rest after c.args.at c.remove-core.result c.in_ok-core.field-0.core c.in_ok-core.field-0.done c.args.event c.requires.within len
    removed.by_index.0 removed.by_index.1 back.by_index.1 (λ d. back.by_index.0 d (search rules)) (λ k d far. back.by_index.2 k d (search rules) far)
    removed.value made.made made.rings
