use Rattle.std.proofs.Common.{◌≡◌, ◌+◌, length, arith, rules}
use Rattle.gr_world.proofs.Apart.{two_met}
use Rattle.gr_world.proofs.meetings.meet_two.Goals as goal

pub returns : goal.returns
returns c =
    let before = c.args.cores.now.items in
    let rest = c.remove-second.new.self.items in
    let after = c.insert.new.self.items in
    let removed = c.remove-second.ensures in
    let met = c.meet.ensures in
    let back = c.in-Ok.ensures in
    let fewer : length rest + 1 ≡ length before = omega (arith, removed.len, c.remove-second.new.self.ok.0, c.args.cores.now.ok.0) in
    let len : length after ≡ length before = omega (arith, back.len, c.insert.new.self.ok.0, removed.len, c.args.cores.now.ok.0) in
    two_met before rest after c.args.one c.args.other c.index_mut.result.now c.remove-second.result c.meet.new.one c.meet.new.other
    c.requires.order.0 c.requires.order.1 fewer len removed.by_index.0 removed.by_index.1 back.by_index.1 (λ d. back.by_index.0 d (search rules))
    (λ k d far. back.by_index.2 k d (search rules) far) c.index_mut.ensures.value removed.value met.one met.other met.looked met.back met.met.0 met.met.1
