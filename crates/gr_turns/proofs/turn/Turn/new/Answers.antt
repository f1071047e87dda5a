use Rattle.std.proofs.Common.{arith, length, ◌≡◌, ◌+◌}
use Rattle.gr_turns.proofs.Begun.{turn_made}
use Rattle.gr_turns.proofs.turn.Turn.new.Goals as goal

pub returns : goal.returns
returns c =
    let plan = c.args.plan.now in
    let left : c.in-Some.left ≡ length plan.puts + length plan.gets = omega (arith, c.in-Some.ensures) in
    turn_made c.args.calls c.args.ends plan c.in_ok-puts.puts.keys c.in_ok-gets.gets.keys c.in-Some.left c.new.result.entries
    (rw c.as_slice-2.ensures at c.in_ok-puts.ensures)
    (rw c.as_slice-3.ensures at c.in_ok-gets.ensures)
    left
    c.new.ensures.empty
