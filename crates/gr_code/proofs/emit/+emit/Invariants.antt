use Rattle.std.proofs.Common.{◌≡◌, ◌<◌, ◌≤◌, ◌++◌, length, map, drop}
use Rattle.gr_lang.specs.Next.{runs}
use Rattle.gr_code.specs.Points.{point_at}
use Rattle.gr_code.specs.EmitWords.{Emitted}
use Rattle.gr_code.proofs.emit.+emit.Given as goal

abbrev pub invariant-emit_block-loop-i : goal.invariant-emit_block-loop-i
invariant-emit_block-loop-i l = record {
  within : l.i ≤ length l.block;
  place : l.at < length l.points.points;
  more : length l.initial.points.points ≤ length l.points.points;
  names : (point_at l.points.points l.at).names ≡ map (λ n. n.now) l.locals;
  emitted : Emitted l.program (map (λ n. n.now) l.locals) l.initial.points l.points (runs (drop l.i l.block) ++ (point_at l.initial.points.points l.next).todo) l.at;
}

abbrev pub decreases-emit_block-loop-i : goal.decreases-emit_block-loop-i
decreases-emit_block-loop-i l = l.i
