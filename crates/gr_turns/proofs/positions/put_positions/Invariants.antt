use Rattle.std.proofs.Common.{◌≡◌, ℕ, ◌==◌, drop}
use Rattle.std.specs.Prelude.{◌||◌}
use Rattle.std.specs.List.{list_any}
use Rattle.gr_turns.specs.LineView.{is_among}
use Rattle.gr_turns.proofs.positions.put_positions.Given as goal

abbrev pub invariant-loop-pair : goal.invariant-loop-pair
invariant-loop-pair l = (position : ℕ) → (is_among l.positions.keys position || list_any (λ pair. pair.0 == position) (drop l.pair-index l.puts)) ≡ list_any (λ pair. pair.0 == position) l.puts
