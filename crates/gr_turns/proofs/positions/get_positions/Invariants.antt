use Rattle.std.proofs.Common.{◌≡◌, ℕ, ◌==◌, drop}
use Rattle.std.specs.Prelude.{◌||◌}
use Rattle.std.specs.List.{list_any}
use Rattle.gr_turns.specs.LineView.{is_among}
use Rattle.gr_turns.proofs.positions.get_positions.Given as goal

abbrev pub invariant-loop-get : goal.invariant-loop-get
invariant-loop-get l = (position : ℕ) → (is_among l.positions.keys position || list_any (λ other. other == position) (drop l.get-index l.gets)) ≡ list_any (λ other. other == position) l.gets
