use Rattle.gr_stands_parts.proofs.Parts as parts
use Rattle.gr_stands_parts.proofs.laws.runs_are_histories.Goals as goal

pub returns-clause-parts : goal.returns-clause-parts
returns-clause-parts c = parts.parts_are_invariant

pub returns-clause-runs : goal.returns-clause-runs
returns-clause-runs c = parts.runs_are_histories

pub returns-clause-bounds : goal.returns-clause-bounds
returns-clause-bounds c = parts.runs_stay_in_bounds
