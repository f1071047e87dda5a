use Rattle.gr_stands_finds.proofs.Released.{releases_at_once, arrivals_pass_at_once}
use Rattle.gr_stands_finds.proofs.laws.released_at_once.Goals as goal

pub returns-clause-leaves : goal.returns-clause-leaves
returns-clause-leaves c = releases_at_once

pub returns-clause-arrives : goal.returns-clause-arrives
returns-clause-arrives c = arrivals_pass_at_once
