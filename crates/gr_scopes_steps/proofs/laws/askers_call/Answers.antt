use Rattle.gr_scopes_steps.proofs.Pieces as pieces
use Rattle.gr_scopes_steps.proofs.laws.askers_call.Goals as goal

pub returns : goal.returns
returns c = pieces.askers_call
