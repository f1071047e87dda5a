use Rattle.gr_stands_finds.proofs.Finds.{nothing_finds_nothing, messages_name_vectors}
use Rattle.gr_stands_finds.proofs.laws.nothing_finds_nothing.Goals as goal

pub returns-clause-finds : goal.returns-clause-finds
returns-clause-finds c = nothing_finds_nothing

pub returns-clause-names : goal.returns-clause-names
returns-clause-names c = messages_name_vectors
