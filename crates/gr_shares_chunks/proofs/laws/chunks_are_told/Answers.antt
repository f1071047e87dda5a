use Rattle.gr_shares_chunks.proofs.Chunks.{chunks_are_told}
use Rattle.gr_shares_chunks.proofs.laws.chunks_are_told.Goals as goal

pub returns : goal.returns
returns c = chunks_are_told
