use Rattle.gr_stands_contents.proofs.Contents as contents
use Rattle.gr_stands_contents.proofs.laws.contents_stand.Goals as goal

pub returns : goal.returns
returns c = contents.contents_stand
