use Rattle.gr_plain.proofs.Histories.{after_append}
use Rattle.gr_plain.proofs.laws.after_one_more.Goals as goal

pub returns : goal.returns
returns c = after_append
