use Rattle.std.proofs.Common.{refl}
use Rattle.gr_view.proofs.Puts.{put_at, put_other, put_put}
use Rattle.gr_view.proofs.laws.puts_are_read.Goals as goal

pub returns-clause-read : goal.returns-clause-read
returns-clause-read g c = λ f number value. put_at f number value number refl

pub returns-clause-others : goal.returns-clause-others
returns-clause-others g c = λ f number other value n. put_other f number value other n

pub returns-clause-twice : goal.returns-clause-twice
returns-clause-twice g c = λ f number one other. put_put f number one other
