use Rattle.gr_event.proofs.ScopePuts.{put_scope_at, put_scope_other, put_scope_twice}
use Rattle.gr_event.proofs.laws.scopes_are_put.Goals as goal

pub returns-clause-read : goal.returns-clause-read
returns-clause-read g c = λ f scope value. put_scope_at f scope value

pub returns-clause-others : goal.returns-clause-others
returns-clause-others g c = λ f scope other value h. put_scope_other f scope value other h

pub returns-clause-twice : goal.returns-clause-twice
returns-clause-twice g c = λ f scope one other. put_scope_twice f scope one other
