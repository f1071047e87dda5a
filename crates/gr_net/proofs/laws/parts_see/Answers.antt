use Rattle.gr_net.proofs.Views.{see_event, see_shipped, see_taken}
use Rattle.gr_net.proofs.laws.parts_see.Goals as goal

pub returns-clause-outcomes : goal.returns-clause-outcomes
returns-clause-outcomes g c messages of pick join join_seen seen world me core outcome = see_event messages of pick join join_seen seen world me core outcome

pub returns-clause-ships : goal.returns-clause-ships
returns-clause-ships g c messages of pick world me dest size packet is = see_shipped messages of pick world me dest size packet is

pub returns-clause-takes : goal.returns-clause-takes
returns-clause-takes g c messages of pick world me from packets = see_taken messages of pick world me from packets
