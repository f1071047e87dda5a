use Rattle.gr_net.proofs.Flights.{flight_shipped, flight_taken}
use Rattle.gr_net.proofs.Acts.{flows}
use Rattle.gr_net.proofs.laws.messages_flow.Goals as goal

pub returns-clause-outcomes : goal.returns-clause-outcomes
returns-clause-outcomes g c messages join weight adds count world me here core got rest outcome bound = flows messages join weight adds count world me here core got rest outcome bound

pub returns-clause-ships : goal.returns-clause-ships
returns-clause-ships g c messages weight count world me dest here there size packet is = flight_shipped messages weight count world me here size dest there packet is

pub returns-clause-takes : goal.returns-clause-takes
returns-clause-takes g c messages weight count world me from here there packets is = flight_taken messages weight count world me here from there packets is
