use denote.Param.Send.{sendable}
use Rattle.std.proofs.result.Result.TheSendSync as result
use Rattle.std.proofs.alloc.AllocError.TheSendSync as error
use Rattle.gr_core.proofs.Handing.{core_send}
use Rattle.gr_round.proofs.rounds.slices.Goals as goal

pub map_vec-requires-send-J : goal.map_vec-requires-send-J
map_vec-requires-send-J g c κs within = search (sendable, core_send) depth 20

pub map_vec-requires-send-X : goal.map_vec-requires-send-X
map_vec-requires-send-X g c κs within = search (sendable, result.the_field_send, error.the_field_send, core_send) depth 20
