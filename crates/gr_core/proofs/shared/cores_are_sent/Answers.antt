use denote.Param.Send.{sendable}
use Rattle.gr_core.proofs.Handing.{core_send}
use Rattle.gr_core.proofs.shared.cores_are_sent.Goals as goal

pub send-requires-send-T : goal.send-requires-send-T
send-requires-send-T c κs = search (sendable, core_send)
