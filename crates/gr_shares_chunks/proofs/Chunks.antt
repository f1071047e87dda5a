-- The chunk that comes next is one of the part of work.
use Rattle.gr_msg.specs.declared.message.Unit.TheVariants as unit
use Rattle.gr_stands.specs.Worlds.{bodies}
use Rattle.gr_stands_calls.proofs.Queues.{taken_fit}
use Rattle.gr_shares.specs.Loops.{loops_of}
use Rattle.gr_shares.specs.Shares.{ChunkStands, UnitShares}
use Rattle.gr_shares_loops.proofs.Changed.{loops_are_waited_at}
use Rattle.gr_shares_chunks.specs.Laws as laws

pub chunks_are_told : laws.ChunksAreTold
chunks_are_told given names w S me hold here target args scope origin owner lo hi grain is =
    let f : ChunkStands given names (loops_of S) target args scope origin owner lo hi grain =
    (taken_fit (UnitShares given names (loops_of S)) (bodies w me).work.private (bodies w me).work.public (unit.Chunk target args scope origin owner lo hi grain) is (hold.private me here) (hold.public me here)).first in
    let at = loops_are_waited_at S owner f.loop f.waits in (
      record { known = f.known; some = f.some; grained = f.grained },
      record { task = at.task; there = at.there; number = f.loop.number; outer = at.outer; opened = at.opened; named = f.named },
    )
