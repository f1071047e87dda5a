-- Machines whose clocks tick: how far a step raises the clock of its core.
use Rattle.std.specs.Prelude.{◌≡◌, ℕ, ◌+◌, ◌<◌, max, Option, Some, None}
use Rattle.gr_merge.specs.Machines.{Went, Machine}

-- A step is made at one of so many cores, with its clock below the limit. It raises the clock by one; where it takes a packet, from the greater of the
-- clock and the packet's stamp. A packet that it ships is stamped with the clock after it.
pub record IsTicking {State Entry Packet Mark : Type 0} (machine : Machine State Entry Packet Mark) (time : State → ℕ) (cores limit : ℕ) : Type 0 where
  pub below : (core : ℕ) (state : State) (entry : Entry) (taken : Option Packet) (went : Went State Packet Mark)
      → machine.step core state entry taken ≡ Some went → (core < cores) × (time state < limit)
  pub alone : (core : ℕ) (state : State) (entry : Entry) (went : Went State Packet Mark)
      → machine.step core state entry None ≡ Some went → time went.state ≡ time state + 1
  pub taking : (core : ℕ) (state : State) (entry : Entry) (packet : Packet) (went : Went State Packet Mark)
      → machine.step core state entry (Some packet) ≡ Some went → time went.state ≡ max (time state) (machine.stamp packet) + 1
  pub shipping : (core : ℕ) (state : State) (entry : Entry) (packet : Packet) (went : Went State Packet Mark)
      → machine.step core state entry None ≡ Some went → went.packet ≡ Some packet → machine.stamp packet ≡ time went.state
