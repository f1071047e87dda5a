-- What other parts tell of a message that comes first, and of a turn that is at its end.
use Rattle.std.specs.Prelude.{◌≡◌, ℕ, ◌^◌, true, nat_lt, Some}
use Rattle.gr_lang.specs.States.{State}
use Rattle.gr_msg.specs.declared.message.Msg.{Msg}
use Rattle.gr_msg.specs.declared.message.Msg.TheVariants as msg
use Rattle.gr_msg.specs.declared.message.ScopeId.{ScopeId}
use Rattle.gr_event.specs.declared.masters.Master.{Master}
use Rattle.gr_machine.specs.States.{Turn, Vector}
use Rattle.gr_stands.specs.Worlds.{World, bodies}
use Rattle.gr_stands_turns.specs.Turning.{TurnTells}
use Rattle.gr_scopes_stays.specs.Stays.{BatchIsApart}

-- A fact of the part of bounds: fewer than 2^63 cores are active at the master of a scope.
abbrev pub MasterFits : World → ℕ → ScopeId → Type 0
MasterFits world me scope = (master : Master) → (bodies world me).scopes.masters scope ≡ Some master → nat_lt master.active (2 ^ 63) ≡ true

-- Facts of the parts of bounds, of work and of batches: a core that asks can be counted as active; a unit comes that was asked for; and the calls of a batch are
-- in slots of their own.
abbrev pub ServeTells : World → ℕ → ℕ → Msg → Type 0
ServeTells world me from (msg.Enrol scope) = MasterFits world me scope
ServeTells world me from (msg.StealGive unit) = (bodies world me).steals.asked from ≡ true
ServeTells world me from (msg.BatchReply batch before) = BatchIsApart world me batch
ServeTells world me from _ = Unit

-- A fact of the part of turns: a turn of this vector of which nothing is left can be finished.
abbrev pub TurnFinishes : World → State → ℕ → ℕ → Type 0
TurnFinishes world state me number =
    (vector : Vector) (turn : Turn) → (bodies world me).vectors.vectors number ≡ Some vector → vector.turn ≡ Some turn → turn.left ≡ 0
    → TurnTells world state me number turn

-- So it is after a message that may bring a turn to its end.
abbrev pub SettleTells : World → State → ℕ → Msg → Type 0
SettleTells world state me (msg.Grant vector head tail) = TurnFinishes world state me vector
SettleTells world state me (msg.ElemAck vector position got) = TurnFinishes world state me vector
SettleTells world state me _ = Unit
