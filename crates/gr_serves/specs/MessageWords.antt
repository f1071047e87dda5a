-- Kinds of messages that are served together, for private functions.
use Rattle.std.specs.Prelude.{⊤}
use Rattle.gr_msg.specs.declared.message.Msg.{Msg}
use Rattle.gr_msg.specs.declared.message.Msg.TheVariants as msg

-- A requested call or the reply to one.
abbrev pub IsOfCalls : Msg → Type 0
IsOfCalls (msg.Request slot id operation x y z) = ⊤
IsOfCalls (msg.Reply slot id first second) = ⊤
IsOfCalls _ = ⊥

-- A batch or the reply to one.
abbrev pub IsOfBatches : Msg → Type 0
IsOfBatches (msg.Batch object key effect batch) = ⊤
IsOfBatches (msg.BatchReply batch before) = ⊤
IsOfBatches _ = ⊥

-- What is sent for a turn at a vector.
abbrev pub IsOfTurns : Msg → Type 0
IsOfTurns (msg.Turn vector) = ⊤
IsOfTurns (msg.Grant vector head tail) = ⊤
IsOfTurns (msg.Done vector head tail) = ⊤
IsOfTurns (msg.ElemPut vector position word) = ⊤
IsOfTurns (msg.ElemGet vector position) = ⊤
IsOfTurns (msg.ElemAck vector position got) = ⊤
IsOfTurns _ = ⊥
