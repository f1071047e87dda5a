-- The numbers that are written for messages and packets, one after the other.
use Rattle.std.specs.Prelude.{ℕ, List, [], ◌∷◌, ◌++◌, length, map, Option, Some, None}
use Rattle.std.specs.List.{flat_map}
use Rattle.gr_lang.specs.declared.action.TaskId.{TaskId}
use Rattle.gr_lang.specs.declared.action.Effect.{Effect}
use Rattle.gr_lang.specs.declared.action.Effect.TheVariants as effect
use Rattle.gr_msg.specs.declared.message.ScopeId.{ScopeId}
use Rattle.gr_msg.specs.declared.message.Unit.{Unit as WorkUnit}
use Rattle.gr_msg.specs.declared.message.Unit.TheVariants as unit
use Rattle.gr_msg.specs.declared.message.Msg.{Msg}
use Rattle.gr_msg.specs.declared.message.Msg.TheVariants as msg
use Rattle.gr_msg.specs.declared.opened.Opened.{Opened}
use Rattle.gr_format.specs.declared.field.Field.{Field}
use Rattle.gr_format.specs.declared.field.Field.TheVariants.{Byte, Pair, Word}

abbrev pub task_fields : TaskId → List Field
task_fields id = Byte id.core ∷ Word id.number ∷ []

abbrev pub scope_fields : ScopeId → List Field
scope_fields scope = Byte scope.core ∷ Word scope.number ∷ []

abbrev pub option_fields : Option ℕ → List Field
option_fields None = Byte 0 ∷ Word 0 ∷ []
option_fields (Some word) = Byte 1 ∷ Word word ∷ []

abbrev pub effect_fields : Effect → List Field
effect_fields effect.Keep = Byte 0 ∷ Byte 0 ∷ Word 0 ∷ []
effect_fields (effect.Present word) = Byte 1 ∷ Byte 0 ∷ Word word ∷ []
effect_fields effect.Absent = Byte 2 ∷ Byte 0 ∷ Word 0 ∷ []
effect_fields (effect.Fold reducer word) = Byte 3 ∷ Byte reducer ∷ Word word ∷ []

abbrev pub words : List ℕ → List Field
words numbers = map Word numbers

-- The beginning of a unit.
abbrev pub work_fields : ℕ → ℕ → List ℕ → ScopeId → ℕ → List Field
work_fields tag target args scope origin = (Byte tag ∷ Byte target ∷ Byte (length args) ∷ words args) ++ Byte scope.core ∷ Word scope.number ∷ Byte origin ∷ []

abbrev pub single_fields : ℕ → List ℕ → ScopeId → ℕ → TaskId → List Field
single_fields target args scope origin id = work_fields 1 target args scope origin ++ task_fields id

-- The end of a chunk.
abbrev pub loop_fields : TaskId → ℕ → ℕ → ℕ → List Field
loop_fields owner lo hi grain = task_fields owner ++ Word lo ∷ Word hi ∷ Word grain ∷ []

abbrev pub chunk_fields : ℕ → List ℕ → ScopeId → ℕ → TaskId → ℕ → ℕ → ℕ → List Field
chunk_fields target args scope origin owner lo hi grain = work_fields 2 target args scope origin ++ loop_fields owner lo hi grain

abbrev pub unit_fields : WorkUnit → List Field
unit_fields (unit.Single target args scope origin id) = single_fields target args scope origin id
unit_fields (unit.Chunk target args scope origin owner lo hi grain) = chunk_fields target args scope origin owner lo hi grain

abbrev pub with_unit : ℕ → WorkUnit → List Field
with_unit kind unit = Byte kind ∷ unit_fields unit

abbrev pub with_scope : ℕ → ScopeId → List Field
with_scope kind scope = Byte kind ∷ scope_fields scope

abbrev pub batch_fields : ℕ → ℕ → Effect → ℕ → List Field
batch_fields object key effect batch = (Byte 11 ∷ Byte object ∷ Word key ∷ effect_fields effect) ++ Word batch ∷ []

abbrev pub request_fields : ℕ → TaskId → ℕ → ℕ → ℕ → ℕ → List Field
request_fields slot id operation x y z = Byte 1 ∷ Word slot ∷ task_fields id ++ Byte operation ∷ Word x ∷ Word y ∷ Word z ∷ []

abbrev pub reply_fields : ℕ → TaskId → ℕ → ℕ → List Field
reply_fields slot id first second = Byte 2 ∷ Word slot ∷ task_fields id ++ Word first ∷ Word second ∷ []

abbrev pub complete_fields : ScopeId → ℕ → List Field
complete_fields scope count = with_scope 6 scope ++ Word count ∷ []

abbrev pub pair_fields : ℕ → ℕ → ℕ → ℕ → List Field
pair_fields kind vector first second = Byte kind ∷ Byte vector ∷ Word first ∷ Word second ∷ []

abbrev pub position_fields : ℕ → ℕ → List Field
position_fields vector position = Byte 16 ∷ Byte vector ∷ Word position ∷ []

abbrev pub answer_fields : ℕ → ℕ → Option ℕ → List Field
answer_fields vector position got = Byte 17 ∷ Byte vector ∷ Word position ∷ option_fields got

abbrev pub fields : Msg → List Field
fields (msg.Request slot id operation x y z) = request_fields slot id operation x y z
fields (msg.Reply slot id first second) = reply_fields slot id first second
fields (msg.Spawn unit) = with_unit 3 unit
fields (msg.Enrol scope) = with_scope 4 scope
fields (msg.EnrolAck scope) = with_scope 5 scope
fields (msg.Complete scope count) = complete_fields scope count
fields (msg.Leave scope) = with_scope 7 scope
fields msg.StealAsk = Byte 8 ∷ []
fields (msg.StealGive unit) = with_unit 9 unit
fields (msg.Batch object key effect batch) = batch_fields object key effect batch
fields (msg.BatchReply batch before) = Byte 12 ∷ Word batch ∷ option_fields before
fields (msg.Turn vector) = Byte 13 ∷ Byte vector ∷ []
fields (msg.Grant vector head tail) = pair_fields 14 vector head tail
fields (msg.Done vector head tail) = pair_fields 18 vector head tail
fields (msg.ElemPut vector position word) = pair_fields 15 vector position word
fields (msg.ElemGet vector position) = position_fields vector position
fields (msg.ElemAck vector position got) = answer_fields vector position got

abbrev pub packet_fields : Opened → List Field
packet_fields packet = Word packet.clock ∷ Pair (length packet.messages) ∷ flat_map fields packet.messages
