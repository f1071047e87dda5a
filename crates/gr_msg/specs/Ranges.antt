-- What a message and a packet may say: the ranges of their numbers.
use Rattle.std.specs.Prelude.{◌≡◌, ℕ, ◌^◌, ◌<◌, ◌≤◌, nat_le, true, MatchBool, List, length, All, Option, Some, None}
use Rattle.gr_syntax.specs.declared.limits.TheConstants.{MAX_CORES, MAX_OBJECTS, MAX_PARAMS, MAX_TASKS}
use Rattle.gr_lang.specs.declared.action.TaskId.{TaskId}
use Rattle.gr_lang.specs.declared.action.Effect.{Effect}
use Rattle.gr_lang.specs.declared.action.Effect.TheVariants as effect
use Rattle.gr_msg.specs.declared.message.ScopeId.{ScopeId}
use Rattle.gr_msg.specs.declared.message.Unit.{Unit as WorkUnit}
use Rattle.gr_msg.specs.declared.message.Unit.TheVariants as unit
use Rattle.gr_msg.specs.declared.message.Msg.{Msg}
use Rattle.gr_msg.specs.declared.message.Msg.TheVariants as msg
use Rattle.gr_msg.specs.declared.opened.Opened.{Opened}
use Rattle.gr_msg.specs.declared.opened.TheConstants.{MAX_CLOCK, MAX_MESSAGES}
use Rattle.gr_msg.specs.Parts.{is_object, words_of}

-- A word has 64 bits.
abbrev pub IsWord : ℕ → Type 0
IsWord n = n < 2 ^ 64

-- The name of a task.
abbrev pub IsTask : TaskId → Type 0
IsTask id = (id.core < MAX_CORES) × IsWord id.number

-- The name of a scope.
abbrev pub IsScope : ScopeId → Type 0
IsScope scope = (scope.core < MAX_CORES) × IsWord scope.number

-- The word of an option, where there is one.
abbrev pub IsFound : Option ℕ → Type 0
IsFound None = Unit {0}
IsFound (Some word) = IsWord word

-- What a unit's work is: a task of the text with its arguments, in a scope, for a core.
pub record IsWork (target : ℕ) (args : List ℕ) (scope : ScopeId) (origin : ℕ) : Type 0 where
  pub task : target < MAX_TASKS
  pub words : All IsWord args
  pub home : IsScope scope
  pub start : origin < MAX_CORES

-- A chunk has an index, and room for it before its arguments.
abbrev pub IsUnit : WorkUnit → Type 0
IsUnit (unit.Single target args scope origin id) = IsWork target args scope origin × (length args ≤ MAX_PARAMS) × IsTask id
IsUnit (unit.Chunk target args scope origin owner lo hi grain) =
    IsWork target args scope origin × (length args < MAX_PARAMS) × IsTask owner × (lo < hi) × IsWord hi × (1 ≤ grain) × IsWord grain

-- The word and the reducer of an effect, where it has them.
abbrev pub IsEffect : Effect → Type 0
IsEffect effect.Keep = Unit {0}
IsEffect (effect.Present word) = IsWord word
IsEffect effect.Absent = Unit {0}
IsEffect (effect.Fold reducer word) = (reducer < 8) × IsWord word

-- The operations have the numbers 1 to 7, and a word that one doesn't have is 0.
pub record IsRequest (operation x y z : ℕ) : Type 0 where
  pub some : 1 ≤ operation
  pub most : operation ≤ 7
  pub first : IsWord x
  pub second : MatchBool (nat_le 2 (words_of operation)) (IsWord y) (y ≡ 0)
  pub third : MatchBool (nat_le 3 (words_of operation)) (IsWord z) (z ≡ 0)

-- The number of a vector.
abbrev pub IsVector : ℕ → Type 0
IsVector vector = vector < MAX_OBJECTS

-- What a message of each kind may say.
abbrev pub Fits : Msg → Type 0
Fits (msg.Request slot id operation x y z) = IsWord slot × IsTask id × IsRequest operation x y z
Fits (msg.Reply slot id first second) = IsWord slot × IsTask id × IsWord first × IsWord second
Fits (msg.Spawn unit) = IsUnit unit
Fits (msg.Enrol scope) = IsScope scope
Fits (msg.EnrolAck scope) = IsScope scope
Fits (msg.Complete scope count) = IsScope scope × (1 ≤ count) × IsWord count
Fits (msg.Leave scope) = IsScope scope
Fits msg.StealAsk = Unit {0}
Fits (msg.StealGive unit) = IsUnit unit
Fits (msg.Batch object key effect batch) = (is_object object ≡ true) × IsWord key × IsEffect effect × IsWord batch
Fits (msg.BatchReply batch before) = IsWord batch × IsFound before
Fits (msg.Turn vector) = IsVector vector
Fits (msg.Grant vector head tail) = IsVector vector × (head ≤ tail) × IsWord tail
Fits (msg.Done vector head tail) = IsVector vector × (head ≤ tail) × IsWord tail
Fits (msg.ElemPut vector position word) = IsVector vector × IsWord position × IsWord word
Fits (msg.ElemGet vector position) = IsVector vector × IsWord position
Fits (msg.ElemAck vector position got) = IsVector vector × IsWord position × IsFound got

-- The clock and the number of messages are in their ranges, and each message fits.
pub record IsPacket (packet : Opened) : Type 0 where
  pub clock : packet.clock ≤ MAX_CLOCK
  pub some : 1 ≤ length packet.messages
  pub most : length packet.messages ≤ MAX_MESSAGES
  pub fit : All Fits packet.messages
