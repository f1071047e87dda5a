-- The parts of messages as bytes: one format for each. A number takes one byte or eight.
use Rattle.std.specs.Prelude.{ℕ, ◌+◌, ◌-◌, ◌^◌, ◌==◌, nat_lt, ◌||◌, Bool, if◌then◌else◌, List, Option, Some, None}
use Rattle.gr_syntax.specs.declared.limits.TheConstants.{HEAP, MAX_CORES, MAX_OBJECTS, MAX_PARAMS, MAX_TASKS}
use Rattle.gr_lang.specs.declared.action.TaskId.{TaskId}
use Rattle.gr_lang.specs.declared.action.Effect.{Effect}
use Rattle.gr_lang.specs.declared.action.Effect.TheVariants as effect
use Rattle.gr_msg.specs.declared.message.ScopeId.{ScopeId}
use Rattle.gr_msg.specs.declared.message.Unit.{Unit as WorkUnit}
use Rattle.gr_msg.specs.declared.message.Unit.TheVariants as unit
use Rattle.gr_format.specs.Formats.{Format, whole, field, ◌>>=◌, ranged, times}

-- The greatest word.
abbrev pub greatest : ℕ
greatest = 2 ^ 64 - 1

-- A number of one byte, from the least to the most.
abbrev pub byte : ℕ → ℕ → Format ℕ
byte = ranged 1

-- A number of eight bytes.
abbrev pub word : ℕ → ℕ → Format ℕ
word = ranged 8

abbrev pub any_word : Format ℕ
any_word = word 0 greatest

-- A word that is 0 where it isn't used.
abbrev pub used : Bool → Format ℕ
used is_used = word 0 (if is_used then greatest else 0)

-- The number of a core.
abbrev pub core : Format ℕ
core = byte 0 (MAX_CORES - 1)

-- Whether an object or the heap has this number.
abbrev pub is_object : ℕ → Bool
is_object number = nat_lt number MAX_OBJECTS || number == HEAP

-- The number of an object, or of the heap.
unfoldable pub object : Format ℕ
object = field 1 is_object whole

-- The number of a vector.
abbrev pub vector : Format ℕ
vector = byte 0 (MAX_OBJECTS - 1)

-- A word that is greater than this one.
abbrev pub above : ℕ → Format ℕ
above least = word (least + 1) greatest

-- The name of a task: its core, and the number that it gave.
unfoldable pub task_id : Format TaskId
task_id = do
  home ← core
  number ← any_word
  whole (record { core = home; number = number })

-- The name of a scope: its core, and the number that it gave.
unfoldable pub scope_id : Format ScopeId
scope_id = do
  home ← core
  number ← any_word
  whole (record { core = home; number = number })

-- A flag, and the word that stands behind it where it is 1.
abbrev pub flagged : ℕ → ℕ → Option ℕ
flagged flag word = if flag == 1 then Some word else None

-- An option: its flag and its word.
unfoldable pub optional : Format (Option ℕ)
optional = do
  flag ← byte 0 1
  found ← used (flag == 1)
  whole (flagged flag found)

-- An effect by its tag: 0 keeps, 1 puts a word, 2 removes, 3 folds.
abbrev pub effect_of : ℕ → ℕ → ℕ → Effect
effect_of tag reducer word =
    if tag == 0 then effect.Keep else (
    if tag == 1 then effect.Present word else (
    if tag == 2 then effect.Absent else effect.Fold reducer word))

-- The greatest reducer of an effect of this tag; 0 where the tag has none.
abbrev pub last_reducer : ℕ → ℕ
last_reducer tag = if tag == 3 then 7 else 0

-- An effect: its tag, its reducer and its word.
unfoldable pub an_effect : Format Effect
an_effect = do
  tag ← byte 0 3
  reducer ← byte 0 (last_reducer tag)
  operand ← used (tag == 1 || tag == 3)
  whole (effect_of tag reducer operand)

-- How many words a requested operation has: 1 read, 2 write, 3 add, 4 cas, 5 alloc, 6 free, 7 print.
abbrev pub words_of : ℕ → ℕ
words_of operation = if operation == 4 then 3 else (if operation == 2 || operation == 3 then 2 else 1)

-- The end of a single task: its id.
unfoldable pub single : ℕ → List ℕ → ScopeId → ℕ → Format WorkUnit
single target args scope origin = do
  id ← task_id
  whole (unit.Single target args scope origin id)

-- The end of a chunk: the owner of the loop, its indices from lo to below hi, and the grain.
unfoldable pub chunk : ℕ → List ℕ → ScopeId → ℕ → Format WorkUnit
chunk target args scope origin = do
  owner ← task_id
  lo ← any_word
  hi ← above lo
  grain ← word 1 greatest
  whole (unit.Chunk target args scope origin owner lo hi grain)

-- The most arguments of a unit of this tag.
abbrev pub most_args : ℕ → ℕ
most_args tag = if tag == 1 then MAX_PARAMS else MAX_PARAMS - 1

-- The end of a unit of this tag.
unfoldable pub unit_end : ℕ → ℕ → List ℕ → ScopeId → ℕ → Format WorkUnit
unit_end tag target args scope origin = if tag == 1 then single target args scope origin else chunk target args scope origin

-- A unit by its tag: 1 is a single task, 2 a chunk, whose tasks have one argument more.
unfoldable pub work_unit : Format WorkUnit
work_unit = do
  tag ← byte 1 2
  target ← byte 0 (MAX_TASKS - 1)
  count ← byte 0 (most_args tag)
  args ← times count any_word
  scope ← scope_id
  origin ← core
  unit_end tag target args scope origin
