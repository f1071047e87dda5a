-- The bytes of messages and packets: one format for each kind of message, and that of packets.
use Rattle.std.specs.Prelude.{ℕ, ◌==◌, nat_le, ◌||◌, Bool, if◌then◌else◌}
use Rattle.std.specs.Int.{is_in_range}
use Rattle.gr_msg.specs.declared.message.Msg.{Msg}
use Rattle.gr_msg.specs.declared.message.Msg.TheVariants as msg
use Rattle.gr_msg.specs.declared.opened.Opened.{Opened}
use Rattle.gr_msg.specs.declared.opened.TheConstants.{MAX_CLOCK, MAX_MESSAGES}
use Rattle.gr_format.specs.Formats.{Format, whole, field, ◌>>=◌, ranged, times}
use Rattle.gr_msg.specs.Parts.{greatest, byte, word, any_word, used, object, vector, task_id, scope_id, optional, an_effect, words_of, work_unit}

-- A request: the slot and the task, the operation, and its words: the address, count, place or printed word; the word or the old word; the new word.
unfoldable pub request : Format Msg
request = do
  slot ← any_word
  id ← task_id
  operation ← byte 1 7
  x ← any_word
  y ← used (nat_le 2 (words_of operation))
  z ← used (nat_le 3 (words_of operation))
  whole (msg.Request slot id operation x y z)

-- A reply: the slot and the task, and its two words.
unfoldable pub reply : Format Msg
reply = do
  slot ← any_word
  id ← task_id
  first ← any_word
  second ← any_word
  whole (msg.Reply slot id first second)

-- Work for the core that takes it.
unfoldable pub spawn : Format Msg
spawn = do
  unit ← work_unit
  whole (msg.Spawn unit)

-- An enrolment in a scope.
unfoldable pub enrol : Format Msg
enrol = do
  scope ← scope_id
  whole (msg.Enrol scope)

-- The answer to it.
unfoldable pub enrol_ack : Format Msg
enrol_ack = do
  scope ← scope_id
  whole (msg.EnrolAck scope)

-- So many tasks of a scope have ended, at least one.
unfoldable pub complete : Format Msg
complete = do
  scope ← scope_id
  count ← word 1 greatest
  whole (msg.Complete scope count)

-- A core leaves a scope.
unfoldable pub leave : Format Msg
leave = do
  scope ← scope_id
  whole (msg.Leave scope)

-- A unit for the core that asked.
unfoldable pub steal_give : Format Msg
steal_give = do
  unit ← work_unit
  whole (msg.StealGive unit)

-- A batch: the object, the key, the effect and the batch's number.
unfoldable pub batch : Format Msg
batch = do
  owner ← object
  key ← any_word
  effect ← an_effect
  number ← any_word
  whole (msg.Batch owner key effect number)

-- What stood under the key of a batch before it.
unfoldable pub batch_reply : Format Msg
batch_reply = do
  number ← any_word
  before ← optional
  whole (msg.BatchReply number before)

-- A question for a turn at a vector.
unfoldable pub turn : Format Msg
turn = do
  number ← vector
  whole (msg.Turn number)

-- A turn, with the vector's head and tail; the head is at most the tail.
unfoldable pub grant : Format Msg
grant = do
  number ← vector
  head ← any_word
  tail ← word head greatest
  whole (msg.Grant number head tail)

-- The end of a turn, with the head and tail that it left.
unfoldable pub done : Format Msg
done = do
  number ← vector
  head ← any_word
  tail ← word head greatest
  whole (msg.Done number head tail)

-- A word for a position of a vector.
unfoldable pub elem_put : Format Msg
elem_put = do
  number ← vector
  position ← any_word
  element ← any_word
  whole (msg.ElemPut number position element)

-- A question for the word at a position.
unfoldable pub elem_get : Format Msg
elem_get = do
  number ← vector
  position ← any_word
  whole (msg.ElemGet number position)

-- The answer of a position.
unfoldable pub elem_ack : Format Msg
elem_ack = do
  number ← vector
  position ← any_word
  got ← optional
  whole (msg.ElemAck number position got)

-- The kinds of messages have the numbers 1 to 9 and 11 to 18.
abbrev pub is_kind : ℕ → Bool
is_kind number = is_in_range 1 9 number || is_in_range 11 18 number

-- What stands behind the kind of a message.
unfoldable pub of_kind : ℕ → Format Msg
of_kind number =
    if number == 1 then request else (
    if number == 2 then reply else (
    if number == 3 then spawn else (
    if number == 4 then enrol else (
    if number == 5 then enrol_ack else (
    if number == 6 then complete else (
    if number == 7 then leave else (
    if number == 8 then whole msg.StealAsk else (
    if number == 9 then steal_give else (
    if number == 11 then batch else (
    if number == 12 then batch_reply else (
    if number == 13 then turn else (
    if number == 14 then grant else (
    if number == 15 then elem_put else (
    if number == 16 then elem_get else (
    if number == 17 then elem_ack else done)))))))))))))))

-- The kind of a message.
unfoldable pub kind : Format ℕ
kind = field 1 is_kind whole

-- A message: its kind, and what stands behind it.
unfoldable pub message : Format Msg
message = do
  number ← kind
  of_kind number

-- A packet: its clock, the number of its messages, and these.
unfoldable pub packet : Format Opened
packet = do
  clock ← word 0 MAX_CLOCK
  count ← ranged 2 1 MAX_MESSAGES
  messages ← times count message
  whole (record { clock = clock; messages = messages })
