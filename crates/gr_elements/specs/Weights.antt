-- Messages of the elements of a vector, the puts and gets of its turns with their answers, counted by position; and what a turn has of each position.
use Rattle.std.specs.Prelude.{ℕ, ◌==◌, ◌&&◌, if◌then◌else◌, Option, Some, None}
use Rattle.std.specs.Option.{option_len}
use Rattle.gr_lang.specs.Expressions.{number_of}
use Rattle.gr_msg.specs.declared.message.Msg.{Msg}
use Rattle.gr_msg.specs.declared.message.Msg.TheVariants as msg
use Rattle.gr_machine.specs.States.{Turn}

-- Messages

-- 1 where a message of this vector and position is one of that vector and position.
abbrev pub is_that : ℕ → ℕ → ℕ → ℕ → ℕ
is_that vector position number at = if vector == number && position == at then 1 else 0

-- 1 for a message of an element of the vector.
abbrev pub elements : ℕ → ℕ → ℕ → Msg → ℕ
elements number from to (msg.ElemPut vector position word) = number_of (vector == number)
elements number from to (msg.ElemGet vector position) = number_of (vector == number)
elements number from to (msg.ElemAck vector position got) = number_of (vector == number)
elements number from to _ = 0

-- 1 for a put at the position, and for its answer.
abbrev pub putting : ℕ → ℕ → ℕ → ℕ → Msg → ℕ
putting number at from to (msg.ElemPut vector position word) = is_that vector position number at
putting number at from to (msg.ElemAck vector position None) = is_that vector position number at
putting number at from to _ = 0

-- 1 for a get at the position, and for its answer.
abbrev pub getting : ℕ → ℕ → ℕ → ℕ → Msg → ℕ
getting number at from to (msg.ElemGet vector position) = is_that vector position number at
getting number at from to (msg.ElemAck vector position (Some word)) = is_that vector position number at
getting number at from to _ = 0

-- 1 for a message that has the word of the position with it.
abbrev pub carrying : ℕ → ℕ → ℕ → ℕ → Msg → ℕ
carrying number at from to (msg.ElemPut vector position word) = is_that vector position number at
carrying number at from to (msg.ElemAck vector position (Some word)) = is_that vector position number at
carrying number at from to _ = 0

-- The puts of a vector come before its gets.
abbrev pub is_put : ℕ → Msg → ℕ
is_put number (msg.ElemPut vector position word) = number_of (vector == number)
is_put number _ = 0

abbrev pub is_get : ℕ → Msg → ℕ
is_get number (msg.ElemGet vector position) = number_of (vector == number)
is_get number _ = 0

-- Turns

abbrev pub of_turn : (Turn → ℕ) → Option Turn → ℕ
of_turn weight None = 0
of_turn weight (Some turn) = weight turn

-- How many elements aren't answered; and 1 for a word that is still to be put at the position, one that is still to be got, and one that was got.
abbrev pub left_in : Turn → ℕ
left_in turn = turn.left

abbrev pub puts_in : ℕ → Turn → ℕ
puts_in at turn = number_of (turn.puts at)

abbrev pub gets_in : ℕ → Turn → ℕ
gets_in at turn = number_of (turn.gets at)

abbrev pub answers_in : ℕ → Turn → ℕ
answers_in at turn = option_len (turn.answers at)
