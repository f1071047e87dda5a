-- What the functions that read one line answer, by the fields of the line.
use Rattle.std.specs.Prelude.{ℕ, ◌+◌, ◌-◌, ◌*◌, ◌^◌, ◌≡◌, ◌&&◌, ◌==◌, Bool, true, false, not, if◌then◌else◌, nat_lt, List, [], ◌∷◌, length, map, take, drop, codes, Option, Some, None, Result, Ok, Err, option_map, option_and_then}
use Rattle.std.specs.Borrow.{Bor}
use Rattle.std.specs.Char.{is_ascii_digit}
use Rattle.std.specs.Str.{bytes_eq}
use Rattle.std.specs.List.{after_first, before_first, find, position_or_len, slice_split}
use Rattle.gr_accept.specs.declared.operation.Operation.{Operation}
use Rattle.gr_accept.specs.Operations.{operation_of, reducer_of, argument_count, result_count, takes_reducer}
use Rattle.gr_lang.specs.declared.action.TaskId.{TaskId}
use Rattle.gr_lang.specs.declared.action.How.{How}
use Rattle.gr_lang.specs.declared.action.How.TheVariants as how
use Rattle.gr_lang.specs.declared.action.TrapKind.{TrapKind}
use Rattle.gr_lang.specs.declared.action.TrapKind.TheVariants as trap
use Rattle.gr_lang.specs.Traps.{trap_word}
use Rattle.gr_syntax.specs.Names.{is_name}
use Rattle.gr_hist.specs.declared.fields.LineError.{LineError}
use Rattle.gr_hist.specs.declared.fields.LineError.TheVariants as error
use Rattle.gr_hist.specs.declared.text.NamedEntry.{NamedEntry}
use Rattle.gr_hist.specs.declared.text.NamedEntry.TheVariants as entry
use Rattle.gr_hist.specs.Names.{Bytes, is_object_name}

-- The answer is this value, or `Bad` where there is none. Want of memory says nothing of it.
abbrev pub Gives : {A : Type 0} → Option A → Result A LineError → Type 0
Gives found (Ok value) = found ≡ Some value
Gives found (Err error.Bad) = found ≡ None
Gives found (Err error.OutOfMemory) = Unit {0}

-- The bytes of fields that are lent.
abbrev pub bytes_of : List (Bor Bytes) → List Bytes
bytes_of = map (λ field. field.now)

-- Numbers.

-- The number with one more digit behind it, where it is below 2^64.
abbrev pub digit_after : ℕ → ℕ → Option ℕ
digit_after number byte =
    if is_ascii_digit byte && nat_lt (number * 10 + (byte - 48)) (2 ^ 64) then Some (number * 10 + (byte - 48)) else None

-- The number with these digits behind it.
abbrev pub digits_after : ℕ → Bytes → Option ℕ
digits_after number [] = Some number
digits_after number (byte ∷ bytes) = option_and_then (λ longer. digits_after longer bytes) (digit_after number byte)

-- Whether there is a byte, and no 0 in front of another.
abbrev pub leads : Bytes → Bool
leads [] = false
leads (byte ∷ []) = true
leads (byte ∷ next ∷ bytes) = not (byte == 48)

-- The number that the bytes write.
unfoldable pub number_of : Bytes → Option ℕ
number_of bytes = if leads bytes then digits_after 0 bytes else None

-- A number in front of those behind it.
abbrev pub onto : ℕ → Option (List ℕ) → Option (List ℕ)
onto number = option_map (λ numbers. number ∷ numbers)

-- The numbers that the fields write.
abbrev pub numbers_of : List Bytes → Option (List ℕ)
numbers_of [] = Some []
numbers_of (field ∷ fields) = option_and_then (λ number. onto number (numbers_of fields)) (number_of field)

-- Cutting.

-- What stands before the first such byte, and what stands behind it.
abbrev pub cut_at : ℕ → Bytes → Option (Bytes × Bytes)
cut_at stop bytes =
    if nat_lt (position_or_len (λ byte. byte == stop) bytes) (length bytes)
    then Some (before_first (λ byte. byte == stop) bytes, after_first (λ byte. byte == stop) bytes) else None

-- The fields of a line.
abbrev pub fields_in : Bytes → List Bytes
fields_in = slice_split (λ byte. byte == 32)

-- Single fields.

-- A task's core and number.
abbrev pub id_of_halves : Bytes × Bytes → Option TaskId
id_of_halves halves =
    option_and_then (λ core. option_map (λ number. record { core = core; number = number }) (number_of halves.1)) (number_of halves.0)

-- The task of that name.
abbrev pub id_of : Bytes → Option TaskId
id_of bytes = option_and_then id_of_halves (cut_at 46 bytes)

-- The bytes, where they are a name.
abbrev pub name_of : Bytes → Option Bytes
name_of bytes = if is_name bytes then Some bytes else None

-- The bytes, where calls may name an object so.
abbrev pub object_name_of : Bytes → Option Bytes
object_name_of bytes = if is_object_name bytes then Some bytes else None

abbrev pub traps : List TrapKind
traps = trap.Div ∷ trap.Place ∷ trap.Core ∷ trap.Steps ∷ []

-- The trap that is told by that word.
abbrev pub trap_of : Bytes → Option TrapKind
trap_of word = find (λ kind. bytes_eq word (trap_word kind)) traps

-- The task behind `as`.
abbrev pub child_of : List Bytes → Option TaskId
child_of (sign ∷ child ∷ []) = if bytes_eq sign (codes "as") then id_of child else None
child_of _ = None

-- Calls.

-- The numbers that so many fields write.
abbrev pub counted_of : ℕ → List Bytes → Option (List ℕ)
counted_of count fields = if length fields == count then numbers_of fields else None

-- So many result words, behind `=` if there are any.
abbrev pub reply_of : ℕ → List Bytes → Option (List ℕ)
reply_of count [] = if count == 0 then Some [] else None
reply_of count (sign ∷ fields) = if count == 0 then None else (if bytes_eq sign (codes "=") then counted_of count fields else None)

-- So many numbers, then so many result words.
abbrev pub tail_for : ℕ → ℕ → List Bytes → Option (List ℕ × List ℕ)
tail_for arguments results fields =
    option_and_then (λ numbers. option_map (λ words. (numbers, words)) (reply_of results (drop arguments fields))) (counted_of arguments (take arguments fields))

-- The numbers of an operation, and its result words.
abbrev pub tail_of : Operation → List Bytes → Option (List ℕ × List ℕ)
tail_of op fields = tail_for (argument_count op) (result_count op) fields

-- A call whose reducer is known, if there is one.
abbrev pub call_with : TaskId → Bytes → Operation → Option ℕ → List Bytes → Option NamedEntry
call_with task object op reducer fields = option_map (λ tail. entry.Call task object op reducer tail.0 tail.1) (tail_of op fields)

-- A call whose reducer stands first.
abbrev pub reducing_of : TaskId → Bytes → Operation → List Bytes → Option NamedEntry
reducing_of task object op [] = None
reducing_of task object op (word ∷ fields) = option_and_then (λ reducer. call_with task object op (Some reducer) fields) (reducer_of word)

-- A call.
unfoldable pub call_of : TaskId → Bytes → Operation → List Bytes → Option NamedEntry
call_of task word op fields =
    option_and_then (λ object. if takes_reducer op then reducing_of task object op fields else call_with task object op None fields) (object_name_of word)

-- Tasks that start.

-- The arguments, and the new task.
unfoldable pub args_with : List Bytes → List Bytes → Option (List ℕ × TaskId)
args_with fields last = option_and_then (λ args. option_map (λ child. (args, child)) (child_of last)) (numbers_of fields)

-- The arguments, and the new task, which the last two fields name.
unfoldable pub args_of : List Bytes → Option (List ℕ × TaskId)
args_of fields = if nat_lt (length fields) 2 then None else args_with (take (length fields - 2) fields) (drop (length fields - 2) fields)

-- A start whose way is known: the target, its arguments and the new task.
unfoldable pub start_of : TaskId → How → Bytes → List Bytes → Option NamedEntry
start_of task way target fields = option_and_then (λ name. option_map (λ tail. entry.Spawn task way name tail.0 tail.1) (args_of fields)) (name_of target)

-- A start at a core.
abbrev pub start_at : TaskId → List Bytes → Option NamedEntry
start_at task (core ∷ target ∷ fields) = option_and_then (λ number. start_of task (how.At number) target fields) (number_of core)
start_at task _ = None

-- What stands behind `spawn`.
unfoldable pub spawn_of : TaskId → List Bytes → Option NamedEntry
spawn_of task [] = None
spawn_of task (field ∷ fields) = if bytes_eq field (codes "at") then start_at task fields else start_of task how.Here field fields

-- What stands behind `offer`.
unfoldable pub offer_of : TaskId → List Bytes → Option NamedEntry
offer_of task [] = None
offer_of task (target ∷ fields) = start_of task how.Offer target fields

-- Loops.

-- A loop whose range is known: its grain, its target and the arguments.
unfoldable pub loop_with : TaskId → ℕ → ℕ → Bytes → Bytes → List Bytes → Option NamedEntry
loop_with task lo hi grain target fields =
    option_and_then (λ size. option_and_then (λ name. option_map (λ args. entry.Loop task lo hi size name args) (numbers_of fields)) (name_of target)) (number_of grain)

-- A loop whose range is still to be read.
unfoldable pub loop_over : TaskId → Bytes → Bytes → List Bytes → Option NamedEntry
loop_over task lo hi (grain ∷ target ∷ fields) = option_and_then (λ from. option_and_then (λ to. loop_with task from to grain target fields) (number_of hi)) (number_of lo)
loop_over task lo hi _ = None

-- What stands behind `forall`.
unfoldable pub loop_of : TaskId → List Bytes → Option NamedEntry
loop_of task (lo ∷ hi ∷ sign ∷ fields) = if bytes_eq sign (codes "grain") then loop_over task lo hi fields else None
loop_of task _ = None

-- Entries.

-- What stands behind `print`.
abbrev pub print_of : TaskId → List Bytes → Option NamedEntry
print_of task (word ∷ []) = option_map (λ number. entry.Print task number) (number_of word)
print_of task _ = None

-- What stands behind `finish`.
abbrev pub finish_of : TaskId → List Bytes → Option NamedEntry
finish_of task [] = Some (entry.Finish task)
finish_of task _ = None

-- An entry of one word.
abbrev pub end_of : TaskId → Bytes → Option NamedEntry
end_of task word = if bytes_eq word (codes "pass") then Some (entry.Pass task) else (if bytes_eq word (codes "end") then Some (entry.End task) else None)

-- What stands behind `trap`.
abbrev pub trap_entry : TaskId → Bytes → List Bytes → Option NamedEntry
trap_entry task word [] = option_map (λ kind. entry.Trap task kind) (trap_of word)
trap_entry task word _ = None

-- What stands behind `begin`.
abbrev pub begin_of : TaskId → Bytes → List Bytes → Option NamedEntry
begin_of task index fields = option_and_then (λ number. option_map (λ child. entry.Begin task number child) (child_of fields)) (number_of index)

-- An entry of some words that is no call.
unfoldable pub mark_of : TaskId → Bytes → Bytes → List Bytes → Option NamedEntry
mark_of task word first fields = if bytes_eq word (codes "trap") then trap_entry task first fields else (if bytes_eq word (codes "begin") then begin_of task first fields else None)

-- A call where an operation's word follows.
abbrev pub by_operation : Option Operation → TaskId → Bytes → Bytes → List Bytes → Option NamedEntry
by_operation (Some op) task word first fields = call_of task word op fields
by_operation None task word first fields = mark_of task word first fields

-- An entry whose first word is no keyword.
unfoldable pub other_of : TaskId → Bytes → List Bytes → Option NamedEntry
other_of task word [] = end_of task word
other_of task word (first ∷ fields) = by_operation (operation_of first) task word first fields

-- An entry by its first word.
abbrev pub act_of : TaskId → Bytes → List Bytes → Option NamedEntry
act_of task word fields =
    if bytes_eq word (codes "print") then print_of task fields else
    if bytes_eq word (codes "finish") then finish_of task fields else
    if bytes_eq word (codes "spawn") then spawn_of task fields else
    if bytes_eq word (codes "offer") then offer_of task fields else
    if bytes_eq word (codes "forall") then loop_of task fields else other_of task word fields

-- The whole line `over`.
abbrev pub over_of : Bytes → Option NamedEntry
over_of word = if bytes_eq word (codes "over") then Some entry.Over else None

-- The entry of these fields.
abbrev pub entry_of : List Bytes → Option NamedEntry
entry_of [] = None
entry_of (word ∷ []) = over_of word
entry_of (id ∷ word ∷ fields) = option_and_then (λ task. act_of task word fields) (id_of id)
