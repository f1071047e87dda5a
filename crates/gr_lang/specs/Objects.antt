-- One plain memory: words, sets, maps, vectors and the live blocks of the heap; and the object call, which is what one call does to them and replies.
use Rattle.std.specs.Prelude.{ℕ, zero, suc, ◌+◌, ◌-◌, ◌^◌, ◌==◌, Bool, ◌&&◌, ◌||◌, nat_lt, nat_le, if◌then◌else◌, List, slice_get, slice_index, slice_set, Option, Some, None, is_some}
use Rattle.std.specs.List.{list_all}
use Rattle.std.specs.Ordering.{nat_cmp}
use Rattle.std.specs.FinMap as map
use Rattle.std.specs.FinSet as set
use Rattle.gr_lang.specs.Expressions.{number_of}
use Rattle.gr_lang.specs.Effects.{nothing, one, word_after, word_reply, after, effect_of, key_reply, line_after, line_reply}
use Rattle.gr_syntax.specs.declared.limits.TheConstants.{HEAP}
use Rattle.gr_lang.specs.declared.action.Op.{Op}
use Rattle.gr_lang.specs.declared.action.Op.TheVariants as op
use Rattle.gr_lang.specs.declared.action.Effect.{Effect}
use Rattle.gr_lang.specs.declared.action.Effect.TheVariants as effect
use Rattle.gr_lang.specs.declared.action.Reply.{Reply}

-- What an object holds: an array has `count` words from an address on, a set its keys, a map its pairs, a vector its words from the head.
pub data Object : Type 0 where
  array : (from count : ℕ) → Object
  keys : set.FinSet nat_cmp → Object
  pairs : map.FinMap nat_cmp ℕ → Object
  line : List ℕ → Object

-- The heap has `count` words from an address on.
pub record Heap : Type 0 where
  pub from : ℕ
  pub count : ℕ

-- The plain objects. The live blocks of the heap are kept by their starts, each with its number of words.
pub record Objects : Type 0 where
  pub words : List ℕ
  pub things : List Object
  pub heap : Heap
  pub live : map.FinMap nat_cmp ℕ

-- What comes of a call: the objects after it, and its reply.
abbrev pub Called : Type 0
Called = Objects × Reply

-- Words.

-- The address of a place, where the object has that place. The heap's places are addresses.
abbrev pub address_in : Option Object → ℕ → Option ℕ
address_in (Some (array from count)) place = if nat_lt place count then Some (from + place) else None
address_in _ place = None

abbrev pub heap_address : Heap → ℕ → Option ℕ
heap_address heap at = if nat_le heap.from at && nat_lt at (heap.from + heap.count) then Some at else None

abbrev pub address : Objects → ℕ → ℕ → Option ℕ
address objects object place = if object == HEAP then heap_address objects.heap place else address_in (slice_get objects.things object) place

abbrev pub at_address : Option ℕ → Op → Objects → Called
at_address None call objects = (objects, nothing)
at_address (Some at) call objects =
    (record objects { words = slice_set objects.words at (word_after call (slice_index objects.words at)) }, word_reply call (slice_index objects.words at))

-- A call on the word at a place of an object, where the object has that place.
abbrev pub on_word : ℕ → ℕ → Op → Objects → Called
on_word object place call objects = at_address (address objects object place) call objects

-- Sets, maps and vectors.

-- The objects with another one in the place of one of them.
abbrev pub with_object : Objects → ℕ → Object → Objects
with_object objects object thing = record objects { things = slice_set objects.things object thing }

-- What stands under a key of a set or map.
abbrev pub under : Object → ℕ → Option ℕ
under (keys held) key = if set.contains held key then Some 0 else None
under (pairs held) key = map.get held key
under _ key = None

-- The set or map in which this stands under the key, or nothing.
abbrev pub with_key : Object → ℕ → Option ℕ → Object
with_key (keys held) key None = keys (set.remove held key)
with_key (keys held) key (Some word) = keys (set.insert held key)
with_key (pairs held) key None = pairs (map.remove held key)
with_key (pairs held) key (Some word) = pairs (map.insert held key word)
with_key other key value = other

-- The set or map after an effect on what stands under a key.
abbrev pub affected : Object → ℕ → Effect → Object
affected thing key effect.Keep = thing
affected thing key what = with_key thing key (after what (under thing key))

-- What comes of a call of an object: the object after it, and its reply.
abbrev pub on_key : ℕ → Op → Object → Object × Reply
on_key key call thing = (affected thing key (effect_of call), key_reply call (under thing key))

abbrev pub on_line : Op → Object → Object × Reply
on_line call (line words) = (line (line_after call words), line_reply call words)
on_line call other = (other, nothing)

abbrev pub at_object : Option Object → ℕ → (Object → Object × Reply) → Objects → Called
at_object None object f objects = (objects, nothing)
at_object (Some thing) object f objects = (with_object objects object (f thing).0, (f thing).1)

-- A call of the object of that number, where there is one.
abbrev pub on_object : ℕ → (Object → Object × Reply) → Objects → Called
on_object object f objects = at_object (slice_get objects.things object) object f objects

-- The heap.

-- Whether n words from this start on touch no live block.
abbrev pub is_free : map.FinMap nat_cmp ℕ → ℕ → ℕ → Bool
is_free live start n = list_all (λ block. nat_le (start + n) block.0 || nat_le (block.0 + block.1) start) (map.entries live)

-- The least of `turns` starts, from this one on, at which n words are free.
unfoldable pub least_start : ℕ → map.FinMap nat_cmp ℕ → ℕ → ℕ → Option ℕ
least_start zero live start n = None
least_start (suc turns) live start n = if is_free live start n then Some start else least_start turns live (start + 1) n

-- The least start in the heap from which n words lie in the heap and in no live block; none for n = 0.
abbrev pub start_in : Heap → map.FinMap nat_cmp ℕ → ℕ → Option ℕ
start_in heap live n = if n == 0 then None else least_start (heap.count + 1 - n) live heap.from n

abbrev pub start_for : Objects → ℕ → Option ℕ
start_for objects n = start_in objects.heap objects.live n

-- alloc makes such a block live and replies its start, or 2^64 - 1 where there is none; words keep their values.
abbrev pub alloc_at : Option ℕ → ℕ → Objects → Called
alloc_at None n objects = (objects, one (2 ^ 64 - 1))
alloc_at (Some start) n objects = (record objects { live = map.insert objects.live start n }, one start)

-- free replies 1 where a live block starts at the address, which then isn't live any more.
abbrev pub free_at : ℕ → Objects → Called
free_at at objects = (record objects { live = map.remove objects.live at }, one (number_of (is_some (map.get objects.live at))))

-- The object call: the objects after one call, and its reply.
abbrev pub call : Op → Objects → Called
call (op.Read object place) = on_word object place (op.Read object place)
call (op.Write object place word) = on_word object place (op.Write object place word)
call (op.Add object place word) = on_word object place (op.Add object place word)
call (op.Cas object place old new) = on_word object place (op.Cas object place old new)
call (op.Reduce object reducer place word) = on_word object place (op.Reduce object reducer place word)
call (op.Insert object key) = on_object object (on_key key (op.Insert object key))
call (op.Remove object key) = on_object object (on_key key (op.Remove object key))
call (op.Has object key) = on_object object (on_key key (op.Has object key))
call (op.Put object key word) = on_object object (on_key key (op.Put object key word))
call (op.Get object key) = on_object object (on_key key (op.Get object key))
call (op.Erase object key) = on_object object (on_key key (op.Erase object key))
call (op.Merge object reducer key word) = on_object object (on_key key (op.Merge object reducer key word))
call (op.Push object word) = on_object object (on_line (op.Push object word))
call (op.Pop object) = on_object object (on_line (op.Pop object))
call (op.Dequeue object) = on_object object (on_line (op.Dequeue object))
call (op.Alloc count) = λ objects. alloc_at (start_for objects count) count objects
call (op.Free place) = free_at place
call (op.Print word) = λ objects. (objects, nothing)
