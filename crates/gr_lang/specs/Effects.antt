-- What one call does to a word, to what stands under one key of a set or map, and to a vector's words; and what it replies of each.
use Rattle.std.specs.Prelude.{ℕ, ◌+◌, ◌-◌, ◌%◌, ◌^◌, ◌==◌, not, bit_and, bit_or, bit_xor, min, max, if◌then◌else◌, List, [], ◌∷◌, ◌++◌, length, take, drop, slice_get, Option, Some, None, is_some, unwrap_or}
use Rattle.gr_lang.specs.Expressions.{number_of}
use Rattle.gr_lang.specs.declared.action.Op.{Op}
use Rattle.gr_lang.specs.declared.action.Op.TheVariants as op
use Rattle.gr_lang.specs.declared.action.Effect.{Effect}
use Rattle.gr_lang.specs.declared.action.Effect.TheVariants as effect
use Rattle.gr_lang.specs.declared.action.Reply.{Reply}

-- The eight reducers: add (wrapping), min, max, or, and, xor, first, last. Each is associative on words.
abbrev pub reduced : ℕ → ℕ → ℕ → ℕ
reduced reducer one other =
    if reducer == 0 then (one + other) % 2 ^ 64 else (
    if reducer == 1 then min one other else (
    if reducer == 2 then max one other else (
    if reducer == 3 then bit_or one other else (
    if reducer == 4 then bit_and one other else (
    if reducer == 5 then bit_xor one other else (
    if reducer == 6 then one else other))))))

-- Replies. A word that a call doesn't give is 0.

abbrev pub reply : ℕ → ℕ → Reply
reply first second = record { first = first; second = second }

abbrev pub nothing : Reply
nothing = reply 0 0

abbrev pub one : ℕ → Reply
one word = reply word 0

-- 1 and the word, or 0 and 0 where there is none.
abbrev pub found : Option ℕ → Reply
found None = nothing
found (Some word) = reply 1 word

-- Words.

-- The word after a call on it.
abbrev pub word_after : Op → ℕ → ℕ
word_after (op.Write object place word) before = word
word_after (op.Add object place word) before = (before + word) % 2 ^ 64
word_after (op.Cas object place old new) before = if before == old then new else before
word_after (op.Reduce object reducer place word) before = reduced reducer before word
word_after _ before = before

-- Each call on a word replies the word before, but a write, which gives no word.
abbrev pub word_reply : Op → ℕ → Reply
word_reply (op.Write object place word) before = nothing
word_reply _ before = one before

-- Keys. What stands under a key is a word or absent; under a key of a set it is 0 or absent.

-- What an effect makes of what stands under a key.
abbrev pub after : Effect → Option ℕ → Option ℕ
after effect.Keep before = before
after (effect.Present word) before = Some word
after effect.Absent before = None
after (effect.Fold reducer word) None = Some word
after (effect.Fold reducer word) (Some before) = Some (reduced reducer before word)

-- The effect of a call on its key, and that of a reduce on its word. Every other call keeps what is there.
abbrev pub effect_of : Op → Effect
effect_of (op.Insert object key) = effect.Present 0
effect_of (op.Remove object key) = effect.Absent
effect_of (op.Put object key word) = effect.Present word
effect_of (op.Erase object key) = effect.Absent
effect_of (op.Merge object reducer key word) = effect.Fold reducer word
effect_of (op.Reduce object reducer place word) = effect.Fold reducer word
effect_of _ = effect.Keep

-- What a call replies of what stood under its key, or of its word: insert, put and merge reply 1 where it was absent; remove, has and erase where it was
-- there; get replies 1 and the word, or 0 and 0; a reduce the word before.
abbrev pub key_reply : Op → Option ℕ → Reply
key_reply (op.Insert object key) before = one (number_of (not (is_some before)))
key_reply (op.Remove object key) before = one (number_of (is_some before))
key_reply (op.Has object key) before = one (number_of (is_some before))
key_reply (op.Put object key word) before = one (number_of (not (is_some before)))
key_reply (op.Get object key) before = found before
key_reply (op.Erase object key) before = one (number_of (is_some before))
key_reply (op.Merge object reducer key word) before = one (number_of (not (is_some before)))
key_reply (op.Reduce object reducer place word) before = one (unwrap_or before 0)
key_reply _ before = nothing

-- Vectors.

-- The words after a call: push puts a word last, pop takes the last and dequeue the first out.
abbrev pub line_after : Op → List ℕ → List ℕ
line_after (op.Push object word) words = words ++ word ∷ []
line_after (op.Pop object) words = take (length words - 1) words
line_after (op.Dequeue object) words = drop 1 words
line_after _ words = words

-- pop and dequeue reply 1 and the word that they take out, or 0 and 0.
abbrev pub line_reply : Op → List ℕ → Reply
line_reply (op.Pop object) words = found (slice_get words (length words - 1))
line_reply (op.Dequeue object) words = found (slice_get words 0)
line_reply _ words = nothing
