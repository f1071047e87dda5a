-- Calls with words leave objects with words, and reply words.
use Rattle.std.proofs.Common.{◌≡◌, ℕ, zero, suc, ◌+◌, ◌-◌, ◌^◌, ◌<◌, ◌≤◌, ◌==◌, Bool, true, false, not, cond, List, [], ◌∷◌, length, Option, Some, None, if◌then◌else◌, refl, sym, ◌∙◌, subst, arith}
use Rattle.std.specs.Prelude.{slice_get, slice_index, is_some, unwrap_or}
use Rattle.std.specs.FinMap as fin
use Rattle.std.specs.FinSet as set
use Rattle.std.specs.Ordering.{nat_cmp, eq_by_cmp}
use Rattle.std.proofs.lemmas.Cmp.{nat_cmp_total}
use Rattle.std.proofs.lemmas.Bool.Decides.{nat_tests}
use Rattle.gr_lang.specs.declared.action.Op.{Op}
use Rattle.gr_lang.specs.declared.action.Op.TheVariants as o
use Rattle.gr_lang.specs.declared.action.Effect.{Effect}
use Rattle.gr_lang.specs.declared.action.Effect.TheVariants as effect
use Rattle.gr_lang.specs.declared.action.Reply.{Reply}
use Rattle.gr_lang.specs.Expressions.{number_of}
use Rattle.gr_lang.specs.Effects.{nothing, one, found, word_after, word_reply, after, effect_of, key_reply, line_after, line_reply}
use Rattle.gr_lang.specs.Objects.{Object, array, keys, pairs, line, Objects, Called, address, at_address, on_word, under, with_key, affected, on_key, on_line, at_object, on_object, is_free, least_start, start_for, alloc_at}
use Rattle.gr_net.specs.Sums.{Each}
use Rattle.gr_fits_words.specs.Words.{IsWord, MayBeWord, ThingHasWords, ObjectsHaveWords, CallHasWords, ReplyHasWords}
use Rattle.gr_fits_words.specs.Laws as laws
use Rattle.gr_fits_words.proofs.Numbers.{nought, picks, number_word, wraps, reduced_word, each_get, each_set, each_more, each_take, each_rest, index_word, get_word}

abbrev CalledHasWords : Called → Type 0
CalledHasWords c = ObjectsHaveWords c.0 × ReplyHasWords c.1

pub none_replied : ReplyHasWords nothing
none_replied = (nought, nought)

one_replied : (w : ℕ) → IsWord w → ReplyHasWords (one w)
one_replied w h = (h, nought)

test_replied : (t : Bool) → ReplyHasWords (one (number_of t))
test_replied t = (number_word t, nought)

found_replied : (w : Option ℕ) → MayBeWord w → ReplyHasWords (found w)
found_replied None h = none_replied
found_replied (Some w) h = (number_word true, h)

-- ---- words

after_word : (op : Op) (w : ℕ) → CallHasWords op → IsWord w → IsWord (word_after op w)
after_word (o.Write object place word) w h k = h
after_word (o.Add object place word) w h k = wraps (w + word)
after_word (o.Cas object place old new) w h k = picks (w == old) new w h k
after_word (o.Reduce object reducer place word) w h k = reduced_word reducer w word k h
after_word _ w h k = k

word_replied : (op : Op) (w : ℕ) → IsWord w → ReplyHasWords (word_reply op w)
word_replied (o.Write object place word) w k = none_replied
word_replied _ w k = one_replied w k

at_words : (at : Option ℕ) (op : Op) (objects : Objects) → CallHasWords op → ObjectsHaveWords objects → CalledHasWords (at_address at op objects)
at_words None op objects h k = (k, none_replied)
at_words (Some at) op objects h k =
    let before : IsWord (slice_index objects.words at) = index_word objects.words at k.words in (
      record { words = each_set IsWord objects.words at (word_after op (slice_index objects.words at)) k.words (after_word op _ h before); things = k.things; heap = k.heap },
      word_replied op (slice_index objects.words at) before,
    )

word_called : (object place : ℕ) (op : Op) (objects : Objects) → CallHasWords op → ObjectsHaveWords objects → CalledHasWords (on_word object place op objects)
word_called object place op objects h k = at_words (address objects object place) op objects h k

-- ---- keys

abbrev EffectHasWords : Effect → Type 0
EffectHasWords (effect.Present word) = IsWord word
EffectHasWords (effect.Fold reducer word) = IsWord word
EffectHasWords _ = Unit {0}

effect_words : (op : Op) → CallHasWords op → EffectHasWords (effect_of op)
effect_words (o.Insert object key) h = nought
effect_words (o.Put object key word) h = h
effect_words (o.Merge object reducer key word) h = h
effect_words (o.Reduce object reducer place word) h = h
effect_words _ h = tt

after_effect : (x : Effect) (w : Option ℕ) → EffectHasWords x → MayBeWord w → MayBeWord (after x w)
after_effect effect.Keep w h k = k
after_effect (effect.Present word) w h k = h
after_effect effect.Absent w h k = tt
after_effect (effect.Fold reducer word) None h k = h
after_effect (effect.Fold reducer word) (Some before) h k = reduced_word reducer before word k h

under_word : (thing : Object) (key : ℕ) → ThingHasWords thing → MayBeWord (under thing key)
under_word (keys held) key h = by (set.contains held key)
  where
    by : (t : Bool) → MayBeWord (if t then Some 0 else None)
    by true = nought
    by false = tt
under_word (pairs held) key h = by (fin.get held key) refl
  where
    by : (w : Option ℕ) → fin.get held key ≡ w → MayBeWord w
    by None e = tt
    by (Some w) e = h key w e
under_word (array from count) key h = tt
under_word (line words) key h = tt

put_found : (b : Bool) (v w : ℕ) (before : Option ℕ) → cond b (Some v) before ≡ Some w → IsWord v → (before ≡ Some w → IsWord w) → IsWord w
put_found true v w before e h k = let same : v ≡ w = cc in subst IsWord same h
put_found false v w before e h k = k e

gone_found : (b : Bool) (w : ℕ) (before : Option ℕ) → cond b None before ≡ Some w → (before ≡ Some w → IsWord w) → IsWord w
gone_found true w before e k = cc
gone_found false w before e k = k e

key_words : (thing : Object) (key : ℕ) (w : Option ℕ) → ThingHasWords thing → MayBeWord w → ThingHasWords (with_key thing key w)
key_words (keys held) key None h k = tt
key_words (keys held) key (Some word) h k = tt
key_words (pairs held) key None h k = λ q w e. gone_found (eq_by_cmp nat_cmp q key) w (fin.get held q) (sym (fin.get-remove nat_cmp_total held key q) ∙ e) (h q w)
key_words (pairs held) key (Some word) h k = λ q w e. put_found (eq_by_cmp nat_cmp q key) word w (fin.get held q) (sym (fin.get-insert nat_cmp_total held key word q) ∙ e) k (h q w)
key_words (array from count) key w h k = h
key_words (line words) key w h k = h

affected_words : (thing : Object) (key : ℕ) (x : Effect) → ThingHasWords thing → EffectHasWords x → ThingHasWords (affected thing key x)
affected_words thing key effect.Keep h k = h
affected_words thing key (effect.Present word) h k = key_words thing key (Some word) h k
affected_words thing key effect.Absent h k = key_words thing key None h tt
affected_words thing key (effect.Fold reducer word) h k = key_words thing key (after (effect.Fold reducer word) (under thing key)) h (after_effect (effect.Fold reducer word) (under thing key) k (under_word thing key h))

or_nought : (w : Option ℕ) → MayBeWord w → IsWord (unwrap_or w 0)
or_nought None h = nought
or_nought (Some w) h = h

key_replied : (op : Op) (w : Option ℕ) → MayBeWord w → ReplyHasWords (key_reply op w)
key_replied (o.Insert object key) w h = test_replied (not (is_some w))
key_replied (o.Remove object key) w h = test_replied (is_some w)
key_replied (o.Has object key) w h = test_replied (is_some w)
key_replied (o.Put object key word) w h = test_replied (not (is_some w))
key_replied (o.Get object key) w h = found_replied w h
key_replied (o.Erase object key) w h = test_replied (is_some w)
key_replied (o.Merge object reducer key word) w h = test_replied (not (is_some w))
key_replied (o.Reduce object reducer place word) w h = one_replied (unwrap_or w 0) (or_nought w h)
key_replied _ w h = none_replied

-- ---- objects

abbrev Keeps : (Object → Object × Reply) → Type 0
Keeps f = (thing : Object) → ThingHasWords thing → ThingHasWords (f thing).0 × ReplyHasWords (f thing).1

object_called : (object : ℕ) (f : Object → Object × Reply) (objects : Objects) → Keeps f → ObjectsHaveWords objects → CalledHasWords (on_object object f objects)
object_called object f objects h k = by (slice_get objects.things object) refl
  where
    by : (thing : Option Object) → slice_get objects.things object ≡ thing → CalledHasWords (at_object thing object f objects)
    by None e = (k, none_replied)
    by (Some thing) e =
        let its = h thing (each_get ThingHasWords objects.things object thing k.things e) in (
          record { words = k.words; things = each_set ThingHasWords objects.things object (f thing).0 k.things its.0; heap = k.heap },
          its.1,
        )

key_called : (object key : ℕ) (op : Op) (objects : Objects) → CallHasWords op → ObjectsHaveWords objects → CalledHasWords (on_object object (on_key key op) objects)
key_called object key op objects h k =
    object_called object (on_key key op) objects (λ thing its. (affected_words thing key (effect_of op) its (effect_words op h), key_replied op (under thing key) (under_word thing key its))) k

after_line : (op : Op) (words : List ℕ) → CallHasWords op → Each IsWord words → Each IsWord (line_after op words)
after_line (o.Push object word) words h k = each_more IsWord words (word ∷ []) k (h, tt)
after_line (o.Pop object) words h k = each_take IsWord (length words - 1) words k
after_line (o.Dequeue object) words h k = each_rest IsWord words k
after_line _ words h k = k

line_replied : (op : Op) (words : List ℕ) → Each IsWord words → ReplyHasWords (line_reply op words)
line_replied (o.Pop object) words k = found_replied (slice_get words (length words - 1)) (get_word words (length words - 1) k)
line_replied (o.Dequeue object) words k = found_replied (slice_get words 0) (get_word words 0 k)
line_replied _ words k = none_replied

line_kept : (op : Op) → CallHasWords op → Keeps (on_line op)
line_kept op h (line words) k = (after_line op words h k, line_replied op words k)
line_kept op h (array from count) k = (k, none_replied)
line_kept op h (keys held) k = (k, none_replied)
line_kept op h (pairs held) k = (k, none_replied)

line_called : (object : ℕ) (op : Op) (objects : Objects) → CallHasWords op → ObjectsHaveWords objects → CalledHasWords (on_object object (on_line op) objects)
line_called object op objects h k = object_called object (on_line op) objects (line_kept op h) k

-- ---- the heap

abbrev Below : ℕ → Option ℕ → Type 0
Below n None = Unit {0}
Below n (Some k) = k < n

least_low : (turns : ℕ) (live : fin.FinMap nat_cmp ℕ) (start n : ℕ) → Below (start + turns) (least_start turns live start n)
unfolding least_start
least_low zero live start n = tt
least_low (suc turns) live start n = by (is_free live start n) (least_low turns live (start + 1) n)
  where
    more : (w : Option ℕ) → Below (start + 1 + turns) w → Below (start + suc turns) w
    more None h = tt
    more (Some w) h = omega (arith, h)

    by : (t : Bool) → Below (start + 1 + turns) (least_start turns live (start + 1) n) → Below (start + suc turns) (if t then Some start else least_start turns live (start + 1) n)
    by true h = omega arith
    by false h = more (least_start turns live (start + 1) n) h

start_word : (objects : Objects) (n : ℕ) → ObjectsHaveWords objects → MayBeWord (start_for objects n)
start_word objects n h = by (n == 0) refl
  where
    from : ℕ
    from = objects.heap.from

    count : ℕ
    count = objects.heap.count

    some : (n == 0) ≡ false → 0 < n
    some e = grind (arith, nat_tests)

    low : (w : Option ℕ) → 0 < n → Below (from + (count + 1 - n)) w → MayBeWord w
    low None p l = tt
    low (Some w) p l = low_one w (from + count) p l h.heap
      where
        low_one : (w top : ℕ) → 0 < n → w < from + (count + 1 - n) → from + count ≤ 2 ^ 64 → w < 2 ^ 64
        low_one w top p l m = omega (arith, p, l, m)

    by : (t : Bool) → (n == 0) ≡ t → MayBeWord (if t then None else least_start (count + 1 - n) objects.live from n)
    by true e = tt
    by false e = low (least_start (count + 1 - n) objects.live from n) (some e) (least_low (count + 1 - n) objects.live from n)

alloc_called : (start : Option ℕ) (n : ℕ) (objects : Objects) → MayBeWord start → ObjectsHaveWords objects → CalledHasWords (alloc_at start n objects)
alloc_called None n objects s k = (k, one_replied (2 ^ 64 - 1) (omega arith))
alloc_called (Some start) n objects s k = (record { words = k.words; things = k.things; heap = k.heap }, one_replied start s)

pub calls_keep : laws.CallsKeepWords
calls_keep (o.Read object place) s h k = word_called object place (o.Read object place) s h k
calls_keep (o.Write object place word) s h k = word_called object place (o.Write object place word) s h k
calls_keep (o.Add object place word) s h k = word_called object place (o.Add object place word) s h k
calls_keep (o.Cas object place old new) s h k = word_called object place (o.Cas object place old new) s h k
calls_keep (o.Reduce object reducer place word) s h k = word_called object place (o.Reduce object reducer place word) s h k
calls_keep (o.Insert object key) s h k = key_called object key (o.Insert object key) s h k
calls_keep (o.Remove object key) s h k = key_called object key (o.Remove object key) s h k
calls_keep (o.Has object key) s h k = key_called object key (o.Has object key) s h k
calls_keep (o.Put object key word) s h k = key_called object key (o.Put object key word) s h k
calls_keep (o.Get object key) s h k = key_called object key (o.Get object key) s h k
calls_keep (o.Erase object key) s h k = key_called object key (o.Erase object key) s h k
calls_keep (o.Merge object reducer key word) s h k = key_called object key (o.Merge object reducer key word) s h k
calls_keep (o.Push object word) s h k = line_called object (o.Push object word) s h k
calls_keep (o.Pop object) s h k = line_called object (o.Pop object) s h k
calls_keep (o.Dequeue object) s h k = line_called object (o.Dequeue object) s h k
calls_keep (o.Alloc count) s h k = alloc_called (start_for s count) count s (start_word s count k) k
calls_keep (o.Free place) s h k = (record { words = k.words; things = k.things; heap = k.heap }, test_replied (is_some (fin.get s.live place)))
calls_keep (o.Print word) s h k = (k, none_replied)
