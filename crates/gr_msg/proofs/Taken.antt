-- Messages and packets that fit are taken by their formats.
use Rattle.std.proofs.Common.{◌≡◌, ℕ, ◌+◌, ◌<◌, ◌≤◌, Bool, true, false, leb, ltb, nat_eq, List, [], ◌∷◌, ◌++◌, length, All, Option, Some, None, inl, inr, refl, sym, subst, append_assoc, arith}
use Rattle.std.specs.Prelude.{MatchBool}
use Rattle.std.specs.List.{flat_map, AllByRecursion}
use Rattle.std.proofs.lemmas.Bool.{or_cases, ltb-true, eqb-true}
use Rattle.std.proofs.lemmas.List.{append-nil}
use Rattle.std.proofs.lemmas.List.Concat.{flat_map_single}
use Rattle.std.proofs.lemmas.List.Elements.{recursion_from_All}
use Rattle.gr_lang.specs.declared.action.TaskId.{TaskId}
use Rattle.gr_lang.specs.declared.action.Effect.{Effect}
use Rattle.gr_lang.specs.declared.action.Effect.TheVariants as effect
use Rattle.gr_msg.specs.declared.message.ScopeId.{ScopeId}
use Rattle.gr_msg.specs.declared.message.Unit.{Unit as WorkUnit}
use Rattle.gr_msg.specs.declared.message.Unit.TheVariants as unit
use Rattle.gr_msg.specs.declared.message.Msg.{Msg}
use Rattle.gr_msg.specs.declared.message.Msg.TheVariants as msg
use Rattle.gr_msg.specs.declared.opened.Opened.{Opened}
use Rattle.gr_format.specs.declared.field.Field.{Field}
use Rattle.gr_format.specs.declared.field.Field.TheVariants.{Byte, Pair, Word}
use Rattle.gr_format.specs.Formats.{Format, whole, ◌>>=◌, ranged, times}
use Rattle.gr_format.specs.Writing.{Takes}
use Rattle.gr_format.proofs.Walks.{takes_then, takes_times}
use Rattle.gr_msg.specs.Parts.{greatest, any_word, used, core, is_object, object, vector, task_id, scope_id, optional, an_effect, words_of, single, chunk, most_args, unit_end, work_unit}
use Rattle.gr_msg.specs.Messages.{request, reply, spawn, enrol, enrol_ack, complete, leave, steal_give, batch, batch_reply, turn, grant, done, elem_put, elem_get, elem_ack, is_kind, kind, of_kind, message, packet}
use Rattle.gr_msg.specs.Ranges.{IsWord, IsTask, IsScope, IsFound, IsWork, IsUnit, IsEffect, IsVector, Fits, IsPacket}
use Rattle.gr_msg.specs.FieldWords.{task_fields, scope_fields, option_fields, effect_fields, words, work_fields, loop_fields, unit_fields, fields, packet_fields}
use Rattle.gr_msg.proofs.Steps.{in_range}

-- One number.

byte_taken : {B : Type 0} (least most n : ℕ) (next : ℕ → Format B) (rest : List Field) (value : B) → least ≤ n → n ≤ most → most < 256 → Takes (next n) rest value
    → Takes (ranged 1 least most >>= next) (Byte n ∷ rest) value
unfolding ranged ◌>>=◌
byte_taken least most n next rest value l m b h = (refl, (let small : n < 256 = omega (arith, m, b) in small), in_range least most n l m, h)

pair_taken : {B : Type 0} (least most n : ℕ) (next : ℕ → Format B) (rest : List Field) (value : B) → least ≤ n → n ≤ most → most < 65536 → Takes (next n) rest value
    → Takes (ranged 2 least most >>= next) (Pair n ∷ rest) value
unfolding ranged ◌>>=◌
pair_taken least most n next rest value l m b h = (refl, (let small : n < 65536 = omega (arith, m, b) in small), in_range least most n l m, h)

word_taken : {B : Type 0} (least most n : ℕ) (next : ℕ → Format B) (rest : List Field) (value : B) → least ≤ n → n ≤ most → most < 18446744073709551616 → Takes (next n) rest value
    → Takes (ranged 8 least most >>= next) (Word n ∷ rest) value
unfolding ranged ◌>>=◌
word_taken least most n next rest value l m b h = (refl, (let small : n < 18446744073709551616 = omega (arith, m, b) in small), in_range least most n l m, h)

any_taken : {B : Type 0} (n : ℕ) (next : ℕ → Format B) (rest : List Field) (value : B) → IsWord n → Takes (next n) rest value → Takes (any_word >>= next) (Word n ∷ rest) value
any_taken n next rest value w h = word_taken 0 greatest n next rest value (omega arith) (omega (arith, w)) (omega arith) h

-- Parts.

task_taken : (id : TaskId) → IsTask id → Takes task_id (task_fields id) id
unfolding task_id
task_taken id h = byte_taken 0 15 id.core _ _ _ (omega arith) (omega (arith, h.0)) (omega arith) (any_taken id.number _ _ _ h.1 refl)

scope_taken : (id : ScopeId) → IsScope id → Takes scope_id (scope_fields id) id
unfolding scope_id
scope_taken id h = byte_taken 0 15 id.core _ _ _ (omega arith) (omega (arith, h.0)) (omega arith) (any_taken id.number _ _ _ h.1 refl)

option_taken : (found : Option ℕ) → IsFound found → Takes optional (option_fields found) found
unfolding optional
option_taken None h = byte_taken 0 1 0 _ _ _ (omega arith) (omega arith) (omega arith) (word_taken 0 0 0 _ _ _ (omega arith) (omega arith) (omega arith) refl)
option_taken (Some w) h = byte_taken 0 1 1 _ _ _ (omega arith) (omega arith) (omega arith) (any_taken w _ _ _ h refl)

effect_taken : (e : Effect) → IsEffect e → Takes an_effect (effect_fields e) e
unfolding an_effect
effect_taken effect.Keep h = byte_taken 0 3 0 _ _ _ (omega arith) (omega arith) (omega arith) (byte_taken 0 0 0 _ _ _ (omega arith) (omega arith) (omega arith) (word_taken 0 0 0 _ _ _ (omega arith) (omega arith) (omega arith) refl))
effect_taken (effect.Present w) h = byte_taken 0 3 1 _ _ _ (omega arith) (omega arith) (omega arith) (byte_taken 0 0 0 _ _ _ (omega arith) (omega arith) (omega arith) (any_taken w _ _ _ h refl))
effect_taken effect.Absent h = byte_taken 0 3 2 _ _ _ (omega arith) (omega arith) (omega arith) (byte_taken 0 0 0 _ _ _ (omega arith) (omega arith) (omega arith) (word_taken 0 0 0 _ _ _ (omega arith) (omega arith) (omega arith) refl))
effect_taken (effect.Fold reducer w) h = byte_taken 0 3 3 _ _ _ (omega arith) (omega arith) (omega arith) (byte_taken 0 7 reducer _ _ _ (omega arith) (omega (arith, h.0)) (omega arith) (any_taken w _ _ _ h.1 refl))

used_taken : {B : Type 0} (is_used : Bool) (n : ℕ) (next : ℕ → Format B) (rest : List Field) (value : B) → MatchBool is_used (IsWord n) (n ≡ 0) → Takes (next n) rest value
    → Takes (used is_used >>= next) (Word n ∷ rest) value
used_taken true n next rest value u h = any_taken n next rest value u h
used_taken false n next rest value u h = word_taken 0 0 n next rest value (omega arith) (omega (arith, u)) (omega arith) h

-- Units.

word_of : (n : ℕ) → IsWord n → Takes any_word (Word n ∷ []) n
unfolding ranged
word_of n w = (refl, (let small : n < 18446744073709551616 = omega (arith, w) in small), in_range 0 greatest n (omega arith) (omega (arith, w)), refl)

words_are_taken : (args : List ℕ) → AllByRecursion IsWord args → AllByRecursion (λ n. Takes any_word (Word n ∷ []) n) args
words_are_taken [] h = tt
words_are_taken (n ∷ args) h = (word_of n h.0, words_are_taken args h.1)

same_words : (args : List ℕ) → flat_map (λ n. Word n ∷ []) args ≡ words args
same_words args = flat_map_single (λ n. Word n) args

words_taken : (args : List ℕ) → All IsWord args → Takes (times (length args) any_word) (words args) args
words_taken args h =
    let taken : List Field → Type 0 = λ fs. Takes (times (length args) any_word) fs args in
    subst taken (same_words args) (takes_times any_word (λ n. Word n ∷ []) args (words_are_taken args (recursion_from_All IsWord args h)))

-- The beginning of a unit, and then its end.
work_taken : (tag target : ℕ) (args : List ℕ) (scope : ScopeId) (origin : ℕ) (rest : List Field) (value : WorkUnit) → 1 ≤ tag → tag ≤ 2 → length args ≤ most_args tag → most_args tag < 256
    → IsWork target args scope origin → Takes (unit_end tag target args scope origin) rest value → Takes work_unit (work_fields tag target args scope origin ++ rest) value
unfolding work_unit
work_taken tag target args scope origin rest value l m n k h t =
    let behind : Takes (scope_id >>= λ s. core >>= λ o. unit_end tag target args s o) (scope_fields scope ++ Byte origin ∷ rest) value =
    takes_then scope_id (λ s. core >>= λ o. unit_end tag target args s o) (scope_fields scope) (Byte origin ∷ rest) scope value (scope_taken scope h.home)
    (byte_taken 0 15 origin (λ o. unit_end tag target args scope o) rest value (omega arith) (omega (arith, h.start)) (omega arith) t) in
    let all : Takes (times (length args) any_word >>= λ a. scope_id >>= λ s. core >>= λ o. unit_end tag target a s o) (words args ++ (scope_fields scope ++ Byte origin ∷ rest)) value =
    takes_then (times (length args) any_word) (λ a. scope_id >>= λ s. core >>= λ o. unit_end tag target a s o) (words args) (scope_fields scope ++ Byte origin ∷ rest) args value (words_taken args h.words) behind in
    let grouped : List Field → Type 0 = λ fs. Takes (times (length args) any_word >>= λ a. scope_id >>= λ s. core >>= λ o. unit_end tag target a s o) fs value in
    byte_taken 1 2 tag _ _ _ l m (omega arith) (byte_taken 0 255 target _ _ _ (omega arith) (omega (arith, h.task)) (omega arith) (byte_taken 0 (most_args tag) (length args) _ _ _ (omega arith) n k
    (subst grouped (sym (append_assoc (words args) (scope_fields scope ++ Byte origin ∷ []) rest)) all)))

unit_taken : (u : WorkUnit) → IsUnit u → Takes work_unit (unit_fields u) u
unfolding unit_end single chunk
unit_taken (unit.Single target args scope origin id) h =
    let last : Takes (task_id >>= λ i. whole (unit.Single target args scope origin i)) (task_fields id ++ []) (unit.Single target args scope origin id) =
    takes_then task_id (λ i. whole (unit.Single target args scope origin i)) (task_fields id) [] id _ (task_taken id h.2) refl in
    work_taken 1 target args scope origin (task_fields id) (unit.Single target args scope origin id) (omega arith) (omega arith) (omega (arith, h.1)) (omega arith) h.0 last
unit_taken (unit.Chunk target args scope origin owner lo hi grain) h =
    let last : Takes (chunk target args scope origin) (loop_fields owner lo hi grain) (unit.Chunk target args scope origin owner lo hi grain) =
    takes_then task_id _ (task_fields owner) (Word lo ∷ Word hi ∷ Word grain ∷ []) owner _ (task_taken owner h.2)
    (any_taken lo _ _ _ (omega (arith, h.3, h.4)) (word_taken (lo + 1) greatest hi _ _ _ (omega (arith, h.3)) (omega (arith, h.4)) (omega arith) (word_taken 1 greatest grain _ _ _ h.5 (omega (arith, h.6)) (omega arith) refl))) in
    work_taken 2 target args scope origin (loop_fields owner lo hi grain) (unit.Chunk target args scope origin owner lo hi grain) (omega arith) (omega arith) (omega (arith, h.1)) (omega arith) h.0 last

-- Messages.

kind_taken : (k : ℕ) (rest : List Field) (value : Msg) → k < 256 → is_kind k ≡ true → Takes (of_kind k) rest value → Takes message (Byte k ∷ rest) value
unfolding message kind ◌>>=◌
kind_taken k rest value l t h = (refl, l, t, h)

vector_taken : {B : Type 0} (n : ℕ) (next : ℕ → Format B) (rest : List Field) (value : B) → IsVector n → Takes (next n) rest value → Takes (vector >>= next) (Byte n ∷ rest) value
vector_taken n next rest value v h = byte_taken 0 63 n next rest value (omega arith) (omega (arith, v)) (omega arith) h

object_small : (n : ℕ) → is_object n ≡ true → n < 256
object_small n t = elim (or_cases (ltb n 64) (nat_eq n 255) t) [ inl l ↦ omega (arith, ltb-true n 64 l) | inr e ↦ omega (arith, eqb-true n 255 e) ]

object_taken : {B : Type 0} (n : ℕ) (next : ℕ → Format B) (rest : List Field) (value : B) → is_object n ≡ true → Takes (next n) rest value → Takes (object >>= next) (Byte n ∷ rest) value
unfolding object ◌>>=◌
object_taken n next rest value t h = (refl, object_small n t, t, h)

-- A part and then the whole.
last_taken : {A B : Type 0} (first : Format A) (made : A → B) (xs : List Field) (one : A) → Takes first xs one → Takes (first >>= λ x. whole (made x)) xs (made one)
last_taken first made xs one h =
    let taken : List Field → Type 0 = λ fs. Takes (first >>= λ x. whole (made x)) fs (made one) in
    subst taken (append-nil xs) (takes_then first (λ x. whole (made x)) xs [] one (made one) h refl)

pub message_taken : (m : Msg) → Fits m → Takes message (fields m) m
unfolding of_kind request reply spawn enrol enrol_ack complete leave steal_give batch batch_reply turn grant done elem_put elem_get elem_ack
message_taken (msg.Request slot id operation x y z) h =
    kind_taken 1 _ _ (omega arith) refl (any_taken slot _ _ _ h.0 (takes_then task_id _ (task_fields id) (Byte operation ∷ Word x ∷ Word y ∷ Word z ∷ []) id _ (task_taken id h.1)
    (byte_taken 1 7 operation _ _ _ h.2.some h.2.most (omega arith) (any_taken x _ _ _ h.2.first (used_taken (leb 2 (words_of operation)) y _ _ _ h.2.second (used_taken (leb 3 (words_of operation)) z _ _ _ h.2.third refl))))))
message_taken (msg.Reply slot id first second) h =
    kind_taken 2 _ _ (omega arith) refl (any_taken slot _ _ _ h.0 (takes_then task_id _ (task_fields id) (Word first ∷ Word second ∷ []) id _ (task_taken id h.1) (any_taken first _ _ _ h.2 (any_taken second _ _ _ h.3 refl))))
message_taken (msg.Spawn u) h = kind_taken 3 _ _ (omega arith) refl (last_taken work_unit (λ x. msg.Spawn x) (unit_fields u) u (unit_taken u h))
message_taken (msg.Enrol scope) h = kind_taken 4 _ _ (omega arith) refl (last_taken scope_id (λ x. msg.Enrol x) (scope_fields scope) scope (scope_taken scope h))
message_taken (msg.EnrolAck scope) h = kind_taken 5 _ _ (omega arith) refl (last_taken scope_id (λ x. msg.EnrolAck x) (scope_fields scope) scope (scope_taken scope h))
message_taken (msg.Complete scope count) h =
    kind_taken 6 _ _ (omega arith) refl (takes_then scope_id _ (scope_fields scope) (Word count ∷ []) scope _ (scope_taken scope h.0) (word_taken 1 greatest count _ _ _ h.1 (omega (arith, h.2)) (omega arith) refl))
message_taken (msg.Leave scope) h = kind_taken 7 _ _ (omega arith) refl (last_taken scope_id (λ x. msg.Leave x) (scope_fields scope) scope (scope_taken scope h))
message_taken msg.StealAsk h = kind_taken 8 _ _ (omega arith) refl refl
message_taken (msg.StealGive u) h = kind_taken 9 _ _ (omega arith) refl (last_taken work_unit (λ x. msg.StealGive x) (unit_fields u) u (unit_taken u h))
message_taken (msg.Batch owner key e number) h =
    kind_taken 11 _ _ (omega arith) refl (object_taken owner _ _ _ h.0 (any_taken key _ _ _ h.1 (takes_then an_effect _ (effect_fields e) (Word number ∷ []) e _ (effect_taken e h.2) (any_taken number _ _ _ h.3 refl))))
message_taken (msg.BatchReply number before) h = kind_taken 12 _ _ (omega arith) refl (any_taken number _ _ _ h.0 (last_taken optional (λ x. msg.BatchReply number x) (option_fields before) before (option_taken before h.1)))
message_taken (msg.Turn number) h = kind_taken 13 _ _ (omega arith) refl (vector_taken number _ _ _ h refl)
message_taken (msg.Grant number head tail) h =
    kind_taken 14 _ _ (omega arith) refl (vector_taken number _ _ _ h.0 (any_taken head _ _ _ (omega (arith, h.1, h.2)) (word_taken head greatest tail _ _ _ h.1 (omega (arith, h.2)) (omega arith) refl)))
message_taken (msg.Done number head tail) h =
    kind_taken 18 _ _ (omega arith) refl (vector_taken number _ _ _ h.0 (any_taken head _ _ _ (omega (arith, h.1, h.2)) (word_taken head greatest tail _ _ _ h.1 (omega (arith, h.2)) (omega arith) refl)))
message_taken (msg.ElemPut number position element) h = kind_taken 15 _ _ (omega arith) refl (vector_taken number _ _ _ h.0 (any_taken position _ _ _ h.1 (any_taken element _ _ _ h.2 refl)))
message_taken (msg.ElemGet number position) h = kind_taken 16 _ _ (omega arith) refl (vector_taken number _ _ _ h.0 (any_taken position _ _ _ h.1 refl))
message_taken (msg.ElemAck number position got) h =
    kind_taken 17 _ _ (omega arith) refl (vector_taken number _ _ _ h.0 (any_taken position _ _ _ h.1 (last_taken optional (λ x. msg.ElemAck number position x) (option_fields got) got (option_taken got h.2))))

messages_are_taken : (ms : List Msg) → AllByRecursion Fits ms → AllByRecursion (λ m. Takes message (fields m) m) ms
messages_are_taken [] h = tt
messages_are_taken (m ∷ ms) h = (message_taken m h.0, messages_are_taken ms h.1)

pub packet_taken : (p : Opened) → IsPacket p → Takes packet (packet_fields p) p
unfolding packet
packet_taken p h =
    let ms : List Msg = p.messages in
    word_taken 0 1099511627776 p.clock _ _ _ (omega arith) h.clock (omega arith) (pair_taken 1 256 (length ms) _ _ _ h.some h.most (omega arith)
    (last_taken (times (length ms) message) (λ xs. record { clock = p.clock; messages = xs }) (flat_map fields ms) ms
    (takes_times message fields ms (messages_are_taken ms (recursion_from_All Fits ms h.fit)))))
