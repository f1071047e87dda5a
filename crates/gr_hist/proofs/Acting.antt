-- The fields of lines, both ways.
use Rattle.std.proofs.Common.{◌≡◌, ◌∙◌, refl, sym, ap, subst, true, List, [], ◌∷◌, ◌++◌, Option, Some, None, cond, ℕ, map, codes, decimal, option_map, option_and_then}
use Rattle.std.specs.Str.{bytes_eq}
use Rattle.gr_lang.specs.declared.action.TaskId.{TaskId}
use Rattle.gr_lang.specs.declared.action.TrapKind.{TrapKind}
use Rattle.gr_lang.specs.declared.action.How.TheVariants as how
use Rattle.gr_accept.specs.declared.operation.Operation.{Operation}
use Rattle.gr_accept.specs.Operations.{operation_name, operation_of}
use Rattle.gr_hist.specs.declared.text.NamedEntry.{NamedEntry}
use Rattle.gr_hist.specs.declared.text.NamedEntry.TheVariants as entry
use Rattle.gr_hist.specs.Names.{Bytes, is_object_name}
use Rattle.gr_hist.specs.Grammar.{IsEntry, IsId}
use Rattle.gr_hist.specs.FieldWords.{act_of, begin_of, by_operation, call_of, child_of, end_of, entry_of, finish_of, id_of, loop_of, mark_of, number_of, offer_of, other_of, print_of, spawn_of, trap_entry, trap_of}
use Rattle.gr_hist.specs.Spelling.{child_fields, fields_of, id_bytes, reducer_field, reply_fields}
use Rattle.gr_lang.specs.Traps.{trap_word}
use Rattle.gr_hist.proofs.Calling.{call_found, call_only}
use Rattle.gr_hist.proofs.Numerals.{number_found, number_only}
use Rattle.std.proofs.lemmas.Option.{cond_some, same_Some}
use Rattle.gr_hist.proofs.Choices.{either, if_some, map_some, then_some}
use Rattle.gr_hist.proofs.Spelled.{IsSpelled, no_object}
use Rattle.gr_hist.proofs.Starting.{at_only, here_only, loop_found, loop_only, offer_found, offer_only, spawn_found}
use Rattle.gr_hist.proofs.Tails.{child_found, child_only, id_found, id_only}
use Rattle.gr_hist.proofs.Wording.{number_no_operation, operation_found, operation_only, same_text, trap_found, trap_no_operation, trap_only}

-- What is written is taken.

object_act : (task : TaskId) (object : Bytes) (fields : List Bytes) → is_object_name object ≡ true → act_of task object fields ≡ other_of task object fields
object_act task object fields is =
    rw (
      no_object object 12 (codes "print") is refl refl,
      no_object object 16 (codes "finish") is refl refl,
      no_object object 13 (codes "spawn") is refl refl,
      no_object object 15 (codes "offer") is refl refl,
      no_object object 17 (codes "forall") is refl refl,
    ) refl

act_only : (task : TaskId) (e : NamedEntry) (word : Bytes) (fields : List Bytes) → IsId task → act_of task word fields ≡ Some e → entry_of (id_bytes task ∷ word ∷ fields) ≡ Some e
act_only task e word fields is act = ap (option_and_then (λ t. act_of t word fields)) (id_only task is) ∙ act

begin_only : (owner child : TaskId) (index : ℕ) → IsEntry (entry.Begin owner index child) → other_of owner (codes "begin") (decimal index ∷ child_fields child) ≡ Some (entry.Begin owner index child)
unfolding other_of mark_of
begin_only owner child index is =
    rw (number_no_operation (decimal index) index (number_only index is.numbers.1), number_only index is.numbers.1, child_only child is.numbers.2) refl

trap_line : (task : TaskId) (kind : TrapKind) → other_of task (codes "trap") (trap_word kind ∷ []) ≡ Some (entry.Trap task kind)
unfolding other_of mark_of
trap_line task kind = rw (trap_no_operation kind, trap_only kind) refl

end_line : (task : TaskId) → other_of task (codes "end") [] ≡ Some (entry.End task)
unfolding other_of
end_line task = refl

pass_line : (task : TaskId) → other_of task (codes "pass") [] ≡ Some (entry.Pass task)
unfolding other_of
pass_line task = refl

call_line : (task : TaskId) (object : Bytes) (op : Operation) (fields : List Bytes) → other_of task object (operation_name op ∷ fields) ≡ call_of task object op fields
unfolding other_of
call_line task object op fields = ap (λ (o : Option Operation). by_operation o task object (operation_name op) fields) (operation_only op)

pub entry_only : (e : NamedEntry) → IsEntry e → entry_of (fields_of e) ≡ Some e
entry_only (entry.Call task object op reducer numbers reply) is =
    let fields = reducer_field reducer ++ (map decimal numbers ++ reply_fields reply) in
    act_only task (entry.Call task object op reducer numbers reply) object (operation_name op ∷ fields) is.numbers.0
    (object_act task object (operation_name op ∷ fields) is.names.0 ∙ call_line task object op fields ∙ call_only task object op reducer numbers reply is)
entry_only (entry.Print task word) is = act_only task (entry.Print task word) (codes "print") (decimal word ∷ []) is.numbers.0 (ap (option_map (λ w. entry.Print task w)) (number_only word is.numbers.1))
entry_only (entry.Spawn task how.Here target args child) is =
    act_only task (entry.Spawn task how.Here target args child) (codes "spawn") (target ∷ (map decimal args ++ child_fields child)) is.numbers.0 (here_only task target args child is.names is.numbers.2 is.numbers.3)
entry_only (entry.Spawn task (how.At core) target args child) is =
    act_only task (entry.Spawn task (how.At core) target args child) (codes "spawn") (codes "at" ∷ decimal core ∷ target ∷ (map decimal args ++ child_fields child)) is.numbers.0
    (at_only task core target args child is.numbers.1 is.names is.numbers.2 is.numbers.3)
entry_only (entry.Spawn task how.Offer target args child) is =
    act_only task (entry.Spawn task how.Offer target args child) (codes "offer") (target ∷ (map decimal args ++ child_fields child)) is.numbers.0 (offer_only task target args child is.names is.numbers.2 is.numbers.3)
entry_only (entry.Finish task) is = act_only task (entry.Finish task) (codes "finish") [] is.numbers refl
entry_only (entry.Loop task lo hi grain target args) is =
    act_only task (entry.Loop task lo hi grain target args) (codes "forall") (decimal lo ∷ decimal hi ∷ codes "grain" ∷ decimal grain ∷ target ∷ map decimal args) is.numbers.0
    (loop_only task lo hi grain target args is.numbers.1 is.numbers.2 is.numbers.3 is.names is.numbers.4)
entry_only (entry.Begin owner index child) is = act_only owner (entry.Begin owner index child) (codes "begin") (decimal index ∷ child_fields child) is.numbers.0 (begin_only owner child index is)
entry_only (entry.Pass task) is = act_only task (entry.Pass task) (codes "pass") [] is.numbers (pass_line task)
entry_only (entry.End task) is = act_only task (entry.End task) (codes "end") [] is.numbers (end_line task)
entry_only (entry.Trap task kind) is = act_only task (entry.Trap task kind) (codes "trap") (trap_word kind ∷ []) is.numbers (trap_line task kind)
entry_only entry.Over is = refl

-- What is taken is written so.

-- The fields behind the task's spell the entry.
abbrev IsAct : TaskId → Bytes → List Bytes → NamedEntry → Type 0
IsAct task word fields e = IsSpelled (id_bytes task ∷ word ∷ fields) e

abbrev with_word : (task : TaskId) (word other : Bytes) (fields : List Bytes) (e : NamedEntry) → bytes_eq word other ≡ true → IsAct task other fields e → IsAct task word fields e
with_word task word other fields e same act = subst (λ (x : Bytes). IsAct task x fields e) (sym (same_text word other same)) act

print_found : (task : TaskId) (fields : List Bytes) (e : NamedEntry) → IsId task → print_of task fields ≡ Some e → IsAct task (codes "print") fields e
print_found task [] e is h = cc
print_found task (p ∷ []) e is h =
    let word = map_some (λ w. entry.Print task w) (number_of p) e h in
    let w = number_found p word.0 word.1 in
    subst (IsAct task (codes "print") (p ∷ [])) word.2 (record { numbers = (is, w.1); names = tt; shape = tt }, (λ j. id_bytes task ∷ codes "print" ∷ w.0 j ∷ []))
print_found task (p ∷ q ∷ fields) e is h = cc

finish_found : (task : TaskId) (fields : List Bytes) (e : NamedEntry) → IsId task → finish_of task fields ≡ Some e → IsAct task (codes "finish") fields e
finish_found task [] e is h = subst (IsAct task (codes "finish") []) (same_Some (entry.Finish task) e h) (record { numbers = is; names = tt; shape = tt }, refl)
finish_found task (p ∷ fields) e is h = cc

end_found : (task : TaskId) (word : Bytes) (e : NamedEntry) → IsId task → end_of task word ≡ Some e → IsAct task word [] e
end_found task word e is h = either (bytes_eq word (codes "pass")) (Some (entry.Pass task)) (cond (bytes_eq word (codes "end")) (Some (entry.End task)) None) e h
    (λ same pass. with_word task word (codes "pass") [] e same (subst (IsAct task (codes "pass") []) (same_Some (entry.Pass task) e pass) (record { numbers = is; names = tt; shape = tt }, refl)))
    (λ other more.
    let t = cond_some (bytes_eq word (codes "end")) (entry.End task) e more in
    with_word task word (codes "end") [] e t.0 (subst (IsAct task (codes "end") []) t.1 (record { numbers = is; names = tt; shape = tt }, refl)))

trap_entry_found : (task : TaskId) (p : Bytes) (fields : List Bytes) (e : NamedEntry) → IsId task → trap_entry task p fields ≡ Some e → IsAct task (codes "trap") (p ∷ fields) e
trap_entry_found task p [] e is h =
    let kind = map_some (λ k. entry.Trap task k) (trap_of p) e h in
    let k = trap_found p kind.0 kind.1 in
    subst (IsAct task (codes "trap") (p ∷ [])) kind.2 (record { numbers = is; names = tt; shape = tt }, (λ j. id_bytes task ∷ codes "trap" ∷ k j ∷ []))
trap_entry_found task p (q ∷ fields) e is h = cc

begin_found : (task : TaskId) (p : Bytes) (fields : List Bytes) (e : NamedEntry) → IsId task → begin_of task p fields ≡ Some e → IsAct task (codes "begin") (p ∷ fields) e
begin_found task p fields e is h =
    let index = then_some (λ k. option_map (λ child. entry.Begin task k child) (child_of fields)) (number_of p) e h in
    let child = map_some (λ child. entry.Begin task index.0 child) (child_of fields) e index.2 in
    let i = number_found p index.0 index.1 in
    let c = child_found fields child.0 child.1 in
    subst (IsAct task (codes "begin") (p ∷ fields)) child.2 (record { numbers = (is, i.1, c.1); names = tt; shape = tt }, (λ j. id_bytes task ∷ codes "begin" ∷ i.0 j ∷ c.0 j))

mark_found : (task : TaskId) (word p : Bytes) (fields : List Bytes) (e : NamedEntry) → IsId task → mark_of task word p fields ≡ Some e → IsAct task word (p ∷ fields) e
unfolding mark_of
mark_found task word p fields e is h = either (bytes_eq word (codes "trap")) (trap_entry task p fields) (cond (bytes_eq word (codes "begin")) (begin_of task p fields) None) e h
    (λ same trap. with_word task word (codes "trap") (p ∷ fields) e same (trap_entry_found task p fields e is trap))
    (λ other more.
    let t = if_some (bytes_eq word (codes "begin")) (begin_of task p fields) e more in
    with_word task word (codes "begin") (p ∷ fields) e t.0 (begin_found task p fields e is t.1))

other_found : (task : TaskId) (word : Bytes) (fields : List Bytes) (e : NamedEntry) → IsId task → other_of task word fields ≡ Some e → IsAct task word fields e
unfolding other_of
other_found task word [] e is h = end_found task word e is h
other_found task word (p ∷ fields) e is h = on (operation_of p) refl h
  where
    on : (found : Option Operation) → operation_of p ≡ found → by_operation found task word p fields ≡ Some e → IsAct task word (p ∷ fields) e
    on None at h = mark_found task word p fields e is h
    on (Some op) at h = subst (λ (x : Bytes). IsAct task word (x ∷ fields) e) (sym (operation_found p op at)) (call_found task word op fields e is h)

act_found : (task : TaskId) (word : Bytes) (fields : List Bytes) (e : NamedEntry) → IsId task → act_of task word fields ≡ Some e → IsAct task word fields e
act_found task word fields e is h = either (bytes_eq word (codes "print")) (print_of task fields) _ e h
    (λ same it. with_word task word (codes "print") fields e same (print_found task fields e is it))
    (λ other h. either (bytes_eq word (codes "finish")) (finish_of task fields) _ e h
    (λ same it. with_word task word (codes "finish") fields e same (finish_found task fields e is it))
    (λ other h. either (bytes_eq word (codes "spawn")) (spawn_of task fields) _ e h
    (λ same it. with_word task word (codes "spawn") fields e same (spawn_found task fields e is it))
    (λ other h. either (bytes_eq word (codes "offer")) (offer_of task fields) _ e h
    (λ same it. with_word task word (codes "offer") fields e same (offer_found task fields e is it))
    (λ other h. either (bytes_eq word (codes "forall")) (loop_of task fields) _ e h
    (λ same it. with_word task word (codes "forall") fields e same (loop_found task fields e is it))
    (λ other it. other_found task word fields e is it)))))

pub entry_found : (fields : List Bytes) (e : NamedEntry) → entry_of fields ≡ Some e → IsSpelled fields e
entry_found [] e h = cc
entry_found (p ∷ []) e h =
    let t = cond_some (bytes_eq p (codes "over")) entry.Over e h in
    subst (IsSpelled (p ∷ [])) t.1 (record { numbers = tt; names = tt; shape = tt }, ap (λ x. x ∷ []) (same_text p (codes "over") t.0))
entry_found (p ∷ word ∷ fields) e h =
    let task = then_some (λ t. act_of t word fields) (id_of p) e h in
    let i = id_found p task.0 task.1 in
    subst (λ (x : Bytes). IsSpelled (x ∷ word ∷ fields) e) (sym i.0) (act_found task.0 word fields e i.1 task.2)
