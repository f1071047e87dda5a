-- The lines of calls, both ways.
use Rattle.std.proofs.Common.{◌≡◌, ◌∙◌, sym, ap, subst, Bool, true, List, [], ◌∷◌, ◌++◌, Option, Some, None, cond, ℕ, map, decimal, option_map, option_and_then, is_some}
use Rattle.std.specs.Prelude.{IfSome}
use Rattle.gr_lang.specs.declared.action.TaskId.{TaskId}
use Rattle.gr_accept.specs.declared.operation.Operation.{Operation}
use Rattle.gr_accept.specs.Operations.{operation_name, reducer_of, takes_reducer}
use Rattle.gr_known.specs.Known.{IsReducer}
use Rattle.gr_hist.specs.declared.text.NamedEntry.{NamedEntry}
use Rattle.gr_hist.specs.declared.text.NamedEntry.TheVariants as entry
use Rattle.gr_hist.specs.Names.{Bytes, is_object_name}
use Rattle.gr_hist.specs.Grammar.{IsEntry, IsId}
use Rattle.gr_hist.specs.FieldWords.{call_of, call_with, object_name_of, reducing_of, tail_of}
use Rattle.gr_hist.specs.Spelling.{id_bytes, reducer_field, reply_fields}
use Rattle.gr_hist.proofs.Choices.{either, map_some, then_some}
use Rattle.gr_hist.proofs.Spelled.{IsSpelled, object_found, object_only}
use Rattle.gr_hist.proofs.Tails.{tail_found, tail_only}
use Rattle.gr_hist.proofs.Wording.{reducer_found, reducer_only}

with_only : (task : TaskId) (object : Bytes) (op : Operation) (reducer : Option ℕ) (numbers reply : List ℕ) → IsEntry (entry.Call task object op reducer numbers reply)
    → call_with task object op reducer (map decimal numbers ++ reply_fields reply) ≡ Some (entry.Call task object op reducer numbers reply)
with_only task object op reducer numbers reply is =
    ap (option_map (λ (t : List ℕ × List ℕ). entry.Call task object op reducer t.0 t.1)) (tail_only op numbers reply is.shape.1 is.shape.2 is.numbers.1 is.numbers.2)

-- With its reducer or without, as the operation takes one.
by_reducer : (task : TaskId) (object : Bytes) (op : Operation) (reducer : Option ℕ) (numbers reply : List ℕ) → IsEntry (entry.Call task object op reducer numbers reply)
    → cond (takes_reducer op) (reducing_of task object op (reducer_field reducer ++ (map decimal numbers ++ reply_fields reply))) (call_with task object op None (reducer_field reducer ++ (map decimal numbers ++ reply_fields reply)))
    ≡ Some (entry.Call task object op reducer numbers reply)
by_reducer task object op None numbers reply is =
    let fields = map decimal numbers ++ reply_fields reply in
    ap (λ (b : Bool). cond b (reducing_of task object op fields) (call_with task object op None fields)) (sym is.shape.0) ∙ with_only task object op None numbers reply is
by_reducer task object op (Some k) numbers reply is =
    let fields = map decimal numbers ++ reply_fields reply in
    ap (λ (b : Bool). cond b (reducing_of task object op (reducer_field (Some k) ++ fields)) (call_with task object op None (reducer_field (Some k) ++ fields))) (sym is.shape.0)
    ∙ ap (option_and_then (λ r. call_with task object op (Some r) fields)) (reducer_only k is.names.1)
    ∙ with_only task object op (Some k) numbers reply is

pub call_only : (task : TaskId) (object : Bytes) (op : Operation) (reducer : Option ℕ) (numbers reply : List ℕ) → IsEntry (entry.Call task object op reducer numbers reply)
    → call_of task object op (reducer_field reducer ++ (map decimal numbers ++ reply_fields reply)) ≡ Some (entry.Call task object op reducer numbers reply)
unfolding call_of
call_only task object op reducer numbers reply is =
    let fields = reducer_field reducer ++ (map decimal numbers ++ reply_fields reply) in
    ap (option_and_then (λ name. cond (takes_reducer op) (reducing_of task name op fields) (call_with task name op None fields))) (object_only object is.names.0)
    ∙ by_reducer task object op reducer numbers reply is

with_found : (task : TaskId) (object : Bytes) (op : Operation) (reducer : Option ℕ) (fields : List Bytes) (e : NamedEntry) → IsId task → is_object_name object ≡ true → IfSome reducer IsReducer → is_some reducer ≡ takes_reducer op
    → call_with task object op reducer fields ≡ Some e → IsSpelled (id_bytes task ∷ object ∷ operation_name op ∷ (reducer_field reducer ++ fields)) e
with_found task object op reducer fields e is name small takes h =
    let t = map_some (λ (t : List ℕ × List ℕ). entry.Call task object op reducer t.0 t.1) (tail_of op fields) e h in
    let f = tail_found op fields t.0 t.1 in
    subst (IsSpelled (id_bytes task ∷ object ∷ operation_name op ∷ (reducer_field reducer ++ fields))) t.2 (
      record { numbers = (is, f.numbers_fit, f.reply_fits); names = (name, small); shape = (takes, f.arguments, f.results) },
      (λ j. id_bytes task ∷ object ∷ operation_name op ∷ (reducer_field reducer ++ f.spelled j)),
    )

reducing_found : (task : TaskId) (object : Bytes) (op : Operation) (fields : List Bytes) (e : NamedEntry) → IsId task → is_object_name object ≡ true → takes_reducer op ≡ true
    → reducing_of task object op fields ≡ Some e → IsSpelled (id_bytes task ∷ object ∷ operation_name op ∷ fields) e
reducing_found task object op [] e is name takes h = cc
reducing_found task object op (p ∷ fields) e is name takes h =
    let k = then_some (λ k. call_with task object op (Some k) fields) (reducer_of p) e h in
    let r = reducer_found p k.0 k.1 in
    subst (λ (x : Bytes). IsSpelled (id_bytes task ∷ object ∷ operation_name op ∷ x ∷ fields) e) (sym r.0) (with_found task object op (Some k.0) fields e is name r.1 (sym takes) k.2)

pub call_found : (task : TaskId) (bytes : Bytes) (op : Operation) (fields : List Bytes) (e : NamedEntry) → IsId task → call_of task bytes op fields ≡ Some e
    → IsSpelled (id_bytes task ∷ bytes ∷ operation_name op ∷ fields) e
unfolding call_of
call_found task bytes op fields e is h =
    let object = then_some (λ name. cond (takes_reducer op) (reducing_of task name op fields) (call_with task name op None fields)) (object_name_of bytes) e h in
    let n = object_found bytes object.0 object.1 in
    subst (λ (x : Bytes). IsSpelled (id_bytes task ∷ x ∷ operation_name op ∷ fields) e) (sym n.0)
    (either (takes_reducer op) (reducing_of task object.0 op fields) (call_with task object.0 op None fields) e object.2
    (λ takes more. reducing_found task object.0 op fields e is n.1 takes more)
    (λ takes more. with_found task object.0 op None fields e is n.1 tt (sym takes) more))
