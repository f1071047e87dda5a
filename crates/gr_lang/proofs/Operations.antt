-- An operation is the one that its parts make, and operations that are tested to be the same are equal.
use Rattle.std.proofs.Common.{◌≡◌, refl, sym, ap, ◌∙◌, ℕ, ◌==◌, Bool, true, false, ◌&&◌, List, Some, unwrap_or, arith, rules}
use Rattle.std.proofs.lemmas.Bool.Decides.{nat_tests}
use Rattle.std.specs.Str.{bytes_eq}
use Rattle.std.proofs.lemmas.Slice.Eq.{bytes_eq-Decides}
use Rattle.gr_accept.specs.Operations.{operation_name, operation_of, same_operation}
use Rattle.gr_accept.specs.declared.operation.Operation.{Operation}
use Rattle.gr_accept.specs.declared.operation.Operation.TheVariants as operation
use Rattle.gr_lang.specs.declared.action.Op.{Op}
use Rattle.gr_lang.specs.declared.action.Op.TheVariants as op
use Rattle.gr_lang.specs.declared.action.Parts.{Parts}
use Rattle.gr_lang.specs.declared.action.Parts.TheVariants as parts
use Rattle.gr_lang.specs.Laws.{OperationsAreTheirParts}
use Rattle.gr_lang.specs.Parts.{op_in, op_of, parts_of, same_op, same_parts}

pub together : OperationsAreTheirParts
together (op.Read object place) = refl
together (op.Write object place word) = refl
together (op.Add object place word) = refl
together (op.Cas object place old new) = refl
together (op.Reduce object reducer place word) = refl
together (op.Insert object key) = refl
together (op.Remove object key) = refl
together (op.Has object key) = refl
together (op.Put object key word) = refl
together (op.Get object key) = refl
together (op.Erase object key) = refl
together (op.Merge object reducer key word) = refl
together (op.Push object word) = refl
together (op.Pop object) = refl
together (op.Dequeue object) = refl
together (op.Alloc count) = refl
together (op.Free place) = refl
together (op.Print word) = refl

named : (one : Operation) → operation_of (operation_name one) ≡ Some one
named operation.Read = refl
named operation.Write = refl
named operation.Add = refl
named operation.Cas = refl
named operation.Reduce = refl
named operation.Insert = refl
named operation.Remove = refl
named operation.Has = refl
named operation.Put = refl
named operation.Merge = refl
named operation.Get = refl
named operation.Erase = refl
named operation.Push = refl
named operation.Pop = refl
named operation.Dequeue = refl
named operation.Alloc = refl
named operation.Free = refl

operation_is : (one other : Operation) → same_operation one other ≡ true → one ≡ other
operation_is one other h =
    let names : operation_name one ≡ operation_name other = (bytes_eq-Decides (operation_name one) (operation_name other)).0 h in
    let both : Some one ≡ Some other = sym (named one) ∙ ap operation_of names ∙ named other in
    cc

same_bytes : (bytes : List ℕ) → bytes_eq bytes bytes ≡ true
same_bytes bytes = (bytes_eq-Decides bytes bytes).1 refl

number_is : (one other : ℕ) → (one == other) ≡ true → one ≡ other
number_is one other h = grind (arith, nat_tests)

same_number : (number : ℕ) → (number == number) ≡ true
same_number number = search rules

both : (one other : Bool) → one && other ≡ true → (one ≡ true) × (other ≡ true)
both true other h = (refl, h)
both false other h = cc

-- Parts that are tested to be the same make the same operation.
same_in : (one other : Parts) → same_parts one other ≡ true → op_in one ≡ op_in other
same_in (parts.Call operation object reducer words) (parts.Call operation2 object2 reducer2 words2) h =
    let words_too = both (same_operation operation operation2 && object == object2 && unwrap_or reducer 0 == unwrap_or reducer2 0) (bytes_eq words words2) h in
    let reducers_too = both (same_operation operation operation2 && object == object2) (unwrap_or reducer 0 == unwrap_or reducer2 0) words_too.0 in
    let objects_too = both (same_operation operation operation2) (object == object2) reducers_too.0 in
    ap (λ x. op_of x object (unwrap_or reducer 0) words) (operation_is operation operation2 objects_too.0)
    ∙ ap (λ x. op_of operation2 x (unwrap_or reducer 0) words) (number_is object object2 objects_too.1)
    ∙ ap (λ x. op_of operation2 object2 x words) (number_is (unwrap_or reducer 0) (unwrap_or reducer2 0) reducers_too.1)
    ∙ ap (λ x. op_of operation2 object2 (unwrap_or reducer2 0) x) ((bytes_eq-Decides words words2).0 words_too.1)
same_in (parts.Print word) (parts.Print word2) h = ap op.Print (number_is word word2 h)
same_in (parts.Call operation object reducer words) (parts.Print word) h = cc
same_in (parts.Print word) (parts.Call operation object reducer words) h = cc

same_self : (one : Parts) → same_parts one one ≡ true
same_self (parts.Call operation object reducer words) = rw (same_bytes (operation_name operation), same_number object, same_number (unwrap_or reducer 0), same_bytes words) refl
same_self (parts.Print word) = same_number word

-- Operations that are tested to be the same are equal.
pub op_is : (one other : Op) → same_op one other ≡ true → one ≡ other
op_is one other h = sym (together one) ∙ same_in (parts_of one) (parts_of other) h ∙ together other

-- Each operation is tested to be itself.
pub op_same : (one : Op) → same_op one one ≡ true
op_same one = same_self (parts_of one)
