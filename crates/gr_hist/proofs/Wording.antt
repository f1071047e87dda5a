-- Words of operations, reducers and traps, both ways.
use Rattle.std.proofs.Common.{◌≡◌, ◌∙◌, ap, refl, sym, true, List, [], ◌∷◌, Option, Some, None, ℕ, zero, suc, nat_lt, arith, slice_index_or}
use Rattle.std.specs.List.{find, list_all}
use Rattle.std.specs.Str.{bytes_eq}
use Rattle.std.proofs.lemmas.Option.{none-some, same_Some}
use Rattle.std.proofs.lemmas.List.Quantifiers.{position-Some}
use Rattle.std.proofs.lemmas.Slice.Eq.{bytes_eq-Decides}
use Rattle.gr_accept.specs.declared.operation.Operation.{Operation}
use Rattle.gr_accept.specs.declared.operation.Operation.TheVariants as o
use Rattle.gr_accept.specs.Operations.{operation_name, operation_of, operations, reducer_name, reducer_names, reducer_of}
use Rattle.gr_known.specs.Known.{IsReducer}
use Rattle.gr_lang.specs.declared.action.TrapKind.{TrapKind}
use Rattle.gr_lang.specs.declared.action.TrapKind.TheVariants as trap
use Rattle.gr_lang.specs.Traps.{trap_word}
use Rattle.gr_hist.specs.Names.{Bytes}
use Rattle.gr_hist.specs.FieldWords.{number_of, trap_of, traps}
use Rattle.gr_hist.proofs.Choices.{either}
use Rattle.gr_hist.proofs.Cutting.{Over, over_test}

pub same_text : (one other : Bytes) → bytes_eq one other ≡ true → one ≡ other
same_text one other = (bytes_eq-Decides one other).0

-- What is found by its word has that word.
module _ {A : Type 0} (word_of : A → Bytes) where
  first_found : (xs : List A) (word : Bytes) (x : A) → find (λ y. bytes_eq word (word_of y)) xs ≡ Some x → word ≡ word_of x
  first_found [] word x h = cc
  first_found (y ∷ ys) word x h = either (bytes_eq word (word_of y)) (Some y) (find (λ z. bytes_eq word (word_of z)) ys) x h
      (λ is same. same_text word (word_of y) is ∙ ap word_of (same_Some y x same))
      (λ isnt more. first_found ys word x more)

-- Operations.

-- The name names the operation, is no number, and has no point, space or line feed.
record IsTold (op : Operation) : Type 0 where
  named : operation_of (operation_name op) ≡ Some op
  no_number : number_of (operation_name op) ≡ None
  over : list_all (nat_lt 45) (operation_name op) ≡ true

operation_told : (op : Operation) → IsTold op
unfolding number_of
operation_told o.Read = record { named = refl; no_number = refl; over = refl }
operation_told o.Write = record { named = refl; no_number = refl; over = refl }
operation_told o.Add = record { named = refl; no_number = refl; over = refl }
operation_told o.Cas = record { named = refl; no_number = refl; over = refl }
operation_told o.Reduce = record { named = refl; no_number = refl; over = refl }
operation_told o.Insert = record { named = refl; no_number = refl; over = refl }
operation_told o.Remove = record { named = refl; no_number = refl; over = refl }
operation_told o.Has = record { named = refl; no_number = refl; over = refl }
operation_told o.Put = record { named = refl; no_number = refl; over = refl }
operation_told o.Merge = record { named = refl; no_number = refl; over = refl }
operation_told o.Get = record { named = refl; no_number = refl; over = refl }
operation_told o.Erase = record { named = refl; no_number = refl; over = refl }
operation_told o.Push = record { named = refl; no_number = refl; over = refl }
operation_told o.Pop = record { named = refl; no_number = refl; over = refl }
operation_told o.Dequeue = record { named = refl; no_number = refl; over = refl }
operation_told o.Alloc = record { named = refl; no_number = refl; over = refl }
operation_told o.Free = record { named = refl; no_number = refl; over = refl }

pub operation_found : (word : Bytes) (op : Operation) → operation_of word ≡ Some op → word ≡ operation_name op
operation_found word op h = first_found operation_name operations word op h

pub operation_only : (op : Operation) → operation_of (operation_name op) ≡ Some op
operation_only op = (operation_told op).named

pub over_operation : (op : Operation) → Over 45 (operation_name op)
over_operation op = over_test 45 (operation_name op) (operation_told op).over

-- A number is no operation's name.
pub number_no_operation : (bytes : Bytes) (number : ℕ) → number_of bytes ≡ Some number → operation_of bytes ≡ None
number_no_operation bytes number is = on (operation_of bytes) refl
  where
    on : (found : Option Operation) → operation_of bytes ≡ found → operation_of bytes ≡ None
    on None h = h
    on (Some op) h = absurd (none-some number (sym (operation_told op).no_number ∙ ap number_of (sym (operation_found bytes op h)) ∙ is))

-- Reducers.

record IsReducerTold (reducer : ℕ) : Type 0 where
  named : reducer_of (reducer_name reducer) ≡ Some reducer
  over : list_all (nat_lt 45) (reducer_name reducer) ≡ true

reducer_told : (reducer : ℕ) → IsReducer reducer → IsReducerTold reducer
reducer_told zero less = record { named = refl; over = refl }
reducer_told (suc zero) less = record { named = refl; over = refl }
reducer_told (suc (suc zero)) less = record { named = refl; over = refl }
reducer_told (suc (suc (suc zero))) less = record { named = refl; over = refl }
reducer_told (suc (suc (suc (suc zero)))) less = record { named = refl; over = refl }
reducer_told (suc (suc (suc (suc (suc zero))))) less = record { named = refl; over = refl }
reducer_told (suc (suc (suc (suc (suc (suc zero)))))) less = record { named = refl; over = refl }
reducer_told (suc (suc (suc (suc (suc (suc (suc zero))))))) less = record { named = refl; over = refl }
reducer_told (suc (suc (suc (suc (suc (suc (suc (suc reducer)))))))) less = absurd (omega arith)

pub reducer_found : (word : Bytes) (reducer : ℕ) → reducer_of word ≡ Some reducer → (word ≡ reducer_name reducer) × IsReducer reducer
reducer_found word reducer h =
    let at = position-Some (bytes_eq word) reducer_names reducer [] h in
    (same_text word (slice_index_or reducer_names reducer []) at.1, at.0)

pub reducer_only : (reducer : ℕ) → IsReducer reducer → reducer_of (reducer_name reducer) ≡ Some reducer
reducer_only reducer less = (reducer_told reducer less).named

pub over_reducer : (reducer : ℕ) → IsReducer reducer → Over 45 (reducer_name reducer)
over_reducer reducer less = over_test 45 (reducer_name reducer) (reducer_told reducer less).over

-- Traps.

record IsTrapTold (kind : TrapKind) : Type 0 where
  told : trap_of (trap_word kind) ≡ Some kind
  no_operation : operation_of (trap_word kind) ≡ None
  over : list_all (nat_lt 45) (trap_word kind) ≡ true

trap_told : (kind : TrapKind) → IsTrapTold kind
trap_told trap.Div = record { told = refl; no_operation = refl; over = refl }
trap_told trap.Place = record { told = refl; no_operation = refl; over = refl }
trap_told trap.Core = record { told = refl; no_operation = refl; over = refl }
trap_told trap.Steps = record { told = refl; no_operation = refl; over = refl }

pub trap_found : (word : Bytes) (kind : TrapKind) → trap_of word ≡ Some kind → word ≡ trap_word kind
trap_found word kind h = first_found trap_word traps word kind h

pub trap_only : (kind : TrapKind) → trap_of (trap_word kind) ≡ Some kind
trap_only kind = (trap_told kind).told

pub trap_no_operation : (kind : TrapKind) → operation_of (trap_word kind) ≡ None
trap_no_operation kind = (trap_told kind).no_operation

pub over_trap : (kind : TrapKind) → Over 45 (trap_word kind)
over_trap kind = over_test 45 (trap_word kind) (trap_told kind).over
