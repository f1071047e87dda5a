-- The table of operations: what each is called, works on, takes and gives; and the reducers by name.
use Rattle.std.specs.Prelude.{ℕ, Bool, true, false, List, [], ◌∷◌, codes, Option, position, slice_index_or}
use Rattle.std.specs.List.{find}
use Rattle.std.specs.Str.{bytes_eq}
use Rattle.gr_accept.specs.declared.operation.Operation.{Operation}
use Rattle.gr_accept.specs.declared.operation.Operation.TheVariants as operation
use Rattle.gr_accept.specs.declared.operation.Declared.{Declared}
use Rattle.gr_accept.specs.declared.operation.Declared.TheVariants as declared
use Rattle.gr_accept.specs.declared.operation.Holder.{Holder}
use Rattle.gr_accept.specs.declared.operation.Holder.TheVariants as holder

-- An operation's name, what it works on, its numbers of arguments and of result words, and whether a reducer's name stands behind its own.
pub record Signature : Type 0 where
  pub name : List ℕ
  pub holder : Holder
  pub arguments : ℕ
  pub results : ℕ
  pub reduces : Bool

abbrev pub plain : List ℕ → Holder → (arguments results : ℕ) → Signature
plain name on arguments results = record { name = name; holder = on; arguments = arguments; results = results; reduces = false }

abbrev pub reducing : List ℕ → Holder → (arguments results : ℕ) → Signature
reducing name on arguments results = record { name = name; holder = on; arguments = arguments; results = results; reduces = true }

-- The table.
abbrev pub signature_of : Operation → Signature
signature_of operation.Read = plain (codes "read") holder.Words 1 1
signature_of operation.Write = plain (codes "write") holder.Words 2 0
signature_of operation.Add = plain (codes "add") holder.Words 2 1
signature_of operation.Cas = plain (codes "cas") holder.Words 3 1
signature_of operation.Reduce = reducing (codes "reduce") holder.Words 2 1
signature_of operation.Insert = plain (codes "insert") holder.Set 1 1
signature_of operation.Remove = plain (codes "remove") holder.Set 1 1
signature_of operation.Has = plain (codes "has") holder.Set 1 1
signature_of operation.Put = plain (codes "put") holder.Map 2 1
signature_of operation.Merge = reducing (codes "merge") holder.Map 2 1
signature_of operation.Get = plain (codes "get") holder.Map 1 2
signature_of operation.Erase = plain (codes "erase") holder.Map 1 1
signature_of operation.Push = plain (codes "push") holder.Vector 1 0
signature_of operation.Pop = plain (codes "pop") holder.Vector 0 2
signature_of operation.Dequeue = plain (codes "dequeue") holder.Vector 0 2
signature_of operation.Alloc = plain (codes "alloc") holder.Heap 1 1
signature_of operation.Free = plain (codes "free") holder.Heap 1 1

abbrev pub operations : List Operation
operations =
    operation.Read ∷ operation.Write ∷ operation.Add ∷ operation.Cas ∷ operation.Reduce ∷ operation.Insert ∷ operation.Remove ∷ operation.Has ∷ operation.Put
    ∷ operation.Merge ∷ operation.Get ∷ operation.Erase ∷ operation.Push ∷ operation.Pop ∷ operation.Dequeue ∷ operation.Alloc ∷ operation.Free ∷ []

abbrev pub operation_name : Operation → List ℕ
operation_name op = (signature_of op).name

-- Each operation has a name of its own.
abbrev pub same_operation : Operation → Operation → Bool
same_operation one other = bytes_eq (operation_name one) (operation_name other)

-- The number of arguments, the reducer not counted.
abbrev pub argument_count : Operation → ℕ
argument_count op = (signature_of op).arguments

-- The number of result words.
abbrev pub result_count : Operation → ℕ
result_count op = (signature_of op).results

abbrev pub takes_reducer : Operation → Bool
takes_reducer op = (signature_of op).reduces

-- Whether what is declared so has words in memory, keys, pairs, a line of words or blocks.
abbrev pub holds : Holder → Declared → Bool
holds holder.Words (declared.Array words) = true
holds holder.Words declared.Heap = true
holds holder.Set declared.Set = true
holds holder.Map declared.Map = true
holds holder.Vector declared.Vector = true
holds holder.Heap declared.Heap = true
holds _ _ = false

-- Whether the operation is one of what is declared so.
abbrev pub works_on : Operation → Declared → Bool
works_on op kind = holds (signature_of op).holder kind

-- The operation of that name.
abbrev pub operation_of : List ℕ → Option Operation
operation_of name = find (λ op. bytes_eq name (operation_name op)) operations

-- The names of the reducers, by their numbers from 0 on.
abbrev pub reducer_names : List (List ℕ)
reducer_names = codes "add" ∷ codes "min" ∷ codes "max" ∷ codes "or" ∷ codes "and" ∷ codes "xor" ∷ codes "first" ∷ codes "last" ∷ []

-- The number of the reducer of that name.
abbrev pub reducer_of : List ℕ → Option ℕ
reducer_of name = position (bytes_eq name) reducer_names

-- The name of the reducer of that number; none where there is no such number.
abbrev pub reducer_name : ℕ → List ℕ
reducer_name number = slice_index_or reducer_names number []
