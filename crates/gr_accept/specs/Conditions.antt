-- The ten conditions under which a program is refused: for each, the faults that it makes at a site.
use Rattle.std.specs.Prelude.{ℕ, ◌+◌, ◌==◌, Bool, true, false, not, if◌then◌else◌, ◌&&◌, ◌||◌, nat_le, nat_lt, List, [], ◌∷◌, ◌++◌, length, codes, slice_get, Option, Some, None, is_some, is_none}
use Rattle.std.specs.Str.{bytes_eq}
use Rattle.gr_syntax.specs.declared.syntax.Item.{Item}
use Rattle.gr_syntax.specs.declared.syntax.Item.TheVariants as item
use Rattle.gr_syntax.specs.declared.syntax.Name.{Name}
use Rattle.gr_syntax.specs.declared.syntax.Number.{Number}
use Rattle.gr_accept.specs.declared.operation.Operation.{Operation}
use Rattle.gr_accept.specs.declared.operation.Declared.{Declared}
use Rattle.gr_accept.specs.declared.operation.Declared.TheVariants as declared
use Rattle.gr_syntax.specs.declared.refusal.Fault.{Fault}
use Rattle.gr_syntax.specs.declared.refusal.Kind.TheVariants as kind
use Rattle.gr_syntax.specs.declared.limits.TheConstants.{MAX_LOCALS, MAX_OBJECTS, MAX_PARAMS, MAX_TASKS, MAX_WORDS}
use Rattle.gr_syntax.specs.Names.{has}
use Rattle.gr_syntax.specs.Faults.{fault, when}
use Rattle.gr_accept.specs.Declarations.{Meaning, first_named}
use Rattle.gr_accept.specs.Operations.{operation_of, reducer_of, works_on, argument_count, result_count, takes_reducer}
use Rattle.gr_accept.specs.Sites.{Site, declares, object, task, sizes, input, fills, shows, begins, gives, mentions, calls, starts, ends}

-- What items hold.

abbrev pub is_main : Item → Bool
is_main (item.Task name params body) = bytes_eq name.text (codes "main")
is_main _ = false

abbrev pub has_main : List Item → Bool
has_main [] = false
has_main (item ∷ more) = is_main item || has_main more

-- The number of arrays, sets, maps and vectors. The heap is none of them.
abbrev pub objects_in : List Item → ℕ
objects_in [] = 0
objects_in (item.Array name words ∷ more) = objects_in more + 1
objects_in (item.Set name ∷ more) = objects_in more + 1
objects_in (item.Map name ∷ more) = objects_in more + 1
objects_in (item.Vector name ∷ more) = objects_in more + 1
objects_in (_ ∷ more) = objects_in more

abbrev pub tasks_in : List Item → ℕ
tasks_in [] = 0
tasks_in (item.Task name params body ∷ more) = tasks_in more + 1
tasks_in (_ ∷ more) = tasks_in more

-- The words of the arrays and the heap together.
abbrev pub words_in : List Item → ℕ
words_in [] = 0
words_in (item.Array name words ∷ more) = words_in more + words.value
words_in (item.Heap words ∷ more) = words_in more + words.value
words_in (_ ∷ more) = words_in more

-- The names that have an `input`.
abbrev pub inputs_in : List Item → List (List ℕ)
inputs_in [] = []
inputs_in (item.Input name values ∷ more) = name.text ∷ inputs_in more
inputs_in (_ ∷ more) = inputs_in more

-- What a name means.

abbrev pub is_task : Option Declared → Bool
is_task (Some (declared.Task params)) = true
is_task _ = false

-- An array, set, map, vector or the heap.
abbrev pub is_object : Option Declared → Bool
is_object None = false
is_object (Some (declared.Task params)) = false
is_object (Some _) = true

abbrev pub is_array : Option Declared → Bool
is_array (Some (declared.Array words)) = true
is_array _ = false

-- A task with another number of parameters.
abbrev pub differs : Option Declared → ℕ → Bool
differs (Some (declared.Task params)) count = not (params == count)
differs _ count = false

-- An object, and an operation that isn't one of its kind.
abbrev pub misses : Option Declared → Option Operation → Bool
misses declared None = false
misses None (Some op) = false
misses (Some (declared.Task params)) (Some op) = false
misses (Some declared) (Some op) = not (works_on op declared)

-- An operation with another number of arguments, or with a reducer missing or too many.
abbrev pub misfits : Option Operation → (count : ℕ) → (has_reducer : Bool) → Bool
misfits None count has_reducer = false
misfits (Some op) count has_reducer = not (count == argument_count op) || (if takes_reducer op then not has_reducer else has_reducer)

-- An object that has the operation, and another number of targets than result words.
abbrev pub miscounts : Option Declared → Option Operation → ℕ → Bool
miscounts (Some declared) (Some op) count = works_on op declared && not (count == result_count op)
miscounts _ _ count = false

-- The ten conditions, in their order.

-- 1. No task is named `main`: at the end of the text.
abbrev pub no_main : Site → List Fault
no_main (ends at items) = when (not (has_main items)) kind.NoMain at
no_main _ = []

abbrev pub first_param : Name → Option Name → List Fault
first_param name None = []
first_param name (Some param) = when (bytes_eq name.text (codes "main")) kind.MainHasParams param.at

-- 2. `main` has parameters: at the first of them.
abbrev pub main_has_params : Site → List Fault
main_has_params (begins name params) = first_param name (slice_get params 0)
main_has_params _ = []

-- 3. A name is taken already: at the second of two objects or tasks of one name; at the second heap's number; at the name
-- of a second `input` for one name; at a parameter or `let` target whose name the task has already.
abbrev pub duplicate : Site → List Fault
duplicate (declares name at before) = when (is_some (first_named before name)) kind.Duplicate at
duplicate (input name before) = when (has (inputs_in before) name.text) kind.Duplicate name.at
duplicate (gives name before) = when (has before name.text) kind.Duplicate name.at
duplicate _ = []

abbrev pub reducer_unknown : Option Name → List Fault
reducer_unknown None = []
reducer_unknown (Some name) = when (is_none (reducer_of name.text)) kind.Unknown name.at

-- 4. There is no object or task of that name, no such operation or reducer, or the local isn't visible.
abbrev pub unknown : Meaning → Site → List Fault
unknown meaning (shows name) = when (is_none (meaning name.text)) kind.Unknown name.at
unknown meaning (mentions name visible) = when (not (has visible name.text)) kind.Unknown name.at
unknown meaning (starts name count) = when (is_none (meaning name.text)) kind.Unknown name.at
unknown meaning (calls call targets) =
    (when (is_none (meaning call.object.text)) kind.Unknown call.object.at
    ++ when (is_none (operation_of call.op.text)) kind.Unknown call.op.at)
    ++ reducer_unknown call.reducer
unknown meaning _ = []

-- 5. A task stands for an object, an object for a task, or the operation isn't one of this object's kind.
abbrev pub wrong_kind : Meaning → Site → List Fault
wrong_kind meaning (shows name) = when (is_task (meaning name.text)) kind.WrongKind name.at
wrong_kind meaning (starts name count) = when (is_object (meaning name.text)) kind.WrongKind name.at
wrong_kind meaning (calls call targets) =
    when (is_task (meaning call.object.text)) kind.WrongKind call.object.at
    ++ when (misses (meaning call.object.text) (operation_of call.op.text)) kind.WrongKind call.op.at
wrong_kind meaning _ = []

abbrev pub at_first : Bool → Option Name → List Fault
at_first wrong None = []
at_first wrong (Some name) = when wrong kind.WrongArity name.at

-- 6. At the operation: another number of arguments than it takes, or a reducer missing or too many. At the first target:
-- the object has this operation, and the number of targets isn't that of its result words. At a task's name: the number of
-- words isn't that of its parameters.
abbrev pub wrong_arity : Meaning → Site → List Fault
wrong_arity meaning (starts name count) = when (differs (meaning name.text) count) kind.WrongArity name.at
wrong_arity meaning (calls call targets) =
    when (misfits (operation_of call.op.text) (length call.args) (is_some call.reducer)) kind.WrongArity call.op.at
    ++ at_first (miscounts (meaning call.object.text) (operation_of call.op.text) (length targets)) (slice_get targets 0)
wrong_arity meaning _ = []

abbrev pub past_params : Option Name → List Fault
past_params None = []
past_params (Some param) = fault kind.TooMany param.at ∷ []

-- 7. At the name of the first object, task, parameter or local of a task, its parameters counted, that is one too many.
abbrev pub too_many : Site → List Fault
too_many (object name before) = when (objects_in before == MAX_OBJECTS) kind.TooMany name.at
too_many (task name before) = when (tasks_in before == MAX_TASKS) kind.TooMany name.at
too_many (begins name params) = past_params (slice_get params MAX_PARAMS)
too_many (gives name before) = when (not (has before name.text) && (length before == MAX_LOCALS)) kind.TooMany name.at
too_many _ = []

-- 8. With this number the words of arrays and heap, summed in the order of the text, first exceed their limit.
abbrev pub heap_too_large : Site → List Fault
heap_too_large (sizes n before) =
    when (nat_le (words_in before) MAX_WORDS && nat_lt MAX_WORDS (words_in before + n.value)) kind.HeapTooLarge n.at
heap_too_large _ = []

abbrev pub past_faults : Option Number → List Fault
past_faults None = []
past_faults (Some n) = fault kind.InputTooLong n.at ∷ []

abbrev pub past_array : Option Declared → List Number → List Fault
past_array (Some (declared.Array words)) values = past_faults (slice_get values words)
past_array _ values = []

-- 9. An array has more numbers than words: at the first number past its length.
abbrev pub input_too_long : Meaning → Site → List Fault
input_too_long meaning (fills name values) = past_array (meaning name.text) values
input_too_long meaning _ = []

-- 10. The name of an `input` is no array.
abbrev pub input_unknown : Meaning → Site → List Fault
input_unknown meaning (fills name values) = when (not (is_array (meaning name.text))) kind.InputUnknown name.at
input_unknown meaning _ = []

-- The faults of all ten conditions at a site.
unfoldable pub faults_at : Meaning → Site → List Fault
faults_at meaning site =
    no_main site ++ (main_has_params site ++ (duplicate site ++ (unknown meaning site ++ (wrong_kind meaning site ++ (wrong_arity meaning site
    ++ (too_many site ++ (heap_too_large site ++ (input_too_long meaning site ++ input_unknown meaning site))))))))
