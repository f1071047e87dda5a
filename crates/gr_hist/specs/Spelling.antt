-- How the lines of a history text are spelled: the fields of each, in order, with one space between two and a line feed at the end.
use Rattle.std.specs.Prelude.{ℕ, List, [], ◌∷◌, ◌++◌, map, Option, Some, None, codes, decimal}
use Rattle.std.specs.List.{join_with_byte}
use Rattle.gr_accept.specs.Operations.{operation_name, reducer_name}
use Rattle.gr_lang.specs.declared.action.TaskId.{TaskId}
use Rattle.gr_lang.specs.declared.action.How.{How}
use Rattle.gr_lang.specs.declared.action.How.TheVariants as how
use Rattle.gr_lang.specs.Traps.{trap_word}
use Rattle.gr_hist.specs.declared.text.NamedEntry.{NamedEntry}
use Rattle.gr_hist.specs.declared.text.NamedEntry.TheVariants as entry
use Rattle.gr_hist.specs.Names.{Bytes}

-- A task's core and number, with a point between them.
abbrev pub id_bytes : TaskId → Bytes
id_bytes id = decimal id.core ++ 46 ∷ decimal id.number

-- The field of a reducer, if there is one.
abbrev pub reducer_field : Option ℕ → List Bytes
reducer_field None = []
reducer_field (Some reducer) = reducer_name reducer ∷ []

-- The result words behind `=`, if there are any.
abbrev pub reply_fields : List ℕ → List Bytes
reply_fields [] = []
reply_fields (word ∷ words) = codes "=" ∷ map decimal (word ∷ words)

-- How a task is started.
abbrev pub how_fields : How → List Bytes
how_fields how.Here = codes "spawn" ∷ []
how_fields (how.At core) = codes "spawn" ∷ codes "at" ∷ decimal core ∷ []
how_fields how.Offer = codes "offer" ∷ []

-- The range of a loop and its grain.
abbrev pub range_fields : ℕ → ℕ → ℕ → List Bytes
range_fields lo hi grain = codes "forall" ∷ decimal lo ∷ decimal hi ∷ codes "grain" ∷ decimal grain ∷ []

-- The new task, behind `as`.
abbrev pub child_fields : TaskId → List Bytes
child_fields child = codes "as" ∷ id_bytes child ∷ []

-- The fields of an entry's line.
abbrev pub fields_of : NamedEntry → List Bytes
fields_of (entry.Call task object op reducer numbers reply) = id_bytes task ∷ object ∷ operation_name op ∷ (reducer_field reducer ++ (map decimal numbers ++ reply_fields reply))
fields_of (entry.Print task word) = id_bytes task ∷ codes "print" ∷ decimal word ∷ []
fields_of (entry.Spawn task way target args child) = id_bytes task ∷ (how_fields way ++ target ∷ (map decimal args ++ child_fields child))
fields_of (entry.Finish task) = id_bytes task ∷ codes "finish" ∷ []
fields_of (entry.Loop task lo hi grain target args) = id_bytes task ∷ (range_fields lo hi grain ++ target ∷ map decimal args)
fields_of (entry.Begin owner index child) = id_bytes owner ∷ codes "begin" ∷ decimal index ∷ child_fields child
fields_of (entry.Pass task) = id_bytes task ∷ codes "pass" ∷ []
fields_of (entry.End task) = id_bytes task ∷ codes "end" ∷ []
fields_of (entry.Trap task kind) = id_bytes task ∷ codes "trap" ∷ trap_word kind ∷ []
fields_of entry.Over = codes "over" ∷ []

-- The fields of the first line.
abbrev pub header_fields : ℕ → ℕ → List Bytes
header_fields cores steps = codes "history" ∷ codes "1" ∷ codes "cores" ∷ decimal cores ∷ codes "steps" ∷ decimal steps ∷ []

-- The line of these fields.
abbrev pub line_of : List Bytes → Bytes
line_of fields = join_with_byte 32 fields ++ 10 ∷ []

-- The line of an entry.
abbrev pub entry_line : NamedEntry → Bytes
entry_line line = line_of (fields_of line)

-- The first line.
abbrev pub header_line : ℕ → ℕ → Bytes
header_line cores steps = line_of (header_fields cores steps)
