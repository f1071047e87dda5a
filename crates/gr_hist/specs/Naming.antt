-- A history with the names of its program, and its text.
use Rattle.std.specs.Prelude.{◌≡◌, true, ℕ, List, [], ◌∷◌, ◌++◌, map, take, flat_map, All, Ok}
use Rattle.gr_lang.specs.declared.action.TaskId.{TaskId}
use Rattle.gr_lang.specs.declared.action.Parts.{Parts}
use Rattle.gr_lang.specs.declared.action.Parts.TheVariants as parts
use Rattle.gr_lang.specs.declared.action.Reply.{Reply}
use Rattle.gr_lang.specs.declared.action.Entry.{Entry}
use Rattle.gr_lang.specs.declared.action.Entry.TheVariants as plain
use Rattle.gr_lang.specs.Parts.{parts_of}
use Rattle.gr_accept.specs.declared.operation.Operation.{Operation}
use Rattle.gr_accept.specs.Operations.{argument_count, result_count}
use Rattle.gr_syntax.specs.declared.syntax.Program.{Program}
use Rattle.gr_syntax.specs.Names.{is_name}
use Rattle.gr_syntax.specs.Items.{object_names}
use Rattle.gr_names.specs.Numbered.{object_name, task_name, task_names}
use Rattle.gr_hist.specs.declared.text.HistoryText.{HistoryText}
use Rattle.gr_hist.specs.declared.text.NamedEntry.{NamedEntry}
use Rattle.gr_hist.specs.declared.text.NamedEntry.TheVariants as entry
use Rattle.gr_hist.specs.Names.{Bytes}
use Rattle.gr_hist.specs.Spelling.{entry_line, header_line}
use Rattle.gr_hist.specs.Grammar.{HasNames, IsHeader, ReadsText}

-- The result words that an operation gives.
abbrev pub reply_words : Operation → Reply → List ℕ
reply_words operation reply = take (result_count operation) (reply.first ∷ reply.second ∷ [])

-- A call taken apart, or a print, with its names: of the words, as many as the operation takes.
abbrev pub named_parts : Program → TaskId → Parts → Reply → NamedEntry
named_parts program task (parts.Call operation object reducer words) reply =
    entry.Call task (object_name program object) operation reducer (take (argument_count operation) words) (reply_words operation reply)
named_parts program task (parts.Print word) reply = entry.Print task word

-- An entry with the names of its program: objects and tasks are named by their numbers, and a number that names nothing gives the empty name.
abbrev pub named : Program → Entry → NamedEntry
named program (plain.Call task op reply) = named_parts program task (parts_of op) reply
named program (plain.Spawn task way target args child) = entry.Spawn task way (task_name program target) args child
named program (plain.Finish task) = entry.Finish task
named program (plain.Loop task lo hi grain target args) = entry.Loop task lo hi grain (task_name program target) args
named program (plain.Begin owner index child) = entry.Begin owner index child
named program (plain.Pass task) = entry.Pass task
named program (plain.End task) = entry.End task
named program (plain.Trap task kind) = entry.Trap task kind
named program plain.Over = entry.Over

-- The lines of entries.
abbrev pub lines_of : List NamedEntry → Bytes
lines_of = flat_map entry_line

-- The text of a history: the header, then a line for each entry.
abbrev pub history_text : Program → ℕ → ℕ → List Entry → Bytes
history_text program cores steps history = header_line cores steps ++ lines_of (map (named program) history)

-- A history with the names of its program, behind its header.
abbrev pub named_history : Program → ℕ → ℕ → List Entry → HistoryText
named_history program cores steps history = record { cores = cores; steps = steps; lines = map (named program) history }

-- Where a header can have these numbers, the text reads as the history with the names of its program.
abbrev pub ReadsBack : Program → ℕ → ℕ → List Entry → Bytes → Type 0
ReadsBack program cores steps history text = IsHeader cores steps → ReadsText text (Ok (named_history program cores steps history))

-- Each entry's object or target has a name in the program, and each reducer is one of the eight.
abbrev pub IsNamable : Program → List Entry → Type 0
IsNamable program = All (λ x. HasNames (named program x))

-- Each object and each task of the program has a name of the language.
pub record IsNamed (program : Program) : Type 0 where
  pub objects : All (λ name. is_name name ≡ true) (object_names program.items)
  pub tasks : All (λ name. is_name name ≡ true) (task_names program.items)
