-- The one simple command that the words are read as: its arguments, as `clap` describes them.
use Rattle.std.specs.Prelude.{true, List, [], ◌∷◌, Some, codes}
use Rattle.clap.specs.Words.{App, Rule, Text, new_app, new_rule}
use Rattle.clap.specs.Simple.{on_top}
use Rattle.clap.specs.declared.builder.action.ArgAction.TheVariants.{Set, SetTrue}

-- An argument that is a word by itself, and has to be there.
abbrev pub positional : Text → Rule
positional name = record (new_rule name) { required = true; action = Some Set }

-- An option of this name with one value.
abbrev pub option : Text → Rule
option name = record (new_rule name) { long = Some name; action = Some Set }

-- A flag of this name.
abbrev pub flag : Text → Rule
flag name = record (new_rule name) { long = Some name; action = Some SetTrue }

-- A command without arguments: no program's name stands before its words, and nothing is added for help or a version.
abbrev pub bare_command : App
bare_command = on_top (λ top. record top {
  no_binary_name = true;
  disable_help_flag = true;
  disable_version_flag = true;
}) (new_app (codes "grappa"))

-- All arguments of the command.
abbrev pub arguments : List Rule
arguments =
    positional (codes "command") ∷
    option (codes "cores") ∷
    option (codes "block") ∷
    option (codes "limit") ∷
    option (codes "steps") ∷
    option (codes "slice") ∷
    option (codes "events") ∷
    option (codes "kind") ∷
    option (codes "size") ∷
    option (codes "seed") ∷
    flag (codes "history") ∷
    flag (codes "counts") ∷
    []

-- The command: it has these arguments, no subcommand and no group.
unfoldable pub simple_command : App
simple_command = on_top (λ top. record top { rules = arguments }) bare_command
