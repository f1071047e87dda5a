-- What `clap` is given for an argument, what it answers to the words, and what that is to the caller.
use Rattle.std.specs.Prelude.{◌≡◌, false, List, Option}
use Rattle.clap.specs.Words.{Text, first_of, found_of, matches_of, rows_of}
use Rattle.clap.specs.declared.builder.arg.Arg.{Arg}
use Rattle.clap.specs.declared.error.kind.ErrorKind.{ErrorKind}
use Rattle.clap.specs.declared.error.kind.ErrorKind.TheVariants as fault
use Rattle.clap.specs.declared.parser.matches.ArgMatches.{ArgMatches}
use Rattle.gr_cli.specs.Arguments.{simple_command}
use Rattle.gr_cli.specs.Options.{is_refused}
use Rattle.gr_cli.specs.declared.error.OptionsError.{OptionsError}
use Rattle.gr_cli.specs.declared.error.OptionsError.TheVariants as error

-- The argument is of one command alone, and not of its subcommands too.
abbrev pub IsOwn : Arg → Type 0
IsOwn argument = argument.global ≡ false

-- The word of this argument in the matches: that of its first use, else its default.
abbrev pub word_in : ArgMatches → Text → Option Text
word_in matches name = first_of name (rows_of (found_of matches))

-- The matches are those that `clap` states for the words, and it states no fault for them.
abbrev pub IsMatchOf : List Text → ArgMatches → Type 0
IsMatchOf words matches =
    (is_refused words ≡ false) × (rows_of (found_of matches) ≡ matches_of simple_command words)

-- What a kind of fault is to the caller.
abbrev pub refusal_of : ErrorKind → OptionsError
refusal_of fault.OutOfMemory = error.OutOfMemory
refusal_of _ = error.Usage
