-- What a text reads as: its tokens spell one program that is accepted, or there is a first fault, of the tokens before one of the grammar before one of the checker.
use Rattle.std.specs.Prelude.{◌≡◌, ◌<◌, ◌≤◌, ℕ, true, List, length, Ok, Err, Option, None, Some, String}
use Rattle.std.specs.declared.alloc.Global.{Global}
use Rattle.gr_syntax.specs.declared.syntax.Program.{Program}
use Rattle.gr_syntax.specs.declared.refusal.Kind.TheVariants as kind
use Rattle.gr_syntax.specs.declared.refusal.Fault.{Fault}
use Rattle.gr_syntax.specs.Faults.{fault, IsFirst}
use Rattle.gr_accept.specs.Accepted.{faults, IsAccepted}
use Rattle.gr_text.specs.declared.token.Token.{Token}
use Rattle.gr_text.specs.declared.fault.TextError.TheVariants as text_errors
use Rattle.gr_text.specs.Text.{Reads}
use Rattle.gr_text.specs.Places.{place_of}
use Rattle.gr_parse.specs.declared.fault.ParseError.TheVariants as parse_errors
use Rattle.gr_parse.specs.Grammar.{IsProgramOf, Says}
use Rattle.gr_top.specs.Due.{Reading, accepted, refused, Replayed, unread, bad_line, judged, Due, due_usage, due_too_long, due_read, due_replayed}
use Rattle.gr_top.specs.Commands.{asked, is_on_text, is_replay, is_read, limit_of, text_of}
use Rattle.gr_engine.specs.declared.ending.WorldEnd.{WorldEnd}
use Rattle.gr_cli.specs.declared.settings.Options.{Options}
use Rattle.gr_hist.specs.declared.text.HistoryText.{HistoryText}
use Rattle.gr_hist.specs.Grammar.{ReadsText}
use Rattle.gr_replay.specs.Division.{program_part, history_part}
use Rattle.gr_replay.specs.Judged.{Verdict, Judged}

pub data ReadsAs (text : List ℕ) : Reading → Type 0 where
  bad_byte : {at : ℕ} → Reads text (Err (text_errors.BadByte at)) → ReadsAs text (refused (fault kind.BadByte (place_of text at)))
  wide_number : {at : ℕ} → Reads text (Err (text_errors.NumberTooWide at)) → ReadsAs text (refused (fault kind.NumberTooWide (place_of text at)))
  long_name : {at : ℕ} → Reads text (Err (text_errors.NameTooLong at)) → ReadsAs text (refused (fault kind.NameTooLong (place_of text at)))
  unexpected : {tokens : List Token} {line column : ℕ} → Reads text (Ok tokens) → Says (parse_errors.Unexpected line column) text tokens
      → ReadsAs text (refused (fault kind.Unexpected (record { line = line; column = column })))
  unexpected_end : {tokens : List Token} {line column : ℕ} → Reads text (Ok tokens) → Says (parse_errors.UnexpectedEnd line column) text tokens
      → ReadsAs text (refused (fault kind.UnexpectedEnd (record { line = line; column = column })))
  checked : {tokens : List Token} {p : Program} {f : Fault} → Reads text (Ok tokens) → IsProgramOf text tokens p → IsFirst f (faults p) → ReadsAs text (refused f)
  program : {tokens : List Token} {p : Program} → Reads text (Ok tokens) → IsProgramOf text tokens p → IsAccepted p → ReadsAs text (accepted p)

-- What a replay of a program text and a history text finds: the first fault of the program's text comes before the first bad line of the history, and that before its first entry that is no step.
pub data ReplaysAs (text history : List ℕ) : Replayed → Type 0 where
  of_fault : {f : Fault} → ReadsAs text (refused f) → ReplaysAs text history (unread f)
  of_line : {p : Program} {line : ℕ} → ReadsAs text (accepted p) → ReadsText history (Err line) → ReplaysAs text history (bad_line line)
  of_history : {p : Program} {h : HistoryText} {v : Verdict} → ReadsAs text (accepted p) → ReadsText history (Ok h) → Judged p h.cores h.steps h.lines v → ReplaysAs text history (judged v)

-- A command that reads the source has no more of it than it may.
abbrev pub FitsLimit : Options → List ℕ → Type 0
FitsLimit options bytes = is_read options.command ≡ true → length bytes ≤ limit_of options.command

-- The answer due for words, the bytes of the source and a run: the words come first, then the length of the source, then what the text reads as.
pub data IsDue (words : List (String Global)) (bytes : List ℕ) (world : Option WorldEnd) : Due → Type 0 where
  usage : asked words ≡ None → IsDue words bytes world due_usage
  too_long : (o : Options) → asked words ≡ Some o → is_read o.command ≡ true → limit_of o.command < length bytes → IsDue words bytes world due_too_long
  read : {reading : Reading} {d : Due} → (o : Options) → asked words ≡ Some o → is_on_text o.command ≡ true → FitsLimit o bytes → ReadsAs (text_of o bytes) reading
      → due_read o reading world ≡ Some d → IsDue words bytes world d
  replayed : {r : Replayed} → (o : Options) → asked words ≡ Some o → is_replay o.command ≡ true → length bytes ≤ limit_of o.command → ReplaysAs (program_part bytes) (history_part bytes) r
      → IsDue words bytes world (due_replayed r)
