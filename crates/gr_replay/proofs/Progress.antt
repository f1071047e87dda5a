-- How a plain memory advances over the lines of a history text.
use Rattle.std.proofs.Common.{◌≡◌, ℕ, ◌+◌, ◌≤◌, ◌<◌, List, ◌∷◌, drop, length, get_or, Option, Some, None, refl, sym, ap, subst, ◌∙◌}
use Rattle.std.specs.Option.{option_and_then, option_map, option_map_or}
use Rattle.std.proofs.lemmas.List.{at_drop_all, at_drop_more}
use Rattle.gr_syntax.specs.declared.syntax.Program.{Program}
use Rattle.gr_lang.specs.declared.action.Entry.{Entry}
use Rattle.gr_lang.specs.States.{State}
use Rattle.gr_lang.specs.Steps.{step}
use Rattle.gr_plain.specs.Held.{Held, stepped, with_state}
use Rattle.gr_plain.specs.declared.plain.StepError.{StepError}
use Rattle.gr_plain.specs.declared.plain.StepError.TheVariants as fault
use Rattle.gr_hist.proofs.Choices.{map_some}
use Rattle.gr_hist.specs.declared.text.HistoryText.{HistoryText}
use Rattle.gr_hist.specs.declared.text.NamedEntry.{NamedEntry}
use Rattle.gr_replay.specs.AdvanceWords.{advanced, error_at}
use Rattle.gr_replay.specs.Entries.{entry_in}
use Rattle.gr_replay.specs.Judged.{JudgedText, SaysError, Verdict, legal, not_legal}
use Rattle.gr_replay.proofs.Verdicts.{judged, line_step, verdict_from, verdict_of}

-- What is said of lines from a plain memory on, before which there are so many lines.
abbrev pub said_from : ℕ → Held → List NamedEntry → Verdict
said_from number held lines = verdict_from held.program held.cores held.steps number held.state lines

abbrev held_step : Held → Option Entry → Option State
held_step held found = option_and_then (step held.program held.cores held.steps held.state) found

stepped_to : (held next : Held) (found : Option Entry) → option_and_then (stepped held) found ≡ Some next → (state : State) × (held_step held found ≡ Some state) × (with_state held state ≡ next)
stepped_to held next None h = cc
stepped_to held next (Some x) h = map_some (with_state held) (step held.program held.cores held.steps held.state x) next h

unmapped : (held : Held) (state : Option State) → option_map (with_state held) state ≡ None → state ≡ None
unmapped held None h = refl
unmapped held (Some state) h = cc

not_stepped : (held : Held) (found : Option Entry) → option_and_then (stepped held) found ≡ None → held_step held found ≡ None
not_stepped held None h = refl
not_stepped held (Some x) h = unmapped held (step held.program held.cores held.steps held.state x) h

-- One line further on, the same is said.
pub record IsFurther (number : ℕ) (held next : Held) (rest : List NamedEntry) (verdict : Verdict) : Type 0 where
  pub program : next.program ≡ held.program
  pub cores : next.cores ≡ held.cores
  pub steps : next.steps ≡ held.steps
  pub same : said_from (number + 1) next rest ≡ verdict

-- What is said of lines of which the first leads to this state, or to none.
said_of_first : (number : ℕ) (held : Held) (line : NamedEntry) (rest : List NamedEntry) (state : Option State) → line_step held.program held.cores held.steps held.state line ≡ state
    → said_from number held (line ∷ rest) ≡ option_map_or (λ next. said_from (number + 1) (with_state held next) rest) state (not_legal (number + 1))
said_of_first number held line rest state h = ap (λ (o : Option State). option_map_or (λ next. said_from (number + 1) (with_state held next) rest) o (not_legal (number + 1))) h

-- The line at this place stands first among those that are left there.
first_left : (lines : List NamedEntry) (place : ℕ) (line : NamedEntry) → place < length lines → line ≡ get_or lines place line → drop place lines ≡ line ∷ drop (place + 1) lines
first_left lines place line inside is_line = at_drop_more (λ (rest : List NamedEntry). rest) lines place line inside ∙ ap (λ (x : NamedEntry). x ∷ drop (place + 1) lines) (sym is_line)

pub further : (lines : List NamedEntry) (place : ℕ) (line : NamedEntry) → place < length lines → line ≡ get_or lines place line → (held next : Held) (verdict : Verdict)
    → said_from place held (drop place lines) ≡ verdict → advanced held line ≡ Some next → IsFurther place held next (drop (place + 1) lines) verdict
further lines place line inside is_line held next verdict is_said advances =
    let to = stepped_to held next (entry_in held.program line) advances in
    subst (λ (k : Held). IsFurther place held k (drop (place + 1) lines) verdict) to.2 (record {
      program = refl;
      cores = refl;
      steps = refl;
      same = sym (said_of_first place held line (drop (place + 1) lines) (Some to.0) to.1) ∙ ap (said_from place held) (sym (first_left lines place line inside is_line)) ∙ is_said;
    })

-- A line that is no step is reported.
pub stops : (lines : List NamedEntry) (place : ℕ) (line : NamedEntry) → place < length lines → line ≡ get_or lines place line → (held : Held) (verdict : Verdict)
    → said_from place held (drop place lines) ≡ verdict → advanced held line ≡ None → verdict ≡ not_legal (place + 1)
stops lines place line inside is_line held verdict is_said no_step =
    sym is_said
    ∙ ap (said_from place held) (first_left lines place line inside is_line)
    ∙ said_of_first place held line (drop (place + 1) lines) None (not_stepped held (entry_in held.program line) no_step)

-- What the error of a step says of the text.
pub says : (program : Program) (text : HistoryText) (number : ℕ) (error : StepError) → (error ≡ fault.NotLegal → verdict_of program text.cores text.steps text.lines ≡ not_legal number)
    → SaysError program text (error_at error number)
says program text number fault.NotLegal is_said = subst (JudgedText program text) (is_said refl) (judged program text.cores text.steps text.lines)
says program text number fault.OutOfMemory is_said = tt

-- Behind the last line the history is legal.
pub ends : (number : ℕ) (held : Held) (lines : List NamedEntry) (verdict : Verdict) → length lines ≤ number → said_from number held (drop number lines) ≡ verdict → verdict ≡ legal held.state.passed
ends number held lines verdict past is_said = sym is_said ∙ at_drop_all (λ rest. said_from number held rest) lines number past
