-- Which histories are legal, and which are complete.
use Rattle.std.specs.Prelude.{ℕ, Bool, false, List, [], ◌∷◌, Option, Some, is_some}
use Rattle.std.specs.Option.{option_and_then, option_map_or}
use Rattle.gr_syntax.specs.declared.syntax.Program.{Program}
use Rattle.gr_lang.specs.declared.action.Entry.{Entry}
use Rattle.gr_lang.specs.States.{State, opening_state}
use Rattle.gr_lang.specs.Steps.{step}

-- The state after some entries, where each is a step.
abbrev pub after : Program → ℕ → ℕ → State → List Entry → Option State
after program cores limit state [] = Some state
after program cores limit state (entry ∷ entries) = option_and_then (λ next. after program cores limit next entries) (step program cores limit state entry)

-- The state after a history.
abbrev pub final : Program → ℕ → ℕ → List Entry → Option State
final program cores limit history = after program cores limit (opening_state program limit) history

-- Legal: each entry is a step.
abbrev pub legal : Program → ℕ → ℕ → List Entry → Bool
legal program cores limit history = is_some (final program cores limit history)

-- Complete: it is legal, and the root is passed at its end.
abbrev pub complete : Program → ℕ → ℕ → List Entry → Bool
complete program cores limit history = option_map_or (λ state. state.passed) (final program cores limit history) false
