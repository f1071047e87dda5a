-- What is noted of a part of a task's text, in the scope where it stands.
use Rattle.std.specs.Prelude.{ℕ, List, Option}
use Rattle.gr_syntax.specs.declared.refusal.Fault.{Fault}
use Rattle.gr_accept.specs.Sites.{Site}
use Rattle.gr_checker.specs.EarliestWords.{seen}
use Rattle.gr_checker.specs.MeaningView.{meaning_of}
use Rattle.gr_checker.specs.declared.scope.Scope.{Scope}

-- The earliest of what was found and of the faults of this part, of which it is known what sites it has where these locals are visible.
abbrev pub noted_in : Scope → Option Fault → (List (List ℕ) → List Site) → Option Fault
noted_in scope found part = seen (meaning_of scope.meanings.now) found (part scope.visible)
