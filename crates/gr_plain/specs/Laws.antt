-- A law of histories.
use Rattle.std.specs.Prelude.{◌≡◌, ℕ, List, [], ◌∷◌, ◌++◌}
use Rattle.std.specs.Option.{option_and_then}
use Rattle.gr_syntax.specs.declared.syntax.Program.{Program}
use Rattle.gr_lang.specs.declared.action.Entry.{Entry}
use Rattle.gr_lang.specs.States.{State}
use Rattle.gr_lang.specs.Steps.{step}
use Rattle.gr_lang.specs.Histories.{after}

-- One more entry is one step more.
abbrev pub AfterOneMore : Type 0
AfterOneMore = (program : Program) (cores limit : ℕ) (state : State) (entries : List Entry) (entry : Entry)
    → after program cores limit state (entries ++ entry ∷ []) ≡ option_and_then (λ next. step program cores limit next entry) (after program cores limit state entries)
