-- The laws of fronts and ends of histories: a front of a legal history is legal, nothing follows the end of all work, and a complete history holds no trap.
use Rattle.std.specs.Prelude.{◌≡◌, ℕ, Bool, true, false, List, [], ◌∷◌, ◌++◌}
use Rattle.std.specs.List.{list_any}
use Rattle.gr_syntax.specs.declared.syntax.Program.{Program}
use Rattle.gr_lang.specs.declared.action.Entry.{Entry}
use Rattle.gr_lang.specs.declared.action.Entry.TheVariants as entry
use Rattle.gr_lang.specs.Histories.{legal, complete}

-- A front of a legal history is legal.
abbrev pub FrontsAreLegal : Type 0
FrontsAreLegal = (program : Program) (cores limit : ℕ) (front back : List Entry) → legal program cores limit (front ++ back) ≡ true → legal program cores limit front ≡ true

-- In a legal history nothing follows the end of all work.
abbrev pub NothingFollowsOver : Type 0
NothingFollowsOver = (program : Program) (cores limit : ℕ) (front back : List Entry) → legal program cores limit (front ++ (entry.Over ∷ back)) ≡ true → back ≡ []

abbrev pub is_trap : Entry → Bool
is_trap (entry.Trap task kind) = true
is_trap _ = false

-- No task of a complete history is trapped.
abbrev pub CompleteIsUntrapped : Type 0
CompleteIsUntrapped = (program : Program) (cores limit : ℕ) (history : List Entry) → complete program cores limit history ≡ true → list_any is_trap history ≡ false
