-- A worked row: which entries are due of main as `task main() { print 7; }` runs on one core with 1000000 pure steps.
use Rattle.std.specs.Prelude.{◌≡◌, List, [], ◌∷◌, Option, Some, None}
use Rattle.std.specs.Option.{option_map}
use Rattle.gr_accept.specs.AcceptedRows.{prints}
use Rattle.gr_lang.specs.declared.action.Entry.{Entry}
use Rattle.gr_lang.specs.declared.action.Entry.TheVariants as entry
use Rattle.gr_lang.specs.declared.action.Op.TheVariants as op
use Rattle.gr_lang.specs.Effects.{nothing}
use Rattle.gr_lang.specs.Histories.{final}
use Rattle.gr_lang.specs.States.{main_id}
use Rattle.gr_plain.specs.Held.{entry_due}

-- What is due after a history.
abbrev pub main_due : List Entry → Option (Option Entry)
main_due history = option_map (λ state. entry_due state main_id) (final prints 1 1000000 history)

abbrev pub printed : Entry
printed = entry.Call main_id (op.Print 7) nothing

pub record SevenIsPrinted : Type 0 where
  pub first : main_due [] ≡ Some (Some printed)
  pub second : main_due (printed ∷ []) ≡ Some (Some (entry.End main_id))
  pub third : main_due (printed ∷ entry.End main_id ∷ []) ≡ Some None
