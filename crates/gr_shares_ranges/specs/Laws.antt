-- The laws of loops that are still waited at.
use Rattle.std.specs.Prelude.{◌≡◌, ℕ, List, Some}
use Rattle.gr_syntax.specs.declared.syntax.Program.{Program}
use Rattle.gr_lang.specs.declared.action.Entry.{Entry}
use Rattle.gr_lang.specs.States.{State, opening_state}
use Rattle.gr_lang.specs.Steps.{step}
use Rattle.gr_lang.specs.Histories.{after}
use Rattle.gr_valid.specs.Valid.{IsValid}
use Rattle.gr_shares.specs.Loops.{LoopsStand, loops_of}
use Rattle.gr_shares_ranges.specs.Ranges.{RangesStand}

abbrev pub OpeningsHaveRanges : Type 0
OpeningsHaveRanges = (program : Program) (limit : ℕ) → RangesStand (opening_state program limit)

-- One entry, and several.
abbrev pub StepsKeepRanges : Type 0
StepsKeepRanges =
    (program : Program) (cores limit : ℕ) (before next : State) (what : Entry)
    → IsValid program before → LoopsStand (loops_of before) → step program cores limit before what ≡ Some next
    → RangesStand before → LoopsStand (loops_of next) × RangesStand next

abbrev pub EntriesKeepRanges : Type 0
EntriesKeepRanges =
    (program : Program) (cores limit : ℕ) (before next : State) (entries : List Entry)
    → IsValid program before → LoopsStand (loops_of before) → after program cores limit before entries ≡ Some next
    → RangesStand before → LoopsStand (loops_of next) × RangesStand next
