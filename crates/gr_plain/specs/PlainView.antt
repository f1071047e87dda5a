-- What a plain memory keeps beside its state.
use Rattle.std.specs.Prelude.{◌≡◌, false}
use Rattle.gr_plain.specs.declared.plain.Plain.TheInside.{Inside}
use Rattle.gr_plain.specs.CountWords.{IsCounted}

-- Unless a step broke off, the state is valid, and the numbers are those of its unended tasks.
abbrev pub IsKept : Inside → Type 0
IsKept inside = inside.is_broken ≡ false → IsCounted inside.held.program inside.held.state inside.unended.items
