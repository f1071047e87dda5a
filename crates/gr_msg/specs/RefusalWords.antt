-- Why bytes don't open, by why they weren't read.
use Rattle.std.specs.Prelude.{ℕ, ◌-◌, ◌≤◌}
use Rattle.gr_format.specs.declared.error.FormatError.{FormatError}
use Rattle.gr_format.specs.declared.error.FormatError.TheVariants as stopped
use Rattle.gr_msg.specs.declared.error.DecodeError.{DecodeError}
use Rattle.gr_msg.specs.declared.error.DecodeError.TheVariants as error

-- No more bytes are left than there were.
abbrev pub IsWithin : ℕ → FormatError → Type 0
IsWithin size (stopped.Fault left) = left ≤ size
IsWithin size stopped.OutOfMemory = Unit {0}

abbrev pub refusal_of : ℕ → FormatError → DecodeError
refusal_of size (stopped.Fault left) = error.NotAPacket (size - left)
refusal_of size stopped.OutOfMemory = error.OutOfMemory
