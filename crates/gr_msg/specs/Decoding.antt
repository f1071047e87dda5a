-- What decoding answers.
use Rattle.std.specs.Prelude.{◌≡◌, ℕ, Result, Ok, Err}
use Rattle.gr_msg.specs.declared.opened.Opened.{Opened}
use Rattle.gr_msg.specs.declared.error.DecodeError.{DecodeError}
use Rattle.gr_msg.specs.declared.error.DecodeError.TheVariants as error

-- What was opened, or the place of the fault, but for want of memory.
abbrev pub Decodes : Result Opened ℕ → Result Opened DecodeError → Type 0
Decodes read (Ok opened) = read ≡ Ok opened
Decodes read (Err (error.NotAPacket at)) = read ≡ Err at
Decodes read (Err error.OutOfMemory) = Unit {0}
