-- What the bytes of a packet say.
use Rattle.std.specs.Prelude.{◌≡◌, ℕ, List, [], Result, Ok, Err}
use Rattle.gr_format.specs.Formats.{Spells, opened}
use Rattle.gr_msg.specs.declared.opened.Opened.{Opened}
use Rattle.gr_msg.specs.Messages.{packet}

abbrev pub or_empty : Result Opened ℕ → Opened
or_empty (Ok contents) = contents
or_empty (Err at) = record { clock = 0; messages = [] }

unfoldable pub contents : List ℕ → Opened
contents bytes = or_empty (opened packet bytes)

pub record Holds (clock : ℕ) (bytes : List ℕ) : Type 0 where
  pub clock_is : clock ≡ (contents bytes).clock
  pub spelled : Spells packet bytes (contents bytes)
