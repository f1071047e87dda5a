-- What runs of the machine ask of a program.
use Rattle.gr_syntax.specs.declared.syntax.Program.{Program}
use Rattle.gr_accept.specs.Accepted.{IsAccepted}
use Rattle.gr_fits.specs.Reached.{HasOneHeap}
use Rattle.gr_fits_words.specs.Literals.{LiteralsFit}

-- What a text gives that is accepted: the program is accepted; none of its arrays, sets, maps and vectors is named `heap`; and its numbers and the addresses of its
-- heap are words. A text that spells an accepted program gives the others too, so that they refuse no text.
pub record IsRunnable (program : Program) : Type 0 where
  pub accepted : IsAccepted program
  pub heap : HasOneHeap program
  pub literals : LiteralsFit program
