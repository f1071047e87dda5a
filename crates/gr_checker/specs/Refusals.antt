-- What a refusal says of the program.
use Rattle.gr_syntax.specs.declared.syntax.Program.{Program}
use Rattle.gr_syntax.specs.Faults.{fault, IsFirst}
use Rattle.gr_accept.specs.Accepted.{faults}
use Rattle.gr_checker.specs.declared.checking.CheckError.{CheckError}
use Rattle.gr_checker.specs.declared.checking.CheckError.TheVariants as error

-- Its kind and place are the first of the program's faults. Want of memory says nothing of the program.
abbrev pub Refuses : CheckError → Program → Type 0
Refuses (error.Refused kind line column) program = IsFirst (fault kind (record { line = line; column = column })) (faults program)
Refuses error.OutOfMemory program = Unit {0}
