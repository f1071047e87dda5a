-- The earliest of the faults that were noted so far, one fault and one site after the other.
use Rattle.std.specs.Prelude.{if◌then◌else◌, List, [], ◌∷◌, Option, Some, None}
use Rattle.gr_accept.specs.Conditions.{faults_at}
use Rattle.gr_accept.specs.Declarations.{Meaning}
use Rattle.gr_syntax.specs.Faults.{comes_before}
use Rattle.gr_accept.specs.Sites.{Site}
use Rattle.gr_syntax.specs.declared.refusal.Fault.{Fault}

-- The earlier of what was found and this fault.
abbrev pub noted : Option Fault → Fault → Option Fault
noted None fault = Some fault
noted (Some found) fault = if comes_before fault found then Some fault else Some found

-- The earliest of what was found and of these faults.
abbrev pub least : Option Fault → List Fault → Option Fault
least found [] = found
least found (fault ∷ faults) = least (noted found fault) faults

-- The earliest of what was found and of the faults at these sites.
abbrev pub seen : Meaning → Option Fault → List Site → Option Fault
seen meaning found [] = found
seen meaning found (site ∷ sites) = seen meaning (least found (faults_at meaning site)) sites
