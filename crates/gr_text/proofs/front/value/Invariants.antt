use Rattle.std.proofs.Common.{◌≡◌, take}
use Rattle.std.specs.Str.Parse.{digits_value}
use Rattle.gr_text.proofs.front.value.Given as goal

abbrev pub invariant-each : goal.invariant-each
invariant-each l = l.n ≡ digits_value 10 (take l.digit-index l.digits)
