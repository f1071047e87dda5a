use Rattle.std.proofs.Common.{◌≡◌, ℕ, ◌≤◌, List, length, take, refl, ap, arith}
use Rattle.std.specs.Int.{w16, from_be_bytes}
use Rattle.std.proofs.lemmas.List.{length-take-le}
use Rattle.gr_format.specs.Formats.{number}
use Rattle.gr_format.proofs.Ranges.{two_bytes, read_within, stops_short}
use Rattle.gr_format.proofs.reading.pair.Goals as goal

pub returns-in-Some : goal.returns-in-Some
returns-in-Some c =
    let bytes : List ℕ = c.args.bytes.now in
    let found = c.in-Some.ensures.cases in
    let long : 2 ≤ length bytes = omega (arith, found.2) in
    let is : c.from.result ≡ number (take 2 bytes) = omega (arith, two_bytes (take 2 bytes) (length-take-le 2 bytes long), ap (from_be_bytes w16) found.0, c.from.ensures, c.from_be_bytes.ensures) in
    read_within 2 c.args.least c.args.most c.from.result (length bytes) bytes c.in-Some.rest.now c.within.result long is found.1 refl c.within.ensures

pub returns-in-None : goal.returns-in-None
returns-in-None c = stops_short 2 c.args.least c.args.most c.args.bytes.now c.in-None.ensures.cases
