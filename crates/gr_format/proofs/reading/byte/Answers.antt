use Rattle.std.proofs.Common.{◌≡◌, ℕ, ◌≤◌, List, length, take, get_or, refl, ap, arith}
use Rattle.std.proofs.lemmas.List.{length-take-le}
use Rattle.gr_format.specs.Formats.{number}
use Rattle.gr_format.proofs.Ranges.{one_byte, read_within, stops_short}
use Rattle.gr_format.proofs.reading.byte.Goals as goal

pub returns-in-Some : goal.returns-in-Some
returns-in-Some c =
    let bytes : List ℕ = c.args.bytes.now in
    let found = c.in-Some.ensures.cases in
    let long : 1 ≤ length bytes = omega (arith, found.2) in
    let is : c.from.result ≡ number (take 1 bytes) = omega (arith, one_byte (take 1 bytes) (length-take-le 1 bytes long), ap (λ (b : List ℕ). get_or b 0 0) found.0, c.from.ensures) in
    read_within 1 c.args.least c.args.most c.from.result (length bytes) bytes c.in-Some.rest.now c.within.result long is found.1 refl c.within.ensures

pub returns-in-None : goal.returns-in-None
returns-in-None c = stops_short 1 c.args.least c.args.most c.args.bytes.now c.in-None.ensures.cases
