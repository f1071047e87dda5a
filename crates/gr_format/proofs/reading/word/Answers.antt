use Rattle.std.proofs.Common.{◌≡◌, ℕ, ◌≤◌, List, length, take, refl, ap, arith}
use Rattle.std.specs.Int.{w64, from_be_bytes}
use Rattle.std.proofs.lemmas.List.{length-take-le}
use Rattle.gr_format.specs.Formats.{number}
use Rattle.gr_format.proofs.Ranges.{eight_bytes, read_within, stops_short}
use Rattle.gr_format.proofs.reading.word.Goals as goal

pub returns-in-Some : goal.returns-in-Some
returns-in-Some c =
    let bytes : List ℕ = c.args.bytes.now in
    let found = c.in-Some.ensures.cases in
    let long : 8 ≤ length bytes = omega (arith, found.2) in
    let is : c.from_be_bytes.result ≡ number (take 8 bytes) = omega (arith, eight_bytes (take 8 bytes) (length-take-le 8 bytes long), ap (from_be_bytes w64) found.0, c.from_be_bytes.ensures) in
    read_within 8 c.args.least c.args.most c.from_be_bytes.result (length bytes) bytes c.in-Some.rest.now c.within.result long is found.1 refl c.within.ensures

pub returns-in-None : goal.returns-in-None
returns-in-None c = stops_short 8 c.args.least c.args.most c.args.bytes.now c.in-None.ensures.cases
