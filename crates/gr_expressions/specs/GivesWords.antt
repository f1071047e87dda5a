-- What a function of the parser ensures: this outcome, unless memory runs out.
use Rattle.std.specs.Prelude.{◌≡◌, Result, Ok, Err}
use Rattle.gr_meets.specs.Parsers.{Outcome}
use Rattle.gr_expressions.specs.declared.fault.Stop.{Stop}
use Rattle.gr_expressions.specs.declared.fault.Stop.TheVariants as stops
use Rattle.gr_expressions.specs.Tok.{Tok, Toks}

-- The error is how many tokens are left from the fault on, the end of the text not counted.
abbrev pub Fails : {Y : Type 0} → Stop → Outcome Tok Y → Type 0
Fails stops.OutOfMemory read = Unit {0}
Fails (stops.Fault left) read = read ≡ Err left

abbrev pub Gives : {X Y : Type 0} → (X → Y × Toks) → Result X Stop → Outcome Tok Y → Type 0
Gives view (Ok x) read = read ≡ Ok (view x)
Gives view (Err stop) read = Fails stop read
