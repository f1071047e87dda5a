-- A row of the code's table says what the table of operations says.
use Rattle.std.specs.Prelude.{◌≡◌}
use Rattle.gr_accept.specs.declared.operation.Row.{Row}
use Rattle.gr_accept.specs.Operations.{Signature}

pub record IsRow (row : Row) (signature : Signature) : Type 0 where
  pub name : row.name.now ≡ signature.name
  pub holder : row.holder ≡ signature.holder
  pub arguments : row.arguments ≡ signature.arguments
  pub results : row.results ≡ signature.results
  pub reduces : row.reduces ≡ signature.reduces
