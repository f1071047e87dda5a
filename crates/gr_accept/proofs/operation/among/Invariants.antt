use Rattle.std.proofs.Common.{◌≡◌, drop}
use Rattle.std.specs.List.{find}
use Rattle.std.specs.Str.{bytes_eq}
use Rattle.gr_accept.specs.Operations as spec
use Rattle.gr_accept.proofs.operation.among.Given as goal

abbrev pub invariant-loop-operation : goal.invariant-loop-operation
invariant-loop-operation l =
    find (λ op. bytes_eq l.name (spec.operation_name op)) (drop l.operation-index l.operations) ≡ find (λ op. bytes_eq l.name (spec.operation_name op)) l.operations
