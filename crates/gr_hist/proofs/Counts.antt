-- No operation has more than three numbers or two result words.
use Rattle.std.proofs.Common.{◌≤◌, arith}
use Rattle.gr_accept.specs.declared.operation.Operation.{Operation}
use Rattle.gr_accept.specs.declared.operation.Operation.TheVariants as o
use Rattle.gr_accept.specs.Operations.{argument_count, result_count}

at_most : (op : Operation) → (argument_count op ≤ 3) × (result_count op ≤ 2)
at_most o.Read = (omega arith, omega arith)
at_most o.Write = (omega arith, omega arith)
at_most o.Add = (omega arith, omega arith)
at_most o.Cas = (omega arith, omega arith)
at_most o.Reduce = (omega arith, omega arith)
at_most o.Insert = (omega arith, omega arith)
at_most o.Remove = (omega arith, omega arith)
at_most o.Has = (omega arith, omega arith)
at_most o.Put = (omega arith, omega arith)
at_most o.Merge = (omega arith, omega arith)
at_most o.Get = (omega arith, omega arith)
at_most o.Erase = (omega arith, omega arith)
at_most o.Push = (omega arith, omega arith)
at_most o.Pop = (omega arith, omega arith)
at_most o.Dequeue = (omega arith, omega arith)
at_most o.Alloc = (omega arith, omega arith)
at_most o.Free = (omega arith, omega arith)

pub at_most_three : (op : Operation) → argument_count op ≤ 3
at_most_three op = (at_most op).0

pub at_most_two : (op : Operation) → result_count op ≤ 2
at_most_two op = (at_most op).1

pub ruleset counts = (at_most_three, at_most_two)
